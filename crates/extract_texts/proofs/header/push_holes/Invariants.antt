use Rattle.std.proofs.Common.{◌≡◌, ◌<◌, ◌++◌, length, map, drop}
use Rattle.std.specs.List.{AllByRecursion}
use Rattle.go_print.specs.Texts.{named}
use Rattle.extract_texts.specs.Shown.{types_shown, written}
use Rattle.extract_texts.proofs.header.push_holes.Given as goal

abbrev pub invariant-loop-hole : goal.invariant-loop-hole
invariant-loop-hole l = record {
  index : l.index ≡ l.hole-index;
  known : AllByRecursion (λ t. t < length l.checked.types.shapes) (types_shown (drop l.hole-index l.holes));
  texts : l.parameters.items ++ named (drop l.hole-index l.names) (map (written l.checked) (types_shown (drop l.hole-index l.holes)))
      ≡ l.fn.parameters.items ++ named l.names (map (written l.checked) (types_shown l.holes));
}
