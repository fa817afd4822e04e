use Rattle.std.proofs.Common.{◌≡◌, ◌≤◌, None, drop, map}
use Rattle.std.specs.Prelude.{IfSome}
use Rattle.std.specs.Option.{option_map}
use Rattle.go_typed.specs.Funcs.{size, sizes}
use Rattle.go_typed.specs.Views.{seen, view, views}
use Rattle.escape_check.specs.Called.{last_or, staying}
use Rattle.escape_check.proofs.ends.last_part.Given as goal

abbrev pub invariant-loop-part : goal.invariant-loop-part
invariant-loop-part l = record {
  part : last_or None (staying l.gap 0 (map (option_map (seen l.types)) l.parts)) ≡ last_or (option_map (λ n. seen l.types n.now) l.last) (staying l.gap l.next (map (option_map (seen l.types)) (drop l.part-index l.parts)));
  smaller : IfSome l.last (λ n. size (view n.now) ≤ sizes (views l.parts));
}
