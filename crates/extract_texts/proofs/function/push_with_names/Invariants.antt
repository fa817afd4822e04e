use Rattle.std.proofs.Common.{◌≡◌, ◌++◌, map, drop}
use Rattle.go_scopes_lookup.specs.Views.{place_of}
use Rattle.extract_texts.specs.Texts.{with_names}
use Rattle.extract_texts.proofs.function.push_with_names.Given as goal

abbrev pub invariant-loop-span : goal.invariant-loop-span
invariant-loop-span l = record {
  index : l.index ≡ l.span-index;
  text : l.text.items ++ with_names l.file l.at l.upto (map place_of (drop l.span-index l.spans)) (drop l.span-index l.names)
      ≡ l.fn.text.items ++ with_names l.file l.from l.upto (map place_of l.spans) l.names;
}
