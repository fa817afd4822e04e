use Rattle.std.proofs.Common.{◌≡◌, ◌∷◌, ◌++◌, drop}
use Rattle.go_types.specs.Keys.{fields_key}
use Rattle.go_types.proofs.keys.struct_key.Given as goal

abbrev pub invariant-loop-field : goal.invariant-loop-field
invariant-loop-field l = l.key.items ++ fields_key (drop l.field-index l.fields) ≡ 5 ∷ fields_key l.fields
