use Rattle.std.proofs.Common.{◌≡◌, ◌<◌, ◌++◌, [], length, drop, map}
use Rattle.std.specs.List.{AllByRecursion}
use Rattle.go_exprs_types.specs.Naming.{text_in}
use Rattle.go_typed.specs.Views.{AllKnown}
use Rattle.go_exprs_rules.specs.TypeNodes.{fields_from}
use Rattle.go_exprs_types.specs.Structs.{fields_seen}
use Rattle.go_exprs_types.proofs.EntryTypes.{parts_seen}
use Rattle.go_exprs_types.proofs.structure.fields.Given as goal

abbrev pub invariant-loop-part : goal.invariant-loop-part
invariant-loop-part l = record {
  fields : fields_seen l.types l.fields.items ++ fields_from (text_in l.scope) (map (text_in l.scope) l.names.items) (parts_seen l.types (drop l.part-index l.parts))
      ≡ fields_from (text_in l.scope) [] (parts_seen l.types l.parts);
  below : AllByRecursion (λ p. p < length l.types.shapes) (map (λ f. f.ty) l.fields.items);
  known : AllKnown (length l.types.shapes) (drop l.part-index l.parts);
}
