use Rattle.std.proofs.Common.{◌≡◌, ◌<◌, ◌++◌, Some, length, drop, map}
use Rattle.std.specs.List.{AllByRecursion}
use Rattle.go_exprs_types.specs.Naming.{text_in}
use Rattle.go_types.specs.Tables.{type_of}
use Rattle.go_exprs_rules.specs.TypeNodes.{Fields, fields_of}
use Rattle.go_exprs_types.specs.Structs.{fields_seen}
use Rattle.go_exprs_types.proofs.structure.push_fields.Given as goal

abbrev pub invariant-loop-name : goal.invariant-loop-name
invariant-loop-name l = record {
  fields : (rest : Fields) → fields_seen l.types l.fields.items ++ fields_of (map (text_in l.scope) (drop l.name-index l.names)) (Some (type_of l.types.shapes l.of)) rest
      ≡ fields_seen l.types l.initial.fields.items ++ fields_of (map (text_in l.scope) l.names) (Some (type_of l.types.shapes l.of)) rest;
  known : AllByRecursion (λ p. p < length l.types.shapes) (map (λ f. f.ty) l.fields.items);
}
