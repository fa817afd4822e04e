use Rattle.std.proofs.Common.{◌≡◌, ap, sym, ◌∙◌, subst}
use Rattle.std.specs.Prelude.{IfOk, map, []}
use Rattle.std.specs.Option.{option_map}
use Rattle.go_types.specs.Trees.{TypeTree}
use Rattle.go_exprs_types.specs.Naming.{text_in}
use Rattle.go_typed.specs.Trees.{IsType}
use Rattle.go_typed.specs.Views.{seen, sort_seen}
use Rattle.go_exprs_rules.specs.TypeNodes.{fields_from, structure_of}
use Rattle.go_exprs_types.specs.Structs.{struct_seen}
use Rattle.go_exprs_types.proofs.FieldRows.{structure_is}
use Rattle.go_exprs_types.proofs.structure.structure.Goals as goal

pub returns-clause-sort : goal.returns-clause-sort
returns-clause-sort c =
    let t = c.args.types.now in
    let is : struct_seen t c.of.result ≡ structure_of (fields_from (text_in c.args.scope.now) [] (map (option_map (seen t)) c.args.parts.now)) = ap (struct_seen t) c.of.ensures ∙ sym (structure_is t c.in_ok-fields.field-0.items) ∙ ap structure_of c.in_ok-fields.ensures.fields in
    subst (λ (a : TypeTree). IfOk c.shape_sort.result (λ s. sort_seen c.shape_sort.new.types s ≡ IsType a)) is c.shape_sort.ensures.sort
