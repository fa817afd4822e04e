use Rattle.std.proofs.Common.{◌≡◌, map, Some, nat_lt, ap, sym, ◌∙◌}
use Rattle.go_types.specs.declared.shape.Field.{Field}
use Rattle.go_types.specs.Trees.{TypeTree, row}
use Rattle.go_types.specs.Tables.{type_of}
use Rattle.go_typed.specs.Views.{seen}
use Rattle.go_exprs_rules.specs.Calls.{row_length}
use Rattle.go_exprs_rules.specs.Literals.{is_below, key_of}
use Rattle.go_exprs_calls.proofs.Lists.{length-mapped_row}
use Rattle.go_exprs_calls.proofs.elements.has_field.Goals as goal

pub returns-in-Some : goal.returns-in-Some
returns-in-Some c =
    let t = c.args.types.now in
    let f : Field → TypeTree = λ x. type_of t.shapes x.ty in
    let fs = c.args.fields.now in
    ap (λ n. nat_lt c.in-Some.key n) (sym (length-mapped_row f fs)) ∙ ap (is_below (row_length (row (map f fs)))) c.in-Some.ensures
