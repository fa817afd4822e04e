use Rattle.std.proofs.Common.{arith, sym, ap, ◌∙◌, subst, ◌<◌, length, Some}
use Rattle.go_types.specs.Tables.{type_of, rights_of}
use Rattle.go_typed.specs.Views.{sort_seen}
use Rattle.go_exprs_rules.specs.Sorts.{form_of_value}
use Rattle.go_exprs_types.proofs.Structs.{count_is, number_is, named_is, below_at}
use Rattle.go_exprs_types.proofs.fields.field_type.Goals as goal

pub type_at-requires : goal.type_at-requires
type_at-requires c =
    let t = c.args.types.now in
    let size = count_is t (form_of_value (rights_of t) (sort_seen t c.args.operand.now)) c.in-Some.fields.now c.in-Some.ensures.tree in
    omega (arith, size, c.in-Some-value_place.ensures.within)

pub returns-in-Some-value_place-clause-tree : goal.returns-in-Some-value_place-clause-tree
returns-in-Some-value_place-clause-tree c =
    let t = c.args.types.now in
    let u = form_of_value (rights_of t) (sort_seen t c.args.operand.now) in
    let fs = c.in-Some.fields.now in
    let n = c.in-Some-value_place.number in
    let at = c.type_at.ensures in
    let there = sym (number_is t u fs c.in-Some.ensures.tree c.args.name.now) ∙ sym c.in-Some-value_place.ensures.number in
    ap (λ k. Some (type_of t.shapes k)) at.2 ∙ sym (named_is t u fs c.in-Some.ensures.tree c.args.name.now n at.0 there at.1)

pub returns-in-Some-value_place-clause-known : goal.returns-in-Some-value_place-clause-known
returns-in-Some-value_place-clause-known c =
    let fs = c.in-Some.fields.now in
    let at = c.type_at.ensures in
    subst (λ k. k < length c.args.types.now.shapes) (sym at.2) (below_at (length c.args.types.now.shapes) fs c.in-Some-value_place.number at.0 c.in-Some.ensures.known at.1)
