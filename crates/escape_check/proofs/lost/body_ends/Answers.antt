use Rattle.std.proofs.Common.{◌∙◌, sym, ap}
use Rattle.std.specs.Borrow.{Bor}
use Rattle.std.specs.Option.{option_map}
use Rattle.go_typed.specs.declared.node.TypedNode.{TypedNode}
use Rattle.go_typed.specs.Views.{seen}
use Rattle.go_stmts_defs.specs.Rows.{first_there}
use Rattle.escape_check.specs.Called.{body_over}
use Rattle.escape_check.proofs.Called.{body_by}
use Rattle.escape_check.proofs.lost.body_ends.Goals as goal

pub returns-in-Some : goal.returns-in-Some
returns-in-Some c =
    let g = c.args.gap in
    let table = c.args.types.now in
    c.terminates.ensures
    ∙ sym (body_by table g c.args.root.now c.requires
    ∙ ap (body_over g) (sym (c.first_there.ensures.part ∙ ap first_there c.parts_of.ensures.parts) ∙ ap (option_map (λ (n : Bor TypedNode). seen table n.now)) c.in-Some.is))

pub returns-in-None : goal.returns-in-None
returns-in-None c =
    let g = c.args.gap in
    let table = c.args.types.now in
    sym (body_by table g c.args.root.now c.requires
    ∙ ap (body_over g) (sym (c.first_there.ensures.part ∙ ap first_there c.parts_of.ensures.parts) ∙ ap (option_map (λ (n : Bor TypedNode). seen table n.now)) c.in-None.is))
