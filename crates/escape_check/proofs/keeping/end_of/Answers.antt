use Rattle.std.proofs.Common.{◌≡◌, ◌∙◌, Some, true, sym, ap, subst}
use Rattle.std.specs.Borrow.{Bor}
use Rattle.std.specs.Option.{option_map}
use Rattle.go_typed.specs.declared.node.TypedNode.{TypedNode}
use Rattle.go_typed.specs.Forms.{is_function}
use Rattle.go_typed.specs.Trees.{form_of, list_of, parts_of}
use Rattle.go_typed.specs.Views.{seen, view}
use Rattle.go_stmts_defs.specs.Rows.{first_there}
use Rattle.escape_check.specs.Called.{body_over, called}
use Rattle.escape_check.specs.Endings.{tree_terminates}
use Rattle.escape_check.proofs.Called.{body_by}
use Rattle.escape_check.proofs.keeping.end_of.Goals as goal

pub returns-then-branch : goal.returns-then-branch
returns-then-branch c = λ g s.
    let table = c.args.types.now in
    let root = c.root-root.result.now in
    let is : is_function (form_of (view root)) ≡ true = subst (λ (n : TypedNode). is_function (form_of (view n)) ≡ true) (sym c.root-root.ensures.root) c.root-root.ensures.stands.root in
    let body : first_there (list_of (parts_of (seen table root))) ≡ Some (seen table c.in-Some.body.now) =
    sym (c.first_there.ensures.part ∙ ap first_there c.parts_of.ensures.parts) ∙ ap (option_map (λ (n : Bor TypedNode). seen table n.now)) c.in-Some.is in
    ap (λ (n : TypedNode). tree_terminates (called g (seen table n))) (sym c.root-root.ensures.root)
    ∙ body_by table g root is
    ∙ ap (body_over g) body
    ∙ c.in_ok-keeps_end.ensures.ends c.if-branch.true g s
