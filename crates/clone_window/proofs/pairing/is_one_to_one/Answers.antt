use Rattle.std.proofs.Common.{◌∙◌, ap, sym}
use Rattle.std.specs.Prelude.{◌&&◌}
use Rattle.std.specs.List.{zip}
use Rattle.clone_window.specs.Pairing.{is_settled}
use Rattle.clone_window.proofs.Settled.{one-to-one-both}
use Rattle.clone_window.proofs.pairing.is_one_to_one.Goals as goal

pub returns-in_ok-is_settled-2 : goal.returns-in_ok-is_settled-2
returns-in_ok-is_settled-2 c =
    let xs = c.args.left.now in
    let ys = c.args.right.now in
    c.in_ok-is_settled-2.ensures
    ∙ sym (one-to-one-both xs ys ∙ ap (λ b. b && is_settled (zip ys xs)) (sym c.in_ok-is_settled.ensures ∙ c.if-branch.true))

pub returns-else-branch : goal.returns-else-branch
returns-else-branch c =
    let xs = c.args.left.now in
    let ys = c.args.right.now in
    c.if-branch.false
    ∙ sym (one-to-one-both xs ys ∙ ap (λ b. b && is_settled (zip ys xs)) (sym c.in_ok-is_settled.ensures ∙ c.if-branch.false))
