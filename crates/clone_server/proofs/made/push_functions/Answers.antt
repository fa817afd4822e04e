use Rattle.std.proofs.Common.{◌++◌, sym, ap, ◌∙◌, append_assoc}
use Rattle.std.proofs.lemmas.List.{append-nil}
use Rattle.clone_server.specs.Made.{function_text, functions_text, lines_of_function, behind_draws}
use Rattle.clone_server.proofs.Making.{no_draws, draws_behind, no_functions, one_function}
use Rattle.clone_server.proofs.made.push_functions.Goals as goal

pub loop-number-init : goal.loop-number-init
loop-number-init c = (sym (ap (λ z. c.args.out.now.items ++ z) (no_functions c.args.seed) ∙ append-nil c.args.out.now.items), c.from.ensures ∙ sym (no_draws c.args.seed))

pub loop-number-preserved : goal.loop-number-preserved
loop-number-preserved c =
    let number = c.loop-number.number in
    let text = functions_text number c.args.seed in (
      c.in_ok-push_function.ensures.text ∙ ap (λ z. z ++ function_text number c.loop-number.draws.state) c.loop-number.invariant.0
          ∙ append_assoc c.args.out.now.items text (function_text number c.loop-number.draws.state)
          ∙ ap (λ z. c.args.out.now.items ++ (text ++ function_text number z)) c.loop-number.invariant.1
          ∙ ap (λ z. c.args.out.now.items ++ z) (one_function number c.args.seed),
      c.in_ok-push_function.ensures.state ∙ ap (behind_draws lines_of_function) c.loop-number.invariant.1 ∙ draws_behind number c.args.seed,
    )
