use Rattle.std.proofs.Common.{◌++◌, sym, ap, ◌∙◌, append_assoc}
use Rattle.std.proofs.lemmas.List.{append-nil}
use Rattle.clone_server.specs.Made.{drawn, drawn_line, drawn_lines, next_state}
use Rattle.clone_server.proofs.Making.{no_draws, one_draw, no_lines, one_line}
use Rattle.clone_server.proofs.made.push_lines.Goals as goal

pub loop-init : goal.loop-init
loop-init c = (sym (ap (λ z. c.args.out.now.items ++ z) (no_lines c.args.draws.now.state) ∙ append-nil c.args.out.now.items), sym (no_draws c.args.draws.now.state))

pub loop-preserved : goal.loop-preserved
loop-preserved c =
    let before = drawn_lines c.loop.counter c.args.draws.now.state in
    let state = c.draw-drawn.ensures.state ∙ ap next_state c.loop.invariant.1 ∙ one_draw c.loop.counter c.args.draws.now.state in (
      c.in_ok-push_line.ensures ∙ ap (λ z. z ++ drawn_line c.draw-drawn.result) c.loop.invariant.0
          ∙ append_assoc c.args.out.now.items before (drawn_line c.draw-drawn.result)
          ∙ ap (λ z. c.args.out.now.items ++ (before ++ drawn_line z)) (c.draw-drawn.ensures.drawn ∙ ap drawn state)
          ∙ ap (λ z. c.args.out.now.items ++ z) (one_line c.loop.counter c.args.draws.now.state),
      state,
    )
