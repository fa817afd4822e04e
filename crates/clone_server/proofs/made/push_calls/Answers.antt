use Rattle.std.proofs.Common.{◌++◌, sym, ap, ◌∙◌, append_assoc}
use Rattle.std.proofs.lemmas.List.{append-nil}
use Rattle.clone_server.specs.Made.{call_lines}
use Rattle.clone_server.proofs.Making.{no_calls, one_call}
use Rattle.clone_server.proofs.made.push_calls.Goals as goal

pub loop-number-init : goal.loop-number-init
loop-number-init c = sym (ap (λ z. c.args.out.now.items ++ z) no_calls ∙ append-nil c.args.out.now.items)

pub loop-number-preserved : goal.loop-number-preserved
loop-number-preserved c =
    let number = c.loop-number.number-counter in
    c.in_ok-extend_from_slice.ensures.items ∙ ap (λ z. z ++ c.as_bytes.result.now) c.loop-number.invariant
    ∙ append_assoc c.args.out.now.items (call_lines number) c.as_bytes.result.now
    ∙ ap (λ z. c.args.out.now.items ++ (call_lines number ++ z)) (c.as_bytes.ensures.value ∙ c.in_ok-line.ensures.ok)
    ∙ ap (λ z. c.args.out.now.items ++ z) (one_call number)
