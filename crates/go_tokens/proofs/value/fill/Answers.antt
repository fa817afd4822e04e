use Rattle.std.proofs.Common.{◌≡◌, ◌∙◌, ◌≤◌, length, take, chars, sym, ap, map-id, arith}
use Rattle.std.proofs.lemmas.List.{take_all}
use Rattle.std.proofs.lemmas.Iterator.{YieldsList-from_chars}
use Rattle.std.proofs.lemmas.Iterator.Consumers.{YieldsList-so_far, YieldsList-end}
use Rattle.go_tokens.proofs.value.fill.Goals as goal

pub returns-then-count-buffer-clause-filled : goal.returns-then-count-buffer-clause-filled
returns-then-count-buffer-clause-filled c =
    let so_far = YieldsList-so_far (YieldsList-from_chars c.args.text.now c.utf8.text cc) c.loop-c.yielded _ c.loop-c.yielded_by in
    let full : length c.loop-c.yielded ≡ length c.args.buffer.now = omega arith in
    c.loop-c.invariant.filled ∙ sym (map-id c.loop-c.yielded) ∙ so_far ∙ ap (λ n. take n (chars c.args.text.now)) full

pub returns-clause-filled : goal.returns-clause-filled
returns-clause-filled c =
    let end = YieldsList-end (YieldsList-from_chars c.args.text.now c.utf8.text cc) c.loop-c.yielded _ c.loop-c.yielded_by _ _ c.in-None.is c.next.ensures.steps in
    let all : c.loop-c.yielded ≡ chars c.args.text.now = sym (map-id c.loop-c.yielded) ∙ end.0 in
    let fits : length (chars c.args.text.now) ≤ length c.args.buffer.now = omega (arith, ap length all) in
    c.loop-c.invariant.filled ∙ all ∙ sym (take_all (length c.args.buffer.now) (chars c.args.text.now) fits)
