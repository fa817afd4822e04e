use Rattle.std.proofs.Common.{rules, arith, ◌≡◌, ◌-◌, ◌<◌, ◌∙◌, ap, sym, length, drop, replicate, Some, None, []}
use Rattle.std.specs.Prelude.{slice_get}
use Rattle.std.proofs.Math.Seq.{drop-length}
use Rattle.go_tree.specs.Objects.{token_objects}
use Rattle.go_scopes_lookup.specs.Tables.{over_event}
use Rattle.go_scopes_lookup.proofs.Tables.{token_objects-none, token_objects-event, drop-back}
use Rattle.go_scopes_lookup.proofs.Told.{get_some}
use Rattle.go_scopes_lookup.proofs.table.token_objects.Goals as goal

pub loop-number-init : goal.loop-number-init
loop-number-init c ms owns told =
    let ts = c.args.unit.now.tokens.now in
    let events = c.args.unit.now.events.items in
    let none : drop c.len-number.result events ≡ [] = ap (λ n. drop n events) (search rules) ∙ drop-length events in
    let start : token_objects ms c.args.file ts (drop c.len-number.result events) 0 (length ts.tokens) ≡ replicate (length ts.tokens) None = ap (λ es. token_objects ms c.args.file ts es 0 (length ts.tokens)) none ∙ token_objects-none ms c.args.file ts 0 (length ts.tokens) in
    c.in_ok-out.ensures ∙ ap (λ n. replicate n None) c.count.ensures.count ∙ sym start

pub loop-number-preserved : goal.loop-number-preserved
loop-number-preserved c ms owns told =
    let n = c.args.file in
    let ts = c.args.unit.now.tokens.now in
    let events = c.args.unit.now.events.items in
    let number = c.loop-number.number in
    let event = c.index.result.now in
    let less : number - 1 < length events = omega (arith, c.loop-number-test.true, c.loop-number.auto.number, c.len-number.ensures) in
    let back = drop-back events number (number - 1) event (omega (arith, c.loop-number-test.true)) less c.index.ensures in
    let some : slice_get events (number - 1) ≡ Some event = get_some events (number - 1) event less ∙ ap (λ x. Some x) (sym c.index.ensures) in
    c.in_ok-put_event.ensures ms owns (c.told_at.ensures ms n ts events event told some)
    ∙ ap (λ os. over_event ms n ts event os) (c.loop-number.invariant ms owns told)
    ∙ sym (token_objects-event ms n ts event (drop number events) (length ts.tokens))
    ∙ ap (λ es. token_objects ms n ts es 0 (length ts.tokens)) (sym back)
