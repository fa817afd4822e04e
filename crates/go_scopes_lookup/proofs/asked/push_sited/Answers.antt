use Rattle.std.proofs.Common.{◌≡◌, ◌∙◌, ◌++◌, ◌∷◌, ◌+◌, ◌<◌, length, drop, slice_index_or, Some, sym, ap, map, append_assoc, arith}
use Rattle.std.specs.Prelude.{slice_get}
use Rattle.std.specs.Option.{option_map, option_to_list}
use Rattle.go_tree.specs.declared.event.Event.{Event}
use Rattle.go_tree.specs.Lookups.{asked_in}
use Rattle.go_scopes_lookup.specs.Sited.{sited}
use Rattle.go_scopes_lookup.specs.Views.{asked_view}
use Rattle.go_scopes_lookup.proofs.Told.{get_some, drop_at, out_none, out_some}
use Rattle.go_scopes_lookup.proofs.asked.push_sited.Goals as goal
use Rattle.go_scopes_lookup.proofs.asked.push_sited.Goals.{in-Some+in_ok-push, in_default}

pub loop-number-preserved : goal.loop-number-preserved
loop-number-preserved c ms told =
    let n = c.args.file in
    let ts = c.args.unit.now.tokens.now in
    let events = c.args.unit.now.events.items in
    let i = c.loop-number.number in
    let e : Event = c.event-item.result in
    let rest = drop (i + 1) events in
    let less : i < length events = omega (arith, c.loop-number-test.true, ap length c.deref-event-items.ensures.value) in
    let same : e ≡ slice_index_or events i e = c.event-item.is ∙ ap (λ l. slice_index_or l i e) c.deref-event-items.ensures.value in
    let back : drop i events ≡ e ∷ rest = drop_at events i e less ∙ ap (λ x. x ∷ rest) (sym same) in
    let some : slice_get events i ≡ Some e = get_some events i e less ∙ ap (λ x. Some x) (sym same) in
    let r = c.sited_by.result in
    let asked = c.sited_by.ensures ms (asked_in ms n ts rest) (c.told_at.ensures ms n ts events e told some) in
    let out = c.loop-number.out.items in
    let more : map asked_view c.match-sited_by.out.items ≡ map asked_view out ++ option_to_list (option_map asked_view r) = elim c.match-sited_by.branch [
      | in-Some+in_ok-push w ↦ out_some asked_view out c.match-sited_by.out.items r _ (ap (λ v. v.items) w.out-is ∙ w.in_ok-push.ensures.items) w.in-Some.is
      | in_default w ↦ ap (λ v. map asked_view v.items) w.out-is ∙ out_none asked_view out r w.in_default.is
    ] in
    ap (λ l. l ++ sited (asked_in ms n ts rest)) more
    ∙ append_assoc (map asked_view out) (option_to_list (option_map asked_view r)) (sited (asked_in ms n ts rest))
    ∙ ap (λ l. map asked_view out ++ l) (sym asked)
    ∙ ap (λ l. map asked_view out ++ sited (asked_in ms n ts l)) (sym back)
    ∙ c.loop-number.invariant ms told
