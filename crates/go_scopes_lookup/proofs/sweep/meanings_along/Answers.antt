use Rattle.std.proofs.Common.{◌≡◌, ◌∙◌, ◌++◌, ◌∷◌, [], suc, ◌+◌, ◌<◌, length, drop, slice_index_or, sym, ap, subst, map, arith}
use Rattle.std.proofs.Math.Seq.{drop-cons}
use Rattle.go_tree.specs.declared.event.Event.{Event}
use Rattle.std.specs.Option.{option_map}
use Rattle.go_scopes_events.specs.Scopes.{locals_of}
use Rattle.go_scopes_lookup.specs.Views.{meaning_view}
use Rattle.go_scopes_lookup.specs.Stacks.{IsSweeping}
use Rattle.go_scopes_lookup.specs.Sorted.{all_of, name_of, named_meaning, event_meanings, IsUnderway}
use Rattle.go_scopes_lookup.proofs.Walks.{sweep_start, map_push}
use Rattle.go_scopes_lookup.proofs.sweep.meanings_along.Goals as goal

pub loop-event-init : goal.loop-event-init
loop-event-init c =
    let n = c.args.file in
    let ms = all_of c.args.sorted.now in
    let start = sweep_start n ms c.requires.swept c.requires.nested in
    let left = subst (λ l. IsSweeping n 0 (locals_of n ms) [] l) (sym c.requires.locals) start in
    record {
      told = ap (λ l. map (option_map meaning_view) l ++ event_meanings ms n c.args.unit.now.tokens.now c.args.unit.now.events.items) c.new-out.ensures.items;
      underway = record {
        place = 0;
        end = c.requires.orderly.end;
        order = c.requires.orderly.order;
        sweeps = subst (λ bs. IsSweeping n 0 (locals_of n ms) bs (map meaning_view c.args.locals.now)) (sym c.new-scopes.ensures) left;
      };
    }

pub loop-event-preserved : goal.loop-event-preserved
loop-event-preserved c =
    let n = c.args.file in
    let ms = all_of c.args.sorted.now in
    let ts = c.args.unit.now.tokens.now in
    let events = c.args.unit.now.events.items in
    let i = c.loop-event.event-index in
    let e : Event = c.event-item.result in
    let rest = drop (i + 1) events in
    let less : i < length events = omega (arith, c.loop-event-test.true, ap length c.deref-event-items.ensures.value) in
    let next : suc i ≡ i + 1 = omega arith in
    let same : e ≡ slice_index_or events i e = c.event-item.is ∙ ap (λ l. slice_index_or l i e) c.deref-event-items.ensures.value in
    let back : drop i events ≡ e ∷ rest = drop-cons events i e less ∙ ap (λ k. slice_index_or events i e ∷ drop k events) next ∙ ap (λ x. x ∷ rest) (sym same) in
    let named : c.name_of-token.result ≡ name_of e = c.name_of-token.ensures in
    let before = subst (λ l. IsUnderway n (locals_of n ms) l c.loop-event.scopes.blocks.items (map meaning_view (drop c.loop-event.entered c.args.locals.now))) back c.loop-event.invariant.underway in
    let now = c.in_ok-entered.ensures n (locals_of n ms) e rest named before in
    let meaning : option_map meaning_view c.meaning_of.result ≡ named_meaning ms n ts (name_of e) = c.meaning_of.ensures c.requires.nested now.0 ∙ ap (named_meaning ms n ts) named in
    let out = map (option_map meaning_view) c.loop-event.out.items in
    record {
      told = ap (λ l. map (option_map meaning_view) l ++ event_meanings ms n ts rest) c.in_ok-push.ensures.items
          ∙ map_push (option_map meaning_view) c.loop-event.out.items c.meaning_of.result (event_meanings ms n ts rest)
          ∙ ap (λ o. out ++ (o ∷ event_meanings ms n ts rest)) meaning
          ∙ ap (λ l. out ++ event_meanings ms n ts l) (sym back)
          ∙ c.loop-event.invariant.told;
      underway = now.1;
    }
