use Rattle.std.proofs.Common.{◌∙◌, ap, map, arith}
use Rattle.std.specs.Option.{option_map}
use Rattle.go_scopes_lookup.specs.Views.{meaning_view, asked_view}
use Rattle.go_scopes_lookup.specs.Sorted.{all_of}
use Rattle.go_scopes_lookup.proofs.Told.{orderly_at, sited_more}
use Rattle.go_scopes_lookup.proofs.look_up.sited_in_files.Goals as goal

pub event_meanings-requires-clause-orderly : goal.event_meanings-requires-clause-orderly
event_meanings-requires-clause-orderly c =
    orderly_at c.args.units.now c.loop-number.number c.index-units-number.result c.index-units-number.result c.requires.orderly (omega (arith, c.loop-number-test.true)) c.index-units-number.is

pub loop-number-preserved : goal.loop-number-preserved
loop-number-preserved c =
    let ms = all_of c.args.sorted.now in
    sited_more ms c.args.units.now c.loop-number.number c.index-units-number.result (map asked_view c.loop-number.asked.items) _ _ (omega (arith, c.loop-number-test.true)) c.index-units-number.is
    (c.in_ok-push_sited.ensures ms (ap (map (option_map meaning_view)) c.deref.ensures.value ∙ c.in_ok-told.ensures)) c.loop-number.invariant
