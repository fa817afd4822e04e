use Rattle.std.proofs.Common.{◌≡◌, ◌∙◌, Some, sym, ap}
use Rattle.std.specs.Prelude.{slice_get}
use Rattle.std.specs.Option.{option_map}
use Rattle.go_scopes_lookup.specs.Views.{meaning_view}
use Rattle.go_scopes_lookup.specs.Sorted.{name_of, named_meaning}
use Rattle.go_scopes_lookup.proofs.Told.{told_alike, get_some}
use Rattle.go_scopes_lookup.proofs.sweep.told_at.Goals as goal

pub returns-in-Some : goal.returns-in-Some
returns-in-Some c ms n ts es e told some =
    let m = c.in-Some.meaning.now in
    let items = c.args.told.now in
    let here : slice_get items c.args.number ≡ Some m = get_some items c.args.number m c.in-Some.ensures.lookup.3.0 ∙ ap (λ x. Some x) (sym c.in-Some.ensures.lookup.1) in
    told_alike (option_map meaning_view) (λ x. named_meaning ms n ts (name_of x)) items es c.args.number m e told here some
