use Rattle.std.proofs.Common.{◌∙◌, map, refl, sym, ap}
use Rattle.go_declarations.specs.Views.{seen_all}
use Rattle.go_tree.specs.Declarations.{found}
use Rattle.go_scopes_lookup.specs.Views.{units_view}
use Rattle.go_package_defs.specs.Sources.{package_of, source_of}
use Rattle.go_needs.specs.Tells.{names_asked}
use Rattle.go_needs.proofs.Telling.{units_same, are_calls}
use Rattle.go_needs.proofs.needs.needs_of.Goals as goal

pub returns : goal.returns
returns c fs same =
    let p = package_of (map source_of fs) c.args.uses.now in
    let ds = seen_all c.args.specifications.now in
    let units = units_view c.args.units.now in
    let whole = units_same fs ∙ sym same in
    let told = c.in_ok-held.ensures p refl (ap found whole) in
    let calls = are_calls c.in_ok-held.held p ds units c.in_ok-calls.calls.items told (ap names_asked whole) c.in_ok-calls.ensures.calls c.in_ok-calls.ensures.fits in
    record { declaring = told.declaring; owners = told.owners; groups = told.groups; calls = calls }
