use Rattle.std.proofs.Common.{rules, ◌≡◌, ◌∙◌, map, sym, ap}
use Rattle.std.proofs.lemmas.Result.{IfOk-weaker}
use Rattle.go_scopes_lookup.specs.Sited.{sited}
use Rattle.go_scopes_lookup.specs.Views.{units_view, asked_view}
use Rattle.go_needs.specs.Calls.{calls_of, fits}
use Rattle.go_needs.specs.Tells.{all_owners, names_asked}
use Rattle.go_needs.proofs.Sited.{calls_sited, fits_sited}
use Rattle.go_needs.proofs.needs.calls_in.Goals as goal

pub returns-clause-calls : goal.returns-clause-calls
returns-clause-calls c =
    let u = c.args.uses.now in
    let asks = names_asked (units_view c.args.units.now) in
    let owners = all_owners c.args.held.now in
    let all : c.deref-5.result.now ≡ owners = search rules in
    let asked : map asked_view c.deref-6.result.now ≡ sited asks = ap (map asked_view) c.deref-6.ensures.value ∙ c.in_ok-asked.ensures in
    IfOk-weaker c.calls_of.result _ _
    (λ v h. h ∙ (ap (λ l. calls_of u l (map asked_view c.deref-6.result.now)) all ∙ (ap (calls_of u owners) asked ∙ calls_sited u owners asks)))
    c.calls_of.ensures.calls

pub returns-clause-fits : goal.returns-clause-fits
returns-clause-fits c =
    let u = c.args.uses.now in
    let asks = names_asked (units_view c.args.units.now) in
    let owners = all_owners c.args.held.now in
    let own : c.deref-4.result.now ≡ c.args.held.now.owners.items = search rules in
    let all : c.deref-5.result.now ≡ owners = search rules in
    let asked : map asked_view c.deref-6.result.now ≡ sited asks = ap (map asked_view) c.deref-6.ensures.value ∙ c.in_ok-asked.ensures in
    let same : fits u c.deref-4.result.now c.deref-5.result.now (map asked_view c.deref-6.result.now) ≡ fits u c.args.held.now.owners.items owners asks =
    ap (λ l. fits u l c.deref-5.result.now (map asked_view c.deref-6.result.now)) own
    ∙ (ap (λ l. fits u c.args.held.now.owners.items l (map asked_view c.deref-6.result.now)) all
    ∙ (ap (fits u c.args.held.now.owners.items owners) asked ∙ fits_sited u c.args.held.now.owners.items owners asks)) in
    IfOk-weaker c.calls_of.result _ _ (λ v h. sym same ∙ h) c.calls_of.ensures.fits
