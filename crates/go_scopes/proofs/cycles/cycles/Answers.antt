use Rattle.std.proofs.Common.{◌≡◌, ◌∙◌, ◌+◌, length, map, ap}
use Rattle.std.proofs.lemmas.Result.{IfOk-weaker}
use Rattle.std.specs.Option.{option_map}
use Rattle.go_base.specs.declared.fault.FaultCode.TheVariants as code
use Rattle.go_tree.specs.Needs.{cycles}
use Rattle.go_scopes_lookup.specs.Views.{found_view, asked_view}
use Rattle.go_scopes.specs.Noted.{noted}
use Rattle.go_scopes.specs.Views.{failure_of}
use Rattle.go_scopes.proofs.Sited.{cycles_sited}
use Rattle.go_scopes.proofs.cycles.cycles.Goals as goal

pub returns : goal.returns
returns c =
    let k = length c.args.declared.now + length c.args.declared.now in
    let ds = map found_view c.args.declared.now in
    let f = option_map failure_of c.args.found in
    IfOk-weaker c.cycles_among.result _ _
    (λ g h. h ∙ ap (λ asks. noted f code.Cycle (cycles asks k ds)) (ap (map asked_view) c.deref.ensures.value ∙ c.in_ok-sited.ensures) ∙ ap (noted f code.Cycle) (cycles_sited (map asked_view c.args.lookups.now) k ds))
    c.cycles_among.ensures
