use Rattle.std.proofs.Common.{◌≡◌, ◌+◌, ◌∙◌, ◌∷◌, [], length, drop, map, sym, ap}
use Rattle.std.specs.Option.{option_map}
use Rattle.go_base.specs.declared.fault.FaultCode.TheVariants as code
use Rattle.go_tree.specs.Failures.{place_if}
use Rattle.go_tree.specs.Needs.{needs_itself, cycles}
use Rattle.go_scopes_lookup.specs.Views.{found_view, asked_view}
use Rattle.go_scopes_cycles.proofs.Public.{drop_read}
use Rattle.go_scopes.specs.Noted.{noted}
use Rattle.go_scopes.specs.Views.{failure_of}
use Rattle.go_scopes.proofs.Least.{noted_place_if}
use Rattle.go_scopes.proofs.cycles.cycles_among.Goals as goal

pub loop-d-preserved : goal.loop-d-preserved
loop-d-preserved c =
    let asks = map asked_view c.args.lookups.now in
    let k = length c.args.declared.now + length c.args.declared.now in
    let xs = c.args.declared.now in
    let i = c.loop-d.d-index in
    let x = c.d-item.result in
    let f = option_map failure_of c.loop-d.found in
    let rest = cycles asks k (map found_view (drop (i + 1) xs)) in
    let here : drop i xs ≡ x ∷ drop (i + 1) xs = drop_read xs i x c.loop-d-test.true c.d-item.is in
    let one : noted f code.Cycle (cycles asks k (map found_view (drop i xs))) ≡ noted (noted f code.Cycle (place_if (needs_itself asks k (found_view x)) (found_view x).place [])) code.Cycle rest =
    ap (λ ds. noted f code.Cycle (cycles asks k (map found_view ds))) here ∙ noted_place_if f code.Cycle (needs_itself asks k (found_view x)) (found_view x).place rest in
    ap (λ g. noted g code.Cycle rest) c.in_ok-found.ensures ∙ sym one ∙ c.loop-d.invariant
