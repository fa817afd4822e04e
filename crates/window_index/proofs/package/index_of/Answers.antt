use Rattle.std.proofs.Common.{◌≡◌, ◌∙◌, ◌≤◌, List, Some, true, false, length, slice_get, refl, ap, sym, subst, arith}
use Rattle.std.specs.List.{AllByRecursion}
use Rattle.std.proofs.lemmas.Option.{slice_get_read}
use Rattle.go_typed.specs.Funcs.{FuncView}
use Rattle.window_index.specs.Buckets.{held, is_of}
use Rattle.window_index.proofs.PackageEntering.{all-in, before-apart, counts-in, more-in, none-in, own-place, part-compared, part-in}
use Rattle.window_index.proofs.package.index_of.Goals as goal

pub loop-f-init : goal.loop-f-init
loop-f-init g c =
    none-in g.H.WindowHash.number c.args.checked.now c.args.hash (record { fewest = c.args.min; least = c.args.mass }) c.new-index.result c.args.steps.now c.new-index.ensures

pub enter-requires-clause-fits : goal.enter-requires-clause-fits
enter-requires-clause-fits g c = c.loop-f.invariant.fits

pub enter-requires-clause-absent : goal.enter-requires-clause-absent
enter-requires-clause-absent g c =
    let fs = c.args.checked.now.functions in
    let items = c.functions-f-items.result.now in
    let i = c.loop-f.f-index in
    let f = c.f-item.result in
    let e : slice_get fs i ≡ Some f = ap (λ l. slice_get l i) (sym c.functions-f-items.ensures) ∙ slice_get_read items (length items) i f refl c.loop-f-test.true c.f-item.is in
    subst (λ k. AllByRecursion (λ x. is_of k x.0 ≡ false) (held c.loop-f.index.buckets)) (sym (c.number.ensures ∙ own-place fs i f c.types-types.ensures.stands.numbers e))
    (before-apart i (held c.loop-f.index.buckets) c.loop-f.invariant.before)

pub returns-in_err-enter-clause-at_most : goal.returns-in_err-enter-clause-at_most
returns-in_err-enter-clause-at_most g c =
    let p = c.args.checked.now in
    let items = c.functions-f-items.result.now in
    let i = c.loop-f.f-index in
    let f = c.f-item.result in
    let e : slice_get p.functions i ≡ Some f = ap (λ l. slice_get l i) (sym c.functions-f-items.ensures) ∙ slice_get_read items (length items) i f refl c.loop-f-test.true c.f-item.is in
    part-in g.H.WindowHash.number p c.args.hash (record { fewest = c.args.min; least = c.args.mass }) c.loop-f.index i c.number.result f c.args.steps.now c.loop-f.steps c.enter.new.steps
    c.types-types.ensures.stands.numbers e c.number.ensures c.loop-f.invariant c.enter.ensures.at_most

pub returns-in_err-enter-clause-compared : goal.returns-in_err-enter-clause-compared
returns-in_err-enter-clause-compared g c =
    let p = c.args.checked.now in
    let items = c.functions-f-items.result.now in
    let i = c.loop-f.f-index in
    let f = c.f-item.result in
    let e : slice_get p.functions i ≡ Some f = ap (λ l. slice_get l i) (sym c.functions-f-items.ensures) ∙ slice_get_read items (length items) i f refl c.loop-f-test.true c.f-item.is in
    part-compared g.H.WindowHash.number p c.args.hash (record { fewest = c.args.min; least = c.args.mass }) c.loop-f.index i c.number.result f c.args.steps.now c.loop-f.steps c.enter.new.steps
    c.types-types.ensures.stands.numbers e c.number.ensures c.loop-f.invariant c.enter.ensures.compared

pub returns-in_err-enter-clause-checked : goal.returns-in_err-enter-clause-checked
returns-in_err-enter-clause-checked g c = c.enter.ensures.checked ∙ c.loop-f.invariant.checked

pub loop-f-preserved : goal.loop-f-preserved
loop-f-preserved g c =
    let p = c.args.checked.now in
    let items = c.functions-f-items.result.now in
    let i = c.loop-f.f-index in
    let f = c.f-item.result in
    let e : slice_get p.functions i ≡ Some f = ap (λ l. slice_get l i) (sym c.functions-f-items.ensures) ∙ slice_get_read items (length items) i f refl c.loop-f-test.true c.f-item.is in
    more-in g.H.WindowHash.number p c.args.hash (record { fewest = c.args.min; least = c.args.mass }) c.loop-f.index c.enter.new.self i c.number.result f c.args.steps.now c.loop-f.steps c.enter.new.steps
    c.types-types.ensures.stands.numbers e c.number.ensures c.loop-f.invariant c.in_ok-enter.ensures.fits c.in_ok-enter.ensures.held c.in_ok-enter.ensures.kept c.in_ok-enter.ensures.entered c.in_ok-enter.ensures.checked
    c.in_ok-enter.ensures.buckets c.in_ok-enter.ensures.compared

pub returns-clause-holds : goal.returns-clause-holds
returns-clause-holds g c =
    let p = c.args.checked.now in
    let end : length p.functions ≤ c.loop-f.f-index = subst (λ (l : List FuncView). length l ≤ c.loop-f.f-index) c.functions-f-items.ensures c.loop-f-test.false in
    all-in g.H.WindowHash.number p c.args.hash (record { fewest = c.args.min; least = c.args.mass }) c.loop-f.index c.loop-f.f-index c.args.steps.now c.loop-f.steps end c.loop-f.invariant

pub returns-clause-asked : goal.returns-clause-asked
returns-clause-asked g c = (c.loop-f.invariant.hash_is, c.loop-f.invariant.bounds_are)

pub returns-clause-entered : goal.returns-clause-entered
returns-clause-entered g c =
    let p = c.args.checked.now in
    let end : length p.functions ≤ c.loop-f.f-index = subst (λ (l : List FuncView). length l ≤ c.loop-f.f-index) c.functions-f-items.ensures c.loop-f-test.false in
    counts-in g.H.WindowHash.number p c.args.hash (record { fewest = c.args.min; least = c.args.mass }) c.loop-f.index c.loop-f.f-index c.args.steps.now c.loop-f.steps end c.loop-f.invariant

pub returns-clause-at_most : goal.returns-clause-at_most
returns-clause-at_most g c =
    let p = c.args.checked.now in
    let end : length p.functions ≤ c.loop-f.f-index = subst (λ (l : List FuncView). length l ≤ c.loop-f.f-index) c.functions-f-items.ensures c.loop-f-test.false in
    omega (arith, counts-in g.H.WindowHash.number p c.args.hash (record { fewest = c.args.min; least = c.args.mass }) c.loop-f.index c.loop-f.f-index c.args.steps.now c.loop-f.steps end c.loop-f.invariant)

pub returns-clause-compared : goal.returns-clause-compared
returns-clause-compared g c = omega (arith, c.loop-f.invariant.compared)

pub returns-clause-checked : goal.returns-clause-checked
returns-clause-checked g c = c.loop-f.invariant.checked
