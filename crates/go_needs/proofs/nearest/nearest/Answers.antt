use Rattle.std.proofs.Common.{◌≡◌, ◌-◌, ◌∷◌, drop, ap, arith, None, slice_index_or}
use Rattle.go_needs.specs.declared.calls.Call.{Call}
use Rattle.go_needs.specs.Levels.{nearest}
use Rattle.go_needs.proofs.Lists.{drop-one}
use Rattle.go_needs.proofs.nearest.nearest.Goals as goal

pub loop-number-preserved : goal.loop-number-preserved
loop-number-preserved c k =
    let xs = c.args.calls.now in
    let number = c.loop-number.number in
    let x : Call = slice_index_or xs (number - 1) (record { number = 0; full = None; partial = None }) in
    let back : drop (number - 1) xs ≡ x ∷ drop number xs = drop-one xs number (number - 1) (record { number = 0; full = None; partial = None })
    (omega (arith, c.loop-number-test.true)) (omega (arith, c.loop-number-test.true, c.loop-number.auto.number)) in
    grind (arith, c.in_ok-add.ensures k, c.loop-number.invariant k, ap (λ l. nearest c.args.levels.now l k) back)
