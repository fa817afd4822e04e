use Rattle.std.proofs.Common.{arith, ◌≡◌, ◌-◌, ◌∷◌, ap, drop}
use Rattle.go_declarations.specs.Views.{seen_all}
use Rattle.go_needs.specs.Declaring.{declaring_from}
use Rattle.go_needs.proofs.Lists.{drop-back}
use Rattle.go_needs.proofs.declaring.table_of.Goals as goal

pub loop-number-preserved : goal.loop-number-preserved
loop-number-preserved c = λ n t.
    let number = c.loop-number.number in
    let s = c.index-specifications-number.result in
    let xs = c.args.specifications.now in
    let back : drop (number - 1) xs ≡ s ∷ drop number xs = drop-back xs number (number - 1) s (omega (arith, c.loop-number-test.true)) (omega (arith, c.loop-number-test.true, c.loop-number.auto.number)) c.index-specifications-number.is in
    let front = ap (λ l. declaring_from (number - 1) n t (seen_all l)) back in
    grind (arith, c.in_ok-add_names.ensures n t, c.loop-number.invariant n t, front)
