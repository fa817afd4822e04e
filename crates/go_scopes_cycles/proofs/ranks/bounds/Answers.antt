use Rattle.std.proofs.Common.{◌≡◌, ◌-◌, ◌∷◌, drop, map, sym, subst, arith}
use Rattle.go_scopes_cycles.specs.Ranks.{CoversAll}
use Rattle.go_scopes_lookup.specs.Views.{asked_view}
use Rattle.go_scopes_lookup.proofs.Public.{drop-back}
use Rattle.go_scopes_cycles.proofs.Ranked.{covers_grow}
use Rattle.go_scopes_cycles.proofs.ranks.bounds.Goals as goal

pub loop-number-preserved : goal.loop-number-preserved
loop-number-preserved c =
    let xs = c.args.lookups.now in
    let number = c.loop-number.number in
    let x = c.index-lookups-number.result in
    let back : drop (number - 1) xs ≡ x ∷ drop number xs = drop-back xs number (number - 1) x (omega (arith, c.loop-number-test.true)) (omega (arith, c.loop-number-test.true, c.loop-number.auto.number)) c.index-lookups-number.is in
    subst (λ l. CoversAll c.add.new.bounds c.args.ranks.now (map asked_view l)) (sym back)
    (c.in_ok-add.ensures.covers, covers_grow c.loop-number.bounds c.add.new.bounds c.args.ranks.now (map asked_view (drop number xs)) c.in_ok-add.ensures.grows c.loop-number.invariant)
