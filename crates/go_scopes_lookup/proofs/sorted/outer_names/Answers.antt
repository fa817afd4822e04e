use Rattle.std.proofs.Common.{arith, ◌≡◌, ◌-◌, ◌∷◌, ◌∙◌, sym, map, drop, subst}
use Rattle.go_scopes_events.specs.Scopes.{first_by}
use Rattle.go_scopes_lookup.specs.Views.{meaning_view}
use Rattle.go_scopes_lookup.specs.Sorted.{in_block, KnowsOuter}
use Rattle.go_scopes_lookup.proofs.Tables.{drop-back, drop-nothing}
use Rattle.go_scopes_lookup.proofs.sorted.outer_names.Goals as goal

pub loop-number-preserved : goal.loop-number-preserved
loop-number-preserved c =
    let all = c.args.all.now in
    let number = c.loop-number.number in
    let item = c.index-all-number.result in
    let back : drop (number - 1) all ≡ item ∷ drop number all = drop-back all number (number - 1) item (omega (arith, c.loop-number-test.true)) (omega (arith, c.loop-number-test.true, c.loop-number.auto.number)) c.index-all-number.is in
    subst (λ l. KnowsOuter c.add_outer.new.outer (map meaning_view l)) (sym back) (c.in_ok-add_outer.ensures (map meaning_view (drop number all)) c.loop-number.invariant)

pub returns : goal.returns
returns c = λ k. c.loop-number.invariant k ∙ drop-nothing (λ l. first_by (in_block k.file) k.name.now (map meaning_view l)) c.args.all.now c.loop-number.number c.loop-number-test.false
