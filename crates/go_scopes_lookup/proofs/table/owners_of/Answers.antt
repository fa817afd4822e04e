use Rattle.std.proofs.Common.{arith, ◌≡◌, ◌-◌, ◌&&◌, ◌∷◌, ◌∙◌, ap, map, drop, nat_eq}
use Rattle.std.specs.Option.{option_map}
use Rattle.go_tree.specs.Objects.{is_declared_at}
use Rattle.go_scopes_lookup.specs.Tables.{declared_object}
use Rattle.go_scopes_lookup.specs.Views.{found_view, meaning_view}
use Rattle.go_scopes_lookup.proofs.Tables.{drop-back, drop-nothing}
use Rattle.go_scopes_lookup.proofs.table.owners_of.Goals as goal

pub loop-number-preserved-in_ok-insert : goal.loop-number-preserved-in_ok-insert
loop-number-preserved-in_ok-insert c = λ n t.
    let number = c.loop-number.number in
    let item = c.index-all-number.result in
    let d = c.in-Some.d in
    let back : drop (number - 1) c.args.all.now ≡ item ∷ drop number c.args.all.now = drop-back c.args.all.now number (number - 1) item (omega (arith, c.loop-number-test.true)) (omega (arith, c.loop-number-test.true, c.loop-number.auto.number)) c.index-all-number.is in
    let there : is_declared_at n t (option_map found_view item.entry.now.source) ≡ (nat_eq d.file n && nat_eq d.declaration.now.name t) = ap (λ s. is_declared_at n t (option_map found_view s)) c.in-Some.is in
    let front = ap (λ l. declared_object n t (map meaning_view l)) back in
    grind (arith, c.in_ok-insert.ensures.updates.0 (n, t), c.loop-number.invariant n t, there, front)

pub returns : goal.returns
returns c = λ n t. c.loop-number.invariant n t ∙ drop-nothing (λ l. declared_object n t (map meaning_view l)) c.args.all.now c.loop-number.number c.loop-number-test.false
