use Rattle.std.proofs.Common.{◌≡◌, ◌<◌, ◌≤◌, ◌+◌, ◌∷◌, [], ◌∙◌, sym, map, drop, length, subst, refl, arith}
use Rattle.go_scopes_events.specs.Scopes.{scope_of}
use Rattle.go_scopes_lookup.specs.Views.{meaning_view}
use Rattle.go_scopes_lookup.specs.Stacks.{IsSweeping, BeginBehind}
use Rattle.go_scopes_lookup.proofs.Tables.{drop-back}
use Rattle.go_scopes_lookup.proofs.Walks.{sweep_leave, sweep_enter, begin_behind, drop_over}
use Rattle.go_scopes_lookup.proofs.sweep.advance.Goals as goal

pub loop-number-init : goal.loop-number-init
loop-number-init c n i all le s =
    sweep_leave n i c.args.token all c.args.scopes.now.blocks.items c.leave.new.self.blocks.items (map meaning_view (drop c.args.from c.args.locals.now)) le c.leave.ensures.said c.leave.ensures.parted s

pub loop-number-preserved : goal.loop-number-preserved
loop-number-preserved c n i all le s =
    let t = c.args.token in
    let locals = c.args.locals.now in
    let number = c.loop-number.number in
    let item = c.index-locals-number.result in
    let bs = c.loop-number.scopes.blocks.items in
    let back : drop number locals ≡ item ∷ drop (number + 1) locals = drop-back locals (number + 1) number item refl (omega (arith, c.loop-number-test.true)) c.index-locals-number.is in
    let now = subst (λ l. IsSweeping n t all bs (map meaning_view l)) back (c.loop-number.invariant n i all le s) in
    let begun : (scope_of item.entry.now.extent).from ≤ t = subst (λ r. r.from ≤ t) c.scope_of.ensures c.if-token-scope_of.false in
    sweep_enter n t all bs c.enter.new.self.blocks.items (meaning_view item) (map meaning_view (drop (number + 1) locals)) begun c.in_ok-enter.ensures.over c.in_ok-enter.ensures.parted now

pub returns-then-token-scope_of : goal.returns-then-token-scope_of
returns-then-token-scope_of c n i all le s =
    let t = c.args.token in
    let locals = c.args.locals.now in
    let number = c.loop-number.number in
    let item = c.index-locals-number.result in
    let bs = c.loop-number.scopes.blocks.items in
    let back : drop number locals ≡ item ∷ drop (number + 1) locals = drop-back locals (number + 1) number item refl (omega (arith, c.loop-number-test.true)) c.index-locals-number.is in
    let here = c.loop-number.invariant n i all le s in
    let now = subst (λ l. IsSweeping n t all bs (map meaning_view l)) back here in
    let later = subst (λ r. t < r.from) c.scope_of.ensures c.if-token-scope_of.true in
    (here, subst (λ l. BeginBehind t (map meaning_view l)) (sym back) (begin_behind n t (meaning_view item) (map meaning_view (drop (number + 1) locals)) later now.ready))

pub returns : goal.returns
returns c n i all le s =
    let t = c.args.token in
    let locals = c.args.locals.now in
    let number = c.loop-number.number in
    let bs = c.loop-number.scopes.blocks.items in
    let none : drop number locals ≡ [] = drop_over locals number c.loop-number-test.false in
    let end : [] ≡ drop (length locals) locals = sym (drop_over locals (length locals) (omega arith)) in
    (subst (λ l. IsSweeping n t all bs (map meaning_view l)) (none ∙ end) (c.loop-number.invariant n i all le s), subst (λ l. BeginBehind t (map meaning_view l)) end tt)
