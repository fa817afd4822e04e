use Rattle.std.proofs.Common.{◌∙◌, suc, sym, map, drop, subst, arith}
use Rattle.std.proofs.Common.{Ok, Err, IfOk}
use Rattle.std.specs.declared.result.Result.{Result}
use Rattle.go_scopes_lookup.specs.Views.{meaning_view}
use Rattle.go_scopes_lookup.specs.Sorted.{IsReached}
use Rattle.go_scopes_lookup.proofs.Walks.{sweep_says, sweep_on, order_some}
use Rattle.go_scopes_lookup.proofs.sweep.advance_to.Goals as goal

if_ok : {X E : Type 0} (r : Result X E) (P Q : X → Type 0) → ((x : X) → P x → Q x) → IfOk r P → IfOk r Q
if_ok (Ok x) P Q f h = f x h
if_ok (Err e) P Q f h = h

pub returns-in-Some : goal.returns-in-Some
returns-in-Some c =
    let t = c.in-Some.token in
    let bs = c.advance.new.scopes.blocks.items in
    if_ok c.advance.result _ _ (λ to told n all e es named u.
    let o = order_some u.place u.end t e es (sym c.in-Some.is ∙ named) u.order in
    let left = map meaning_view (drop to c.args.locals.now) in
    let s = told n u.place all o.0 u.sweeps in
    (subst (λ x. IsReached n all x bs) (sym c.in-Some.is) (sweep_says n t all bs left s.0 s.1), record { place = suc t; end = u.end; order = o.1; sweeps = sweep_on n t (suc t) all bs left (omega arith) s.0 }))
    c.advance.ensures
