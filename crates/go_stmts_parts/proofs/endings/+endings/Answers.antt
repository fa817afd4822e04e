use Rattle.std.proofs.Common.{◌≡◌, ◌<◌, ◌≤◌, ◌∷◌, ◌++◌, [], length, sym, subst, arith}
use Rattle.go_typed.specs.Funcs.{sizes}
use Rattle.go_typed.specs.Views.{views, AllKnown}
use Rattle.go_stmts_parts.proofs.Loops.{one_within, one_known, last_within, last_known}
use Rattle.go_stmts_parts.proofs.endings.+endings.Goals as goal

pub all_end-part_ends-requires : goal.all_end-part_ends-requires
all_end-part_ends-requires t c =
    let ns = c.args.clauses.now in
    let i = c.loop-clause.clause-index in
    let x = c.clause-item.result in
    let lt : i < length ns = c.loop-clause-test.true in
    let low = one_within ns i x x lt c.clause-item.is in
    (omega (arith, low, c.decreases), (one_known (length c.args.types.now.shapes) ns i x x lt c.clause-item.is c.loop-clause.invariant.known).0)

pub last_ends-part_ends-requires : goal.last_ends-part_ends-requires
last_ends-part_ends-requires t c =
    let k = length c.args.types.now.shapes in
    let x = c.in-Some.last.now in
    let ys = c.in-Some.field-0-1.now in
    let is : c.args.parts.now ≡ ys ++ x ∷ [] = c.in-Some.ensures.cases.0 in
    let low : sizes (views (x ∷ [])) ≤ sizes (views c.args.parts.now) = subst (λ ns. sizes (views (x ∷ [])) ≤ sizes (views ns)) (sym is) (last_within ys x) in
    (omega (arith, low, c.decreases), last_known k ys x (subst (AllKnown k) is c.requires))
