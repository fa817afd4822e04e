use Rattle.std.proofs.Common.{◌≡◌, ℕ, [], ◌∷◌, sym, ◌∙◌, subst}
use Rattle.std.proofs.lemmas.Result.{err_from_is_err_and}
use Rattle.go_meaning.specs.Values as meant
use Rattle.go_meaning.specs.Values.{nth}
use Rattle.go_meaning.specs.Operations.{Cell, Deed, Gives, Traps, at_index, cell, length_of, operate, perform}
use Rattle.go_values.specs.Views.{view, views, panic_view}
use Rattle.go_values.specs.Worlds.{world_view}
use Rattle.go_eval_plans.specs.declared.exit.Exit.{Exit}
use Rattle.go_eval_plans.specs.Machines.{outcome, IsLeft}
use Rattle.go_eval_plans.proofs.Placing.{panics_by}
use Rattle.go_eval_plans.proofs.Reaching.{index_place, reached_cell}
use Rattle.go_eval_plans.proofs.targets.cell.Goals as goal

pub returns-in_err-place_of : goal.returns-in_err-place_of
returns-in_err-place_of c = λ x i d m.
    let q = err_from_is_err_and c.from_residual.result c.from_residual.ensures.1 in
    let us = views c.args.operands.now in
    let w = world_view m.world in
    let p = c.in_err-place_of.field-0.0 in
    let s = view c.operand-slice.result.now in
    let j = view c.operand-index.result.now in
    let told : perform Cell (s ∷ j ∷ []) w ≡ Traps (panic_view p) =
    subst (λ (n : ℕ). at_index n j (λ k. Gives (cell s k w ∷ []) w) ≡ Traps (panic_view p)) c.length.ensures (c.in_err-place_of.ensures.place (λ k. Gives (cell s k w ∷ []) w)) in
    let done : perform Cell (nth us 0 ∷ nth us 1 ∷ []) w ≡ Traps (panic_view p) =
    subst (λ (a : meant.Value). perform Cell (nth us 0 ∷ a ∷ []) w ≡ Traps (panic_view p)) c.operand-index.ensures (subst (λ (a : meant.Value). perform Cell (a ∷ j ∷ []) w ≡ Traps (panic_view p)) c.operand-slice.ensures told) in
    rw q.1 (subst (λ (y : Exit). IsLeft y m (outcome (operate Cell (nth us 0 ∷ nth us 1 ∷ [])) d m)) (sym q.2) (panics_by Cell (nth us 0 ∷ nth us 1 ∷ []) d m p done))

pub returns : goal.returns
returns c = λ x i d m.
    let us = views c.args.operands.now in
    let k = c.in_ok-place_of.field-0 in
    let s = view c.operand-slice.result.now in
    let j = view c.operand-index.result.now in
    let told : (then : ℕ → Deed) → at_index (length_of (nth us 0)) (nth us 1) then ≡ then k =
    subst (λ (a : meant.Value). (then : ℕ → Deed) → at_index (length_of (nth us 0)) a then ≡ then k) c.operand-index.ensures
    (subst (λ (a : meant.Value). (then : ℕ → Deed) → at_index (length_of a) j then ≡ then k) c.operand-slice.ensures
    (subst (λ (n : ℕ). (then : ℕ → Deed) → at_index n j then ≡ then k) c.length.ensures c.in_ok-place_of.ensures.place)) in
    reached_cell x i us d m c.whole.result c.in_ok-array.array c.in_ok-place.place k c.whole.ensures.root c.whole.ensures.path
    (c.in_ok-array.ensures ∙ c.operand-slice.ensures) (c.in_ok-place.ensures ∙ c.operand-index.ensures) (index_place (length_of (nth us 0)) (nth us 1) k told)
