-- What operations come to.
use Rattle.std.proofs.Common.{◌≡◌, ℕ, List, [], ◌∷◌, ◌++◌, refl, sym, ap, ◌∙◌, Err}
use Rattle.go_meaning.specs.Values.{Value, nth}
use Rattle.go_meaning.specs.Computations.{World, Panic, Panics, read}
use Rattle.go_meaning.specs.Operations.{Operation, Deed, Gives, Traps, perform, done, operate}
use Rattle.go_values.specs.declared.panic.Stop.{Stop}
use Rattle.go_values.specs.declared.panic.Stop.TheVariants as stop
use Rattle.go_values.specs.Deeds.{IsDone}
use Rattle.go_eval_operations.specs.Performing.{IsPerformed}
use Rattle.go_eval_machine.specs.Rests.{Rest, go_by, before, behind, then_rest}
use Rattle.go_eval_machine.proofs.Rests.{nothing_more}

module _ (r : Rest) (vs : List Value) (d : ℕ) (f : List Value) (w : World) (t : ℕ) where
  pub read_gives : (k : ℕ) (v : Value) → v ≡ nth f k → then_rest (read k) r vs d f w t ≡ r.go (vs ++ v ∷ []) d f w t
  unfolding before read
  read_gives k v e = ap (λ (u : Value). r.go (vs ++ u ∷ []) d f w t) (sym e)

  module _ (o : Operation) (us : List Value) where
    pub operation_gives : (v : Value) (w1 : World) → perform o us w ≡ Gives (v ∷ []) w1 → then_rest (operate o us) r vs d f w t ≡ r.go (vs ++ v ∷ []) d f w1 t
    unfolding before operate
    operation_gives v w1 e = ap (λ (x : Deed). go_by (done x f w t) (λ e1 f1 w2 t1. behind r vs vs e1 d f1 w2 t1)) e

    pub operation_does : (w1 : World) → perform o us w ≡ Gives [] w1 → then_rest (operate o us) r vs d f w t ≡ r.go vs d f w1 t
    unfolding before operate
    operation_does w1 e = ap (λ (x : Deed). go_by (done x f w t) (λ e1 f1 w2 t1. behind r vs vs e1 d f1 w2 t1)) e ∙ ap (λ (us1 : List Value). r.go us1 d f w1 t) (nothing_more vs)

    pub operation_traps : (p : Panic) → perform o us w ≡ Traps p → then_rest (operate o us) r vs d f w t ≡ r.out vs (Panics p) d f w t
    unfolding before operate
    operation_traps p e = ap (λ (x : Deed). go_by (done x f w t) (λ e1 f1 w2 t1. behind r vs vs e1 d f1 w2 t1)) e

pub stopped : (s : Stop) (d : Deed) (w : World) → IsDone (Err s) w d → IsPerformed (Err s) d w w
stopped (stop.Panic p) d w h = (h, refl)
stopped stop.Memory d w h = refl
