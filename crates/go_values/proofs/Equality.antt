-- Equality of rows of values.
use Rattle.std.proofs.Common.{◌≡◌, Bool, false, true, ◌&&◌, List, [], ◌∷◌, length, refl, ap, ◌∙◌, arith}
use Rattle.go_meaning.specs.Values.{same_value, same_values, valued}
use Rattle.go_values.specs.Views.{view, views}
use Rattle.go_values.specs.declared.value.Value.{Value}

and_false : (b : Bool) → (b && false) ≡ false
and_false true = refl
and_false false = refl

pub other_lengths : (us vs : List Value) → (length us ≡ length vs → ⊥) → same_values (valued (views us)) (valued (views vs)) ≡ false
other_lengths [] [] h = absurd (h refl)
other_lengths [] (v ∷ vs) h = refl
other_lengths (u ∷ us) [] h = refl
other_lengths (u ∷ us) (v ∷ vs) h = ap (λ b. same_value (view u) (view v) && b) (other_lengths us vs (λ e. h (omega (arith, e)))) ∙ and_false (same_value (view u) (view v))
