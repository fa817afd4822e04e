-- Zero values hold no functions.
use Rattle.std.proofs.Common.{◌≡◌, ◌∙◌, ℕ, zero, suc, refl, ap}
use Rattle.go_types_relations.specs.Zeros.{Zero, false_value, number_zero, empty_text, elements, fields, nil_slice, nil_function, ZeroRow, no_zeros, more_zeros}
use Rattle.go_meaning.specs.Values.{Value, Parts, more, copies, zero_value, zero_values}
use Rattle.go_meaning_numbers.specs.Moved.{shifted, all_shifted}

module _ (s : ℕ → ℕ) where
  copies_moved : (n : ℕ) (v : Value) → all_shifted s (copies n v) ≡ copies n (shifted s v)
  copies_moved zero v = refl
  copies_moved (suc n) v = ap (more (shifted s v)) (copies_moved n v)

  mutual
    pub zero_moved : (z : Zero) → shifted s (zero_value z) ≡ zero_value z
    zero_moved (elements n z) = ap Parts (copies_moved n (zero_value z) ∙ ap (copies n) (zero_moved z))
    zero_moved (fields zs) = ap Parts (zeros_moved zs)
    zero_moved false_value = refl
    zero_moved number_zero = refl
    zero_moved empty_text = refl
    zero_moved nil_slice = refl
    zero_moved nil_function = refl

    zeros_moved : (zs : ZeroRow) → all_shifted s (zero_values zs) ≡ zero_values zs
    zeros_moved no_zeros = refl
    zeros_moved (more_zeros z zs) = ap (λ v. more v (all_shifted s (zero_values zs))) (zero_moved z) ∙ ap (more (zero_value z)) (zeros_moved zs)
