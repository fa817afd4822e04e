-- Loops over rows that stand beside each other.
use Rattle.std.proofs.Common.{◌≡◌, min, List, [], ◌∷◌, ◌++◌, length, Option, ap, sym, ◌∙◌, arith}
use Rattle.go_exprs_rules.specs.declared.fault.TypeFault.{TypeFault}
use Rattle.go_exprs_rules.specs.Faults.{least, earlier}
use Rattle.go_exprs_rules.proofs.Public.{least_append, earlier_assoc, earlier_none}

-- the faults of two rows are those of their first and those of the others
module _ {A B : Type 0} (f : A → B → List TypeFault) (g : List A → List B → List TypeFault) (more : (x : A) (y : B) (xs : List A) (ys : List B) → g (x ∷ xs) (y ∷ ys) ≡ f x y ++ g xs ys) where
  pub both_step : (xs us : List A) (ys vs : List B) (x : A) (y : B) (first found now due : Option TypeFault) → xs ≡ x ∷ us → ys ≡ y ∷ vs
      → earlier first (least (g xs ys)) ≡ due → found ≡ least (f x y) → now ≡ earlier first found → earlier now (least (g us vs)) ≡ due
  both_step xs us ys vs x y first found now due xe ye before own then =
      let rest = g us vs in
      let split : least (g xs ys) ≡ earlier found (least rest) = ap (λ z. least (g z ys)) xe ∙ ap (λ z. least (g (x ∷ us) z)) ye ∙ ap least (more x y us vs) ∙ least_append (f x y) rest ∙ ap (λ o. earlier o (least rest)) (sym own) in
      ap (λ o. earlier o (least rest)) then ∙ earlier_assoc first found (least rest) ∙ ap (earlier first) (sym split) ∙ before

pub both_end : (fs : List TypeFault) (first due : Option TypeFault) → fs ≡ [] → earlier first (least fs) ≡ due → first ≡ due
both_end fs first due none before = sym (ap (λ z. earlier first (least z)) none ∙ earlier_none first) ∙ before

-- where one of two rows has ended
module _ {A B : Type 0} (g : List A → List B → List TypeFault) (left : (ys : List B) → g [] ys ≡ []) (right : (x : A) (xs : List A) → g (x ∷ xs) [] ≡ []) where
  pub rows_ended : (xs : List A) (ys : List B) → min (length xs) (length ys) ≡ 0 → g xs ys ≡ []
  rows_ended [] ys e = left ys
  rows_ended (x ∷ xs) [] e = right x xs
  rows_ended (x ∷ xs) (y ∷ ys) e = absurd (omega (arith, e))
