-- Where locals are paired one to one, the two of each pair have one number.
use Rattle.std.proofs.Common.{◌≡◌, ◌∙◌, ℕ, Bool, true, false, List, [], ◌∷◌, ◌++◌, Option, Some, None, refl, sym, ap}
use Rattle.std.specs.Prelude.{nat_eq, if◌then◌else◌, unwrap_or}
use Rattle.std.specs.List.{list_all}
use Rattle.std.specs.Option.{option_map}
use Rattle.std.proofs.lemmas.Bool.{eqb-true, eq-eqb, and_parts, and_from}
use Rattle.std.proofs.lemmas.List.{append_assoc}
use Rattle.clone_window.specs.Sameness.{fits_pair, is_iff}
use Rattle.extract_trees.specs.Windows.{partner, local_beside, PairedLocalsHaveOneNumber}

-- the partner that is found is that of a pair which fits all pairs
data Found (p : ℕ × ℕ) (o : Option ℕ) : Type 0 where
  it : o ≡ Some p.0 → Found p o
  none : o ≡ None → Found p o

partner_by : (p q : ℕ × ℕ) (rest : List (ℕ × ℕ)) (a b : Bool) → nat_eq p.0 q.0 ≡ a → nat_eq q.1 p.1 ≡ b → is_iff (nat_eq p.0 q.0) (nat_eq p.1 q.1) ≡ true → Found p (partner rest p.1) → Found p (partner (q ∷ rest) p.1)
partner_by p q rest true true x y h f = it (ap (λ c. if c then Some q.0 else partner rest p.1) y ∙ ap Some (sym (eqb-true p.0 q.0 x)))
partner_by p q rest false true x y h f =
    let z : nat_eq p.1 q.1 ≡ true = eq-eqb p.1 q.1 (sym (eqb-true q.1 p.1 y)) in
    let r : is_iff false true ≡ true = sym (ap (λ c. is_iff c (nat_eq p.1 q.1)) x ∙ ap (λ c. is_iff false c) z) ∙ h in cc
partner_by p q rest a false x y h (it e) = it (ap (λ c. if c then Some q.0 else partner rest p.1) y ∙ e)
partner_by p q rest a false x y h (none e) = none (ap (λ c. if c then Some q.0 else partner rest p.1) y ∙ e)

partner_found : (p : ℕ × ℕ) (qs : List (ℕ × ℕ)) → list_all (fits_pair p) qs ≡ true → Found p (partner qs p.1)
partner_found p [] h = none refl
partner_found p (q ∷ qs) h =
    let x = and_parts (fits_pair p q) (list_all (fits_pair p) qs) h in
    partner_by p q qs (nat_eq p.0 q.0) (nat_eq q.1 p.1) refl refl x.0 (partner_found p qs x.1)

-- a pair is found among those that it stands in
chosen_there : (c : Bool) (n : ℕ) (o : Option ℕ) → (if c then Some n else o) ≡ None → (o ≡ None → ⊥) → ⊥
chosen_there true n o h f = cc
chosen_there false n o h f = f h

partner_there : (p : ℕ × ℕ) (xs ys : List (ℕ × ℕ)) → partner (xs ++ p ∷ ys) p.1 ≡ None → ⊥
partner_there p [] ys h =
    let e : (if true then Some p.0 else partner ys p.1) ≡ None = sym (ap (λ c. if c then Some p.0 else partner ys p.1) (eq-eqb p.1 p.1 refl)) ∙ h in cc
partner_there p (x ∷ xs) ys h = chosen_there (nat_eq x.1 p.1) x.0 (partner (xs ++ p ∷ ys) p.1) h (λ e. partner_there p xs ys e)

number_by : (local : ℕ → ℕ) (p : ℕ × ℕ) (o : Option ℕ) → Found p o → (o ≡ None → ⊥) → nat_eq (local p.0) (unwrap_or (option_map local o) p.1) ≡ true
number_by local p o (it e) h = ap (λ z. nat_eq (local p.0) (unwrap_or (option_map local z) p.1)) e ∙ eq-eqb (local p.0) (local p.0) refl
number_by local p o (none e) h = absurd (h e)

-- of the pairs behind xs
numbers_behind : (local : ℕ → ℕ) (pairs xs ys : List (ℕ × ℕ)) → pairs ≡ xs ++ ys → list_all (λ p. list_all (fits_pair p) pairs) ys ≡ true → list_all (λ p. nat_eq (local p.0) (local_beside local pairs p.1)) ys ≡ true
numbers_behind local pairs xs [] e h = refl
numbers_behind local pairs xs (y ∷ ys) e h =
    let x = and_parts (list_all (fits_pair y) pairs) (list_all (λ p. list_all (fits_pair p) pairs) ys) h in
    and_from (nat_eq (local y.0) (local_beside local pairs y.1)) (list_all (λ p. nat_eq (local p.0) (local_beside local pairs p.1)) ys)
    (number_by local y (partner pairs y.1) (partner_found y pairs x.0) (λ z. partner_there y xs ys (sym (ap (λ r. partner r y.1) e) ∙ z)))
    (numbers_behind local pairs (xs ++ y ∷ []) ys (e ∙ sym (append_assoc xs (y ∷ []) ys)) x.1)

pub paired_numbers : PairedLocalsHaveOneNumber
paired_numbers local pairs h = numbers_behind local pairs [] pairs refl h
