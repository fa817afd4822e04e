-- The least of faults, taken together list by list.
use Rattle.std.proofs.Common.{◌≡◌, ℕ, ◌<◌, ◌⊎◌, inl, inr, Bool, true, false, List, [], ◌∷◌, ◌++◌, Option, Some, None, refl, ap, sym, ◌∙◌, cond, arith}
use Rattle.std.specs.Prelude.{nat_eq, nat_lt}
use Rattle.std.proofs.lemmas.Bool.Decides.{nat_tests}
use Rattle.go_base.specs.Fault.{code_number}
use Rattle.go_tree.specs.Failures.{Failure, is_earlier, earlier, least_from, least}
use Rattle.go_package_types.specs.Merged.{merged}

-- the order as a fact on four pairs of numbers
abbrev Less : (a b c d e f g h : ℕ) → Type 0
Less a b c d e f g h = (a < e) ⊎ ((a ≡ e) × ((b < f) ⊎ ((b ≡ f) × ((c < g) ⊎ ((c ≡ g) × (d < h))))))

abbrev test : (a b c d e f g h : ℕ) → Bool
test a b c d e f g h = cond (nat_eq a e) (cond (nat_eq b f) (cond (nat_eq c g) (nat_lt d h) (nat_lt c g)) (nat_lt b f)) (nat_lt a e)

test_true : (a b c d e f g h : ℕ) → test a b c d e f g h ≡ true → Less a b c d e f g h
test_true a b c d e f g h k = grind (arith, nat_tests)

test_is : (a b c d e f g h : ℕ) → Less a b c d e f g h → test a b c d e f g h ≡ true
test_is a b c d e f g h k = grind (arith, nat_tests)

abbrev Before : Failure → Failure → Type 0
Before x y = Less x.place.file x.place.start x.place.end (code_number x.code) y.place.file y.place.start y.place.end (code_number y.code)

before_true : (x y : Failure) → is_earlier x y ≡ true → Before x y
before_true x y e = test_true x.place.file x.place.start x.place.end (code_number x.code) y.place.file y.place.start y.place.end (code_number y.code) e

before_is : (x y : Failure) → Before x y → is_earlier x y ≡ true
before_is x y e = test_is x.place.file x.place.start x.place.end (code_number x.code) y.place.file y.place.start y.place.end (code_number y.code) e

less_trans : (a b c d e f g h i j k l : ℕ) → Less a b c d e f g h → Less e f g h i j k l → Less a b c d i j k l
less_trans a b c d e f g h i j k l p q = grind arith

less_split : (a b c d e f g h i j k l : ℕ) → Less a b c d i j k l → Less a b c d e f g h ⊎ Less e f g h i j k l
less_split a b c d e f g h i j k l p = grind arith

trans : (x y z : Failure) → is_earlier x y ≡ true → is_earlier y z ≡ true → is_earlier x z ≡ true
trans x y z p q =
    before_is x z (less_trans x.place.file x.place.start x.place.end (code_number x.code) y.place.file y.place.start y.place.end (code_number y.code) z.place.file z.place.start z.place.end (code_number z.code) (before_true x y p) (before_true y z q))

split : (x y z : Failure) → is_earlier x z ≡ true → (is_earlier x y ≡ true) ⊎ (is_earlier y z ≡ true)
split x y z p =
    elim (less_split x.place.file x.place.start x.place.end (code_number x.code) y.place.file y.place.start y.place.end (code_number y.code) z.place.file z.place.start z.place.end (code_number z.code) (before_true x z p)) [
      | inl q ↦ inl (before_is x y q)
      | inr q ↦ inr (before_is y z q)
    ]

decided : (b : Bool) → (b ≡ true) ⊎ (b ≡ false)
decided true = inl refl
decided false = inr refl

-- the earlier one of two
abbrev pick : Bool → Failure → Failure → Option Failure
pick b g f = cond b (Some g) (Some f)

takes : (f g : Failure) → is_earlier g f ≡ true → earlier (Some f) g ≡ Some g
takes f g h = ap (λ b. pick b g f) h

keeps : (f g : Failure) → is_earlier g f ≡ false → earlier (Some f) g ≡ Some f
keeps f g h = ap (λ b. pick b g f) h

assoc : (f g h : Failure) → earlier (earlier (Some f) g) h ≡ merged (Some f) (earlier (Some g) h)
assoc f g h =
    elim (decided (is_earlier g f)) [
      | inl a ↦ elim (decided (is_earlier h g)) [
        | inl b ↦ ap (λ o. earlier o h) (takes f g a) ∙ takes g h b ∙ sym (takes f h (trans h g f b a)) ∙ ap (merged (Some f)) (sym (takes g h b))
        | inr b ↦ ap (λ o. earlier o h) (takes f g a) ∙ keeps g h b ∙ sym (takes f g a) ∙ ap (merged (Some f)) (sym (keeps g h b))
      ]
      | inr a ↦ elim (decided (is_earlier h g)) [
        | inl b ↦ ap (λ o. earlier o h) (keeps f g a) ∙ ap (merged (Some f)) (sym (takes g h b))
        | inr b ↦
            ap (λ o. earlier o h) (keeps f g a)
            ∙ keeps f h (elim (decided (is_earlier h f)) [ inl c ↦ elim (split h g f c) [ inl d ↦ cc | inr d ↦ cc ] | inr c ↦ c ])
            ∙ sym (keeps f g a) ∙ ap (merged (Some f)) (sym (keeps g h b))
      ]
    ]

one_more : (f : Option Failure) (g : Failure) (m : Option Failure) → merged (earlier f g) m ≡ merged f (merged (Some g) m)
one_more None g None = refl
one_more None g (Some h) = some_first (earlier (Some g) h) where
  some_first : (o : Option Failure) → o ≡ merged None o
  some_first None = refl
  some_first (Some x) = refl
one_more (Some f) g None = refl
one_more (Some f) g (Some h) = assoc f g h

pub least_merged : (f : Option Failure) (gs : List Failure) → least_from f gs ≡ merged f (least gs)
least_merged f [] = refl
least_merged f (g ∷ gs) = least_merged (earlier f g) gs ∙ one_more f g (least gs) ∙ ap (merged f) (sym (least_merged (Some g) gs))

pub least_from_append : (f : Option Failure) (a b : List Failure) → least_from f (a ++ b) ≡ least_from (least_from f a) b
least_from_append f [] b = refl
least_from_append f (g ∷ a) b = least_from_append (earlier f g) a b
