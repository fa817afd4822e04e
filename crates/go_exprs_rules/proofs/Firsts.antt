-- The first of faults in a row.
use Rattle.std.proofs.Common.{◌≡◌, ℕ, ◌<◌, ◌⊎◌, inl, inr, cond, Bool, true, false, List, [], ◌∷◌, ◌++◌, Option, Some, None, refl, ap, sym, ◌∙◌, arith}
use Rattle.std.specs.Prelude.{nat_lt, nat_eq}
use Rattle.std.proofs.lemmas.Bool.Decides.{nat_tests}
use Rattle.go_exprs_rules.specs.declared.fault.TypeFault.{TypeFault}
use Rattle.go_base.specs.Fault.{code_number}
use Rattle.go_exprs_rules.specs.Faults.{before, sooner, earlier, least, or_else}

-- the order as a fact on three pairs of numbers
abbrev Less : (a b c d e f : ℕ) → Type 0
Less a b c d e f = (a < d) ⊎ ((a ≡ d) × ((b < e) ⊎ ((b ≡ e) × (c < f))))

abbrev test : (a b c d e f : ℕ) → Bool
test a b c d e f = cond (nat_eq a d) (cond (nat_eq b e) (nat_lt c f) (nat_lt b e)) (nat_lt a d)

test_true : (a b c d e f : ℕ) → test a b c d e f ≡ true → Less a b c d e f
test_true a b c d e f h = grind (arith, nat_tests)

test_is : (a b c d e f : ℕ) → Less a b c d e f → test a b c d e f ≡ true
test_is a b c d e f h = grind (arith, nat_tests)

less_trans : (a b c d e f g h i : ℕ) → Less a b c d e f → Less d e f g h i → Less a b c g h i
less_trans a b c d e f g h i p q = grind arith

less_split : (a b c d e f g h i : ℕ) → Less a b c g h i → Less a b c d e f ⊎ Less d e f g h i
less_split a b c d e f g h i p = grind arith

abbrev Before : TypeFault → TypeFault → Type 0
Before f g = Less f.first f.last (code_number f.code) g.first g.last (code_number g.code)

pub trans : (f g h : TypeFault) → before f g ≡ true → before g h ≡ true → before f h ≡ true
trans f g h p q = test_is f.first f.last (code_number f.code) h.first h.last (code_number h.code) (less_trans f.first f.last (code_number f.code) g.first g.last (code_number g.code) h.first h.last (code_number h.code) (test_true f.first f.last (code_number f.code) g.first g.last (code_number g.code) p) (test_true g.first g.last (code_number g.code) h.first h.last (code_number h.code) q))

-- where f is before h, one of the two is at each side of g
pub split : (f g h : TypeFault) → before f h ≡ true → (before f g ≡ true) ⊎ (before g h ≡ true)
split f g h p =
    elim (less_split f.first f.last (code_number f.code) g.first g.last (code_number g.code) h.first h.last (code_number h.code) (test_true f.first f.last (code_number f.code) h.first h.last (code_number h.code) p)) [
      | inl q ↦ inl (test_is f.first f.last (code_number f.code) g.first g.last (code_number g.code) q)
      | inr q ↦ inr (test_is g.first g.last (code_number g.code) h.first h.last (code_number h.code) q)
    ]

pub decided : (b : Bool) → (b ≡ true) ⊎ (b ≡ false)
decided true = inl refl
decided false = inr refl

pub takes : (f g : TypeFault) → before g f ≡ true → sooner f g ≡ g
unfolding sooner
takes f g h = ap (λ b. cond b g f) h

pub keeps : (f g : TypeFault) → before g f ≡ false → sooner f g ≡ f
unfolding sooner
keeps f g h = ap (λ b. cond b g f) h

sooner_assoc : (f g h : TypeFault) → sooner (sooner f g) h ≡ sooner f (sooner g h)
sooner_assoc f g h =
    elim (decided (before g f)) [
      | inl a ↦ elim (decided (before h g)) [
        | inl b ↦ ap (λ x. sooner x h) (takes f g a) ∙ takes g h b ∙ sym (takes f h (trans h g f b a)) ∙ ap (sooner f) (sym (takes g h b))
        | inr b ↦ ap (λ x. sooner x h) (takes f g a) ∙ keeps g h b ∙ sym (takes f g a) ∙ ap (sooner f) (sym (keeps g h b))
      ]
      | inr a ↦ elim (decided (before h g)) [
        | inl b ↦ ap (λ x. sooner x h) (keeps f g a) ∙ ap (sooner f) (sym (takes g h b))
        | inr b ↦ ap (λ x. sooner x h) (keeps f g a) ∙ keeps f h (elim (decided (before h f)) [ inl c ↦ elim (split h g f c) [ inl d ↦ cc | inr d ↦ cc ] | inr c ↦ c ]) ∙ sym (keeps f g a) ∙ ap (sooner f) (sym (keeps g h b))
      ]
    ]

pub earlier_assoc : (f g h : Option TypeFault) → earlier (earlier f g) h ≡ earlier f (earlier g h)
earlier_assoc None g h = refl
earlier_assoc (Some f) None h = refl
earlier_assoc (Some f) (Some g) None = refl
earlier_assoc (Some f) (Some g) (Some h) = ap Some (sooner_assoc f g h)

pub least_append : (fs gs : List TypeFault) → least (fs ++ gs) ≡ earlier (least fs) (least gs)
least_append [] gs = refl
least_append (f ∷ fs) gs = ap (earlier (Some f)) (least_append fs gs) ∙ sym (earlier_assoc (Some f) (least fs) (least gs))

-- what stands first, or else the other
abbrev pub instead : Option TypeFault → Option TypeFault → Option TypeFault
instead None o = o
instead (Some f) o = Some f

some_least : (f : TypeFault) (o : Option TypeFault) (p : Option TypeFault) → instead (earlier (Some f) o) p ≡ earlier (Some f) o
some_least f None p = refl
some_least f (Some g) p = refl

pub least_or_else : (fs gs : List TypeFault) → least (or_else fs gs) ≡ instead (least fs) (least gs)
least_or_else [] gs = refl
least_or_else (f ∷ fs) gs = sym (some_least f (least fs) (least gs))
