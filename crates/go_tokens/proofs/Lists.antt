-- Lists and tests.
use Rattle.std.proofs.Common.{◌≡◌, ℕ, ◌≤◌, ◌⊎◌, ⊎_elim, Bool, true, false, ◌&&◌, ◌||◌, List, [], ◌∷◌, ◌++◌, length, refl, sym, ap, ◌∙◌, inl, inr, arith, eqb-true}
use Rattle.std.specs.List.{list_all}
use Rattle.go_tokens.specs.Spellings.{same_text, listed}

pub both : (a b : Bool) → (a && b) ≡ true → (a ≡ true) × (b ≡ true)
both true b h = (refl, h)
both false b h = cc

pub either : (a b : Bool) → (a || b) ≡ true → (a ≡ true) ⊎ (b ≡ true)
either true b h = inl refl
either false b h = inr h

pub not_true : (a : Bool) → (a ≡ true → ⊥) → a ≡ false
not_true true h = absurd (h refl)
not_true false h = refl

pub same_text-true : (xs ys : List ℕ) → same_text xs ys ≡ true → xs ≡ ys
same_text-true [] [] h = refl
same_text-true [] (y ∷ ys) h = cc
same_text-true (x ∷ xs) [] h = cc
same_text-true (x ∷ xs) (y ∷ ys) h =
    let parts = both _ _ h in
    let heads : x ≡ y = eqb-true x y parts.0 in
    let tails : xs ≡ ys = same_text-true xs ys parts.1 in
    cc

-- what is in a table passes each test that all of the table passes
pub listed_all : (p : List ℕ → Bool) (ws : List (List ℕ)) (w : List ℕ) → list_all p ws ≡ true → listed ws w ≡ true → p w ≡ true
listed_all p [] w a h = cc
listed_all p (v ∷ vs) w a h =
    let parts = both (p v) (list_all p vs) a in
    ⊎_elim (λ e. ap p (sym (same_text-true v w e)) ∙ parts.0) (λ rest. listed_all p vs w parts.1 rest) (either (same_text v w) (listed vs w) h)

-- c goes beyond b
pub record Beyond (c d b rest : List ℕ) : Type 0 where
  pub y : ℕ
  pub ys : List ℕ
  pub is : c ≡ b ++ y ∷ ys
  pub in_rest : rest ≡ y ∷ (ys ++ d)

beyond_more : (x z : ℕ) (c d b rest : List ℕ) → x ≡ z → Beyond c d b rest → Beyond (x ∷ c) d (z ∷ b) rest
beyond_more x z c d b rest e more = let is = more.is in record { y = more.y; ys = more.ys; is = cc; in_rest = more.in_rest }

pub split : (c d b rest : List ℕ) → c ++ d ≡ b ++ rest → (length c ≤ length b) ⊎ Beyond c d b rest
split [] d b rest e = inl (omega arith)
split (x ∷ c) d [] rest e = inr (record { y = x; ys = c; is = refl; in_rest = sym e })
split (x ∷ c) d (z ∷ b) rest e =
    let heads : x ≡ z = cc in
    let tails : c ++ d ≡ b ++ rest = cc in
    ⊎_elim (λ le. inl (omega (arith, le))) (λ more. inr (beyond_more x z c d b rest heads more)) (split c d b rest tails)

-- two fronts of one length
pub fronts : (p q r s : List ℕ) → length p ≡ length q → p ++ r ≡ q ++ s → (p ≡ q) × (r ≡ s)
fronts [] [] r s n e = (refl, e)
fronts [] (y ∷ q) r s n e = absurd (omega (arith, n))
fronts (x ∷ p) [] r s n e = absurd (omega (arith, n))
fronts (x ∷ p) (y ∷ q) r s n e =
    let heads : x ≡ y = cc in
    let tails : p ++ r ≡ q ++ s = cc in
    let lens : length p ≡ length q = omega (arith, n) in
    let rest = fronts p q r s lens tails in
    let same = rest.0 in
    (cc, rest.1)

pub true_false : (a : Bool) → a ≡ true → a ≡ false → ⊥
true_false a h k = cc
