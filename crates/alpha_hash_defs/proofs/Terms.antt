-- Words that are alike have one number.
use Rattle.std.proofs.Common.{◌≡◌, ℕ, suc, ◌+◌, ◌%◌, ◌^◌, Bool, true, false, List, [], ◌∷◌, map, Some, refl, sym, ap, ◌∙◌}
use Rattle.std.specs.Prelude.{nat_eq, if◌then◌else◌}
use Rattle.std.proofs.lemmas.Bool.{eqb-true, eq-eqb}
use Rattle.alpha_hash_defs.specs.Alike.{AreAlike, IsOneToOne}
use Rattle.alpha_hash_defs.specs.Hash.{mix, fold, term}
use Rattle.alpha_hash_defs.specs.Numbers.{place_before, terms_from, words_hash}
use Rattle.alpha_hash_defs.specs.Words.{Word, number, named, word_value}

same-values : (R : ℕ → ℕ → Bool) (ws vs : List Word) → AreAlike R ws vs → map word_value ws ≡ map word_value vs
same-values R [] [] h = refl
same-values R [] (number b ∷ vs) h = absurd h
same-values R [] (named b ∷ vs) h = absurd h
same-values R (number a ∷ ws) [] h = absurd h
same-values R (named a ∷ ws) [] h = absurd h
same-values R (number a ∷ ws) (number b ∷ vs) h = ap (λ n. n ∷ map word_value ws) h.0 ∙ ap (λ l. b ∷ l) (same-values R ws vs h.1)
same-values R (number a ∷ ws) (named b ∷ vs) h = absurd h
same-values R (named a ∷ ws) (number b ∷ vs) h = absurd h
same-values R (named a ∷ ws) (named b ∷ vs) h = ap (λ l. 0 ∷ l) (same-values R ws vs h.1)

-- locals that were named so far are related, at the same places
abbrev Seen : (ℕ → ℕ → Bool) → List (ℕ × ℕ) → List (ℕ × ℕ) → Type 0
Seen R [] [] = Unit {0}
Seen R (x ∷ xs) (y ∷ ys) = (R x.0 y.0 ≡ true) × (x.1 ≡ y.1) × Seen R xs ys
Seen R xs ys = ⊥

-- tests of related locals come out alike
same-test : (R : ℕ → ℕ → Bool) → IsOneToOne R → (a b c d : ℕ) → R a b ≡ true → R c d ≡ true → nat_eq a c ≡ nat_eq b d
same-test R one a b c d h k = both (nat_eq a c) (nat_eq b d) refl refl where
  both : (x y : Bool) → nat_eq a c ≡ x → nat_eq b d ≡ y → nat_eq a c ≡ nat_eq b d
  both true y e f = e ∙ sym (eq-eqb b d ((one a b c d h k).0 (eqb-true a c e)))
  both false true e f = eq-eqb a c ((one a b c d h k).1 (eqb-true b d f)) ∙ sym f
  both false false e f = e ∙ sym f

same-place : (R : ℕ → ℕ → Bool) → IsOneToOne R → (xs ys : List (ℕ × ℕ)) (a b : ℕ) → Seen R xs ys → R a b ≡ true → place_before xs a ≡ place_before ys b
same-place R one [] [] a b s h = refl
same-place R one [] (y ∷ ys) a b s h = absurd s
same-place R one (x ∷ xs) [] a b s h = absurd s
same-place R one (x ∷ xs) (y ∷ ys) a b s h =
    ap (λ t. if t then Some x.1 else place_before xs a) (same-test R one x.0 y.0 a b s.0 h)
    ∙ ap (λ p. if nat_eq y.0 b then Some p else place_before xs a) s.1
    ∙ ap (λ o. if nat_eq y.0 b then Some y.1 else o) (same-place R one xs ys a b s.2 h)

same-terms : (R : ℕ → ℕ → Bool) → IsOneToOne R → (xs ys : List (ℕ × ℕ)) (p : ℕ) (ws vs : List Word) → Seen R xs ys → AreAlike R ws vs → terms_from xs p ws ≡ terms_from ys p vs
same-terms R one xs ys p [] [] s h = refl
same-terms R one xs ys p [] (number b ∷ vs) s h = absurd h
same-terms R one xs ys p [] (named b ∷ vs) s h = absurd h
same-terms R one xs ys p (number a ∷ ws) [] s h = absurd h
same-terms R one xs ys p (named a ∷ ws) [] s h = absurd h
same-terms R one xs ys p (number a ∷ ws) (number b ∷ vs) s h = same-terms R one xs ys (suc p) ws vs s h.1
same-terms R one xs ys p (number a ∷ ws) (named b ∷ vs) s h = absurd h
same-terms R one xs ys p (named a ∷ ws) (number b ∷ vs) s h = absurd h
same-terms R one xs ys p (named a ∷ ws) (named b ∷ vs) s h =
    ap (λ o. (term p o + terms_from ((a, p) ∷ xs) (suc p) ws) % 2 ^ 64) (same-place R one xs ys a b s h.0)
    ∙ ap (λ t. (term p (place_before ys b) + t) % 2 ^ 64) (same-terms R one ((a, p) ∷ xs) ((b, p) ∷ ys) (suc p) ws vs (h.0, refl, s) h.1)

pub same-number : (R : ℕ → ℕ → Bool) → IsOneToOne R → (ws vs : List Word) → AreAlike R ws vs → words_hash ws ≡ words_hash vs
same-number R one ws vs h =
    ap (λ l. mix (fold l) (terms_from [] 1 ws)) (same-values R ws vs h)
    ∙ ap (λ t. mix (fold (map word_value vs)) t) (same-terms R one [] [] 1 ws vs tt h)
