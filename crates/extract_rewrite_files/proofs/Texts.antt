-- Parts of a file's characters.
use Rattle.std.proofs.Common.{◌≡◌, ℕ, true, not, ◌&&◌, ◌==◌, List, [], ◌∷◌, ◌++◌, refl, subst}
use Rattle.std.specs.List.{list_all}
use Rattle.std.specs.Str.{all_scalars}
use Rattle.std.proofs.lemmas.Bool.{and_parts}
use Rattle.go_tokens.specs.Encoding.{IsText, are_allowed, is_plain}

scalars_first : (xs ys : List ℕ) → all_scalars (xs ++ ys) ≡ true → all_scalars xs ≡ true
scalars_first [] ys h = refl
scalars_first (x ∷ xs) ys h = let b = and_parts _ (all_scalars (xs ++ ys)) h in (λ j. b.0 j && scalars_first xs ys b.1 j)

scalars_second : (xs ys : List ℕ) → all_scalars (xs ++ ys) ≡ true → all_scalars ys ≡ true
scalars_second [] ys h = h
scalars_second (x ∷ xs) ys h = scalars_second xs ys (and_parts _ (all_scalars (xs ++ ys)) h).1

plain_first : (xs ys : List ℕ) → list_all is_plain (xs ++ ys) ≡ true → list_all is_plain xs ≡ true
plain_first [] ys h = refl
plain_first (x ∷ xs) ys h = let b = and_parts (is_plain x) (list_all is_plain (xs ++ ys)) h in (λ j. b.0 j && plain_first xs ys b.1 j)

plain_second : (xs ys : List ℕ) → list_all is_plain (xs ++ ys) ≡ true → list_all is_plain ys ≡ true
plain_second [] ys h = h
plain_second (x ∷ xs) ys h = plain_second xs ys (and_parts (is_plain x) (list_all is_plain (xs ++ ys)) h).1

-- characters of a text that aren't its first ones
pub record IsInner (inner : List ℕ) : Type 0 where
  pub scalars : all_scalars inner ≡ true
  pub plain : list_all is_plain inner ≡ true

pub inner_of : (text bytes before inner behind : List ℕ) → IsText text bytes → text ≡ before ++ (inner ++ behind) → (before ≡ [] → ⊥) → IsInner inner
inner_of text bytes [] inner behind t e n = absurd (n refl)
inner_of text bytes (x ∷ before) inner behind t e n =
    let s = subst (λ y. all_scalars y ≡ true) e t.scalars in
    let a = subst (λ y. are_allowed y ≡ true) e t.allowed in
    record {
      scalars = scalars_first inner behind (scalars_second (x ∷ before) (inner ++ behind) s);
      plain = plain_first inner behind (plain_second before (inner ++ behind) (and_parts (not (x == 0)) (list_all is_plain (before ++ (inner ++ behind))) a).1);
    }
