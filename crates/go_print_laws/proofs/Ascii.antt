-- Characters of ASCII are their own bytes.
use Rattle.std.proofs.Common.{◌≡◌, ℕ, ◌<◌, ◌≤◌, Bool, true, ◌&&◌, nat_lt, nat_le, List, [], ◌∷◌, ◌++◌, refl, ap, ◌∙◌, arith}
use Rattle.std.specs.List.{list_all}
use Rattle.std.specs.Str.{encode_utf8_all, all_scalars}
use Rattle.std.proofs.lemmas.Str.{encode_ascii}
use Rattle.std.proofs.lemmas.Bool.Decides.{nat_tests}
use lib.Utf8.{low_scalar}
use Rattle.go_tokens.specs.Encoding.{is_plain}
use Rattle.go_tokens.proofs.Public.{both, and_both}

-- a character of ASCII that isn't NUL
abbrev pub is_ascii : ℕ → Bool
is_ascii x = nat_le 1 x && nat_lt x 128

low : (x : ℕ) → is_ascii x ≡ true → (1 ≤ x) × (x < 128)
low x h = let b = both (nat_le 1 x) _ h in let c = b.0 in let d = b.1 in (grind (arith, nat_tests), grind (arith, nat_tests))

plain_one : (x : ℕ) → is_ascii x ≡ true → is_plain x ≡ true
plain_one x h = let l = low x h in let a = l.0 in let b = l.1 in grind (arith, nat_tests)

pub ascii_scalars : (xs : List ℕ) → list_all is_ascii xs ≡ true → all_scalars xs ≡ true
ascii_scalars [] h = refl
ascii_scalars (x ∷ xs) h =
    let b = both (is_ascii x) _ h in
    let l = (low x b.0).1 in
    and_both _ _ (low_scalar x (omega arith)) (ascii_scalars xs b.1)

pub ascii_plain : (xs : List ℕ) → list_all is_ascii xs ≡ true → list_all is_plain xs ≡ true
ascii_plain [] h = refl
ascii_plain (x ∷ xs) h = let b = both (is_ascii x) _ h in and_both (is_plain x) _ (plain_one x b.0) (ascii_plain xs b.1)

pub ascii_encoded : (xs : List ℕ) → list_all is_ascii xs ≡ true → encode_utf8_all xs ≡ xs
ascii_encoded [] h = refl
ascii_encoded (x ∷ xs) h =
    let b = both (is_ascii x) _ h in
    ap (λ l. l ++ encode_utf8_all xs) (encode_ascii x (low x b.0).1) ∙ ap (λ l. x ∷ l) (ascii_encoded xs b.1)
