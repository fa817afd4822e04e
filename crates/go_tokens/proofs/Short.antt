-- A word of one letter is no keyword.
use Rattle.std.proofs.Common.{◌≡◌, ℕ, ◌≤◌, ◌<◌, Bool, true, false, ◌&&◌, List, [], ◌∷◌, Some, None, refl, sym, ap, ◌∙◌, arith}
use Rattle.std.specs.Prelude.{if◌then◌else◌, unwrap_or, length, ◌==◌}
use Rattle.go_tokens.specs.declared.token.TokenKind.{TokenKind}
use Rattle.go_tokens.specs.declared.token.TokenKind.TheVariants.{Identifier}
use Rattle.go_tokens.specs.Spellings.{same_text, spelled, keywords, word_kind}

abbrev IsLong : List ℕ → Type 0
IsLong [] = ⊥
IsLong (x ∷ []) = ⊥
IsLong (x ∷ y ∷ s) = Unit

abbrev AreLong : List (List ℕ × TokenKind) → Type 0
AreLong [] = Unit
AreLong (s ∷ rest) = IsLong s.0 × AreLong rest

and_false : (b : Bool) → b && false ≡ false
and_false true = refl
and_false false = refl

differs : (s : List ℕ) (c : ℕ) → IsLong s → same_text s (c ∷ []) ≡ false
differs [] c h = absurd h
differs (x ∷ []) c h = absurd h
differs (x ∷ y ∷ s) c h = and_false (x == c)

none_spelled : (table : List (List ℕ × TokenKind)) (c : ℕ) → AreLong table → spelled table (c ∷ []) ≡ None
none_spelled [] c h = refl
none_spelled (s ∷ rest) c h = ap (λ b. if b then Some s.1 else spelled rest (c ∷ [])) (differs s.0 c h.0) ∙ none_spelled rest c h.1

keywords_long : AreLong keywords
unfolding keywords
keywords_long = search

pub one_letter : (w : List ℕ) → 1 ≤ length w → length w < 2 → Identifier ≡ word_kind w
one_letter [] h l = absurd (omega (arith, h))
one_letter (c ∷ []) h l = sym (ap (λ o. unwrap_or o Identifier) (none_spelled keywords c keywords_long))
one_letter (c ∷ d ∷ w) h l = absurd (omega (arith, l))
