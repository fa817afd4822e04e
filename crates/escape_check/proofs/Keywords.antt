-- Keywords by their spellings alone.
use Rattle.std.proofs.Common.{◌≡◌, ℕ, Bool, true, false, List, [], ◌∷◌, map, Some, refl}
use Rattle.std.specs.Prelude.{◌||◌, is_some, if◌then◌else◌}
use Rattle.go_tokens.specs.declared.token.TokenKind.{TokenKind}
use Rattle.go_tokens.specs.Spellings.{listed, same_text, spelled}

pub listed-spelled : (ks : List (List ℕ × TokenKind)) (w : List ℕ) → listed (map (λ k. k.0) ks) w ≡ is_some (spelled ks w)
listed-spelled [] w = refl
listed-spelled (k ∷ ks) w = by (same_text k.0 w) (listed-spelled ks w) where
  by : (b : Bool) → listed (map (λ j. j.0) ks) w ≡ is_some (spelled ks w) → (b || listed (map (λ j. j.0) ks) w) ≡ is_some (if b then Some k.1 else spelled ks w)
  by true r = refl
  by false r = r
