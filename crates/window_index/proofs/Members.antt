-- The windows that an index holds, without their numbers.
use Rattle.std.proofs.Common.{◌≡◌, ℕ, List, [], ◌∷◌, map, refl, ap, subst}
use Rattle.std.specs.List.Sorted.{IsPermutation}
use Rattle.std.proofs.lemmas.List.Sorted.{IsPermutation-map}
use Rattle.go_typed.specs.declared.window.Window.{Window}
use Rattle.alpha_hash_defs.specs.Sharing.{numbered}

unnumbered : (number : Window → ℕ) (ws : List Window) → map (λ (x : Window × ℕ). x.0) (numbered number ws) ≡ ws
unnumbered number [] = refl
unnumbered number (w ∷ ws) = ap (λ l. w ∷ l) (unnumbered number ws)

pub windows-held : (number : Window → ℕ) (ws : List Window) (xs : List (Window × ℕ)) → IsPermutation (numbered number ws) xs → IsPermutation ws (map (λ x. x.0) xs)
windows-held number ws xs h =
    subst (λ (l : List Window). IsPermutation l (map (λ (x : Window × ℕ). x.0) xs)) (unnumbered number ws) (IsPermutation-map (λ (x : Window × ℕ). x.0) (numbered number ws) xs h)
