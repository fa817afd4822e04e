-- Shapes under their keys, as a map holds them.
use Rattle.std.proofs.Common.{◌≡◌, ℕ, zero, suc, List, [], ◌∷◌, ◌++◌, Some, map, refl, sym, ◌∙◌, ap, Bool, true, false, cond, nat_eq}
use Rattle.std.specs.Prelude.{slice_get, is_some, if◌then◌else◌}
use Rattle.std.specs.Cmp.Lexicographic.{pointwise, same_text, other_text}
use Rattle.std.specs.Map.{lookup}
use Rattle.indexmap.specs.IndexMap.{insert_entry}
use Rattle.go_types.specs.declared.shape.Shape.{Shape}
use Rattle.go_types.specs.Keys.{key}
use Rattle.go_types.proofs.ShapeKeys.{same_shape}

module _ {K : Type 0} (items : K → List ℕ) where
  -- each shape stands under its key
  abbrev pub AreKeyed : List (K × Shape) → Type 0
  AreKeyed es = map (λ e. items e.0) es ≡ map (λ e. key e.1) es

  -- whether a key is this one
  abbrev pub is_key : List ℕ → K → Bool
  is_key k x = pointwise nat_eq k (items x)

  abbrev IsAbsent : Shape → List (K × Shape) → Type 0
  IsAbsent s es = (j : ℕ) → slice_get (map (λ e. e.1) es) j ≡ Some s → ⊥

  keyed_head : (e : K × Shape) (es : List (K × Shape)) → AreKeyed (e ∷ es) → items e.0 ≡ key e.1
  keyed_head e es m = cc

  keyed_tail : (e : K × Shape) (es : List (K × Shape)) → AreKeyed (e ∷ es) → AreKeyed es
  keyed_tail e es m = cc

  -- the key of a shape is that of no other
  head_is : (s : Shape) (k : List ℕ) (e : K × Shape) → items e.0 ≡ key e.1 → k ≡ key s → is_key k e.0 ≡ true → e.1 ≡ s
  head_is s k e m is h = same_shape e.1 s ((sym m ∙ sym (same_text k (items e.0) (sym h))) ∙ is)

  head_is_not : (s : Shape) (k : List ℕ) (e : K × Shape) → items e.0 ≡ key e.1 → k ≡ key s → is_key k e.0 ≡ false → e.1 ≡ s → ⊥
  head_is_not s k e m is h same = other_text k (items e.0) (sym h) ((is ∙ ap key (sym same)) ∙ sym m)

  pub insert_last : (es : List (K × Shape)) (k : K) (s : Shape) → AreKeyed es → items k ≡ key s → IsAbsent s es → insert_entry (λ x y. is_key (items x) y) es k s ≡ es ++ (k, s) ∷ []
  insert_last [] k s m is absent = refl
  insert_last (e ∷ es) k s m is absent = by (is_key (items k) e.0) refl (insert_last es k s (keyed_tail e es m) is (λ j there. absent (suc j) there))
    where
      by : (b : Bool) → is_key (items k) e.0 ≡ b → insert_entry (λ x y. is_key (items x) y) es k s ≡ es ++ (k, s) ∷ [] → insert_entry (λ x y. is_key (items x) y) (e ∷ es) k s ≡ (e ∷ es) ++ (k, s) ∷ []
      by true h rest = absurd (absent zero (ap Some (head_is s (items k) e (keyed_head e es m) is h)))
      by false h rest = ap (λ b. if b then (e.0, s) ∷ es else e ∷ insert_entry (λ x y. is_key (items x) y) es k s) h ∙ ap (λ l. e ∷ l) rest

  pub not_found : (es : List (K × Shape)) (k : List ℕ) (s : Shape) → AreKeyed es → k ≡ key s → is_some (lookup (is_key k) es) ≡ false → IsAbsent s es
  not_found [] k s m is none j there = cc
  not_found (e ∷ es) k s m is none j there = by (is_key k e.0) refl j there (not_found es k s (keyed_tail e es m) is)
    where
      by : (b : Bool) → is_key k e.0 ≡ b → (i : ℕ) → slice_get (map (λ x. x.1) (e ∷ es)) i ≡ Some s → (is_some (lookup (is_key k) es) ≡ false → IsAbsent s es) → ⊥
      by true h i here rest = let found : true ≡ false = ap (λ b. is_some (cond b (Some e.1) (lookup (is_key k) es))) (sym h) ∙ none in cc
      by false h zero here rest = let same : e.1 ≡ s = cc in head_is_not s k e (keyed_head e es m) is h same
      by false h (suc i) here rest = rest (ap (λ b. is_some (cond b (Some e.1) (lookup (is_key k) es))) (sym h) ∙ none) i here

  pub found : (es : List (K × Shape)) (k : List ℕ) (s : Shape) → AreKeyed es → k ≡ key s → is_some (lookup (is_key k) es) ≡ true → lookup (is_key k) es ≡ Some s
  found [] k s m is some = cc
  found (e ∷ es) k s m is some = by (is_key k e.0) refl (found es k s (keyed_tail e es m) is)
    where
      by : (b : Bool) → is_key k e.0 ≡ b → (is_some (lookup (is_key k) es) ≡ true → lookup (is_key k) es ≡ Some s) → lookup (is_key k) (e ∷ es) ≡ Some s
      by true h rest = ap (λ b. cond b (Some e.1) (lookup (is_key k) es)) h ∙ ap Some (head_is s k e (keyed_head e es m) is h)
      by false h rest = ap (λ b. cond b (Some e.1) (lookup (is_key k) es)) h ∙ rest (ap (λ b. is_some (cond b (Some e.1) (lookup (is_key k) es))) (sym h) ∙ some)

  pub keyed_longer : (es : List (K × Shape)) (k : K) (s : Shape) → AreKeyed es → items k ≡ key s → AreKeyed (es ++ (k, s) ∷ [])
  keyed_longer [] k s m is = ap (λ x. x ∷ []) is
  keyed_longer (e ∷ es) k s m is =
      let head = keyed_head e es m in
      let tail = keyed_longer es k s (keyed_tail e es m) is in
      cc

  pub shapes_longer : (es : List (K × Shape)) (k : K) (s : Shape) → map (λ e. e.1) (es ++ (k, s) ∷ []) ≡ map (λ e. e.1) es ++ s ∷ []
  shapes_longer [] k s = refl
  shapes_longer (e ∷ es) k s = ap (λ l. e.1 ∷ l) (shapes_longer es k s)
