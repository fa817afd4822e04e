-- What buckets hold behind windows that come in.
use Rattle.std.proofs.Common.{◌≡◌, ◌∙◌, ℕ, suc, Bool, true, false, List, [], ◌∷◌, ◌++◌, map, refl, sym, ap, subst}
use Rattle.std.specs.Prelude.{if◌then◌else◌, nat_eq}
use Rattle.std.specs.List.{flat_map}
use Rattle.std.specs.List.Sorted.{IsPermutation}
use Rattle.std.proofs.lemmas.Bool.{eqb-true}
use Rattle.std.proofs.lemmas.List.{append_assoc, append-nil, map-append}
use Rattle.std.proofs.lemmas.List.Sorted.{IsPermutation-refl, IsPermutation-trans, IsPermutation-append_left, IsPermutation-append_right, IsPermutation-append_comm}
use Rattle.go_typed.specs.declared.window.Window.{Window}
use Rattle.window_index.specs.Buckets.{Bucket, all_entered, entered, held, held_under, joined, leads}

-- what stands behind two lists may stand between them
shift : {A : Type 0} (us rs : List A) (x : A) → IsPermutation ((us ++ rs) ++ x ∷ []) ((us ++ x ∷ []) ++ rs)
shift us rs x =
    subst (λ l. IsPermutation l ((us ++ x ∷ []) ++ rs)) (sym (append_assoc us rs (x ∷ [])))
    (subst (λ l. IsPermutation (us ++ (rs ++ x ∷ [])) l) (sym (append_assoc us (x ∷ []) rs))
    (IsPermutation-append_right us (rs ++ x ∷ []) (x ∷ rs) (IsPermutation-append_comm rs (x ∷ []))))

held-joined : (same : Window → Window → Bool) (w : Window) (h : ℕ) (gs : List (List Window)) → IsPermutation (held_under (h, gs) ++ (w, h) ∷ []) (held_under (h, joined same w gs))
held-joined same w h [] = IsPermutation-refl ((w, h) ∷ [])
held-joined same w h (g ∷ gs) = by (leads same w g) (held-joined same w h gs) where
  tag : Window → Window × ℕ
  tag v = (v, h)

  by : (b : Bool) → IsPermutation (held_under (h, gs) ++ (w, h) ∷ []) (held_under (h, joined same w gs)) → IsPermutation ((map tag g ++ held_under (h, gs)) ++ (w, h) ∷ []) (held_under (h, if b then (g ++ w ∷ []) ∷ gs else g ∷ joined same w gs))
  by true r = subst (λ l. IsPermutation ((map tag g ++ held_under (h, gs)) ++ (w, h) ∷ []) (l ++ held_under (h, gs))) (sym (map-append tag g (w ∷ []))) (shift (map tag g) (held_under (h, gs)) (w, h))
  by false r =
      subst (λ l. IsPermutation l (map tag g ++ held_under (h, joined same w gs))) (sym (append_assoc (map tag g) (held_under (h, gs)) ((w, h) ∷ [])))
      (IsPermutation-append_right (map tag g) (held_under (h, gs) ++ (w, h) ∷ []) (held_under (h, joined same w gs)) r)

pub held-entered : (same : Window → Window → Bool) (x : Window × ℕ) (bs : List Bucket) → IsPermutation (held bs ++ x ∷ []) (held (entered same x bs))
held-entered same x [] = IsPermutation-refl (x ∷ [])
held-entered same x (b ∷ bs) = by (nat_eq x.1 b.0) refl (held-entered same x bs) where
  by : (t : Bool) → nat_eq x.1 b.0 ≡ t → IsPermutation (held bs ++ x ∷ []) (held (entered same x bs)) → IsPermutation ((held_under b ++ held bs) ++ x ∷ []) (held (if t then (b.0, joined same x.0 b.1) ∷ bs else b ∷ entered same x bs))
  by true e r =
      let under : IsPermutation (held_under b ++ x ∷ []) (held_under (b.0, joined same x.0 b.1)) =
      subst (λ h. IsPermutation (held_under b ++ (x.0, h) ∷ []) (held_under (b.0, joined same x.0 b.1))) (sym (eqb-true x.1 b.0 e)) (held-joined same x.0 b.0 b.1) in
      IsPermutation-trans ((held_under b ++ held bs) ++ x ∷ []) ((held_under b ++ x ∷ []) ++ held bs) (held_under (b.0, joined same x.0 b.1) ++ held bs)
      (shift (held_under b) (held bs) x)
      (IsPermutation-append_left (held bs) (held_under b ++ x ∷ []) (held_under (b.0, joined same x.0 b.1)) under)
  by false e r =
      subst (λ l. IsPermutation l (held_under b ++ held (entered same x bs))) (sym (append_assoc (held_under b) (held bs) (x ∷ [])))
      (IsPermutation-append_right (held_under b) (held bs ++ x ∷ []) (held (entered same x bs)) r)

-- what was held, and the windows that come in
pub held-all-entered : (same : Window → Window → Bool) (xs : List (Window × ℕ)) (bs : List Bucket) → IsPermutation (held bs ++ xs) (held (all_entered same xs bs))
held-all-entered same [] bs = subst (λ l. IsPermutation l (held bs)) (sym (append-nil (held bs))) (IsPermutation-refl (held bs))
held-all-entered same (x ∷ xs) bs =
    subst (λ l. IsPermutation l (held (all_entered same xs (entered same x bs)))) (append_assoc (held bs) (x ∷ []) xs)
    (IsPermutation-trans ((held bs ++ x ∷ []) ++ xs) (held (entered same x bs) ++ xs) (held (all_entered same xs (entered same x bs)))
    (IsPermutation-append_left xs (held bs ++ x ∷ []) (held (entered same x bs)) (held-entered same x bs))
    (held-all-entered same xs (entered same x bs)))
