-- Buckets that fit windows fit them behind windows that come in and go.
use Rattle.std.proofs.Common.{◌≡◌, ◌∙◌, ℕ, suc, Bool, true, false, List, [], ◌∷◌, ◌++◌, map, refl, sym, ap, subst}
use Rattle.std.specs.Prelude.{if◌then◌else◌, nat_eq, not}
use Rattle.std.specs.List.{AllByRecursion, All, filter}
use Rattle.std.specs.List.Sorted.{IsPermutation}
use Rattle.std.proofs.lemmas.Bool.{eqb-true, eq-eqb}
use Rattle.std.proofs.lemmas.List.Elements.{All-from_recursion, recursion_from_All, All-append}
use Rattle.std.proofs.lemmas.List.Sorted.{All-permutation}
use Rattle.go_typed.specs.declared.window.Window.{Window}
use Rattle.clone_classes.specs.Classes.{Among, IsEquivalent}
use Rattle.window_index.specs.Buckets.{Bucket, all_entered, bucket_if_left, entered, held, held_under, if_left, is_of, is_some_left, joined, leads, left, others_in, without}
use Rattle.window_index.specs.Fitting.{AreDistinct, AreGroups, Fits, IsApart, IsGroup}
use Rattle.window_index.proofs.Entering.{held-entered}

-- what holds of all that was held and of a window holds of all that is held then
held-has : (P : Window × ℕ → Type 0) (same : Window → Window → Bool) (x : Window × ℕ) (bs : List Bucket) → AllByRecursion P (held bs) → P x → AllByRecursion P (held (entered same x bs))
held-has P same x bs h p =
    recursion_from_All P (held (entered same x bs))
    (All-permutation P (held bs ++ x ∷ []) (held (entered same x bs)) (held-entered same x bs)
    (All-append P (held bs) (x ∷ []) (All-from_recursion P (held bs) h) (All-from_recursion P (x ∷ []) (p, tt))))

-- ---- groups

group-more : (same : Window → Window → Bool) (v : Window) (ws : List Window) (w : Window) → AllByRecursion (λ x. same v x ≡ true) ws → same v w ≡ true → AllByRecursion (λ x. same v x ≡ true) (ws ++ w ∷ [])
group-more same v [] w h e = (e, tt)
group-more same v (x ∷ ws) w h e = (h.0, group-more same v ws w h.1 e)

grown : (same : Window → Window → Bool) → IsEquivalent same → (w : Window) (g : List Window) → IsGroup same g → leads same w g ≡ true → IsGroup same (g ++ w ∷ [])
grown same eq w [] i e = absurd i
grown same eq w (v ∷ vs) i e = group-more same v vs w i (eq.symmetric w v e)

apart-grown : (same : Window → Window → Bool) (w : Window) (g : List Window) (gs : List (List Window)) → IsGroup same g → IsApart same g gs → IsApart same (g ++ w ∷ []) gs
apart-grown same w [] gs i a = absurd i
apart-grown same w (v ∷ vs) gs i a = a

-- the first member of a group is the same as no window that a joined window would lead
heads-joined : (same : Window → Window → Bool) (v w : Window) (gs : List (List Window)) → same v w ≡ false → AllByRecursion (λ g. leads same v g ≡ false) gs → AllByRecursion (λ g. leads same v g ≡ false) (joined same w gs)
heads-joined same v w [] e a = (e, tt)
heads-joined same v w (g ∷ gs) e a = by (leads same w g) (heads-joined same v w gs e a.1) where
  same-head : (g : List Window) → leads same v g ≡ false → leads same v (g ++ w ∷ []) ≡ false
  same-head [] h = e
  same-head (x ∷ xs) h = h

  by : (b : Bool) → AllByRecursion (λ g. leads same v g ≡ false) (joined same w gs) → AllByRecursion (λ g. leads same v g ≡ false) (if b then (g ++ w ∷ []) ∷ gs else g ∷ joined same w gs)
  by true r = (same-head g a.0, a.1)
  by false r = (a.0, r)

turned-false : (same : Window → Window → Bool) → IsEquivalent same → (v w : Window) (b : Bool) → same v w ≡ b → same w v ≡ false → same v w ≡ false
turned-false same eq v w true s e = let t : same w v ≡ true = eq.symmetric v w s in cc
turned-false same eq v w false s e = s

apart-joined : (same : Window → Window → Bool) → IsEquivalent same → (w : Window) (g : List Window) (gs : List (List Window)) → leads same w g ≡ false → IsGroup same g → IsApart same g gs → IsApart same g (joined same w gs)
apart-joined same eq w [] gs e i a = absurd i
apart-joined same eq w (v ∷ vs) gs e i a = heads-joined same v w gs (turned-false same eq v w (same v w) refl e) a

groups-joined : (same : Window → Window → Bool) → IsEquivalent same → (w : Window) (gs : List (List Window)) → AreGroups same gs → AreGroups same (joined same w gs)
groups-joined same eq w [] a = (tt, tt, tt)
groups-joined same eq w (g ∷ gs) a = by (leads same w g) refl (groups-joined same eq w gs a.2) where
  by : (b : Bool) → leads same w g ≡ b → AreGroups same (joined same w gs) → AreGroups same (if b then (g ++ w ∷ []) ∷ gs else g ∷ joined same w gs)
  by true e r = (grown same eq w g a.0 e, apart-grown same w g gs a.0 a.1, a.2)
  by false e r = (a.0, apart-joined same eq w g gs e a.0 a.1, r)

-- ---- buckets

some-joined : (same : Window → Window → Bool) (w : Window) (gs : List (List Window)) → is_some_left (joined same w gs) ≡ true
some-joined same w [] = refl
some-joined same w (g ∷ gs) = by (leads same w g) where
  by : (b : Bool) → is_some_left (if b then (g ++ w ∷ []) ∷ gs else g ∷ joined same w gs) ≡ true
  by true = refl
  by false = refl

each-entered : (P : Bucket → Type 0) (same : Window → Window → Bool) (x : Window × ℕ) (bs : List Bucket) → ((b : Bucket) → P b → P (b.0, joined same x.0 b.1)) →
    P (x.1, (x.0 ∷ []) ∷ []) → AllByRecursion P bs → AllByRecursion P (entered same x bs)
each-entered P same x [] f n h = (n, tt)
each-entered P same x (b ∷ bs) f n h = by (nat_eq x.1 b.0) (each-entered P same x bs f n h.1) where
  by : (t : Bool) → AllByRecursion P (entered same x bs) → AllByRecursion P (if t then (b.0, joined same x.0 b.1) ∷ bs else b ∷ entered same x bs)
  by true r = (f b h.0, h.1)
  by false r = (h.0, r)

distinct-entered : (same : Window → Window → Bool) (x : Window × ℕ) (bs : List Bucket) → AreDistinct bs → AreDistinct (entered same x bs)
distinct-entered same x [] d = (tt, tt)
distinct-entered same x (b ∷ bs) d = by (nat_eq x.1 b.0) refl (distinct-entered same x bs d.1) where
  by : (t : Bool) → nat_eq x.1 b.0 ≡ t → AreDistinct (entered same x bs) → AreDistinct (if t then (b.0, joined same x.0 b.1) ∷ bs else b ∷ entered same x bs)
  by true e r = d
  by false e r = (each-entered (λ c. nat_eq c.0 b.0 ≡ false) same x bs (λ c h. h) e d.0, r)

pub fits-entered : (number : Window → ℕ) (same : Window → Window → Bool) (windows : List Window) (x : Window × ℕ) (bs : List Bucket) → IsEquivalent same → Fits number same windows bs →
    Among windows x.0 → x.1 ≡ number x.0 → Fits number same windows (entered same x bs)
fits-entered number same windows x bs eq f a n = record {
  known = held-has (λ y. Among windows y.0) same x bs f.known a;
  numbers = held-has (λ y. y.1 ≡ number y.0) same x bs f.numbers n;
  filled = each-entered (λ b. is_some_left b.1 ≡ true) same x bs (λ b h. some-joined same x.0 b.1) refl f.filled;
  groups = each-entered (λ b. AreGroups same b.1) same x bs (λ b h. groups-joined same eq x.0 b.1 h) (tt, tt, tt) f.groups;
  distinct = distinct-entered same x bs f.distinct;
}

-- windows with their numbers come in
pub fits-all-entered : (number : Window → ℕ) (same : Window → Window → Bool) (windows : List Window) (ws : List Window) (bs : List Bucket) → IsEquivalent same → Fits number same windows bs →
    AllByRecursion (Among windows) ws → Fits number same windows (all_entered same (map (λ w. (w, number w)) ws) bs)
fits-all-entered number same windows [] bs eq f a = f
fits-all-entered number same windows (w ∷ ws) bs eq f a =
    fits-all-entered number same windows ws (entered same (w, number w) bs) eq (fits-entered number same windows (w, number w) bs eq f a.0 refl) a.1
