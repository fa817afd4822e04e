-- Buckets fit windows behind windows that go.
use Rattle.std.proofs.Common.{◌≡◌, ◌∙◌, ℕ, Bool, true, false, List, [], ◌∷◌, ◌++◌, map, refl, sym, ap}
use Rattle.std.specs.Prelude.{if◌then◌else◌, nat_eq, not}
use Rattle.std.specs.List.{AllByRecursion}
use Rattle.go_typed.specs.declared.window.Window.{Window}
use Rattle.clone_classes.specs.Classes.{Among, IsEquivalent}
use Rattle.window_index.specs.Buckets.{Bucket, bucket_if_left, held, held_under, if_left, is_of, is_some_left, leads, left, others_in, without}
use Rattle.window_index.specs.Fitting.{AreDistinct, AreGroups, Fits, IsApart, IsGroup}

all-weaker : {A : Type 0} (P Q : A → Type 0) → ((x : A) → P x → Q x) → (xs : List A) → AllByRecursion P xs → AllByRecursion Q xs
all-weaker P Q f [] h = tt
all-weaker P Q f (x ∷ xs) h = (f x h.0, all-weaker P Q f xs h.1)

all-both : {A : Type 0} (P : A → Type 0) (xs ys : List A) → AllByRecursion P xs → AllByRecursion P ys → AllByRecursion P (xs ++ ys)
all-both P [] ys h k = k
all-both P (x ∷ xs) ys h k = (h.0, all-both P xs ys h.1 k)

parts-of : {A : Type 0} (P : A → Type 0) (xs ys : List A) → AllByRecursion P (xs ++ ys) → AllByRecursion P xs × AllByRecursion P ys
parts-of P [] ys h = (tt, h)
parts-of P (x ∷ xs) ys h = let r = parts-of P xs ys h.1 in ((h.0, r.0), r.1)

-- ---- one group

-- what holds of all windows holds of those that stay
others-have : (P : Window → Type 0) (func : ℕ) (g : List Window) → AllByRecursion P g → AllByRecursion P (others_in func g)
others-have P func [] h = tt
others-have P func (w ∷ ws) h = by (not (is_of func w)) (others-have P func ws h.1) where
  by : (b : Bool) → AllByRecursion P (others_in func ws) → AllByRecursion P (if b then w ∷ others_in func ws else others_in func ws)
  by true r = (h.0, r)
  by false r = r

-- each member of a group leads where the first one does
all-led : (same : Window → Window → Bool) → IsEquivalent same → (k : List Window) → IsGroup same k → AllByRecursion (λ x. leads same x k ≡ true) k
all-led same eq [] i = absurd i
all-led same eq (u ∷ us) i = (eq.reflexive u, all-weaker (λ x. same u x ≡ true) (λ x. same x u ≡ true) (λ x h. eq.symmetric u x h) us i)

both-led : (same : Window → Window → Bool) → IsEquivalent same → (v x : Window) (g : List Window) → leads same v g ≡ true → leads same x g ≡ true → same v x ≡ true
both-led same eq v x [] a b = cc
both-led same eq v x (u ∷ us) a b = eq.transitive v u x a (eq.symmetric x u b)

-- windows that lead one group are a group
led-group : (same : Window → Window → Bool) → IsEquivalent same → (g : List Window) (v : Window) (vs : List Window) → AllByRecursion (λ x. leads same x g ≡ true) (v ∷ vs) → IsGroup same (v ∷ vs)
led-group same eq g v vs h = all-weaker (λ x. leads same x g ≡ true) (λ x. same v x ≡ true) (λ x k. both-led same eq v x g h.0 k) vs h.1

-- ---- two groups

leads-both : (same : Window → Window → Bool) → IsEquivalent same → (v x : Window) (k : List Window) → same v x ≡ true → leads same x k ≡ true → leads same v k ≡ true
leads-both same eq v x [] s l = cc
leads-both same eq v x (u ∷ us) s l = eq.transitive v x u s l

-- a window that leads no group is the same as no member of it
not-same : (same : Window → Window → Bool) → IsEquivalent same → (v x : Window) (k : List Window) → leads same x k ≡ true → leads same v k ≡ false → same v x ≡ false
not-same same eq v x k l n = by (same v x) refl where
  by : (b : Bool) → same v x ≡ b → same v x ≡ false
  by true s = let t : leads same v k ≡ true = leads-both same eq v x k s l in cc
  by false s = s

-- a window leads a group where one that is the same does
leads-not : (same : Window → Window → Bool) → IsEquivalent same → (w v : Window) (k : List Window) → same v w ≡ true → leads same w k ≡ false → leads same v k ≡ false
leads-not same eq w v k e n = by (leads same v k) refl where
  by : (b : Bool) → leads same v k ≡ b → leads same v k ≡ false
  by true s = let t : leads same w k ≡ true = leads-both same eq w v k (eq.symmetric v w e) s in cc
  by false s = s

apart-left : (same : Window → Window → Bool) → IsEquivalent same → (func : ℕ) (w v : Window) → same v w ≡ true → (ks : List (List Window)) → AreGroups same ks →
    AllByRecursion (λ k. leads same w k ≡ false) ks → AllByRecursion (λ k. leads same v k ≡ false) (without func ks)
apart-left same eq func w v e [] a n = tt
apart-left same eq func w v e (k ∷ ks) a n = by (others_in func k) (others-have (λ x. leads same x k ≡ true) func k (all-led same eq k a.0)) (apart-left same eq func w v e ks a.2 n.1) where
  by : (l : List Window) → AllByRecursion (λ x. leads same x k ≡ true) l → AllByRecursion (λ k. leads same v k ≡ false) (without func ks) → AllByRecursion (λ k. leads same v k ≡ false) (if_left l (without func ks))
  by [] h r = r
  by (x ∷ xs) h r = (not-same same eq v x k h.0 (leads-not same eq w v k e n.0), r)

-- the groups that stay are apart from what stays of a group in front of them
still-apart : (same : Window → Window → Bool) → IsEquivalent same → (func : ℕ) (g : List Window) (v : Window) (vs : List Window) (ks : List (List Window)) → leads same v g ≡ true → AreGroups same ks →
    IsApart same g ks → IsApart same (v ∷ vs) (without func ks)
still-apart same eq func [] v vs ks l a n = cc
still-apart same eq func (w ∷ ws) v vs ks l a n = apart-left same eq func w v l ks a n

groups-left : (same : Window → Window → Bool) → IsEquivalent same → (func : ℕ) (gs : List (List Window)) → AreGroups same gs → AreGroups same (without func gs)
groups-left same eq func [] a = tt
groups-left same eq func (g ∷ gs) a = by (others_in func g) (others-have (λ x. leads same x g ≡ true) func g (all-led same eq g a.0)) (groups-left same eq func gs a.2) where
  by : (l : List Window) → AllByRecursion (λ x. leads same x g ≡ true) l → AreGroups same (without func gs) → AreGroups same (if_left l (without func gs))
  by [] h r = r
  by (v ∷ vs) h r = (led-group same eq g v vs h, still-apart same eq func g v vs gs h.0 a.2 a.1, r)

-- ---- buckets

others-tagged : (P : Window × ℕ → Type 0) (func h : ℕ) (g : List Window) → AllByRecursion P (map (λ w. (w, h)) g) → AllByRecursion P (map (λ w. (w, h)) (others_in func g))
others-tagged P func h [] a = tt
others-tagged P func h (w ∷ ws) a = by (not (is_of func w)) (others-tagged P func h ws a.1) where
  by : (b : Bool) → AllByRecursion P (map (λ w. (w, h)) (others_in func ws)) → AllByRecursion P (map (λ w. (w, h)) (if b then w ∷ others_in func ws else others_in func ws))
  by true r = (a.0, r)
  by false r = r

bucket-has : (P : Window × ℕ → Type 0) (func h : ℕ) (gs : List (List Window)) → AllByRecursion P (held_under (h, gs)) → AllByRecursion P (held_under (h, without func gs))
bucket-has P func h [] a = tt
bucket-has P func h (g ∷ gs) a =
    let p = parts-of P (map (λ w. (w, h)) g) (held_under (h, gs)) a in
    by (others_in func g) (others-tagged P func h g p.0) (bucket-has P func h gs p.1) where
      by : (l : List Window) → AllByRecursion P (map (λ w. (w, h)) l) → AllByRecursion P (held_under (h, without func gs)) → AllByRecursion P (held_under (h, if_left l (without func gs)))
      by [] k r = r
      by (w ∷ ws) k r = all-both P (map (λ w. (w, h)) (w ∷ ws)) (held_under (h, without func gs)) k r

held-left : (P : Window × ℕ → Type 0) (func : ℕ) (bs : List Bucket) → AllByRecursion P (held bs) → AllByRecursion P (held (left func bs))
held-left P func [] a = tt
held-left P func (b ∷ bs) a =
    let p = parts-of P (held_under b) (held bs) a in
    by (without func b.1) (bucket-has P func b.0 b.1 p.0) (held-left P func bs p.1) where
      by : (gs : List (List Window)) → AllByRecursion P (held_under (b.0, gs)) → AllByRecursion P (held (left func bs)) → AllByRecursion P (held (bucket_if_left b.0 gs (left func bs)))
      by [] k r = r
      by (g ∷ gs) k r = all-both P (held_under (b.0, g ∷ gs)) (held (left func bs)) k r

each-left : (P : Bucket → Type 0) (func : ℕ) (bs : List Bucket) → ((b : Bucket) → P b → P (b.0, without func b.1)) → AllByRecursion P bs → AllByRecursion P (left func bs)
each-left P func [] f a = tt
each-left P func (b ∷ bs) f a = by (without func b.1) (f b a.0) (each-left P func bs f a.1) where
  by : (gs : List (List Window)) → P (b.0, gs) → AllByRecursion P (left func bs) → AllByRecursion P (bucket_if_left b.0 gs (left func bs))
  by [] k r = r
  by (g ∷ gs) k r = (k, r)

filled-left : (func : ℕ) (bs : List Bucket) → AllByRecursion (λ b. is_some_left b.1 ≡ true) (left func bs)
filled-left func [] = tt
filled-left func (b ∷ bs) = by (without func b.1) (filled-left func bs) where
  by : (gs : List (List Window)) → AllByRecursion (λ b. is_some_left b.1 ≡ true) (left func bs) → AllByRecursion (λ b. is_some_left b.1 ≡ true) (bucket_if_left b.0 gs (left func bs))
  by [] r = r
  by (g ∷ gs) r = (refl, r)

distinct-left : (func : ℕ) (bs : List Bucket) → AreDistinct bs → AreDistinct (left func bs)
distinct-left func [] d = tt
distinct-left func (b ∷ bs) d = by (without func b.1) (each-left (λ c. nat_eq c.0 b.0 ≡ false) func bs (λ c h. h) d.0) (distinct-left func bs d.1) where
  by : (gs : List (List Window)) → AllByRecursion (λ c. nat_eq c.0 b.0 ≡ false) (left func bs) → AreDistinct (left func bs) → AreDistinct (bucket_if_left b.0 gs (left func bs))
  by [] k r = r
  by (g ∷ gs) k r = (k, r)

pub fits-left : (number : Window → ℕ) (same : Window → Window → Bool) (windows : List Window) (func : ℕ) (bs : List Bucket) → IsEquivalent same → Fits number same windows bs → Fits number same windows (left func bs)
fits-left number same windows func bs eq f = record {
  known = held-left (λ x. Among windows x.0) func bs f.known;
  numbers = held-left (λ x. x.1 ≡ number x.0) func bs f.numbers;
  filled = filled-left func bs;
  groups = each-left (λ b. AreGroups same b.1) func bs (λ b h. groups-left same eq func b.1 h) f.groups;
  distinct = distinct-left func bs f.distinct;
}
