-- How the windows of a function go.
use Rattle.std.proofs.Common.{◌≡◌, ◌∙◌, ℕ, suc, Bool, true, false, cond, List, [], ◌∷◌, ◌++◌, map, filter, refl, sym, ap, subst}
use Rattle.std.specs.Prelude.{if◌then◌else◌, not, nat_eq}
use Rattle.std.specs.List.{AllByRecursion, flat_map}
use Rattle.std.specs.Map.Calls.{RetainsPairs}
use Rattle.std.proofs.lemmas.List.Elements.{filter-append}
use Rattle.std.proofs.lemmas.List.{append-nil}
use Rattle.go_typed.specs.declared.window.Window.{Window}
use Rattle.window_index.specs.Buckets.{Bucket, all_entered, bucket_if_left, entered, held, held_under, if_left, is_of, is_some_left, joined, leads, left, others_in, without}
use Rattle.window_index.specs.Fitting.{AreGroups, IsGroup}

-- ---- groups

pub without-is : (func : ℕ) (gs : List (List Window)) → filter is_some_left (map (others_in func) gs) ≡ without func gs
without-is func [] = refl
without-is func (g ∷ gs) = by (others_in func g) (without-is func gs) where
  by : (l : List Window) → filter is_some_left (map (others_in func) gs) ≡ without func gs → (if is_some_left l then l ∷ filter is_some_left (map (others_in func) gs) else filter is_some_left (map (others_in func) gs)) ≡ if_left l (without func gs)
  by [] h = h
  by (w ∷ ws) h = ap (λ r. (w ∷ ws) ∷ r) h

-- a window of the function goes again
own-gone : (func : ℕ) (w : Window) → is_of func w ≡ true → others_in func (w ∷ []) ≡ []
own-gone func w e = ap (λ b. if not b then w ∷ [] else []) e

others-more : (func : ℕ) (w : Window) (g : List Window) → is_of func w ≡ true → others_in func (g ++ w ∷ []) ≡ others_in func g
others-more func w g e = filter-append (λ v. not (is_of func v)) g (w ∷ []) ∙ ap (λ l. others_in func g ++ l) (own-gone func w e) ∙ append-nil (others_in func g)

without-joined : (same : Window → Window → Bool) (func : ℕ) (w : Window) (gs : List (List Window)) → is_of func w ≡ true → without func (joined same w gs) ≡ without func gs
without-joined same func w [] e = ap (λ l. if_left l []) (own-gone func w e)
without-joined same func w (g ∷ gs) e = by (leads same w g) (without-joined same func w gs e) where
  by : (b : Bool) → without func (joined same w gs) ≡ without func gs → without func (if b then (g ++ w ∷ []) ∷ gs else g ∷ joined same w gs) ≡ if_left (others_in func g) (without func gs)
  by true h = ap (λ l. if_left l (without func gs)) (others-more func w g e)
  by false h = ap (if_left (others_in func g)) h

-- ---- buckets

left-entered : (same : Window → Window → Bool) (func : ℕ) (x : Window × ℕ) (bs : List Bucket) → is_of func x.0 ≡ true → left func (entered same x bs) ≡ left func bs
left-entered same func x [] e = ap (λ l. bucket_if_left x.1 (if_left l []) []) (own-gone func x.0 e)
left-entered same func x (b ∷ bs) e = by (nat_eq x.1 b.0) (left-entered same func x bs e) where
  by : (t : Bool) → left func (entered same x bs) ≡ left func bs → left func (if t then (b.0, joined same x.0 b.1) ∷ bs else b ∷ entered same x bs) ≡ bucket_if_left b.0 (without func b.1) (left func bs)
  by true h = ap (λ l. bucket_if_left b.0 l (left func bs)) (without-joined same func x.0 b.1 e)
  by false h = ap (bucket_if_left b.0 (without func b.1)) h

left-all-entered : (same : Window → Window → Bool) (func : ℕ) (xs : List (Window × ℕ)) (bs : List Bucket) → AllByRecursion (λ x. is_of func x.0 ≡ true) xs → left func (all_entered same xs bs) ≡ left func bs
left-all-entered same func [] bs e = refl
left-all-entered same func (x ∷ xs) bs e = left-all-entered same func xs (entered same x bs) e.1 ∙ left-entered same func x bs e.0

-- ---- nothing goes where nothing is of the function

parts-of : {A : Type 0} (P : A → Type 0) (xs ys : List A) → AllByRecursion P (xs ++ ys) → AllByRecursion P xs × AllByRecursion P ys
parts-of P [] ys h = (tt, h)
parts-of P (x ∷ xs) ys h = let r = parts-of P xs ys h.1 in ((h.0, r.0), r.1)

-- none of the windows is of the function
abbrev NoneOf : ℕ → Window × ℕ → Type 0
NoneOf func x = is_of func x.0 ≡ false

group-stays : (func h : ℕ) (g : List Window) → AllByRecursion (NoneOf func) (map (λ w. (w, h)) g) → others_in func g ≡ g
group-stays func h [] e = refl
group-stays func h (w ∷ ws) e = ap (λ b. if not b then w ∷ others_in func ws else others_in func ws) e.0 ∙ ap (λ l. w ∷ l) (group-stays func h ws e.1)

left-in-front : (same : Window → Window → Bool) (g : List Window) (gs : List (List Window)) → IsGroup same g → if_left g gs ≡ g ∷ gs
left-in-front same [] gs i = absurd i
left-in-front same (w ∷ ws) gs i = refl

groups-stay : (same : Window → Window → Bool) (func h : ℕ) (gs : List (List Window)) → AreGroups same gs → AllByRecursion (NoneOf func) (held_under (h, gs)) → without func gs ≡ gs
groups-stay same func h [] a e = refl
groups-stay same func h (g ∷ gs) a e =
    let p = parts-of (NoneOf func) (map (λ w. (w, h)) g) (held_under (h, gs)) e in
    ap (λ l. if_left l (without func gs)) (group-stays func h g p.0)
    ∙ ap (if_left g) (groups-stay same func h gs a.2 p.1)
    ∙ left-in-front same g gs a.0

bucket-in-front : (h : ℕ) (gs : List (List Window)) (bs : List Bucket) → is_some_left gs ≡ true → bucket_if_left h gs bs ≡ (h, gs) ∷ bs
bucket-in-front h [] bs e = cc
bucket-in-front h (g ∷ gs) bs e = refl

pub nothing-left : (same : Window → Window → Bool) (func : ℕ) (bs : List Bucket) → AllByRecursion (λ b. is_some_left b.1 ≡ true) bs → AllByRecursion (λ b. AreGroups same b.1) bs →
    AllByRecursion (λ x. is_of func x.0 ≡ false) (held bs) → left func bs ≡ bs
nothing-left same func [] f a e = refl
nothing-left same func (b ∷ bs) f a e =
    let p = parts-of (NoneOf func) (held_under b) (held bs) e in
    ap (λ l. bucket_if_left b.0 l (left func bs)) (groups-stay same func b.0 b.1 a.0 p.0)
    ∙ ap (bucket_if_left b.0 b.1) (nothing-left same func bs f.1 a.1 p.1)
    ∙ bucket-in-front b.0 b.1 bs f.0

-- what came in of a function goes, and all else stays
pub all-undone : (same : Window → Window → Bool) (func : ℕ) (xs : List (Window × ℕ)) (bs : List Bucket) → AllByRecursion (λ b. is_some_left b.1 ≡ true) bs →
    AllByRecursion (λ b. AreGroups same b.1) bs → AllByRecursion (λ x. is_of func x.0 ≡ false) (held bs) → AllByRecursion (λ x. is_of func x.0 ≡ true) xs →
    left func (all_entered same xs bs) ≡ bs
all-undone same func xs bs f a e o = left-all-entered same func xs bs o ∙ nothing-left same func bs f a e

-- ---- what a map keeps

pub kept-are-left : {F : Type 0} (T : F → ℕ → List (List Window) → Bool → List (List Window) → F → Type 0) (func : ℕ) (f : F) →
    ((h : ℕ) (gs : List (List Window)) (b : Bool) (ls : List (List Window)) (g : F) → T f h gs b ls g → (ls ≡ without func gs) × (b ≡ is_some_left ls) × (g ≡ f)) →
    (bs kept : List Bucket) → RetainsPairs T f bs kept → kept ≡ left func bs
kept-are-left T func f says [] kept h = h
kept-are-left T func f says (e ∷ es) kept h =
    let s = says e.0 e.1 h.0 h.1 h.2 h.4 in
    let rest = kept-are-left T func f says es h.3 (subst (λ g. RetainsPairs T g es h.3) s.2 h.5) in
    h.6
    ∙ ap (λ b. cond b ((e.0, h.1) ∷ h.3) h.3) s.1
    ∙ ap (λ l. cond (is_some_left l) ((e.0, l) ∷ h.3) h.3) s.0
    ∙ ap (λ l. cond (is_some_left (without func e.1)) ((e.0, without func e.1) ∷ l) l) rest
    ∙ by (without func e.1) where
      by : (l : List (List Window)) → cond (is_some_left l) ((e.0, l) ∷ left func es) (left func es) ≡ bucket_if_left e.0 l (left func es)
      by [] = refl
      by (g ∷ gs) = refl
