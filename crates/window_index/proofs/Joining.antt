-- How a window comes into groups and into buckets.
use Rattle.std.proofs.Common.{◌≡◌, ◌∙◌, ℕ, zero, suc, ◌+◌, ◌<◌, ◌≤◌, Bool, true, false, List, [], ◌∷◌, ◌++◌, drop, get_or, is_some, length, position, Option, None, Some, slice_get, refl, sym, ap, subst, arith}
use Rattle.std.specs.Prelude.{if◌then◌else◌, nat_eq}
use Rattle.std.specs.Borrow.{Bor}
use Rattle.std.specs.Map.{keys_of, lookup}
use Rattle.std.specs.Map.Iter.{deref_pair}
use Rattle.std.specs.Option.{option_map}
use Rattle.std.proofs.lemmas.List.Quantifiers.{position-Some}
use Rattle.std.proofs.lemmas.Option.{same_Some}
use Rattle.indexmap.specs.IndexMap.{set_value_at}
use Rattle.go_typed.specs.declared.window.Window.{Window}
use Rattle.window_index.specs.Buckets.{Bucket, all_entered, entered, groups_in, joined, leads}
use Rattle.window_index.specs.Counting.{group_count}
use Rattle.window_index.specs.Groups.{count_at, first_led, groups_there, joined_at, with_one}

-- ---- groups

pub led-none : (same : Window → Window → Bool) (w : Window) (n : ℕ) (gs : List (List Window)) → first_led same w n gs ≡ None → joined same w gs ≡ gs ++ (w ∷ []) ∷ []
led-none same w n [] e = refl
led-none same w n (g ∷ gs) e = by (leads same w g) refl (λ k. led-none same w (suc n) gs k) where
  by : (b : Bool) → leads same w g ≡ b → (first_led same w (suc n) gs ≡ None → joined same w gs ≡ gs ++ (w ∷ []) ∷ []) → joined same w (g ∷ gs) ≡ g ∷ (gs ++ (w ∷ []) ∷ [])
  by true s r = let h : Some n ≡ None = sym (ap (λ b. if b then Some n else first_led same w (suc n) gs) s) ∙ e in cc
  by false s r =
      ap (λ b. if b then (g ++ w ∷ []) ∷ gs else g ∷ joined same w gs) s
      ∙ ap (λ l. g ∷ l) (r (sym (ap (λ b. if b then Some n else first_led same w (suc n) gs) s) ∙ e))

-- the group that a window goes into
pub record LedAt (same : Window → Window → Bool) (w : Window) (n k : ℕ) (gs : List (List Window)) : Type 0 where
  pub place : ℕ
  pub number : k ≡ n + place
  pub within : place < length gs
  pub joins : joined same w gs ≡ with_one place w gs

pub led-some : (same : Window → Window → Bool) (w : Window) (n k : ℕ) (gs : List (List Window)) → first_led same w n gs ≡ Some k → LedAt same w n k gs
led-some same w n k [] e = cc
led-some same w n k (g ∷ gs) e = by (leads same w g) refl (λ h. led-some same w (suc n) k gs h) where
  by : (b : Bool) → leads same w g ≡ b → (first_led same w (suc n) gs ≡ Some k → LedAt same w (suc n) k gs) → LedAt same w n k (g ∷ gs)
  by true s f =
      let h : Some n ≡ Some k = sym (ap (λ b. if b then Some n else first_led same w (suc n) gs) s) ∙ e in
      let i : n ≡ k = cc in
      record { place = 0; number = omega (arith, i); within = omega arith; joins = ap (λ b. if b then (g ++ w ∷ []) ∷ gs else g ∷ joined same w gs) s }
  by false s f =
      let r = f (sym (ap (λ b. if b then Some n else first_led same w (suc n) gs) s) ∙ e) in
      record {
        place = suc r.place;
        number = omega (arith, r.number);
        within = omega (arith, r.within);
        joins = ap (λ b. if b then (g ++ w ∷ []) ∷ gs else g ∷ joined same w gs) s ∙ ap (λ l. g ∷ l) r.joins;
      }

-- ---- buckets

none-left : (n : ℕ) (bs : List Bucket) → slice_get bs n ≡ None → groups_in (drop n bs) ≡ groups_in (drop (n + 1) bs)
none-left zero [] e = refl
none-left (suc n) [] e = let m : suc (suc n) ≡ suc n + 1 = omega arith in ap (λ k. groups_in (drop {A = Bucket} k [])) m
none-left zero (b ∷ bs) e = cc
none-left (suc n) (b ∷ bs) e = none-left n bs e ∙ (let m : suc (n + 1) ≡ suc n + 1 = omega arith in ap (λ k. groups_in (drop k (b ∷ bs))) m)

one-left : (n : ℕ) (bs : List Bucket) (b : Bucket) → slice_get bs n ≡ Some b → groups_in (drop n bs) ≡ b.1 ++ groups_in (drop (n + 1) bs)
one-left n [] b e = cc
one-left zero (c ∷ bs) b e = ap (λ (x : Bucket). x.1 ++ groups_in bs) (same_Some c b e)
one-left (suc n) (c ∷ bs) b e = one-left n bs b e ∙ (let m : suc (n + 1) ≡ suc n + 1 = omega arith in ap (λ k. b.1 ++ groups_in (drop k (c ∷ bs))) m)

-- a hash that no bucket has
pub entered-new : (same : Window → Window → Bool) (w : Window) (h : ℕ) (bs : List Bucket) → lookup (nat_eq h) bs ≡ None →
    (entered same (w, h) bs ≡ bs ++ (h, (w ∷ []) ∷ []) ∷ []) × (group_count h bs ≡ 0)
entered-new same w h [] e = (refl, refl)
entered-new same w h (b ∷ bs) e = by (nat_eq h b.0) refl (λ k. entered-new same w h bs k) where
  by : (t : Bool) → nat_eq h b.0 ≡ t → (lookup (nat_eq h) bs ≡ None → (entered same (w, h) bs ≡ bs ++ (h, (w ∷ []) ∷ []) ∷ []) × (group_count h bs ≡ 0)) →
      (entered same (w, h) (b ∷ bs) ≡ b ∷ (bs ++ (h, (w ∷ []) ∷ []) ∷ [])) × (group_count h (b ∷ bs) ≡ 0)
  by true s f = let g : Some b.1 ≡ None = sym (ap (λ t. if t then Some b.1 else lookup (nat_eq h) bs) s) ∙ e in cc
  by false s f =
      let r = f (sym (ap (λ t. if t then Some b.1 else lookup (nat_eq h) bs) s) ∙ e) in (
        ap (λ t. if t then (b.0, joined same w b.1) ∷ bs else b ∷ entered same (w, h) bs) s ∙ ap (λ l. b ∷ l) r.0,
        ap (λ t. if t then length b.1 else group_count h bs) s ∙ r.1,
      )

-- the bucket of a number is the first one with the hash
first-one : (same : Window → Window → Bool) (w : Window) (h n : ℕ) (bs : List Bucket) → n < length (keys_of bs) → nat_eq h (get_or (keys_of bs) n 0) ≡ true →
    ((k : ℕ) → k < n → nat_eq h (get_or (keys_of bs) k 0) ≡ false) → (entered same (w, h) bs ≡ joined_at same n w bs) × (group_count h bs ≡ count_at n bs)
first-one same w h n [] l e f = absurd (omega (arith, l))
first-one same w h zero (b ∷ bs) l e f = (
  ap (λ t. if t then (b.0, joined same w b.1) ∷ bs else b ∷ entered same (w, h) bs) e,
  ap (λ t. if t then length b.1 else group_count h bs) e,
)
first-one same w h (suc n) (b ∷ bs) l e f =
    let s : nat_eq h b.0 ≡ false = f 0 (omega arith) in
    let r = first-one same w h n bs (omega (arith, l)) e (λ k m. f (suc k) (omega (arith, m))) in (
      ap (λ t. if t then (b.0, joined same w b.1) ∷ bs else b ∷ entered same (w, h) bs) s ∙ ap (λ l. b ∷ l) r.0,
      ap (λ t. if t then length b.1 else group_count h bs) s ∙ r.1,
    )

pub entered-there : (same : Window → Window → Bool) (w : Window) (h n : ℕ) (bs : List Bucket) → position (nat_eq h) (keys_of bs) ≡ Some n →
    (entered same (w, h) bs ≡ joined_at same n w bs) × (group_count h bs ≡ count_at n bs)
entered-there same w h n bs e =
    let p = position-Some (nat_eq h) (keys_of bs) n 0 e in
    first-one same w h n bs p.0 p.1 p.2

-- the bucket of a number gets other groups
pub joined-there : (same : Window → Window → Bool) (w : Window) (n : ℕ) (bs : List Bucket) (b : Bucket) (gs : List (List Window)) → slice_get bs n ≡ Some b → gs ≡ joined same w b.1 →
    set_value_at bs n gs ≡ joined_at same n w bs
joined-there same w n [] b gs e g = cc
joined-there same w zero (c ∷ bs) b gs e g = ap (λ l. (c.0, l) ∷ bs) (g ∙ ap (λ x. joined same w x.1) (sym (same_Some c b e)))
joined-there same w (suc n) (c ∷ bs) b gs e g = ap (λ l. c ∷ l) (joined-there same w n bs b gs e g)

pub count-there : (n : ℕ) (bs : List Bucket) (b : Bucket) → slice_get bs n ≡ Some b → count_at n bs ≡ length b.1
count-there n [] b e = cc
count-there zero (c ∷ bs) b e = ap (λ x. length x.1) (same_Some c b e)
count-there (suc n) (c ∷ bs) b e = count-there n bs b e

pub kept-there : (n : ℕ) (bs : List Bucket) (b : Bucket) (gs : List (List Window)) → slice_get bs n ≡ Some b → gs ≡ b.1 → set_value_at bs n gs ≡ bs
kept-there n [] b gs e g = cc
kept-there zero (c ∷ bs) b gs e g = ap (λ l. (c.0, l) ∷ bs) (g ∙ ap (λ x. x.1) (sym (same_Some c b e)))
kept-there (suc n) (c ∷ bs) b gs e g = ap (λ l. c ∷ l) (kept-there n bs b gs e g)

pub none-there : {A : Type 0} (o : Option A) → is_some o ≡ false → o ≡ None
none-there None h = refl
none-there (Some a) h = cc

-- the groups of the buckets from one on
pub groups-next : (o : Option (Bor ℕ × Bor (List (List Window)))) (n : ℕ) (bs : List Bucket) → option_map deref_pair o ≡ slice_get bs n → groups_in (drop n bs) ≡ groups_there o ++ groups_in (drop (n + 1) bs)
groups-next None n bs e = none-left n bs (sym e)
groups-next (Some b) n bs e = one-left n bs (b.0.now, b.1.now) (sym e)

-- ---- one after the other

pub all-entered-more : (same : Window → Window → Bool) (xs ys : List (Window × ℕ)) (bs : List Bucket) → all_entered same (xs ++ ys) bs ≡ all_entered same ys (all_entered same xs bs)
all-entered-more same [] ys bs = refl
all-entered-more same (x ∷ xs) ys bs = all-entered-more same xs ys (entered same x bs)

joined-longer : (same : Window → Window → Bool) (w : Window) (gs : List (List Window)) → length gs ≤ length (joined same w gs)
joined-longer same w [] = omega arith
joined-longer same w (g ∷ gs) = by (leads same w g) (joined-longer same w gs) where
  by : (b : Bool) → length gs ≤ length (joined same w gs) → suc (length gs) ≤ length (if b then (g ++ w ∷ []) ∷ gs else g ∷ joined same w gs)
  by true h = omega arith
  by false h = omega (arith, h)

count-grows : (same : Window → Window → Bool) (x : Window × ℕ) (h : ℕ) (bs : List Bucket) → group_count h bs ≤ group_count h (entered same x bs)
count-grows same x h [] = omega arith
count-grows same x h (b ∷ bs) = by (nat_eq x.1 b.0) (count-grows same x h bs) where
  at : (t : Bool) → (if t then length b.1 else group_count h bs) ≤ (if t then length (joined same x.0 b.1) else group_count h bs)
  at true = joined-longer same x.0 b.1
  at false = omega arith

  on : (t : Bool) → group_count h bs ≤ group_count h (entered same x bs) → (if t then length b.1 else group_count h bs) ≤ (if t then length b.1 else group_count h (entered same x bs))
  on true k = omega arith
  on false k = k

  by : (t : Bool) → group_count h bs ≤ group_count h (entered same x bs) →
      (if nat_eq h b.0 then length b.1 else group_count h bs) ≤ group_count h (if t then (b.0, joined same x.0 b.1) ∷ bs else b ∷ entered same x bs)
  by true k = at (nat_eq h b.0)
  by false k = on (nat_eq h b.0) k

-- under no hash there are fewer groups afterwards
pub all-count-grows : (same : Window → Window → Bool) (xs : List (Window × ℕ)) (h : ℕ) (bs : List Bucket) → group_count h bs ≤ group_count h (all_entered same xs bs)
all-count-grows same [] h bs = omega arith
all-count-grows same (x ∷ xs) h bs = omega (arith, count-grows same x h bs, all-count-grows same xs h (entered same x bs))
