-- What segments say, as they are searched and as one more meaning cuts them.
use Rattle.std.proofs.Common.{◌≡◌, ℕ, zero, suc, ◌<◌, ◌≤◌, ◌-◌, ◌⊎◌, inl, inr, Bool, true, false, ◌&&◌, if◌then◌else◌, nat_eq, nat_lt, List, [], ◌∷◌, ◌++◌, Option, Some, None, refl, sym, ap, ◌∙◌, arith, length, subst, take, drop, leb, leb-true}
use Rattle.std.proofs.lemmas.Bool.Decides.{nat_tests}
use Rattle.std.proofs.lemmas.Bool.{leb-false}
use Rattle.std.proofs.lemmas.List.{take-append-drop, length-take-le, take_at, drop_at}
use Rattle.std.specs.List.{AllByRecursion, AllWithin}
use Rattle.std.specs.List.Sorted.{IsNonDecreasingBy}
use Rattle.std.specs.Option.{option_map}
use Rattle.std.specs.Prelude.{nat_le, slice_get, slice_index_or}
use Rattle.go_tree.specs.declared.context.Scope.{Scope}
use Rattle.go_tree.specs.declared.object.Extent.{Extent}
use Rattle.go_tree.specs.declared.object.Extent.TheVariants as extent
use Rattle.go_tree.specs.Extents.{covers}
use Rattle.go_tree.specs.Meanings.{Meaning}
use Rattle.go_scopes_events.specs.Orders.{Nests}
use Rattle.go_scopes_events.specs.Scopes.{inner, scope_of, Each}
use Rattle.go_scopes_lookup.specs.declared.meaning.Meaning as own
use Rattle.go_scopes_lookup.specs.Stacks.{Parts}
use Rattle.go_scopes_lookup.specs.Views.{meaning_view}
use Rattle.go_scopes_named.specs.declared.segments.Segment.{Segment}
use Rattle.go_scopes_named.specs.Segments.{Adds, AreRising, AreSegments, begins_at, closed_at, inmost_among, lies_in, over_covering, said, said_over}

-- what holds of each segment of lists that are joined
each_join : (P : Segment → Type 0) (xs ys : List Segment) → AllByRecursion P xs → AllByRecursion P ys → AllByRecursion P (xs ++ ys)
each_join P [] ys h g = g
each_join P (x ∷ xs) ys h g = (h.0, each_join P xs ys h.1 g)

each_left : (P : Segment → Type 0) (xs ys : List Segment) → AllByRecursion P (xs ++ ys) → AllByRecursion P xs
each_left P [] ys h = tt
each_left P (x ∷ xs) ys h = (h.0, each_left P xs ys h.1)

each_right : (P : Segment → Type 0) (xs ys : List Segment) → AllByRecursion P (xs ++ ys) → AllByRecursion P ys
each_right P [] ys h = h
each_right P (x ∷ xs) ys h = each_right P xs ys h.1

each_more : (P Q : Segment → Type 0) (xs : List Segment) → ((x : Segment) → P x → Q x) → AllByRecursion P xs → AllByRecursion Q xs
each_more P Q [] f h = tt
each_more P Q (x ∷ xs) f h = (f x h.0, each_more P Q xs f h.1)

each_both : (P Q R : Segment → Type 0) (xs : List Segment) → ((x : Segment) → P x → Q x → R x) → AllByRecursion P xs → AllByRecursion Q xs → AllByRecursion R xs
each_both P Q R [] f h g = tt
each_both P Q R (x ∷ xs) f h g = (f x h.0 g.0, each_both P Q R xs f h.1 g.1)

-- the beginnings rise
rising_left : (xs ys : List Segment) → AreRising (xs ++ ys) → AreRising xs
rising_left [] ys h = tt
rising_left (x ∷ xs) ys h = (each_left (λ r. x.from ≤ r.from) xs ys h.0, rising_left xs ys h.1)

rising_right : (xs ys : List Segment) → AreRising (xs ++ ys) → AreRising ys
rising_right [] ys h = h
rising_right (x ∷ xs) ys h = rising_right xs ys h.1

rising_join : (k : ℕ) (xs ys : List Segment) → AreRising xs → AreRising ys → AllByRecursion (λ s. s.from ≤ k) xs → AllByRecursion (λ s. k ≤ s.from) ys → AreRising (xs ++ ys)
rising_join k [] ys h g a b = g
rising_join k (x ∷ xs) ys h g a b =
    let first : x.from ≤ k = a.0 in
    (each_join (λ r. x.from ≤ r.from) xs ys h.0 (each_more (λ s. k ≤ s.from) (λ r. x.from ≤ r.from) ys (λ s p. omega (arith, first, p)) b), rising_join k xs ys h.1 g a.1 b)

each_at : (P : Segment → Type 0) (xs : List Segment) (j : ℕ) (d : Segment) → AllByRecursion P xs → j < length xs → P (slice_index_or xs j d)
each_at P [] j d h l = absurd (omega (arith, l))
each_at P (x ∷ xs) zero d h l = h.0
each_at P (x ∷ xs) (suc j) d h l = each_at P xs j d h.1 (omega (arith, l))

pub rising_by : (xs : List Segment) → AreRising xs → IsNonDecreasingBy (λ (s : Segment). s.from) xs
rising_by [] h i j d le l = absurd (omega (arith, l))
rising_by (x ∷ xs) h zero zero d le l = omega arith
rising_by (x ∷ xs) h zero (suc j) d le l = each_at (λ r. x.from ≤ r.from) xs j d h.0 (omega (arith, l))
rising_by (x ∷ xs) h (suc i) zero d le l = absurd (omega (arith, le))
rising_by (x ∷ xs) h (suc i) (suc j) d le l = rising_by xs h.1 i j d (omega (arith, le)) (omega (arith, l))

-- what is said
said_join : (t : ℕ) (a : Option Meaning) (xs ys : List Segment) → said_over t a (xs ++ ys) ≡ said_over t (said_over t a xs) ys
said_join t a [] ys = refl
said_join t a (x ∷ xs) ys = said_join t (if nat_le x.from t then option_map meaning_view x.meaning else a) xs ys

if_begun : (f t : ℕ) (x a : Option Meaning) → f ≤ t → (if nat_le f t then x else a) ≡ x
if_begun f t x a h = let e : nat_le f t ≡ true = grind (arith, nat_tests) in ap (λ b. if b then x else a) e

if_later : (f t : ℕ) (x a : Option Meaning) → t < f → (if nat_le f t then x else a) ≡ a
if_later f t x a h = let e : nat_le f t ≡ false = grind (arith, nat_tests) in ap (λ b. if b then x else a) e

said_later : (t : ℕ) (a : Option Meaning) (xs : List Segment) → AllByRecursion (λ s. t < s.from) xs → said_over t a xs ≡ a
said_later t a [] h = refl
said_later t a (x ∷ xs) h =
    ap (λ b. said_over t b xs) (if_later x.from t (option_map meaning_view x.meaning) a h.0) ∙ said_later t a xs h.1

said_begun : (t u : ℕ) (a : Option Meaning) (xs : List Segment) → t ≤ u → AllByRecursion (λ s. s.from ≤ t) xs → said_over u a xs ≡ said_over t a xs
said_begun t u a [] le h = refl
said_begun t u a (x ∷ xs) le h =
    let f : x.from ≤ t = h.0 in
    let s = option_map meaning_view x.meaning in
    ap (λ b. said_over u b xs) (if_begun x.from u s a (omega (arith, f, le)) ∙ sym (if_begun x.from t s a f))
    ∙ said_begun t u (if nat_le x.from t then s else a) xs le h.1

-- what the last of them says, and the search for it
abbrev pub last_says : Option Segment → Option Meaning
last_says None = None
last_says (Some s) = option_map meaning_view s.meaning

said_last : (t : ℕ) (a : Option Meaning) (x : Segment) (xs : List Segment) → AllByRecursion (λ s. s.from ≤ t) (x ∷ xs) → said_over t a (x ∷ xs) ≡ last_says (slice_get (x ∷ xs) (length xs))
said_last t a x [] h = if_begun x.from t (option_map meaning_view x.meaning) a h.0
said_last t a x (y ∷ ys) h = said_last t (if nat_le x.from t then option_map meaning_view x.meaning else a) y ys h.1

said_found : (t : ℕ) (xs ys : List Segment) → AllByRecursion (λ s. s.from ≤ t) xs → AllByRecursion (λ s. t < s.from) ys → said t (xs ++ ys) ≡ last_says (slice_get xs (length xs - 1))
said_found t xs ys h g = said_join t None xs ys ∙ said_later t (said_over t None xs) ys g ∙ by xs h
  where
    by : (xs : List Segment) → AllByRecursion (λ s. s.from ≤ t) xs → said_over t None xs ≡ last_says (slice_get xs (length xs - 1))
    by [] h = refl
    by (x ∷ xs) h = let last : length xs ≡ length (x ∷ xs) - 1 = omega arith in said_last t None x xs h ∙ ap (λ n. last_says (slice_get (x ∷ xs) n)) last

pub said_begun_last : (t n : ℕ) (xs : List Segment) (s : Option Segment) → AllByRecursion (λ s. s.from ≤ t) (take n xs) → AllByRecursion (λ s. t < s.from) (drop n xs) → s ≡ slice_get (take n xs) (length (take n xs) - 1) → last_says s ≡ said t xs
said_begun_last t n xs s h g e = ap last_says e ∙ sym (said_found t (take n xs) (drop n xs) h g) ∙ ap (said t) (take-append-drop n xs)

-- from where a binary search stops
pub begun_front : (t : ℕ) (xs : List Segment) (n : ℕ) → AllWithin (λ (s : Segment). leb s.from t ≡ true) xs 0 n → AllByRecursion (λ s. s.from ≤ t) (take n xs)
begun_front t xs zero h = tt
begun_front t [] (suc n) h = tt
begun_front t (x ∷ xs) (suc n) h = (leb-true x.from t (h 0 x (omega arith) (omega arith)), begun_front t xs n (λ k d a b. h (suc k) d (omega arith) (omega (arith, b))))

pub later_back : (t : ℕ) (xs : List Segment) (n : ℕ) → AllWithin (λ (s : Segment). leb s.from t ≡ false) xs n (length xs) → AllByRecursion (λ s. t < s.from) (drop n xs)
later_back t [] zero h = tt
later_back t [] (suc n) h = tt
later_back t (x ∷ xs) zero h = (leb-false x.from t (h 0 x (omega arith) (omega arith)), later_back t xs zero (λ k d a b. h (suc k) d (omega arith) (omega (arith, b))))
later_back t (x ∷ xs) (suc n) h = later_back t xs n (λ k d a b. h (suc k) d (omega (arith, a)) (omega (arith, b)))

-- a segment that begins at the end of a scope, or a new one
pub closed_there : (e : ℕ) (o : Option own.Meaning) (xs : List Segment) (n : ℕ) → begins_at e (slice_get xs n) ≡ true → xs ≡ take n xs ++ closed_at e o (drop n xs)
closed_there e o [] zero h = cc
closed_there e o [] (suc n) h = cc
closed_there e o (x ∷ xs) zero h = sym (ap (λ c. if c then x ∷ xs else record { from = e; meaning = o } ∷ x ∷ xs) h)
closed_there e o (x ∷ xs) (suc n) h = ap (λ l. x ∷ l) (closed_there e o xs n h)

pub closed_new : (e : ℕ) (o : Option own.Meaning) (xs : List Segment) (n : ℕ) → begins_at e (slice_get xs n) ≡ false → take n xs ++ record { from = e; meaning = o } ∷ drop n xs ≡ take n xs ++ closed_at e o (drop n xs)
closed_new e o [] zero h = refl
closed_new e o [] (suc n) h = refl
closed_new e o (x ∷ xs) zero h = sym (ap (λ c. if c then x ∷ xs else record { from = e; meaning = o } ∷ x ∷ xs) h)
closed_new e o (x ∷ xs) (suc n) h = ap (λ l. x ∷ l) (closed_new e o xs n h)

-- a scope from the token f up to e, with what is said there and around it
said_closed : (e t : ℕ) (a b : Option Meaning) (o : Option own.Meaning) (ys : List Segment) → e ≤ t → option_map meaning_view o ≡ b → said_over t a (closed_at e o ys) ≡ said_over t b ys
said_closed e t a b o [] le h = if_begun e t (option_map meaning_view o) a le ∙ h
said_closed e t a b o (y ∷ ys) le h = by (nat_eq y.from e) refl
  where
    by : (c : Bool) → nat_eq y.from e ≡ c → said_over t a (if c then y ∷ ys else record { from = e; meaning = o } ∷ y ∷ ys) ≡ said_over t b (y ∷ ys)
    by true p =
        let f : y.from ≤ t = grind (arith, nat_tests, p, le) in
        let s = option_map meaning_view y.meaning in
        ap (λ c. said_over t c ys) (if_begun y.from t s a f ∙ sym (if_begun y.from t s b f))
    by false p = ap (λ c. said_over t c (y ∷ ys)) (if_begun e t (option_map meaning_view o) a le ∙ h)

each_closed : (P : Segment → Type 0) (e : ℕ) (o : Option own.Meaning) (ys : List Segment) → P (record { from = e; meaning = o }) → AllByRecursion P ys → AllByRecursion P (closed_at e o ys)
each_closed P e o [] p h = (p, tt)
each_closed P e o (y ∷ ys) p h = by (nat_eq y.from e)
  where
    by : (c : Bool) → AllByRecursion P (if c then y ∷ ys else record { from = e; meaning = o } ∷ y ∷ ys)
    by true = h
    by false = (p, h)

rising_closed : (e : ℕ) (o : Option own.Meaning) (ys : List Segment) → AllByRecursion (λ s. e ≤ s.from) ys → AreRising ys → AreRising (closed_at e o ys)
rising_closed e o [] h g = (tt, tt)
rising_closed e o (y ∷ ys) h g = by (nat_eq y.from e)
  where
    by : (c : Bool) → AreRising (if c then y ∷ ys else record { from = e; meaning = o } ∷ y ∷ ys)
    by true = g
    by false = (h, g)

-- the segments in front of the scope r and those behind it, with what is cut in between
abbrev pub cut : Scope → own.Meaning → Option own.Meaning → List Segment → List Segment → List Segment
cut r m o xs ys = xs ++ record { from = r.from; meaning = Some m } ∷ closed_at r.to o ys

-- No segment begins inside the scope, so the same is said in all of it.
same_begun : (r : Scope) (f t : ℕ) → Parts f r → r.from ≤ t → t < r.to → nat_le f t ≡ nat_le f r.from
same_begun r f t (inl p) a b = grind (arith, nat_tests, p, a, b)
same_begun r f t (inr p) a b = grind (arith, nat_tests, p, a, b)

said_within : (r : Scope) (t : ℕ) (a : Option Meaning) (ss : List Segment) → r.from ≤ t → t < r.to → AllByRecursion (λ s. Parts s.from r) ss → said_over t a ss ≡ said_over r.from a ss
said_within r t a [] f l h = refl
said_within r t a (s ∷ ss) f l h =
    ap (λ c. said_over t (if c then option_map meaning_view s.meaning else a) ss) (same_begun r s.from t h.0 f l)
    ∙ said_within r t (if nat_le s.from r.from then option_map meaning_view s.meaning else a) ss f l h.1

-- in front of the scope, inside it and behind it
cut_front : (r : Scope) (m : own.Meaning) (o : Option own.Meaning) (xs ys : List Segment) (t : ℕ) → t < r.from → r.from < r.to → AllByRecursion (λ s. r.to ≤ s.from) ys → said t (cut r m o xs ys) ≡ said t (xs ++ ys)
cut_front r m o xs ys t a l h =
    let later : AllByRecursion (λ s. t < s.from) ys = each_more (λ s. r.to ≤ s.from) (λ s. t < s.from) ys (λ s p. omega (arith, a, l, p)) h in
    said_join t None xs (record { from = r.from; meaning = Some m } ∷ closed_at r.to o ys)
    ∙ said_later t (said_over t None xs) (record { from = r.from; meaning = Some m } ∷ closed_at r.to o ys) (a, each_closed (λ s. t < s.from) r.to o ys (omega (arith, a, l)) later)
    ∙ sym (said_join t None xs ys ∙ said_later t (said_over t None xs) ys later)

cut_inside : (r : Scope) (m : own.Meaning) (o : Option own.Meaning) (xs ys : List Segment) (t : ℕ) → r.from ≤ t → t < r.to → AllByRecursion (λ s. r.to ≤ s.from) ys → said t (cut r m o xs ys) ≡ Some (meaning_view m)
cut_inside r m o xs ys t a l h =
    let later : AllByRecursion (λ s. t < s.from) ys = each_more (λ s. r.to ≤ s.from) (λ s. t < s.from) ys (λ s p. omega (arith, l, p)) h in
    said_join t None xs (record { from = r.from; meaning = Some m } ∷ closed_at r.to o ys)
    ∙ ap (λ c. said_over t c (closed_at r.to o ys)) (if_begun r.from t (Some (meaning_view m)) (said_over t None xs) a)
    ∙ said_later t (Some (meaning_view m)) (closed_at r.to o ys) (each_closed (λ s. t < s.from) r.to o ys l later)

cut_behind : (r : Scope) (m : own.Meaning) (o : Option own.Meaning) (xs ys : List Segment) (t : ℕ) → r.from < r.to → r.to ≤ t → AllByRecursion (λ s. s.from ≤ r.from) xs → AllByRecursion (λ s. r.from < s.from) ys → option_map meaning_view o ≡ said r.from (xs ++ ys) → said t (cut r m o xs ys) ≡ said t (xs ++ ys)
cut_behind r m o xs ys t l b begun later outer =
    let there : option_map meaning_view o ≡ said_over t None xs = outer ∙ said_join r.from None xs ys ∙ said_later r.from (said_over r.from None xs) ys later ∙ sym (said_begun r.from t None xs (omega (arith, l, b)) begun) in
    said_join t None xs (record { from = r.from; meaning = Some m } ∷ closed_at r.to o ys)
    ∙ said_closed r.to t (if nat_le r.from t then Some (meaning_view m) else said_over t None xs) (said_over t None xs) o ys b there
    ∙ sym (said_join t None xs ys)

-- one more meaning
inmost_append : (n t : ℕ) (a : Option Meaning) (ms : List Meaning) (m : Meaning) → inmost_among n t a (ms ++ m ∷ []) ≡ over_covering n t (inmost_among n t a ms) m
inmost_append n t a [] m = refl
inmost_append n t a (x ∷ ms) m = inmost_append n t (over_covering n t a x) ms m

covered : (n t : ℕ) (r : Scope) (e : Extent) → e ≡ extent.Between n r → covers e n t ≡ (nat_le r.from t && nat_lt t r.to)
covered n t r e h = let own : nat_eq n n ≡ true = grind (arith, nat_tests) in ap (λ x. covers x n t) h ∙ ap (λ b. b && nat_le r.from t && nat_lt t r.to) own

over_now : (n t : ℕ) (r : Scope) (m : Meaning) (a b : Option Meaning) → m.extent ≡ extent.Between n r → ((r.from ≤ t) → (t < r.to) → b ≡ inner a m) → ((t < r.from) ⊎ (r.to ≤ t) → b ≡ a) → b ≡ over_covering n t a m
over_now n t r m a b e inside outside =
    by (nat_le r.from t) (nat_lt t r.to) (λ p q. inside (grind (arith, nat_tests, p)) (grind (arith, nat_tests, q))) (λ p. outside (inl (grind (arith, nat_tests, p)))) (λ q. outside (inr (grind (arith, nat_tests, q))))
    ∙ ap (λ c. if c then inner a m else a) (sym (covered n t r m.extent e))
  where
    by : (c d : Bool) → (c ≡ true → d ≡ true → b ≡ inner a m) → (c ≡ false → b ≡ a) → (d ≡ false → b ≡ a) → b ≡ (if c && d then inner a m else a)
    by true true f g h = f refl refl
    by true false f g h = h refl
    by false d f g h = g refl

inner_new : (o : Option Meaning) (m : Meaning) → lies_in o m ≡ false → inner o m ≡ Some m
inner_new None m h = refl
inner_new (Some a) m h = ap (λ c. if c then Some a else Some m) h

inner_kept : (o : Option Meaning) (m : Meaning) → lies_in o m ≡ true → inner o m ≡ o
inner_kept None m h = cc
inner_kept (Some a) m h = ap (λ c. if c then Some a else Some m) h

each_split : (Q : Meaning → Type 0) (ms : List Meaning) (m : Meaning) → Each Q (ms ++ m ∷ []) → Each Q ms × Q m
each_split Q [] m h = (tt, h.0)
each_split Q (x ∷ ms) m h = let rest = each_split Q ms m h.1 in ((h.0, rest.0), rest.1)

-- one whose scope is empty
pub adds_none : (r : Scope) (m : Meaning) (ss : List Segment) → r.to ≤ r.from → Adds r m ss ss
adds_none r m ss l n ms e nests a = record {
  rising = a.rising;
  says = λ t. over_now n t r m (inmost_among n t None ms) (said t ss) e (λ p q. absurd (omega (arith, l, p, q))) (λ p. a.says t) ∙ sym (inmost_append n t None ms m);
  parted = λ q nest. a.parted q (each_split (λ x. Nests (scope_of x.extent) q) ms m nest).0;
}

-- one whose extent an earlier one has
pub adds_kept : (r : Scope) (m : Meaning) (ss : List Segment) (o : Option Meaning) → (AreRising ss → o ≡ said r.from ss) → lies_in o m ≡ true → Adds r m ss ss
adds_kept r m ss o there lies n ms e nests a = record {
  rising = a.rising;
  says = λ t. over_now n t r m (inmost_among n t None ms) (said t ss) e
      (λ p q. let here : said t ss ≡ o = said_within r t None ss p q (a.parted r nests) ∙ sym (there a.rising) in
      here ∙ sym (inner_kept o m lies) ∙ ap (λ x. inner x m) (sym here ∙ a.says t))
      (λ p. a.says t) ∙ sym (inmost_append n t None ms m);
  parted = λ q nest. a.parted q (each_split (λ x. Nests (scope_of x.extent) q) ms m nest).0;
}

-- any other
adds_cut : (r : Scope) (m : own.Meaning) (o : Option own.Meaning) (xs ys : List Segment) → r.from < r.to → AllByRecursion (λ s. s.from ≤ r.from) xs → AllByRecursion (λ s. r.from < s.from) ys → option_map meaning_view o ≡ said r.from (xs ++ ys) → lies_in (option_map meaning_view o) (meaning_view m) ≡ false
    → Adds r (meaning_view m) (xs ++ ys) (cut r m o xs ys)
adds_cut r m o xs ys l begun later there new n ms e nests a =
    let parts : AllByRecursion (λ s. Parts s.from r) (xs ++ ys) = a.parted r nests in
    let behind : AllByRecursion (λ s. r.to ≤ s.from) ys = each_both (λ s. Parts s.from r) (λ s. r.from < s.from) (λ s. r.to ≤ s.from) ys (λ s p q. parted_behind s.from p q) (each_right (λ s. Parts s.from r) xs ys parts) later in
    record {
      rising = rising_join r.from xs (record { from = r.from; meaning = Some m } ∷ closed_at r.to o ys) (rising_left xs ys a.rising)
          (each_closed (λ s. r.from ≤ s.from) r.to o ys (omega (arith, l)) (each_more (λ s. r.to ≤ s.from) (λ s. r.from ≤ s.from) ys (λ s p. omega (arith, l, p)) behind), rising_closed r.to o ys behind (rising_right xs ys a.rising))
          begun
          (omega arith, each_closed (λ s. r.from ≤ s.from) r.to o ys (omega (arith, l)) (each_more (λ s. r.to ≤ s.from) (λ s. r.from ≤ s.from) ys (λ s p. omega (arith, l, p)) behind));
      says = λ t. over_now n t r (meaning_view m) (inmost_among n t None ms) (said t (cut r m o xs ys)) e
          (λ p q. let here : said t (xs ++ ys) ≡ option_map meaning_view o = said_within r t None (xs ++ ys) p q parts ∙ sym there in
          cut_inside r m o xs ys t p q behind ∙ sym (inner_new (option_map meaning_view o) (meaning_view m) new) ∙ ap (λ x. inner x (meaning_view m)) (sym here ∙ a.says t))
          (λ p. outside t p behind ∙ a.says t) ∙ sym (inmost_append n t None ms (meaning_view m));
      parted = λ q nest.
          let both = each_split (λ x. Nests (scope_of x.extent) q) ms (meaning_view m) nest in
          let old = a.parted q both.0 in
          let own : Nests r q = subst (λ x. Nests (scope_of x) q) e both.1 in
          each_join (λ s. Parts s.from q) xs (record { from = r.from; meaning = Some m } ∷ closed_at r.to o ys) (each_left (λ s. Parts s.from q) xs ys old)
          (from_parts q own, each_closed (λ s. Parts s.from q) r.to o ys (to_parts q own) (each_right (λ s. Parts s.from q) xs ys old));
    }
  where
    parted_behind : (f : ℕ) → Parts f r → r.from < f → r.to ≤ f
    parted_behind f (inl p) q = absurd (omega (arith, p, q))
    parted_behind f (inr p) q = p

    outside : (t : ℕ) → (t < r.from) ⊎ (r.to ≤ t) → AllByRecursion (λ s. r.to ≤ s.from) ys → said t (cut r m o xs ys) ≡ said t (xs ++ ys)
    outside t (inl p) h = cut_front r m o xs ys t p l h
    outside t (inr p) h = cut_behind r m o xs ys t l p begun later there

    from_parts : (q : Scope) → Nests r q → Parts r.from q
    from_parts q (inl p) = inl (omega (arith, l, p))
    from_parts q (inr p) = inl p.0

    to_parts : (q : Scope) → Nests r q → Parts r.to q
    to_parts q (inl p) = inl p
    to_parts q (inr p) = inr p.1

pub adds_there : (r : Scope) (m : own.Meaning) (o : Option own.Meaning) (xs zs news : List Segment) (n : ℕ) → r.from < r.to → n ≤ length xs → (AreRising xs → AllByRecursion (λ s. s.from ≤ r.from) (take n xs)) → (AreRising xs → AllByRecursion (λ s. r.from < s.from) (drop n xs))
    → (AreRising xs → option_map meaning_view o ≡ said r.from xs) → lies_in (option_map meaning_view o) (meaning_view m) ≡ false → zs ≡ take n xs ++ closed_at r.to o (drop n xs) → news ≡ take n zs ++ record { from = r.from; meaning = Some m } ∷ drop n zs → Adds r (meaning_view m) xs news
adds_there r m o xs zs news n l bound begun later there new closed cuts k ms e nests a =
    let whole : take n xs ++ drop n xs ≡ xs = take-append-drop n xs in
    let len : length (take n xs) ≡ n = length-take-le n xs bound in
    let b : Segment = record { from = r.from; meaning = Some m } in
    let is : news ≡ cut r m o (take n xs) (drop n xs) =
    cuts
    ∙ ap (λ l. take n l ++ b ∷ drop n l) closed
    ∙ ap (λ l. l ++ b ∷ drop n (take n xs ++ closed_at r.to o (drop n xs))) (take_at (take n xs) (closed_at r.to o (drop n xs)) n len)
    ∙ ap (λ l. take n xs ++ b ∷ l) (drop_at (take n xs) (closed_at r.to o (drop n xs)) n len) in
    subst (λ l. AreSegments k l (ms ++ meaning_view m ∷ [])) (sym is)
    (adds_cut r m o (take n xs) (drop n xs) l (begun a.rising) (later a.rising) (there a.rising ∙ ap (said r.from) (sym whole)) new k ms e nests (subst (λ l. AreSegments k l ms) (sym whole) a))
