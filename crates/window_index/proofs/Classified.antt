-- The groups of an index, in order, are the classes.
use Rattle.std.proofs.Common.{◌≡◌, ◌∙◌, ℕ, Bool, true, false, List, [], ◌∷◌, ◌++◌, length, map, inl, inr, Less, refl, sym, ap, subst, arith}
use Rattle.std.specs.Prelude.{◌⊎◌, ◌||◌, if◌then◌else◌, filter, nat_eq, not}
use Rattle.std.specs.Cmp.{IsTotalOrder}
use Rattle.std.specs.List.{AllByRecursion, IsDistinct, list_any}
use Rattle.std.specs.List.Sorted.{IsPermutation, IsSortedByKey}
use Rattle.std.specs.Ordering.{is_eq, nat_cmp}
use Rattle.std.proofs.lemmas.Bool.{eqb-true, eq-eqb}
use Rattle.std.proofs.lemmas.Cmp.{nat_cmp_total, on_total, then_total, tied_itself}
use Rattle.std.proofs.lemmas.List.Sorted.{IsPermutation-sym}
use Rattle.std.proofs.lemmas.Map.Keys.{IsDistinct-IsPermutation}
use Rattle.go_typed.specs.declared.window.Class.{Class}
use Rattle.go_typed.specs.declared.window.Window.{Window}
use Rattle.clone_window.specs.Windows.{run_at}
use Rattle.clone_classes.specs.Classes.{AllApart, Among, IsEquivalent, Together, class_led_by, classes, classes_from}
use Rattle.clone_classes.specs.declared.place.Place.{Place}
use Rattle.clone_classes.specs.Orders.{AreOrdered, IsListed, class_place, first_place, place_cmp}
use Rattle.clone_classes.proofs.Public.{some-kept, members-are-same, members-are-windows, no-window-in-two, same-stand-together}
use Rattle.window_index.specs.Buckets.{Bucket, groups_in, held, held_under, is_two, leads}
use Rattle.window_index.specs.Fitting.{AreDistinct, AreGroups, Fits, IsApart, IsGroup}
use Rattle.window_index.specs.Orderly.{AreInOrder, Ascends, IsBefore}
use Rattle.window_index.proofs.Ascents.{ascends-distinct, at-member, for-members, kept-ascends, kept-members, moved-member, never-both, same-members, sorted-ascends, tied, tied-flips}
use Rattle.window_index.proofs.Flattened.{ClassOf, InGroup, all-members, back, class-of, either-member, flat, forth, front-member, back-member, group-distinct, held-flat, in-group, kept-distinct, kept-member, kept-of, member-of, of-group, ordered-flat, back-distinct, across-distinct}

pub places-total : IsTotalOrder place_cmp
places-total = then_total (on_total (λ (p : Place). p.func) nat_cmp_total) (then_total (on_total (λ (p : Place). p.from) nat_cmp_total) (on_total (λ (p : Place). p.to) nat_cmp_total))

-- ---- windows are one or two

fields-same : (x y : Window) → x.func ≡ y.func → x.list ≡ y.list → x.first ≡ y.first → x.count ≡ y.count → x ≡ y
fields-same x y a b c d = ap (λ f. run_at f x.list x.first x.count) a ∙ ap (λ l. run_at y.func l x.first x.count) b ∙ ap (λ k. run_at y.func y.list k x.count) c ∙ ap (λ n. run_at y.func y.list y.first n) d

abbrev OneOrTwo : Window → Window → Type 0
OneOrTwo x y = (x ≡ y) ⊎ ((x ≡ y) → ⊥)

one-or-two : (x y : Window) → OneOrTwo x y
one-or-two x y = by (nat_eq x.func y.func) (nat_eq x.list y.list) (nat_eq x.first y.first) (nat_eq x.count y.count) refl refl refl refl where
  differ : (f : Window → ℕ) → nat_eq (f x) (f y) ≡ false → (x ≡ y) → ⊥
  differ f e h = let t : nat_eq (f x) (f y) ≡ true = eq-eqb (f x) (f y) (ap f h) in let c : true ≡ false = sym t ∙ e in cc

  by : (a b c d : Bool) → nat_eq x.func y.func ≡ a → nat_eq x.list y.list ≡ b → nat_eq x.first y.first ≡ c → nat_eq x.count y.count ≡ d → OneOrTwo x y
  by true true true true p q r s = inl (fields-same x y (eqb-true x.func y.func p) (eqb-true x.list y.list q) (eqb-true x.first y.first r) (eqb-true x.count y.count s))
  by false b c d p q r s = inr (differ (λ w. w.func) p)
  by true false c d p q r s = inr (differ (λ w. w.list) q)
  by true true false d p q r s = inr (differ (λ w. w.first) r)
  by true true true false p q r s = inr (differ (λ w. w.count) s)

-- ---- one group

group-alike : (same : Window → Window → Bool) → IsEquivalent same → (g : List Window) (x y : Window) → IsGroup same g → Among g x → Among g y → same x y ≡ true
group-alike same eq [] x y i h k = absurd h
group-alike same eq (w ∷ ws) x y i h k = eq.transitive x w y (eq.symmetric w x (from x h)) (from y k) where
  from : (z : Window) → (z ≡ w) ⊎ Among ws z → same w z ≡ true
  from z (inl e) = subst (λ v. same w v ≡ true) (sym e) (eq.reflexive w)
  from z (inr m) = at-member (λ v. same w v ≡ true) ws z i m

each-group : (same : Window → Window → Bool) (gs : List (List Window)) (g : List Window) → AreGroups same gs → Among gs g → IsGroup same g
each-group same [] g a h = absurd h
each-group same (k ∷ gs) g a (inl e) = subst (IsGroup same) (sym e) a.0
each-group same (k ∷ gs) g a (inr h) = each-group same gs g a.2 h

-- members of a group and of one apart from it aren't the same
apart-differ : (same : Window → Window → Bool) → IsEquivalent same → (g h : List Window) (gs : List (List Window)) (x y : Window) → IsGroup same g → IsGroup same h → IsApart same g gs → Among gs h →
    Among g x → Among h y → same x y ≡ true → ⊥
apart-differ same eq [] h gs x y i j a m p q s = absurd i
apart-differ same eq (v ∷ vs) [] gs x y i j a m p q s = absurd j
apart-differ same eq (v ∷ vs) (w ∷ ws) gs x y i j a m p q s =
    let first : same v x ≡ true = group-alike same eq (v ∷ vs) v x i (inl refl) p in
    let last : same y w ≡ true = group-alike same eq (w ∷ ws) y w j q (inl refl) in
    let both : same v w ≡ true = eq.transitive v x w first (eq.transitive x y w s last) in
    let none : same v w ≡ false = at-member (λ g. leads same v g ≡ false) gs (w ∷ ws) a m in
    let c : true ≡ false = sym both ∙ none in cc

one-group : (same : Window → Window → Bool) → IsEquivalent same → (gs : List (List Window)) (g h : List Window) (x y : Window) → AreGroups same gs → Among gs g → Among gs h → Among g x → Among h y →
    same x y ≡ true → g ≡ h
one-group same eq [] g h x y a m n p q s = absurd m
one-group same eq (k ∷ gs) g h x y a (inl d) (inl e) p q s = d ∙ sym e
one-group same eq (k ∷ gs) g h x y a (inl d) (inr n) p q s =
    absurd (apart-differ same eq k h gs x y a.0 (each-group same gs h a.2 n) a.1 n (subst (λ l. Among l x) d p) q s)
one-group same eq (k ∷ gs) g h x y a (inr m) (inl e) p q s =
    absurd (apart-differ same eq k g gs y x a.0 (each-group same gs g a.2 m) a.1 m (subst (λ l. Among l y) e q) p (eq.symmetric x y s))
one-group same eq (k ∷ gs) g h x y a (inr m) (inr n) p q s = one-group same eq gs g h x y a.2 m n p q s

-- ---- buckets

record InBucket (bs : List Bucket) (g : List Window) : Type 0 where
  bucket : Bucket
  listed : Among bs bucket
  group : Among bucket.1 g

in-bucket : (bs : List Bucket) (g : List Window) → Among (groups_in bs) g → InBucket bs g
in-bucket [] g h = absurd h
in-bucket (b ∷ bs) g h = elim (either-member b.1 (groups_in bs) g h) [
  | inl a ↦ record { bucket = b; listed = inl refl; group = a }
  | inr c ↦ let r = in-bucket bs g c in record { bucket = r.bucket; listed = inr r.listed; group = r.group }
]

tagged : (h : ℕ) (g : List Window) (x : Window) → Among g x → Among {A = Window × ℕ} (map (λ w. (w, h)) g) (x, h)
tagged h [] x m = absurd m
tagged h (w ∷ ws) x (inl e) = let k : (x, h) ≡ (w, h) = ap (λ (v : Window). (v, h)) e in inl k
tagged h (w ∷ ws) x (inr m) = inr (tagged h ws x m)

under : (h : ℕ) (gs : List (List Window)) (g : List Window) (x : Window) → Among gs g → Among g x → Among {A = Window × ℕ} (held_under (h, gs)) (x, h)
under h [] g x m n = absurd m
under h (k ∷ gs) g x (inl e) n = front-member (map (λ w. (w, h)) k) (held_under (h, gs)) (x, h) (tagged h k x (subst (λ l. Among l x) e n))
under h (k ∷ gs) g x (inr m) n = back-member (map (λ w. (w, h)) k) (held_under (h, gs)) (x, h) (under h gs g x m n)

held-there : (bs : List Bucket) (b : Bucket) (g : List Window) (x : Window) → Among bs b → Among b.1 g → Among g x → Among {A = Window × ℕ} (held bs) (x, b.0)
held-there [] b g x l m n = absurd l
held-there (c ∷ bs) b g x (inl e) m n = front-member (held_under c) (held bs) (x, b.0) (subst (λ (d : Bucket). Among {A = Window × ℕ} (held_under d) (x, b.0)) e (under b.0 b.1 g x m n))
held-there (c ∷ bs) b g x (inr l) m n = back-member (held_under c) (held bs) (x, b.0) (held-there bs b g x l m n)

one-bucket : (bs : List Bucket) (b c : Bucket) → AreDistinct bs → Among bs b → Among bs c → b.0 ≡ c.0 → b ≡ c
one-bucket [] b c d h k e = absurd h
one-bucket (x ∷ bs) b c d (inl i) (inl j) e = i ∙ sym j
one-bucket (x ∷ bs) b c d (inl i) (inr k) e =
    let n : nat_eq c.0 x.0 ≡ false = at-member (λ y. nat_eq y.0 x.0 ≡ false) bs c d.0 k in
    let t : nat_eq c.0 x.0 ≡ true = eq-eqb c.0 x.0 (sym e ∙ ap (λ (y : Bucket). y.0) i) in
    let z : true ≡ false = sym t ∙ n in cc
one-bucket (x ∷ bs) b c d (inr h) (inl j) e =
    let n : nat_eq b.0 x.0 ≡ false = at-member (λ y. nat_eq y.0 x.0 ≡ false) bs b d.0 h in
    let t : nat_eq b.0 x.0 ≡ true = eq-eqb b.0 x.0 (e ∙ ap (λ (y : Bucket). y.0) j) in
    let z : true ≡ false = sym t ∙ n in cc
one-bucket (x ∷ bs) b c d (inr h) (inr k) e = one-bucket bs b c d.1 h k e

-- ---- an index that fits

pub held-alike : (number : Window → ℕ) (same : Window → Window → Bool) (windows : List Window) (bs : List Bucket) → IsEquivalent same → Fits number same windows bs →
    (g : List Window) (x y : Window) → Among (groups_in bs) g → Among g x → Among g y → same x y ≡ true
held-alike number same windows bs eq fits g x y m h k =
    let r = in-bucket bs g m in
    group-alike same eq g x y (each-group same r.bucket.1 g (at-member (λ (b : Bucket). AreGroups same b.1) bs r.bucket fits.groups r.listed) r.group) h k

module _ (number : Window → ℕ) (same : Window → Window → Bool) (windows : List Window) (bs : List Bucket) (eq : IsEquivalent same) (law : (w v : Window) → same w v ≡ true → number w ≡ number v)
    (fits : Fits number same windows bs) where
  -- windows that are held and the same stand in one group
  pub held-together : (g h : List Window) (x y : Window) → Among (groups_in bs) g → Among (groups_in bs) h → Among g x → Among h y → same x y ≡ true → g ≡ h
  held-together g h x y m n p q s =
      let r = in-bucket bs g m in
      let t = in-bucket bs h n in
      let rx : r.bucket.0 ≡ number x = at-member (λ (z : Window × ℕ). z.1 ≡ number z.0) (held bs) (x, r.bucket.0) fits.numbers (held-there bs r.bucket g x r.listed r.group p) in
      let ty : t.bucket.0 ≡ number y = at-member (λ (z : Window × ℕ). z.1 ≡ number z.0) (held bs) (y, t.bucket.0) fits.numbers (held-there bs t.bucket h y t.listed t.group q) in
      let b : r.bucket ≡ t.bucket = one-bucket bs r.bucket t.bucket fits.distinct r.listed t.listed (rx ∙ law x y s ∙ sym ty) in
      one-group same eq r.bucket.1 g h x y (at-member (λ (b : Bucket). AreGroups same b.1) bs r.bucket fits.groups r.listed) r.group (subst (λ (c : Bucket). Among c.1 h) (sym b) t.group) p q s

-- ---- classes of windows in order

abbrev HasHead : List Window → List Window → Type 0
HasHead ws [] = ⊥
HasHead ws (c ∷ cs) = Among ws c

more-heads : (w : Window) (ws : List Window) (cs : List (List Window)) → AllByRecursion (HasHead ws) cs → AllByRecursion (HasHead (w ∷ ws)) cs
more-heads w ws [] h = tt
more-heads w ws ([] ∷ cs) h = absurd h.0
more-heads w ws ((x ∷ xs) ∷ cs) h = (inr h.0, more-heads w ws cs h.1)

heads-in : (same : Window → Window → Bool) (earlier ws : List Window) → AllByRecursion (HasHead ws) (classes_from same earlier ws)
heads-in same earlier [] = tt
heads-in same earlier (w ∷ later) = by (list_any (same w) earlier || not (list_any (same w) later)) (heads-in same (earlier ++ w ∷ []) later) where
  rest : List (List Window)
  rest = classes_from same (earlier ++ w ∷ []) later

  by : (b : Bool) → AllByRecursion (HasHead later) rest → AllByRecursion (HasHead (w ∷ later)) ((if b then [] else (w ∷ filter (same w) later) ∷ []) ++ rest)
  by true h = more-heads w later rest h
  by false h = (inl refl, more-heads w later rest h)

each-ascends : (R : Window → Window → Type 0) (same : Window → Window → Bool) (earlier ws : List Window) → Ascends R ws → AllByRecursion (Ascends R) (classes_from same earlier ws)
each-ascends R same earlier [] a = tt
each-ascends R same earlier (w ∷ later) a = by (list_any (same w) earlier || not (list_any (same w) later)) (each-ascends R same (earlier ++ w ∷ []) later a.1) where
  rest : List (List Window)
  rest = classes_from same (earlier ++ w ∷ []) later

  by : (b : Bool) → AllByRecursion (Ascends R) rest → AllByRecursion (Ascends R) ((if b then [] else (w ∷ filter (same w) later) ∷ []) ++ rest)
  by true h = h
  by false h = ((kept-members (R w) (same w) later a.0, kept-ascends R (same w) later a.1), h)

-- the classes themselves, by their first members
abbrev pub ClassBefore : (Window → Place) → List Window → List Window → Type 0
ClassBefore place c d = place_cmp (first_place place c) (first_place place d) ≡ Less

behind-head : (place : Window → Place) (w : Window) (c : List Window) (ws : List Window) (cs : List (List Window)) → AllByRecursion (IsBefore place w) ws → AllByRecursion (HasHead ws) cs →
    AllByRecursion (ClassBefore place (w ∷ c)) cs
behind-head place w c ws [] b h = tt
behind-head place w c ws ([] ∷ cs) b h = absurd h.0
behind-head place w c ws ((x ∷ xs) ∷ cs) b h = (at-member (IsBefore place w) ws x b h.0, behind-head place w c ws cs b h.1)

classes-ascend : (place : Window → Place) (same : Window → Window → Bool) (earlier ws : List Window) → AreInOrder place ws → Ascends (ClassBefore place) (classes_from same earlier ws)
classes-ascend place same earlier [] a = tt
classes-ascend place same earlier (w ∷ later) a = by (list_any (same w) earlier || not (list_any (same w) later)) (classes-ascend place same (earlier ++ w ∷ []) later a.1) where
  rest : List (List Window)
  rest = classes_from same (earlier ++ w ∷ []) later

  by : (b : Bool) → Ascends (ClassBefore place) rest → Ascends (ClassBefore place) ((if b then [] else (w ∷ filter (same w) later) ∷ []) ++ rest)
  by true h = h
  by false h = (behind-head place w (filter (same w) later) later rest a.0 (heads-in same (earlier ++ w ∷ []) later), h)

-- each class has two members or more
some-two : (same : Window → Window → Bool) (w : Window) (ws : List Window) → list_any (same w) ws ≡ true → is_two (w ∷ filter (same w) ws) ≡ true
some-two same w ws h = some-kept (same w) w ws ∙ h

classes-two : (same : Window → Window → Bool) (earlier ws : List Window) → AllByRecursion (λ c. is_two c ≡ true) (classes_from same earlier ws)
classes-two same earlier [] = tt
classes-two same earlier (w ∷ later) = by (list_any (same w) earlier) (list_any (same w) later) refl (classes-two same (earlier ++ w ∷ []) later) where
  rest : List (List Window)
  rest = classes_from same (earlier ++ w ∷ []) later

  by : (a b : Bool) → list_any (same w) later ≡ b → AllByRecursion (λ c. is_two c ≡ true) rest → AllByRecursion (λ c. is_two c ≡ true) ((if a || not b then [] else (w ∷ filter (same w) later) ∷ []) ++ rest)
  by true b e h = h
  by false true e h = (some-two same w later e, h)
  by false false e h = h

-- ---- two members

record TwoOf (g : List Window) : Type 0 where
  first : Window
  second : Window
  rest : List Window
  is : g ≡ first ∷ second ∷ rest

two-of : (g : List Window) → is_two g ≡ true → TwoOf g
two-of [] h = cc
two-of (a ∷ []) h = cc
two-of (a ∷ b ∷ r) h = record { first = a; second = b; rest = r; is = refl }

two-members : (g : List Window) (x y : Window) → Among g x → Among g y → ((x ≡ y) → ⊥) → is_two g ≡ true
two-members [] x y h k n = absurd h
two-members (a ∷ []) x y (inl d) (inl e) n = absurd (n (d ∙ sym e))
two-members (a ∷ []) x y (inl d) (inr k) n = absurd k
two-members (a ∷ []) x y (inr h) k n = absurd h
two-members (a ∷ b ∷ r) x y h k n = grind arith

-- classes that share a member are one
one-class : (cs : List (List Window)) (c d : List Window) (x : Window) → AllApart cs → Among cs c → Among cs d → Among c x → Among d x → c ≡ d
one-class [] c d x a h k p q = absurd h
one-class (e ∷ cs) c d x a (inl i) (inl j) p q = i ∙ sym j
one-class (e ∷ cs) c d x a (inl i) (inr k) p q = absurd (a.0 d k x (subst (λ l. Among l x) i p) q)
one-class (e ∷ cs) c d x a (inr h) (inl j) p q = absurd (a.0 c h x (subst (λ l. Among l x) j q) p)
one-class (e ∷ cs) c d x a (inr h) (inr k) p q = one-class cs c d x a.1 h k p q

-- ---- classes in order

headed : (ms : List Window) (x : Window) → Among ms x → HasHead ms ms
headed [] x h = absurd h
headed (m ∷ ms) x h = inl refl

members-ascend : (place : Window → Place) (cs : List Class) → Ascends (λ c d. place_cmp (class_place place c) (class_place place d) ≡ Less) cs → Ascends (ClassBefore place) (all-members cs)
members-ascend place [] a = tt
members-ascend place (c ∷ cs) a = (behind cs a.0, members-ascend place cs a.1) where
  behind : (ds : List Class) → AllByRecursion (λ d. place_cmp (class_place place c) (class_place place d) ≡ Less) ds → AllByRecursion (ClassBefore place c.members) (all-members ds)
  behind [] h = tt
  behind (d ∷ ds) h = (h.0, behind ds h.1)

-- a window differs from the first members of classes, if from all members
first-apart : (place : Window → Place) (w : Window) (e : Class) (ms : List Window) → e.members ≡ ms → HasHead ms ms → ((v : Window) → Among e.members v → tied place_cmp places-total place w v ≡ false) →
    is_eq (place_cmp (place w) (first_place place ms)) ≡ false
first-apart place w e [] i n f = absurd n
first-apart place w e (v ∷ vs) i n f = f v (subst (λ l. Among l v) (sym i) (inl refl))

firsts-apart : (place : Window → Place) (w : Window) (ds es : List Class) → ((x : Window) → Among (flat (all-members es)) x → Among (flat (all-members ds)) x) → AllByRecursion (λ e. HasHead e.members e.members) es →
    ((v : Window) → Among (flat (all-members ds)) v → tied place_cmp places-total place w v ≡ false) → AllByRecursion (λ e. is_eq (place_cmp (place w) (first_place place e.members)) ≡ false) es
firsts-apart place w ds [] f k g = tt
firsts-apart place w ds (e ∷ es) f k g = (
  first-apart place w e e.members refl k.0 (λ v m. g v (f v (front-member e.members (flat (all-members es)) v m))),
  firsts-apart place w ds es (λ x i. f x (back-member e.members (flat (all-members es)) x i)) k.1 g,
)

-- classes of distinct windows have distinct first members
heads-distinct : (place : Window → Place) (ds : List Class) → IsDistinct (tied place_cmp places-total place) (flat (all-members ds)) → AllByRecursion (λ d. HasHead d.members d.members) ds →
    IsDistinct (tied place_cmp places-total (class_place place)) ds
unfolding IsDistinct
heads-distinct place [] d h = tt
heads-distinct place (c ∷ ds) d h = (by c.members refl h.0, heads-distinct place ds (back-distinct (tied place_cmp places-total place) c.members (flat (all-members ds)) d) h.1) where
  by : (ms : List Window) → c.members ≡ ms → HasHead ms ms → AllByRecursion (λ e. is_eq (place_cmp (first_place place c.members) (first_place place e.members)) ≡ false) ds
  by [] i n = absurd n
  by (w ∷ ws) i n =
      subst (λ (ms : List Window). AllByRecursion (λ e. is_eq (place_cmp (first_place place ms) (first_place place e.members)) ≡ false) ds) (sym i)
      (firsts-apart place w ds ds (λ x m. m) h.1 (λ v m. across-distinct (tied place_cmp places-total place) c.members (flat (all-members ds)) w v d (subst (λ l. Among l w) (sym i) (inl refl)) m))

-- ---- the theorem

module _ (place : Window → Place) (number : Window → ℕ) (same : Window → Window → Bool) (windows : List Window) (bs : List Bucket) (eq : IsEquivalent same)
    (law : (w v : Window) → same w v ≡ true → number w ≡ number v) (fits : Fits number same windows bs) (all : IsPermutation windows (flat (groups_in bs))) (order : AreInOrder place windows) where
  differ : (x y : Window) → place_cmp (place x) (place y) ≡ Less → (x ≡ y) → ⊥
  differ x y l e = let t : true ≡ false = sym (ap is_eq (tied_itself places-total (place y))) ∙ ap (λ z. is_eq (place_cmp (place z) (place y))) (sym e) ∙ ap is_eq l in cc

  distinct : IsDistinct (tied place_cmp places-total place) (flat (groups_in bs))
  distinct = IsDistinct-IsPermutation (tied place_cmp places-total place) (tied-flips place_cmp places-total place) windows (flat (groups_in bs)) all (ascends-distinct place_cmp places-total place windows order)

  -- a class and a group that share a member have the same ones
  into-group : (c g : List Window) (w x : Window) → Among (classes same windows) c → Among (groups_in bs) g → Among c w → Among g w → Among c x → Among g x
  into-group c g w x m n h k i =
      let s : same w x ≡ true = members-are-same same eq windows c m w x h i in
      let r = in-group (groups_in bs) x (moved-member windows (flat (groups_in bs)) x all (members-are-windows same eq windows c m x i)) in
      subst (λ l. Among l x) (sym (held-together number same windows bs eq law fits g r.group w x n r.listed k r.member s)) r.member

  a-window : (g : List Window) (x : Window) → Among (groups_in bs) g → Among g x → Among windows x
  a-window g x n i = moved-member (flat (groups_in bs)) windows x (IsPermutation-sym windows (flat (groups_in bs)) all) (of-group (groups_in bs) g x n i)

  into-class : (c g : List Window) (w x : Window) → Among (classes same windows) c → Among (groups_in bs) g → Among c w → Among g w → Among g x → Among c x
  into-class c g w x m n h k i = by (one-or-two w x) where
    by : OneOrTwo w x → Among c x
    by (inl e) = subst (Among c) e h
    by (inr d) =
        let s : same w x ≡ true = held-alike number same windows bs eq fits g w x n k i in
        let t = same-stand-together same eq windows w x d s (a-window g w n k) (a-window g x n i) in
        subst (λ l. Among l x) (sym (one-class (classes same windows) c t.class w (no-window-in-two same eq windows) m t.listed h t.one)) t.other

  -- a group in order is the class that it shares a member with
  in-order : (c g : List Window) (d : Class) (w : Window) → Among (classes same windows) c → Among (groups_in bs) g → Among c w → Among g w →
      IsPermutation g d.members → Ascends (IsBefore place) d.members → d.members ≡ c
  in-order c g d w m n h k p a =
      same-members (IsBefore place) (never-both place_cmp places-total place) d.members c a (at-member (Ascends (IsBefore place)) (classes same windows) c (each-ascends (IsBefore place) same [] windows order) m)
      (λ x i. into-class c g w x m n h k (moved-member d.members g x (IsPermutation-sym g d.members p) i))
      (λ x i. moved-member g d.members x p (into-group c g w x m n h k i))

  module _ (groups listed : List Class) (are : all-members groups ≡ filter is_two (groups_in bs)) (l : IsListed place groups listed) where
    group-of : (G : Class) → Among groups G → Among (filter is_two (groups_in bs)) G.members
    group-of G h = subst (λ (gs : List (List Window)). Among gs G.members) are (member-of groups G h)

    ordered-ascends : (G E : Class) → Among groups G → IsPermutation G.members E.members → IsSortedByKey place place_cmp E.members → Ascends (IsBefore place) E.members
    ordered-ascends G E h p s =
        sorted-ascends place_cmp places-total place E.members s
        (IsDistinct-IsPermutation (tied place_cmp places-total place) (tied-flips place_cmp places-total place) G.members E.members p
        (group-distinct (tied place_cmp places-total place) (groups_in bs) G.members distinct (kept-of is_two (groups_in bs) G.members (group-of G h)).member))

    to-listed : (c : List Window) → Among (classes same windows) c → Among (all-members listed) c
    to-listed c m =
        let t = two-of c (at-member (λ d. is_two d ≡ true) (classes same windows) c (classes-two same [] windows) m) in
        let a : Ascends (IsBefore place) (t.first ∷ t.second ∷ t.rest) = subst (Ascends (IsBefore place)) t.is (at-member (Ascends (IsBefore place)) (classes same windows) c (each-ascends (IsBefore place) same [] windows order) m) in
        let h : Among c t.first = subst (λ k. Among k t.first) (sym t.is) (inl refl) in
        let k : Among c t.second = subst (λ k. Among k t.second) (sym t.is) (inr (inl refl)) in
        let r = in-group (groups_in bs) t.first (moved-member windows (flat (groups_in bs)) t.first all (members-are-windows same eq windows c m t.first h)) in
        let g = r.group in
        let i : Among g t.second = into-group c g t.first t.second m r.listed h r.member k in
        let two : is_two g ≡ true = two-members g t.first t.second r.member i (differ t.first t.second a.0.0) in
        let G = class-of groups g (subst (λ (gs : List (List Window)). Among gs g) (sym are) (kept-member is_two (groups_in bs) g r.listed two)) in
        let E = forth place groups l.each G.class l.ordered G.listed in
        let p : IsPermutation g E.to.members = subst (λ (k : List Window). IsPermutation k E.to.members) G.has E.pair.ordered.moved in
        let e : E.to.members ≡ c = in-order c g E.to t.first m r.listed h r.member p (ordered-ascends G.class E.to G.listed E.pair.ordered.moved E.pair.ordered.sorted) in
        subst (Among (all-members listed)) e (member-of listed E.to (moved-member l.each listed E.to l.moved E.pair.other))

    from-listed : (c : List Window) → Among (all-members listed) c → Among (classes same windows) c
    unfolding IsDistinct
    from-listed c m =
        let K = class-of listed c m in
        let B = back place groups l.each K.class l.ordered (moved-member listed l.each K.class (IsPermutation-sym l.each listed l.moved) K.listed) in
        let g = B.from.members in
        let n = kept-of is_two (groups_in bs) g (group-of B.from B.pair.one) in
        let t = two-of g n.passes in
        let h : Among g t.first = subst (λ k. Among k t.first) (sym t.is) (inl refl) in
        let k : Among g t.second = subst (λ k. Among k t.second) (sym t.is) (inr (inl refl)) in
        let d : IsDistinct (tied place_cmp places-total place) (t.first ∷ t.second ∷ t.rest) = subst (IsDistinct (tied place_cmp places-total place)) t.is (group-distinct (tied place_cmp places-total place) (groups_in bs) g distinct n.member) in
        let apart : (t.first ≡ t.second) → ⊥ = λ e. let z : true ≡ false = sym (ap is_eq (tied_itself places-total (place t.second))) ∙ ap (λ y. is_eq (place_cmp (place y) (place t.second))) (sym e) ∙ d.0.0 in cc in
        let s : same t.first t.second ≡ true = held-alike number same windows bs eq fits g t.first t.second n.member h k in
        let o = same-stand-together same eq windows t.first t.second apart s (a-window g t.first n.member h) (a-window g t.second n.member k) in
        let e : K.class.members ≡ o.class =
        in-order o.class g K.class t.first o.listed n.member o.one h B.pair.ordered.moved (ordered-ascends B.from K.class B.pair.one B.pair.ordered.moved B.pair.ordered.sorted) in
        subst (Among (classes same windows)) (sym e ∙ K.has) o.listed

    -- each class in order has a first member
    has-first : (E : Class) → Among l.each E → HasHead E.members E.members
    has-first E m =
        let B = back place groups l.each E l.ordered m in
        let n = kept-of is_two (groups_in bs) B.from.members (group-of B.from B.pair.one) in
        let t = two-of B.from.members n.passes in
        headed E.members t.first (moved-member B.from.members E.members t.first B.pair.ordered.moved (subst (λ k. Among k t.first) (sym t.is) (inl refl)))

    flat-distinct : IsDistinct (tied place_cmp places-total place) (flat (all-members l.each))
    flat-distinct =
        IsDistinct-IsPermutation (tied place_cmp places-total place) (tied-flips place_cmp places-total place) (flat (all-members groups)) (flat (all-members l.each)) (ordered-flat place groups l.each l.ordered)
        (subst (λ (gs : List (List Window)). IsDistinct (tied place_cmp places-total place) (flat gs)) (sym are) (kept-distinct (tied place_cmp places-total place) is_two (groups_in bs) distinct))

    listed-distinct : IsDistinct (tied place_cmp places-total (class_place place)) listed
    listed-distinct =
        IsDistinct-IsPermutation (tied place_cmp places-total (class_place place)) (tied-flips place_cmp places-total (class_place place)) l.each listed l.moved
        (heads-distinct place l.each flat-distinct (for-members (λ (E : Class). HasHead E.members E.members) l.each has-first))

    -- the groups of the index, in order
    pub classified : all-members listed ≡ classes same windows
    classified =
        same-members (ClassBefore place) (never-both place_cmp places-total (first_place place)) (all-members listed) (classes same windows)
        (members-ascend place listed (sorted-ascends place_cmp places-total (class_place place) listed l.sorted listed-distinct))
        (classes-ascend place same [] windows order) from-listed to-listed
