-- Groups as lists of windows, and windows as those of groups.
use Rattle.std.proofs.Common.{◌≡◌, ◌∙◌, ℕ, Bool, true, false, List, [], ◌∷◌, ◌++◌, length, map, inl, inr, refl, sym, ap, subst, arith}
use Rattle.std.specs.Prelude.{◌⊎◌, if◌then◌else◌, filter}
use Rattle.std.specs.List.{AllByRecursion, IsDistinct, flat_map}
use Rattle.std.specs.List.Sorted.{IsPermutation}
use Rattle.std.proofs.lemmas.Grind.{flat_map-append}
use Rattle.std.proofs.lemmas.List.{map-append}
use Rattle.std.proofs.lemmas.List.Sorted.{IsPermutation-refl, IsPermutation-append}
use Rattle.go_typed.specs.declared.window.Class.{Class}
use Rattle.go_typed.specs.declared.window.Window.{Window}
use Rattle.clone_classes.specs.Classes.{Among}
use Rattle.clone_classes.specs.declared.place.Place.{Place}
use Rattle.clone_classes.specs.Orders.{AreOrdered, IsOrdered, first_place}
use Rattle.window_index.specs.Buckets.{Bucket, groups_in, held, held_under, is_two}
use Rattle.window_index.proofs.Ascents.{at-member, for-members}

abbrev pub flat : List (List Window) → List Window
flat gs = flat_map (λ g. g) gs

-- ---- what is held

firsts-of : (h : ℕ) (g : List Window) → map (λ (x : Window × ℕ). x.0) (map (λ w. (w, h)) g) ≡ g
firsts-of h [] = refl
firsts-of h (w ∷ ws) = ap (λ l. w ∷ l) (firsts-of h ws)

under-flat : (h : ℕ) (gs : List (List Window)) → map (λ (x : Window × ℕ). x.0) (held_under (h, gs)) ≡ flat gs
under-flat h [] = refl
under-flat h (g ∷ gs) =
    map-append (λ (x : Window × ℕ). x.0) (map (λ w. (w, h)) g) (held_under (h, gs))
    ∙ ap (λ l. l ++ map (λ (x : Window × ℕ). x.0) (held_under (h, gs))) (firsts-of h g)
    ∙ ap (λ l. g ++ l) (under-flat h gs)

pub held-flat : (bs : List Bucket) → map (λ (x : Window × ℕ). x.0) (held bs) ≡ flat (groups_in bs)
held-flat [] = refl
held-flat (b ∷ bs) =
    map-append (λ (x : Window × ℕ). x.0) (held_under b) (held bs)
    ∙ ap (λ l. l ++ map (λ (x : Window × ℕ). x.0) (held bs)) (under-flat b.0 b.1)
    ∙ ap (λ l. flat b.1 ++ l) (held-flat bs)
    ∙ sym (flat_map-append (λ (g : List Window). g) b.1 (groups_in bs))

-- ---- members

pub front-member : {A : Type 0} (xs ys : List A) (x : A) → Among xs x → Among (xs ++ ys) x
front-member [] ys x h = absurd h
front-member (z ∷ xs) ys x (inl e) = inl e
front-member (z ∷ xs) ys x (inr h) = inr (front-member xs ys x h)

pub back-member : {A : Type 0} (xs ys : List A) (x : A) → Among ys x → Among (xs ++ ys) x
back-member [] ys x h = h
back-member (z ∷ xs) ys x h = inr (back-member xs ys x h)

pub either-member : {A : Type 0} (xs ys : List A) (x : A) → Among (xs ++ ys) x → Among xs x ⊎ Among ys x
either-member [] ys x h = inr h
either-member (z ∷ xs) ys x (inl e) = inl (inl e)
either-member (z ∷ xs) ys x (inr h) = elim (either-member xs ys x h) [ inl a ↦ inl (inr a) | inr b ↦ inr b ]

-- the group that a window stands in
pub record InGroup (gs : List (List Window)) (x : Window) : Type 0 where
  pub group : List Window
  pub listed : Among gs group
  pub member : Among group x

pub in-group : (gs : List (List Window)) (x : Window) → Among (flat gs) x → InGroup gs x
in-group [] x h = absurd h
in-group (g ∷ gs) x h = elim (either-member g (flat gs) x h) [
  | inl a ↦ record { group = g; listed = inl refl; member = a }
  | inr b ↦ let r = in-group gs x b in record { group = r.group; listed = inr r.listed; member = r.member }
]

pub of-group : (gs : List (List Window)) (g : List Window) (x : Window) → Among gs g → Among g x → Among (flat gs) x
of-group [] g x h m = absurd h
of-group (k ∷ gs) g x (inl e) m = front-member k (flat gs) x (subst (λ l. Among l x) e m)
of-group (k ∷ gs) g x (inr h) m = back-member k (flat gs) x (of-group gs g x h m)

pub kept-member : {A : Type 0} (t : A → Bool) (xs : List A) (x : A) → Among xs x → t x ≡ true → Among (filter t xs) x
kept-member t [] x h e = absurd h
kept-member {A} t (y ∷ xs) x h e = by (t y) refl h (λ k. kept-member t xs x k e) where
  by : (b : Bool) → t y ≡ b → (x ≡ y) ⊎ Among xs x → (Among xs x → Among (filter t xs) x) → Among (if b then y ∷ filter t xs else filter t xs) x
  by true s (inl k) f = inl k
  by true s (inr k) f = inr (f k)
  by false s (inl k) f = let c : true ≡ false = sym e ∙ ap t k ∙ s in cc
  by false s (inr k) f = f k

pub record KeptOf {A : Type 0} (t : A → Bool) (xs : List A) (x : A) : Type 0 where
  pub member : Among xs x
  pub passes : t x ≡ true

pub kept-of : {A : Type 0} (t : A → Bool) (xs : List A) (x : A) → Among (filter t xs) x → KeptOf t xs x
kept-of t [] x h = absurd h
kept-of {A} t (y ∷ xs) x h = by (t y) refl h (λ k. kept-of t xs x k) where
  further : KeptOf t xs x → KeptOf t (y ∷ xs) x
  further r = record { member = inr r.member; passes = r.passes }

  by : (b : Bool) → t y ≡ b → Among (if b then y ∷ filter t xs else filter t xs) x → (Among (filter t xs) x → KeptOf t xs x) → KeptOf t (y ∷ xs) x
  by true s (inl k) f = record { member = inl k; passes = ap t k ∙ s }
  by true s (inr k) f = further (f k)
  by false s k f = further (f k)

-- ---- distinct windows

pub front-distinct : {A : Type 0} (e : A → A → Bool) (xs ys : List A) → IsDistinct e (xs ++ ys) → IsDistinct e xs
unfolding IsDistinct
front-distinct e [] ys d = tt
front-distinct e (x ∷ xs) ys d = (for-members (λ y. e x y ≡ false) xs (λ y m. at-member (λ y. e x y ≡ false) (xs ++ ys) y d.0 (front-member xs ys y m)), front-distinct e xs ys d.1)

pub back-distinct : {A : Type 0} (e : A → A → Bool) (xs ys : List A) → IsDistinct e (xs ++ ys) → IsDistinct e ys
unfolding IsDistinct
back-distinct e [] ys d = d
back-distinct e (x ∷ xs) ys d = back-distinct e xs ys d.1

pub across-distinct : {A : Type 0} (e : A → A → Bool) (xs ys : List A) (x y : A) → IsDistinct e (xs ++ ys) → Among xs x → Among ys y → e x y ≡ false
unfolding IsDistinct
across-distinct e [] ys x y d h k = absurd h
across-distinct {A} e (z ∷ xs) ys x y d (inl i) k = subst (λ (w : A). e w y ≡ false) (sym i) (at-member (λ y. e z y ≡ false) (xs ++ ys) y d.0 (back-member xs ys y k))
across-distinct e (z ∷ xs) ys x y d (inr h) k = across-distinct e xs ys x y d.1 h k

pub group-distinct : (e : Window → Window → Bool) (gs : List (List Window)) (g : List Window) → IsDistinct e (flat gs) → Among gs g → IsDistinct e g
unfolding IsDistinct
group-distinct e [] g d h = absurd h
group-distinct e (k ∷ gs) g d (inl i) = subst (IsDistinct e) (sym i) (front-distinct e k (flat gs) d)
group-distinct e (k ∷ gs) g d (inr h) = group-distinct e gs g (back-distinct e k (flat gs) d) h

-- distinct windows in front of others
in-front : (e : Window → Window → Bool) (xs ys : List Window) → IsDistinct e xs → IsDistinct e ys → ((x y : Window) → Among xs x → Among ys y → e x y ≡ false) → IsDistinct e (xs ++ ys)
unfolding IsDistinct
in-front e [] ys d k f = k
in-front e (x ∷ xs) ys d k f = (
  for-members (λ y. e x y ≡ false) (xs ++ ys) (λ y m. elim (either-member xs ys y m) [ inl a ↦ at-member (λ y. e x y ≡ false) xs y d.0 a | inr b ↦ f x y (inl refl) b ]),
  in-front e xs ys d.1 k (λ z y m n. f z y (inr m) n),
)

-- some of groups have some of their windows
pub kept-distinct : (e : Window → Window → Bool) (t : List Window → Bool) (gs : List (List Window)) → IsDistinct e (flat gs) → IsDistinct e (flat (filter t gs))
unfolding IsDistinct
kept-distinct e t [] d = tt
kept-distinct e t (g ∷ gs) d = by (t g) (kept-distinct e t gs (back-distinct e g (flat gs) d)) where
  behind : (x : Window) → Among (flat (filter t gs)) x → Among (flat gs) x
  behind x m = let r = in-group (filter t gs) x m in of-group gs r.group x (kept-of t gs r.group r.listed).member r.member

  by : (b : Bool) → IsDistinct e (flat (filter t gs)) → IsDistinct e (flat (if b then g ∷ filter t gs else filter t gs))
  by true r = in-front e g (flat (filter t gs)) (front-distinct e g (flat gs) d) r (λ x y m n. across-distinct e g (flat gs) x y d m (behind y n))
  by false r = r

-- ---- groups in order

abbrev pub all-members : List Class → List (List Window)
all-members cs = map (λ c. c.members) cs

pub ordered-flat : (place : Window → Place) (cs ds : List Class) → AreOrdered place cs ds → IsPermutation (flat (all-members cs)) (flat (all-members ds))
ordered-flat place [] [] o = IsPermutation-refl []
ordered-flat place [] (d ∷ ds) o = absurd o
ordered-flat place (c ∷ cs) [] o = absurd o
ordered-flat place (c ∷ cs) (d ∷ ds) o = IsPermutation-append c.members d.members (flat (all-members cs)) (flat (all-members ds)) o.0.moved (ordered-flat place cs ds o.1)

-- the ordered group of a group, and the group of an ordered one
pub record OrderedOf (place : Window → Place) (cs ds : List Class) (c d : Class) : Type 0 where
  pub one : Among cs c
  pub other : Among ds d
  pub ordered : IsOrdered place c d

pub record Forth (place : Window → Place) (cs ds : List Class) (c : Class) : Type 0 where
  pub to : Class
  pub pair : OrderedOf place cs ds c to

pub record Back (place : Window → Place) (cs ds : List Class) (d : Class) : Type 0 where
  pub from : Class
  pub pair : OrderedOf place cs ds from d

pub forth : (place : Window → Place) (cs ds : List Class) (c : Class) → AreOrdered place cs ds → Among cs c → Forth place cs ds c
forth place [] ds c o h = absurd h
forth place (x ∷ cs) [] c o h = absurd o
forth place (x ∷ cs) (y ∷ ds) c o (inl e) = record { to = y; pair = record { one = inl e; other = inl refl; ordered = subst (λ z. IsOrdered place z y) (sym e) o.0 } }
forth place (x ∷ cs) (y ∷ ds) c o (inr h) = let r = forth place cs ds c o.1 h in record { to = r.to; pair = record { one = inr r.pair.one; other = inr r.pair.other; ordered = r.pair.ordered } }

pub back : (place : Window → Place) (cs ds : List Class) (d : Class) → AreOrdered place cs ds → Among ds d → Back place cs ds d
back place cs [] d o h = absurd h
back place [] (y ∷ ds) d o h = absurd o
back place (x ∷ cs) (y ∷ ds) d o (inl e) = record { from = x; pair = record { one = inl refl; other = inl e; ordered = subst (λ z. IsOrdered place x z) (sym e) o.0 } }
back place (x ∷ cs) (y ∷ ds) d o (inr h) = let r = back place cs ds d o.1 h in record { from = r.from; pair = record { one = inr r.pair.one; other = inr r.pair.other; ordered = r.pair.ordered } }

pub member-of : (cs : List Class) (c : Class) → Among cs c → Among (all-members cs) c.members
member-of [] c h = absurd h
member-of (x ∷ cs) c (inl e) = inl (ap (λ y. y.members) e)
member-of (x ∷ cs) c (inr h) = inr (member-of cs c h)

pub record ClassOf (cs : List Class) (g : List Window) : Type 0 where
  pub class : Class
  pub listed : Among cs class
  pub has : class.members ≡ g

pub class-of : (cs : List Class) (g : List Window) → Among (all-members cs) g → ClassOf cs g
class-of [] g h = absurd h
class-of (x ∷ cs) g (inl e) = record { class = x; listed = inl refl; has = sym e }
class-of (x ∷ cs) g (inr h) = let r = class-of cs g h in record { class = r.class; listed = inr r.listed; has = r.has }
