-- In a package without faults of names each object is by a name of its specification, and the names in specifications stand as they may.
use Rattle.std.proofs.Common.{◌≡◌, ◌∙◌, ℕ, zero, suc, ◌+◌, ◌<◌, ◌≤◌, ◌⊎◌, inl, inr, Bool, true, false, nat_eq, List, [], ◌∷◌, ◌++◌, length, map, Option, Some, None, refl, sym, ap, subst, arith}
use Rattle.std.specs.Prelude.{slice_get, if◌then◌else◌, is_some, cond}
use Rattle.std.specs.List.{AllByRecursion}
use Rattle.std.specs.Option.{option_map}
use Rattle.std.proofs.lemmas.Bool.{eq-eqb, eqb-true}
use Rattle.std.proofs.lemmas.List.{length-map}
use Rattle.std.proofs.lemmas.Option.{slice_get-map}
use Rattle.go_tokens.specs.Tokens.{kinds}
use Rattle.go_grammar.specs.Grammar.{IsFile}
use Rattle.go_grammar.specs.Trees.{first, last, parts}
use Rattle.go_tree.specs.declared.context.Entity.{Entity}
use Rattle.go_tree.specs.declared.context.Entity.TheVariants as entity
use Rattle.go_tree.specs.declared.event.Event.{Event}
use Rattle.go_tree.specs.declared.event.Event.TheVariants as event
use Rattle.go_tree.specs.declared.object.Declared.{Declared}
use Rattle.go_tree.specs.declared.object.Object.{Object}
use Rattle.go_tree.specs.declared.object.Object.TheVariants as object
use Rattle.go_tree.specs.Contexts.{is_package}
use Rattle.go_tree.specs.Declarations.{Found, declarations}
use Rattle.go_tree.specs.Meanings.{Meaning, meanings}
use Rattle.go_tree.specs.Objects.{objects_from}
use Rattle.go_tree.specs.Units as names
use Rattle.go_tree.specs.Uses.{declared_by, declared_in_package, object_in, object_of, uses}
use Rattle.go_scopes_events.specs.Orders.{AreInOrder, EachDeclared}
use Rattle.go_scopes_events.specs.Scopes.{AreOrderly}
use Rattle.go_heads.specs.Heads.{in_bodies}
use Rattle.go_heads.proofs.Public.{file_sat, locals_bodily}
use Rattle.go_typed.specs.declared.form.Referent.TheVariants as referent
use Rattle.go_typed.specs.Packages.{Counts, no_counts, referent_of, counted, referents_from}
use Rattle.go_exprs_rules.specs.Scopes.{value, several}
use Rattle.go_package_defs.specs.Answer.{specifications}
use Rattle.go_package_defs.specs.Declarations.{Specification, in_file, is_alone}
use Rattle.go_package_defs.specs.Knowledge.{Outline, State, following, place_of, column_of, found_or, declaring, outline_by, outlines, free_scope, referent_there}
use Rattle.go_package_defs.specs.Sources.{Source, Package, package_of, unit_of}
use Rattle.go_package_settled.specs.Read.{IsFaultless}
use Rattle.go_package_settled.specs.Resolved.{AreResolved}
use Rattle.go_package_checked.specs.Names.{SpecificationStands, NamesStand}
use Rattle.go_package_placed.proofs.Found.{all_append, all_apart, all_own, declared_each, false_true, same_unit}
use Rattle.go_package_placed.proofs.Hints.{is_told}
use Rattle.go_package_placed.proofs.Imports.{file_chosen}
use Rattle.go_package_placed.proofs.Placing.{Means, AreTold}
use Rattle.go_package_placed.proofs.Rows.{object_token}
use Rattle.go_package_placed.proofs.Shared.{shared, named, all_named}
use Rattle.go_package_placed.proofs.Specified.{is_parameter_entity, IsOf, SpecificationPlaced, Specifies, file_specifies}

-- ---- lists

some_same : {A : Type 0} (a b : A) → (let o : Option A = Some a in o) ≡ Some b → a ≡ b
some_same a b q = cc

below : {A : Type 0} (xs : List A) (n : ℕ) → is_some (slice_get xs n) ≡ true → n < length xs
below [] n e = cc
below (x ∷ xs) zero e = omega arith
below (x ∷ xs) (suc n) e = let r = below xs n e in omega (arith, r)

all_at : {A : Type 0} (Q : A → Type 0) (xs : List A) (n : ℕ) (x : A) → AllByRecursion Q xs → slice_get xs n ≡ Some x → Q x
all_at Q [] n x h e = cc
all_at Q (y ∷ xs) zero x h e = subst Q (some_same y x e) h.0
all_at Q (y ∷ xs) (suc n) x h e = all_at Q xs n x h.1 e

all_map : {A : Type 0} (P Q : A → Type 0) (xs : List A) → ((x : A) → P x → Q x) → AllByRecursion P xs → AllByRecursion Q xs
all_map P Q [] f h = tt
all_map P Q (x ∷ xs) f h = (f x h.0, all_map P Q xs f h.1)

all_both : {A : Type 0} (P Q : A → Type 0) (xs : List A) → AllByRecursion P xs → AllByRecursion Q xs → AllByRecursion (λ x. P x × Q x) xs
all_both P Q [] h g = tt
all_both P Q (x ∷ xs) h g = ((h.0, g.0), all_both P Q xs h.1 g.1)

-- ---- names and what they are declared as

abbrev Listed : ℕ → List ℕ → Type 0
Listed t [] = ⊥
Listed t (i ∷ ts) = (t ≡ i) ⊎ Listed t ts

abbrev IsAmong : ℕ → Entity → List (ℕ × Entity) → Type 0
IsAmong t e [] = ⊥
IsAmong t e (x ∷ xs) = ((x.0 ≡ t) × (x.1 ≡ e)) ⊎ IsAmong t e xs

among_front : (t : ℕ) (e : Entity) (xs ys : List (ℕ × Entity)) → IsAmong t e xs → IsAmong t e (xs ++ ys)
among_front t e [] ys h = absurd h
among_front t e (x ∷ xs) ys (inl h) = inl h
among_front t e (x ∷ xs) ys (inr h) = inr (among_front t e xs ys h)

among_behind : (t : ℕ) (e : Entity) (xs ys : List (ℕ × Entity)) → IsAmong t e ys → IsAmong t e (xs ++ ys)
among_behind t e [] ys h = h
among_behind t e (x ∷ xs) ys h = inr (among_behind t e xs ys h)

among_split : {P : Type 0} (t : ℕ) (e : Entity) (xs ys : List (ℕ × Entity)) → IsAmong t e (xs ++ ys) → (IsAmong t e xs → P) → (IsAmong t e ys → P) → P
among_split t e [] ys h f g = g h
among_split t e (x ∷ xs) ys (inl h) f g = f (inl h)
among_split t e (x ∷ xs) ys (inr h) f g = among_split t e xs ys h (λ k. f (inr k)) g

named_among : (t : ℕ) (e : Entity) (ts : List ℕ) → Listed t ts → IsAmong t e (named e ts)
named_among t e [] h = h
named_among t e (i ∷ ts) (inl h) = inl (sym h, refl)
named_among t e (i ∷ ts) (inr h) = inr (named_among t e ts h)

among_named : (t : ℕ) (e g : Entity) (ts : List ℕ) → IsAmong t e (named g ts) → Listed t ts
among_named t e g [] h = h
among_named t e g (i ∷ ts) (inl h) = inl (sym h.0)
among_named t e g (i ∷ ts) (inr h) = inr (among_named t e g ts h)

-- ---- what a file declares in the package block

shared_among : (es : List Event) → EachDeclared (λ d. is_package d.block ≡ true → IsAmong d.name d.entity (shared es)) es
shared_among es = all es (λ t e h. h)
  where
    all : (fs : List Event) → ((t : ℕ) (e : Entity) → IsAmong t e (shared fs) → IsAmong t e (shared es)) → EachDeclared (λ d. is_package d.block ≡ true → IsAmong d.name d.entity (shared es)) fs
    all [] f = tt
    all (event.Declaration d ∷ fs) f = (
      λ b. f d.name d.entity (subst (λ x. IsAmong d.name d.entity (if x then (d.name, d.entity) ∷ shared fs else shared fs)) (sym b) (inl (refl, refl))),
      all fs (λ t e h. f t e (further (is_package d.block) t e h)),
    )
      where
        further : (b : Bool) (t : ℕ) (e : Entity) → IsAmong t e (shared fs) → IsAmong t e (if b then (d.name, d.entity) ∷ shared fs else shared fs)
        further true t e h = inr h
        further false t e h = h
    all (event.Use u ∷ fs) f = all fs f
    all (event.Import p ∷ fs) f = all fs f
    all (event.Member m g i ∷ fs) f = all fs f
    all (event.Bodiless i j ∷ fs) f = all fs f
    all (event.Statement i j ∷ fs) f = all fs f
    all (event.Misplaced i j ∷ fs) f = all fs f
    all (event.SecondDefault i ∷ fs) f = all fs f

among_least : (lo hi t : ℕ) (e : Entity) (es : List Event) → AreInOrder lo hi es → IsAmong t e (shared es) → lo ≤ t
among_least lo hi t e [] o h = absurd h
among_least lo hi t e (event.Declaration d ∷ es) o h = by (is_package d.block) h (λ k. among_least (suc d.name) hi t e es o.1 k)
  where
    by : (b : Bool) → IsAmong t e (if b then (d.name, d.entity) ∷ shared es else shared es) → (IsAmong t e (shared es) → suc d.name ≤ t) → lo ≤ t
    by true (inl k) f = let a = o.0 in let s = k.0 in omega (arith, a, s)
    by true (inr k) f = let a = o.0 in let r = f k in omega (arith, a, r)
    by false k f = let a = o.0 in let r = f k in omega (arith, a, r)
among_least lo hi t e (event.Use u ∷ es) o h = let a = o.0 in let r = among_least (suc u.name) hi t e es o.1 h in omega (arith, a, r)
among_least lo hi t e (event.Import p ∷ es) o h = among_least lo hi t e es o h
among_least lo hi t e (event.Member m g i ∷ es) o h = among_least lo hi t e es o h
among_least lo hi t e (event.Bodiless i j ∷ es) o h = among_least lo hi t e es o h
among_least lo hi t e (event.Statement i j ∷ es) o h = among_least lo hi t e es o h
among_least lo hi t e (event.Misplaced i j ∷ es) o h = among_least lo hi t e es o h
among_least lo hi t e (event.SecondDefault i ∷ es) o h = among_least lo hi t e es o h

-- each is declared once
among_once : (lo hi t : ℕ) (a b : Entity) (es : List Event) → AreInOrder lo hi es → IsAmong t a (shared es) → IsAmong t b (shared es) → a ≡ b
among_once lo hi t a b [] o h g = absurd h
among_once lo hi t a b (event.Declaration d ∷ es) o h g = by (is_package d.block) h g (λ k l. among_once (suc d.name) hi t a b es o.1 k l)
  where
    behind : (e : Entity) → d.name ≡ t → IsAmong t e (shared es) → ⊥
    behind e s k = let r = among_least (suc d.name) hi t e es o.1 k in omega (arith, r, s)

    by : (x : Bool) → IsAmong t a (if x then (d.name, d.entity) ∷ shared es else shared es) → IsAmong t b (if x then (d.name, d.entity) ∷ shared es else shared es)
        → (IsAmong t a (shared es) → IsAmong t b (shared es) → a ≡ b) → a ≡ b
    by true (inl k) (inl l) f = sym k.1 ∙ l.1
    by true (inl k) (inr l) f = absurd (behind b k.0 l)
    by true (inr k) (inl l) f = absurd (behind a l.0 k)
    by true (inr k) (inr l) f = f k l
    by false k l f = f k l
among_once lo hi t a b (event.Use u ∷ es) o h g = among_once (suc u.name) hi t a b es o.1 h g
among_once lo hi t a b (event.Import p ∷ es) o h g = among_once lo hi t a b es o h g
among_once lo hi t a b (event.Member m c i ∷ es) o h g = among_once lo hi t a b es o h g
among_once lo hi t a b (event.Bodiless i j ∷ es) o h g = among_once lo hi t a b es o h g
among_once lo hi t a b (event.Statement i j ∷ es) o h g = among_once lo hi t a b es o h g
among_once lo hi t a b (event.Misplaced i j ∷ es) o h g = among_once lo hi t a b es o h g
among_once lo hi t a b (event.SecondDefault i ∷ es) o h g = among_once lo hi t a b es o h g

-- ---- the specification that declares a name

-- one of these in the file n has the name t
abbrev AnyIn : ℕ → ℕ → List Specification → Type 0
AnyIn n t [] = ⊥
AnyIn n t (x ∷ xs) = ((x.file ≡ n) × Listed t x.names) ⊎ AnyIn n t xs

any_front : (n t : ℕ) (xs ys : List Specification) → AnyIn n t xs → AnyIn n t (xs ++ ys)
any_front n t [] ys h = absurd h
any_front n t (x ∷ xs) ys (inl h) = inl h
any_front n t (x ∷ xs) ys (inr h) = inr (any_front n t xs ys h)

any_behind : (n t : ℕ) (xs ys : List Specification) → AnyIn n t ys → AnyIn n t (xs ++ ys)
any_behind n t [] ys h = h
any_behind n t (x ∷ xs) ys h = inr (any_behind n t xs ys h)

any_named : (n t : ℕ) (e : Entity) (xs : List Specification) → AllByRecursion (IsOf n) xs → IsAmong t e (all_named xs) → AnyIn n t xs
any_named n t e [] f h = h
any_named n t e (x ∷ xs) f h = among_split t e (named x.entity x.names) (all_named xs) h (λ k. inl (f.0.0, among_named t e x.entity x.names k)) (λ k. inr (any_named n t e xs f.1 k))

any_at : (k : ℕ) (ss : List Source) (i : ℕ) (s : Source) (n t : ℕ) → n ≡ k + i → slice_get ss i ≡ Some s → AnyIn n t (in_file n s.tree) → AnyIn n t (specifications k ss)
any_at k [] i s n t q e h = absurd cc
any_at k (x ∷ ss) zero s n t q e h =
    let same : n ≡ k = omega (arith, q) in
    any_front n t (in_file k x.tree) (specifications (suc k) ss)
    (subst (λ m. AnyIn n t (in_file m x.tree)) same (subst (λ (y : Source). AnyIn n t (in_file n y.tree)) (sym (some_same x s e)) h))
any_at k (x ∷ ss) (suc i) s n t q e h =
    let next : n ≡ suc k + i = omega (arith, q) in
    any_behind n t (in_file k x.tree) (specifications (suc k) ss) (any_at (suc k) ss i s n t next e h)

following_place : (o : Option ℕ) (c : ℕ) → following o ≡ Some c → (l : ℕ) × (o ≡ Some l) × (c ≡ suc l)
following_place None c e = cc
following_place (Some l) c e = (l, refl, sym (some_same (suc l) c e))

following_none : (o : Option ℕ) → following o ≡ None → o ≡ None
following_none None q = refl
following_none (Some k) q = absurd cc

place_below : (t : ℕ) (ts : List ℕ) (c : ℕ) → place_of t ts ≡ Some c → c < length ts
place_below t [] c e = cc
place_below t (i ∷ ts) c e = by (nat_eq t i) e (λ l q. place_below t ts l q)
  where
    by : (b : Bool) → (if b then Some 0 else following (place_of t ts)) ≡ Some c → ((l : ℕ) → place_of t ts ≡ Some l → l < length ts) → c < suc (length ts)
    by true q f = let z = some_same 0 c q in omega (arith, z)
    by false q f = let r = following_place (place_of t ts) c q in let l = f r.0 r.1 in let s = r.2 in omega (arith, l, s)

listed_place : (t : ℕ) (ts : List ℕ) → Listed t ts → place_of t ts ≡ None → ⊥
listed_place t [] h e = h
listed_place t (i ∷ ts) h e = by (nat_eq t i) refl h e (λ k q. listed_place t ts k q)
  where
    by : (b : Bool) → nat_eq t i ≡ b → Listed t (i ∷ ts) → (if b then Some 0 else following (place_of t ts)) ≡ None → (Listed t ts → place_of t ts ≡ None → ⊥) → ⊥
    by true q k g f = absurd cc
    by false q (inl s) g f = false_true (sym q ∙ eq-eqb t i s)
    by false q (inr k) g f = f k (following_none (place_of t ts) g)

place_listed : (t : ℕ) (ts : List ℕ) (c : ℕ) → place_of t ts ≡ Some c → Listed t ts
place_listed t [] c e = cc
place_listed t (i ∷ ts) c e = by (nat_eq t i) refl e (λ l q. place_listed t ts l q)
  where
    by : (b : Bool) → nat_eq t i ≡ b → (if b then Some 0 else following (place_of t ts)) ≡ Some c → ((l : ℕ) → place_of t ts ≡ Some l → Listed t ts) → Listed t (i ∷ ts)
    by true q g f = inl (eqb-true t i q)
    by false q g f = let r = following_place (place_of t ts) c g in inr (f r.0 r.1)

column_some : (n t : ℕ) (x : Specification) (c : ℕ) → column_of n t x ≡ Some c → (x.file ≡ n) × (place_of t x.names ≡ Some c)
column_some n t x c e = by (nat_eq x.file n) refl e
  where
    by : (b : Bool) → nat_eq x.file n ≡ b → (if b then place_of t x.names else None) ≡ Some c → (x.file ≡ n) × (place_of t x.names ≡ Some c)
    by true q h = (eqb-true x.file n q, h)
    by false q h = absurd cc

column_none : (n t : ℕ) (x : Specification) → column_of n t x ≡ None → (x.file ≡ n) × Listed t x.names → ⊥
column_none n t x e h = listed_place t x.names h.1 (sym (ap (λ b. if b then place_of t x.names else None) (eq-eqb x.file n h.0)) ∙ e)

module _ (P : Specification → Type 0) where
  -- This specification declares the name at the token t of the file n, as its name of this number.
  record Declares (xs : List Specification) (n t : ℕ) : Type 0 where
    specification : Specification
    column : ℕ
    holds : P specification
    file : specification.file ≡ n
    place : place_of t specification.names ≡ Some column
    is : declaring xs n t ≡ (specification, column)

  declares_more : (x : Specification) (xs : List Specification) (n t : ℕ) → column_of n t x ≡ None → Declares xs n t → Declares (x ∷ xs) n t
  declares_more x xs n t e d =
      record { specification = d.specification; column = d.column; holds = d.holds; file = d.file; place = d.place; is = ap (λ o. found_or x o (declaring xs n t)) e ∙ d.is }

  declares_by : (x : Specification) (xs : List Specification) (n t : ℕ) (o : Option ℕ) → column_of n t x ≡ o → P x → AnyIn n t (x ∷ xs) → (AnyIn n t xs → Declares xs n t) → Declares (x ∷ xs) n t
  declares_by x xs n t (Some c) e h a f =
      let r = column_some n t x c e in
      record { specification = x; column = c; holds = h; file = r.0; place = r.1; is = ap (λ o. found_or x o (declaring xs n t)) e }
  declares_by x xs n t None e h (inl a) f = absurd (column_none n t x e a)
  declares_by x xs n t None e h (inr a) f = declares_more x xs n t e (f a)

  declares : (xs : List Specification) (n t : ℕ) → AllByRecursion P xs → AnyIn n t xs → Declares xs n t
  declares [] n t h a = absurd a
  declares (x ∷ xs) n t h a = declares_by x xs n t (column_of n t x) refl h.0 a (λ k. declares xs n t h.1 k)

-- ---- objects by their sorts

abbrev IsVariable : Entity → Type 0
IsVariable e = is_parameter_entity e ≡ false → e ≡ entity.Variable

variable_referent : (c : Counts) (e : Entity) (k : ℕ) → referent_of c e ≡ referent.Variable k → IsVariable e
variable_referent c entity.Constant k q f = absurd cc
variable_referent c entity.Type k q f = absurd cc
variable_referent c entity.Variable k q f = refl
variable_referent c entity.Parameter k q f = absurd cc
variable_referent c entity.Function k q f = absurd cc

variable_at : (c : Counts) (ds : List Declared) (n k : ℕ) (d : Declared) → slice_get ds n ≡ Some d → referent_there (slice_get (referents_from c ds) n) ≡ referent.Variable k → IsVariable d.entity
variable_at c [] n k d e q = absurd cc
variable_at c (x ∷ ds) zero k d e q = subst (λ (z : Declared). IsVariable z.entity) (some_same x d e) (variable_referent c x.entity k q)
variable_at c (x ∷ ds) (suc n) k d e q = variable_at (counted c x.entity) ds n k d e q

-- ---- files

rows_none : (ms : List Meaning) (k : ℕ) (us : List names.Unit) (i : ℕ) → slice_get us i ≡ None → slice_get (objects_from ms k us) i ≡ None
rows_none ms k [] i e = refl
rows_none ms k (u ∷ us) zero e = absurd cc
rows_none ms k (u ∷ us) (suc i) e = rows_none ms (suc k) us i e

none_object : (o : Object) → ◌≡◌ {A = Option Object} None (Some o) → ⊥
none_object o e = cc

source_there : (ss : List Source) (n : ℕ) → slice_get (map unit_of ss) n ≡ option_map unit_of (slice_get ss n)
source_there ss n = slice_get-map unit_of ss n

orderly_at : (us : List names.Unit) (n : ℕ) (u : names.Unit) → AreOrderly us → slice_get us n ≡ Some u → (j : ℕ) × AreInOrder 0 j u.events
orderly_at [] n u h e = absurd cc
orderly_at (x ∷ us) zero u h e = (h.0.end, subst (λ (y : names.Unit). AreInOrder 0 h.0.end y.events) (same_unit x u e) h.0.order)
orderly_at (x ∷ us) (suc n) u h e = orderly_at us n u h.1 e

abbrev Reads : Source → Type 0
Reads s = IsFile (kinds s.tokens.tokens) s.tree

value_told : (b : Bool) → is_told (cond b several value) ≡ true
value_told true = refl
value_told false = refl

module _ (ss : List Source) (faultless : IsFaultless ss) (done : AreResolved (map unit_of ss)) where
  abbrev us : List names.Unit
  us = map unit_of ss

  abbrev p : Package
  p = package_of ss (uses us)

  abbrev specs : List Specification
  specs = specifications 0 ss

  abbrev os : List Outline
  os = outlines p specs

  abbrev count : ℕ
  count = length os

  as_many : length p.uses.package_level ≡ count
  as_many = sym (length-map p.uses.package_level (λ (d : Declared). outline_by p d (declaring specs d.file d.name)))

  module _ (n : ℕ) (s : Source) (there : slice_get ss n ≡ Some s) where
    unit_there : slice_get us n ≡ Some (unit_of s)
    unit_there = source_there ss n ∙ ap (option_map unit_of) there

    read : Reads s
    read = all_at Reads ss n s faultless.trees there

    abbrev objects : ℕ → Option Object
    objects i = object_of (uses us) n i

    abbrev es : List Event
    es = (unit_of s).events

    order : (j : ℕ) × AreInOrder 0 j es
    order = orderly_at us n (unit_of s) done.orderly unit_there

    means : Means (meanings us) n s.tokens objects (in_bodies (parts s.tree)) count
    means = record {
      shared = λ i m e. let l = below p.uses.package_level m (done.complete.declared n i (object.Package m) e) in let a = as_many in omega (arith, l, a);
      apart = λ t f j w e. all_apart us n (unit_of s) unit_there order.0 order.1 (in_bodies (parts s.tree)) (locals_bodily (kinds s.tokens.tokens) s.tree read) t f j w e;
    }

    told : AreTold (meanings us) n s.tokens objects (λ i. false) count es (first s.tree) (last s.tree)
    told = record {
      says = λ i x from upto e. object_token us n (unit_of s) i x unit_there e;
      chosen = file_chosen us faultless.names n (unit_of s) unit_there;
      own = all_own us n (unit_of s) unit_there order.0 order.1;
      clear = λ i from upto. refl;
    }

    specifies : Specifies objects count n es (in_file n s.tree)
    specifies =
        file_specifies (kinds s.tokens.tokens) (meanings us) n s.tokens objects (in_bodies (parts s.tree)) count means s.tree read (file_sat (kinds s.tokens.tokens) s.tree read) told

  -- ---- names in specifications

  one_stands : (found : List State) (n : ℕ) (d : Specification) → IsOf n d → SpecificationPlaced (λ i. object_of (uses us) n i) count d → SpecificationStands count p os found d
  one_stands found n d f h =
      let sees : (i : ℕ) → object_of (uses us) d.file i ≡ object_of (uses us) n i = λ i. ap (λ m. object_of (uses us) m i) f.0 in
      record { of = h.of (free_scope p os found d) sees; values = h.values (free_scope p os found d) (cond (is_alone d) several value) (value_told (is_alone d)) sees }

  file_stands : (found : List State) (n : ℕ) (s : Source) → slice_get ss n ≡ Some s → AllByRecursion (SpecificationStands count p os found) (in_file n s.tree)
  file_stands found n s e =
      let r = specifies n s e in
      all_map (λ d. IsOf n d × SpecificationPlaced (λ i. object_of (uses us) n i) count d) (SpecificationStands count p os found) (in_file n s.tree) (λ d h. one_stands found n d h.0 h.1)
      (all_both (IsOf n) (SpecificationPlaced (λ i. object_of (uses us) n i) count) (in_file n s.tree) r.files r.placed)

  all_files : (Q : Specification → Type 0) → ((n : ℕ) (s : Source) → slice_get ss n ≡ Some s → AllByRecursion Q (in_file n s.tree)) → (k : ℕ) (xs : List Source) → ((i : ℕ) → slice_get ss (k + i) ≡ slice_get xs i)
      → AllByRecursion Q (specifications k xs)
  all_files Q h k [] f = tt
  all_files Q h k (s ∷ xs) f =
      all_append Q (in_file k s.tree) (specifications (suc k) xs) (h k s (ap (slice_get ss) (let z : k ≡ k + 0 = omega arith in z) ∙ f 0))
      (all_files Q h (suc k) xs (λ i. ap (slice_get ss) (let z : suc k + i ≡ k + suc i = omega arith in z) ∙ f (suc i)))

  every : (Q : Specification → Type 0) → ((n : ℕ) (s : Source) → slice_get ss n ≡ Some s → AllByRecursion Q (in_file n s.tree)) → AllByRecursion Q specs
  every Q h = all_files Q h 0 ss (λ i. ap (slice_get ss) (let z : 0 + i ≡ i = omega arith in z))

  -- ---- objects by their names

  -- its file declares the names of a specification as what that declares
  abbrev Told : Specification → Type 0
  Told x = (is_parameter_entity x.entity ≡ false) × ((n : ℕ) (s : Source) → slice_get ss n ≡ Some s → x.file ≡ n → (t : ℕ) → Listed t x.names → IsAmong t x.entity (shared (unit_of s).events))

  among_all : (n : ℕ) (s : Source) → slice_get ss n ≡ Some s → (all xs : List Specification) → ((t : ℕ) (e : Entity) → IsAmong t e (all_named xs) → IsAmong t e (all_named all)) → shared (unit_of s).events ≡ all_named all
      → AllByRecursion (IsOf n) xs → AllByRecursion Told xs
  among_all n s there all [] f q h = tt
  among_all n s there all (x ∷ xs) f q h = (
    (
      h.0.1,
      λ m r z g t l.
          let same : s ≡ r = some_same s r (sym there ∙ ap (slice_get ss) (sym h.0.0 ∙ g) ∙ z) in
          subst (λ (y : Source). IsAmong t x.entity (shared (unit_of y).events)) same
          (subst (IsAmong t x.entity) (sym q) (f t x.entity (among_front t x.entity (named x.entity x.names) (all_named xs) (named_among t x.entity x.names l)))),
    ),
    among_all n s there all xs (λ t e k. f t e (among_behind t e (named x.entity x.names) (all_named xs) k)) q h.1,
  )

  all_told : AllByRecursion Told specs
  all_told = every Told (λ n s there. among_all n s there (in_file n s.tree) (in_file n s.tree) (λ t e h. h) (specifies n s there).names (specifies n s there).files)

  level_among : (n : ℕ) (s : Source) → slice_get ss n ≡ Some s → AllByRecursion (λ d. d.file ≡ n → IsAmong d.name d.entity (shared (unit_of s).events)) (declared_in_package (declarations us))
  level_among n s there = level (declarations us) (declared_each n (λ d. is_package d.block ≡ true → IsAmong d.name d.entity (shared (unit_of s).events)) us (unit_of s) (unit_there n s there) (shared_among (unit_of s).events))
    where
      level : (ds : List Found) → AllByRecursion (λ y. y.file ≡ n → is_package y.it.block ≡ true → IsAmong y.it.name y.it.entity (shared (unit_of s).events)) ds
          → AllByRecursion (λ d. d.file ≡ n → IsAmong d.name d.entity (shared (unit_of s).events)) (declared_in_package ds)
      level [] h = tt
      level (y ∷ ds) h = by (is_package y.it.block) refl (level ds h.1)
        where
          by : (b : Bool) → is_package y.it.block ≡ b → AllByRecursion (λ d. d.file ≡ n → IsAmong d.name d.entity (shared (unit_of s).events)) (declared_in_package ds)
              → AllByRecursion (λ d. d.file ≡ n → IsAmong d.name d.entity (shared (unit_of s).events)) (if b then declared_by y ∷ declared_in_package ds else declared_in_package ds)
          by true e r = (λ f. h.0 f e, r)
          by false e r = r

  -- the file of an object
  file_there : (n : ℕ) (d : Declared) → slice_get p.uses.package_level n ≡ Some d → (s : Source) × (slice_get ss d.file ≡ Some s)
  file_there n d e = by (slice_get ss d.file) refl
    where
      by : (o : Option Source) → slice_get ss d.file ≡ o → (s : Source) × (slice_get ss d.file ≡ Some s)
      by (Some s) q = (s, q)
      by None q =
          let none : slice_get us d.file ≡ None = source_there ss d.file ∙ ap (option_map unit_of) q in
          let nothing : object_of (uses us) d.file d.name ≡ None = ap (λ o. object_in o d.name) (rows_none (meanings us) 0 us d.file none) in
          absurd (none_object (object.Package n) (sym nothing ∙ done.complete.own (object.Package n) d e))

  record IsBy (d : Declared) : Type 0 where
    column : (declaring specs d.file d.name).1 < length (declaring specs d.file d.name).0.names
    sort : (declaring specs d.file d.name).0.entity ≡ d.entity
    plain : is_parameter_entity d.entity ≡ false

  declared_by_it : (n : ℕ) (d : Declared) → slice_get p.uses.package_level n ≡ Some d → IsBy d
  declared_by_it n d e =
      let f = file_there n d e in
      let s : Source = f.0 in
      let r = specifies d.file s f.1 in
      let Q : Declared → Type 0 = λ y. y.file ≡ d.file → IsAmong y.name y.entity (shared (unit_of s).events) in
      let among : IsAmong d.name d.entity (shared (unit_of s).events) = all_at Q p.uses.package_level n d (level_among d.file s f.1) e refl in
      let own : AnyIn d.file d.name (in_file d.file s.tree) = any_named d.file d.name d.entity (in_file d.file s.tree) r.files (subst (IsAmong d.name d.entity) r.names among) in
      let any : AnyIn d.file d.name specs = any_at 0 ss d.file s d.file d.name (omega arith) f.1 own in
      let one = declares Told specs d.file d.name all_told any in
      let held : IsAmong d.name one.specification.entity (shared (unit_of s).events) = one.holds.1 d.file s f.1 one.file d.name (place_listed d.name one.specification.names one.column one.place) in
      let same : one.specification.entity ≡ d.entity = among_once 0 (order d.file s f.1).0 d.name one.specification.entity d.entity (unit_of s).events (order d.file s f.1).1 held among in
      record {
        column = subst (λ q. q.1 < length q.0.names) (sym one.is) (place_below d.name one.specification.names one.column one.place);
        sort = ap (λ q. q.0.entity) one.is ∙ same;
        plain = subst (λ x. is_parameter_entity x ≡ false) same one.holds.0;
      }

  abbrev made : Declared → Outline
  made d = outline_by p d (declaring specs d.file d.name)

  made_at : (ds : List Declared) (n : ℕ) (o : Outline) → slice_get (map made ds) n ≡ Some o → (d : Declared) × (slice_get ds n ≡ Some d) × (made d ≡ o)
  made_at [] n o e = absurd cc
  made_at (d ∷ ds) zero o e = (d, refl, some_same (made d) o e)
  made_at (d ∷ ds) (suc n) o e = made_at ds n o e

  pub names_stand : (found : List State) → NamesStand p specs found
  names_stand found = record {
    columns = λ n o e.
        let m = made_at p.uses.package_level n o e in
        subst (λ (x : Outline). x.column < length x.specification.names) m.2 (declared_by_it n m.0 m.1).column;
    variables = λ n k o e q.
        let m = made_at p.uses.package_level n o e in
        let b = declared_by_it n m.0 m.1 in
        subst (λ (x : Outline). x.specification.entity ≡ entity.Variable) m.2 (b.sort ∙ variable_at no_counts p.uses.package_level n k m.0 m.1 q b.plain);
    specifications = every (SpecificationStands count p os found) (file_stands found);
  }
