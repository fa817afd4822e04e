-- The specification that declares an object says which of its names it is, and whether it is a type.
use Rattle.std.proofs.Common.{◌≡◌, ◌∙◌, ℕ, zero, suc, ◌+◌, ◌≤◌, ◌⊎◌, inl, inr, Bool, true, false, nat_eq, List, [], ◌∷◌, ◌++◌, map, Option, Some, None, refl, sym, ap, subst, arith}
use Rattle.std.specs.Prelude.{slice_get, if◌then◌else◌}
use Rattle.std.specs.List.{AllByRecursion}
use Rattle.std.proofs.lemmas.Bool.{eqb-true, eq-eqb}
use Rattle.go_tokens.specs.Tokens.{kinds}
use Rattle.go_grammar.specs.Grammar.{IsFile}
use Rattle.go_grammar.specs.Trees.{last}
use Rattle.go_tree.specs.declared.event.Declaration.{Declaration}
use Rattle.go_tree.specs.declared.event.Event.{Event}
use Rattle.go_tree.specs.declared.event.Event.TheVariants as event
use Rattle.go_tree.specs.Contexts.{is_package}
use Rattle.go_tree.specs.Declarations.{Found}
use Rattle.go_tree.specs.Units as names
use Rattle.go_scopes_events.specs.Orders.{AreInOrder, EachDeclared}
use Rattle.go_package_defs.specs.Answer.{specifications}
use Rattle.go_package_defs.specs.Declarations.{Specification, in_file}
use Rattle.go_package_defs.specs.Knowledge.{is_type, following, place_of, column_of, found_or, declaring}
use Rattle.go_package_defs.specs.Sources.{Source, unit_of}
use Rattle.go_package_settled.specs.Resolved.{IsIn}
use Rattle.go_package_settled.proofs.Naming.{Listed, AnyNamed, IsSpecified, file_named}
use Rattle.go_package_settled.proofs.Reading.{AreOrderedFiles}
use Rattle.go_package_settled.proofs.Specified.{AnyDeclared, IsNamed, IsTold, AreTold, file_told}
use Rattle.go_package_settled.proofs.Tokens.{Tells, told_of}
use Rattle.go_tree.specs.Declarations as declarations

-- ---- what is told

pub each_tells : (Q : Declaration → Type 0) (x : Declaration) (es : List Event) → EachDeclared Q es → Tells x es → Q x
each_tells Q x [] h t = absurd t
each_tells Q x (event.Declaration d ∷ es) h (inl e) = subst Q (sym e) h.0
each_tells Q x (event.Declaration d ∷ es) h (inr t) = each_tells Q x es h.1 t
each_tells Q x (event.Use u ∷ es) h t = each_tells Q x es h t
each_tells Q x (event.Import p ∷ es) h t = each_tells Q x es h t
each_tells Q x (event.Member m g i ∷ es) h t = each_tells Q x es h t
each_tells Q x (event.Bodiless i j ∷ es) h t = each_tells Q x es h t
each_tells Q x (event.Statement i j ∷ es) h t = each_tells Q x es h t
each_tells Q x (event.Misplaced i j ∷ es) h t = each_tells Q x es h t
each_tells Q x (event.SecondDefault i ∷ es) h t = each_tells Q x es h t

-- where names stand in order, a declaration by the name of another one is that
none_before : (i j t : ℕ) (c : ℕ) (b : Bool) (es : List Event) → AreInOrder i j es → AnyDeclared (IsNamed t c b) es → i ≤ t
none_before i j t c b [] o h = absurd h
none_before i j t c b (event.Declaration d ∷ es) o (inl h) = let e = h.name in let l = o.0 in omega (arith, l, e)
none_before i j t c b (event.Declaration d ∷ es) o (inr h) = let r = none_before (suc d.name) j t c b es o.1 h in let l = o.0 in omega (arith, l, r)
none_before i j t c b (event.Use u ∷ es) o h = let r = none_before (suc u.name) j t c b es o.1 h in let l = o.0 in omega (arith, l, r)
none_before i j t c b (e ∷ es) o h = none_before i j t c b es o h

pub tells_behind : (i j : ℕ) (x : Declaration) (es : List Event) → AreInOrder i j es → Tells x es → i ≤ x.name
tells_behind i j x [] o h = absurd h
tells_behind i j x (event.Declaration d ∷ es) o (inl e) = let s = ap (λ (y : Declaration). y.name) e in let l = o.0 in omega (arith, l, s)
tells_behind i j x (event.Declaration d ∷ es) o (inr h) = let r = tells_behind (suc d.name) j x es o.1 h in let l = o.0 in omega (arith, l, r)
tells_behind i j x (event.Use u ∷ es) o h = let r = tells_behind (suc u.name) j x es o.1 h in let l = o.0 in omega (arith, l, r)
tells_behind i j x (e ∷ es) o h = tells_behind i j x es o h

is_that : (i j : ℕ) (x : Declaration) (c : ℕ) (b : Bool) (es : List Event) → AreInOrder i j es → Tells x es → AnyDeclared (IsNamed x.name c b) es → IsNamed x.name c b x
is_that i j x c b [] o t h = absurd t
is_that i j x c b (event.Declaration d ∷ es) o (inl e) (inl h) = subst (IsNamed x.name c b) (sym e) h
is_that i j x c b (event.Declaration d ∷ es) o (inl e) (inr h) =
    let s = ap (λ (y : Declaration). y.name) e in let r = none_before (suc d.name) j x.name c b es o.1 h in absurd (omega (arith, s, r))
is_that i j x c b (event.Declaration d ∷ es) o (inr t) (inl h) = let s = h.name in let r = tells_behind (suc d.name) j x es o.1 t in absurd (omega (arith, s, r))
is_that i j x c b (event.Declaration d ∷ es) o (inr t) (inr h) = is_that (suc d.name) j x c b es o.1 t h
is_that i j x c b (event.Use u ∷ es) o t h = is_that (suc u.name) j x c b es o.1 t h
is_that i j x c b (e ∷ es) o t h = is_that i j x c b es o t h

-- ---- specifications in files

abbrev pub InSpecs : Specification → List Specification → Type 0
InSpecs x [] = ⊥
InSpecs x (y ∷ ys) = (x ≡ y) ⊎ InSpecs x ys

-- one of these in the file n has the name t
abbrev pub AnyIn : ℕ → ℕ → List Specification → Type 0
AnyIn n t [] = ⊥
AnyIn n t (x ∷ xs) = ((x.file ≡ n) × Listed t x.names) ⊎ AnyIn n t xs

-- This specification declares the name at the token t of the file n, as its name of this number.
pub record Declares (xs : List Specification) (n t : ℕ) : Type 0 where
  pub specification : Specification
  pub column : ℕ
  pub among : InSpecs specification xs
  pub file : specification.file ≡ n
  pub place : place_of t specification.names ≡ Some column
  pub is : declaring xs n t ≡ (specification, column)

listed_place : (t : ℕ) (ts : List ℕ) → Listed t ts → place_of t ts ≡ None → ⊥
listed_place t [] h e = h
listed_place t (i ∷ ts) h e = by (nat_eq t i) refl h e (λ k q. listed_place t ts k q)
  where
    following_none : (o : Option ℕ) → following o ≡ None → o ≡ None
    following_none None q = refl
    following_none (Some k) q = absurd cc

    by : (b : Bool) → nat_eq t i ≡ b → Listed t (i ∷ ts) → (if b then Some 0 else following (place_of t ts)) ≡ None → (Listed t ts → place_of t ts ≡ None → ⊥) → ⊥
    by true q k g f = absurd cc
    by false q (inl s) g f = let r = eq-eqb t i s in absurd (grind (arith, q, r))
    by false q (inr k) g f = f k (following_none (place_of t ts) g)

column_some : (n t : ℕ) (x : Specification) (c : ℕ) → column_of n t x ≡ Some c → (x.file ≡ n) × (place_of t x.names ≡ Some c)
column_some n t x c e = by (nat_eq x.file n) refl e
  where
    by : (b : Bool) → nat_eq x.file n ≡ b → (if b then place_of t x.names else None) ≡ Some c → (x.file ≡ n) × (place_of t x.names ≡ Some c)
    by true q h = (eqb-true x.file n q, h)
    by false q h = absurd cc

column_none : (n t : ℕ) (x : Specification) → column_of n t x ≡ None → (x.file ≡ n) × Listed t x.names → ⊥
column_none n t x e h =
    let q = eq-eqb x.file n h.0 in
    listed_place t x.names h.1 (sym (ap (λ b. if b then place_of t x.names else None) q) ∙ e)

declares_more : (x : Specification) (xs : List Specification) (n t : ℕ) → column_of n t x ≡ None → Declares xs n t → Declares (x ∷ xs) n t
declares_more x xs n t e d =
    record { specification = d.specification; column = d.column; among = inr d.among; file = d.file; place = d.place; is = ap (λ o. found_or x o (declaring xs n t)) e ∙ d.is }

declares_by : (x : Specification) (xs : List Specification) (n t : ℕ) (o : Option ℕ) → column_of n t x ≡ o → AnyIn n t (x ∷ xs) → (AnyIn n t xs → Declares xs n t) → Declares (x ∷ xs) n t
declares_by x xs n t (Some c) e h f =
    let r = column_some n t x c e in
    record { specification = x; column = c; among = inl refl; file = r.0; place = r.1; is = ap (λ o. found_or x o (declaring xs n t)) e }
declares_by x xs n t None e (inl h) f = absurd (column_none n t x e h)
declares_by x xs n t None e (inr h) f = declares_more x xs n t e (f h)

pub declares : (xs : List Specification) (n t : ℕ) → AnyIn n t xs → Declares xs n t
declares [] n t h = absurd h
declares (x ∷ xs) n t h = declares_by x xs n t (column_of n t x) refl h (λ k. declares xs n t k)

any_front : (n t : ℕ) (xs ys : List Specification) → AnyIn n t xs → AnyIn n t (xs ++ ys)
any_front n t [] ys h = absurd h
any_front n t (x ∷ xs) ys (inl h) = inl h
any_front n t (x ∷ xs) ys (inr h) = inr (any_front n t xs ys h)

any_behind : (n t : ℕ) (xs ys : List Specification) → AnyIn n t ys → AnyIn n t (xs ++ ys)
any_behind n t [] ys h = h
any_behind n t (x ∷ xs) ys h = inr (any_behind n t xs ys h)

pub in_one_file : (n t : ℕ) (es : List Event) (xs : List Specification) → AreTold es n xs → AnyNamed t xs → AnyIn n t xs
in_one_file n t es [] h k = absurd k
in_one_file n t es (x ∷ xs) h (inl k) = inl (h.0.file, k)
in_one_file n t es (x ∷ xs) h (inr k) = inr (in_one_file n t es xs h.1 k)

-- ---- files

abbrev pub Reads : Source → Type 0
Reads s = IsFile (kinds s.tokens.tokens) s.tree

same_source : (a b : Source) → ◌≡◌ {A = Option Source} (Some a) (Some b) → a ≡ b
same_source a b e = cc

pub read_at : (ss : List Source) (i : ℕ) (s : Source) → AllByRecursion Reads ss → slice_get ss i ≡ Some s → Reads s
read_at [] i s h e = absurd cc
read_at (x ∷ ss) zero s h e = subst Reads (same_source x s e) h.0
read_at (x ∷ ss) (suc i) s h e = read_at ss i s h.1 e

same_unit : (a b : names.Unit) → ◌≡◌ {A = Option names.Unit} (Some a) (Some b) → a ≡ b
same_unit a b e = cc

pub source_at : (ss : List Source) (i : ℕ) (u : names.Unit) → slice_get (map unit_of ss) i ≡ Some u → (s : Source) × (slice_get ss i ≡ Some s) × (unit_of s ≡ u)
source_at [] i u e = absurd cc
source_at (x ∷ ss) zero u e = (x, refl, same_unit (unit_of x) u e)
source_at (x ∷ ss) (suc i) u e = source_at ss i u e

-- the specifications of the files from the number k on
pub any_at : (k : ℕ) (ss : List Source) (i : ℕ) (s : Source) (n t : ℕ) → n ≡ k + i → slice_get ss i ≡ Some s → AnyIn n t (in_file n s.tree) → AnyIn n t (specifications k ss)
any_at k [] i s n t q e h = absurd cc
any_at k (x ∷ ss) zero s n t q e h =
    let same : n ≡ k = omega (arith, q) in
    any_front n t (in_file k x.tree) (specifications (suc k) ss)
    (subst (λ m. AnyIn n t (in_file m x.tree)) same (subst (λ (y : Source). AnyIn n t (in_file n y.tree)) (sym (same_source x s e)) h))
any_at k (x ∷ ss) (suc i) s n t q e h =
    let next : n ≡ suc k + i = omega (arith, q) in
    any_behind n t (in_file k x.tree) (specifications (suc k) ss) (any_at (suc k) ss i s n t next e h)

-- The specification is told by its file.
record IsToldIn (k : ℕ) (ss : List Source) (x : Specification) : Type 0 where
  number : ℕ
  source : Source
  there : slice_get ss number ≡ Some source
  told : IsTold (unit_of source).events (k + number) x

pub split_specs : (x : Specification) (xs ys : List Specification) → InSpecs x (xs ++ ys) → InSpecs x xs ⊎ InSpecs x ys
split_specs x [] ys h = inr h
split_specs x (y ∷ xs) ys (inl e) = inl (inl e)
split_specs x (y ∷ xs) ys (inr h) = more (split_specs x xs ys h)
  where
    more : InSpecs x xs ⊎ InSpecs x ys → InSpecs x (y ∷ xs) ⊎ InSpecs x ys
    more (inl k) = inl (inr k)
    more (inr k) = inr k

one_told : (es : List Event) (n : ℕ) (xs : List Specification) (x : Specification) → AreTold es n xs → InSpecs x xs → IsTold es n x
one_told es n [] x h k = absurd k
one_told es n (y ∷ ys) x h (inl e) = subst (IsTold es n) (sym e) h.0
one_told es n (y ∷ ys) x h (inr k) = one_told es n ys x h.1 k

all_told : (k : ℕ) (ss : List Source) (x : Specification) → AllByRecursion Reads ss → InSpecs x (specifications k ss) → IsToldIn k ss x
all_told k [] x r h = absurd h
all_told k (s ∷ ss) x r h = by (split_specs x (in_file k s.tree) (specifications (suc k) ss) h) (λ q. all_told (suc k) ss x r.1 q)
  where
    by : InSpecs x (in_file k s.tree) ⊎ InSpecs x (specifications (suc k) ss) → (InSpecs x (specifications (suc k) ss) → IsToldIn (suc k) ss x) → IsToldIn k (s ∷ ss) x
    by (inl q) f =
        let none : k ≡ k + 0 = omega arith in
        record { number = 0; source = s; there = refl; told = subst (λ m. IsTold (unit_of s).events m x) none (one_told (unit_of s).events k (in_file k s.tree) x (file_told (kinds s.tokens.tokens) k s.tree r.0) q) }
    by (inr q) f =
        let t = f q in
        let next : suc k + t.number ≡ k + suc t.number = omega arith in
        record { number = suc t.number; source = t.source; there = t.there; told = subst (λ m. IsTold (unit_of t.source).events m x) next t.told }

-- ---- what declares an object

-- The specification has the declaration's name as the name of its column, and is one of a type where it is.
pub record IsDeclaredBy (ss : List Source) (d : Found) : Type 0 where
  pub column : (declaring (specifications 0 ss) d.file d.it.name).1 ≡ d.it.column
  pub entity : is_type (declaring (specifications 0 ss) d.file d.it.name).0.entity ≡ is_type d.it.entity

module _ (order : AreOrderedFiles) (ss : List Source) (r : AllByRecursion Reads ss) where
  abbrev us : List names.Unit
  us = map unit_of ss

  pub declared_by_one : (d : Found) → IsIn d (declarations.found us) → is_package d.it.block ≡ true → IsDeclaredBy ss d
  declared_by_one d h b =
      let t = told_of 0 us d h in
      let n = t.number in
      let z : 0 + n ≡ n = omega arith in
      let file : d.file ≡ n = t.file ∙ z in
      let s = source_at ss n t.unit t.there in
      let read : Reads s.0 = read_at ss n s.0 r s.1 in
      let es : List Event = (unit_of s.0).events in
      let tells : Tells d.it es = subst (λ (u : names.Unit). Tells d.it u.events) (sym s.2) t.tells in
      let named : AnyNamed d.it.name (in_file n s.0.tree) = each_tells (IsSpecified (in_file n s.0.tree)) d.it es (file_named (kinds s.0.tokens.tokens) n s.0.tree read) tells b in
      let any : AnyIn n d.it.name (in_file n s.0.tree) = in_one_file n d.it.name es (in_file n s.0.tree) (file_told (kinds s.0.tokens.tokens) n s.0.tree read) named in
      let one = declares (specifications 0 ss) n d.it.name (any_at 0 ss n s.0 n d.it.name (sym z) s.1 any) in
      let told = all_told 0 ss one.specification r one.among in
      let y : 0 + told.number ≡ told.number = omega arith in
      let same : told.number ≡ n = sym y ∙ sym told.told.file ∙ one.file in
      let source : told.source ≡ s.0 = same_source told.source s.0 (sym told.there ∙ ap (slice_get ss) same ∙ s.1) in
      let found : AnyDeclared (IsNamed d.it.name one.column (is_type one.specification.entity)) es =
      subst (λ (q : Source). AnyDeclared (IsNamed d.it.name one.column (is_type one.specification.entity)) (unit_of q).events) source (told.told.names d.it.name one.column one.place) in
      let that = is_that 0 (last s.0.tree) d.it one.column (is_type one.specification.entity) es (order (kinds s.0.tokens.tokens) s.0.tree read) tells found in
      let is = ap (λ m. declaring (specifications 0 ss) m d.it.name) file ∙ one.is in
      record { column = ap (λ q. q.1) is ∙ sym that.column; entity = ap (λ q. is_type q.0.entity) is ∙ sym that.entity }
