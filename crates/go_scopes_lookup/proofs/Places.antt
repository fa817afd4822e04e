-- Each object of the package or of a function that a token means has its declaration, and is meant in its scope.
use Rattle.std.proofs.Common.{◌≡◌, ℕ, zero, suc, ◌+◌, ◌-◌, Bool, true, false, ◌&&◌, ◌||◌, if◌then◌else◌, List, [], ◌∷◌, ◌++◌, length, Option, Some, None, refl, sym, ap, ◌∙◌, subst, append_assoc, arith}
use Rattle.std.specs.Prelude.{is_some, slice_get, nat_eq, nat_le, nat_lt}
use Rattle.std.specs.Option.{option_map}
use Rattle.std.proofs.lemmas.List.{length-append}
use Rattle.go_tokens.specs.Tokens.{TokenList}
use Rattle.go_tokens.specs.Spellings.{same_text}
use Rattle.go_tree.specs.declared.context.Block.{Block}
use Rattle.go_tree.specs.declared.context.Block.TheVariants as block
use Rattle.go_tree.specs.declared.context.Entity.{Entity}
use Rattle.go_tree.specs.declared.event.Event.{Event}
use Rattle.go_tree.specs.declared.event.Event.TheVariants as event
use Rattle.go_tree.specs.declared.object.Declared.{Declared}
use Rattle.go_tree.specs.declared.object.Object.{Object}
use Rattle.go_tree.specs.declared.object.Object.TheVariants as object
use Rattle.go_tree.specs.declared.object.Predeclared.{Predeclared}
use Rattle.go_tree.specs.Contexts.{is_package}
use Rattle.go_tree.specs.Predeclared.{known_names, known_in}
use Rattle.go_tree.specs.Units.{word, is_blank}
use Rattle.go_tree.specs.Declarations.{Found, is_function, declarations}
use Rattle.go_tree.specs.Extents.{extent_by, extent_of, covers}
use Rattle.go_tree.specs.Imports.{imports_fmt}
use Rattle.go_tree.specs.Meanings.{Meaning, declared_meaning, Numbers, first_numbers, own_number, behind_shared, numbers_behind, numbered, imported_meaning, imported_from, meanings, covering, is_innermost, innermost_of}
use Rattle.go_tree.specs.Objects.{known_object, object_by, object_at, is_declared_at, own_object, token_object, token_objects, objects_from, objects}
use Rattle.go_tree.specs.Units as names
use Rattle.go_tree.specs.Failures.{least}
use Rattle.go_tree.specs.Faults.{clause_faults}
use Rattle.go_tree.specs.Uses.{UsesView, declared_by, declared_in_package, own_locals, function_locals, uses_by, uses, object_there, object_in, object_of, local_in, declared_as, has_declaration, may_mean, count_functions, IsComplete}
use Rattle.go_scopes_events.specs.Orders.{IsOuter}
use Rattle.go_scopes_events.specs.Scopes.{Each, AreOrderly}
use Rattle.go_scopes_lookup.specs.Tables.{AreCounted, AreInside}
use Rattle.go_scopes_lookup.proofs.Behind.{AreBehind, declarations_behind}
use Rattle.go_scopes_lookup.proofs.Housed.{uses_inside}
use Rattle.go_scopes_lookup.proofs.Owned.{declarations_sorted, package_order, locals_order, package_blocks, local_blocks, uses_own}

-- The object of the meaning has its declaration, and the meaning has the extent of that.
record IsDeclared (u : UsesView) (m : Meaning) : Type 0 where
  declared : declared_as u m.object ≡ option_map declared_by m.source
  sort : has_declaration m.object ≡ is_some m.source
  extent : (d : Found) → m.source ≡ Some d → m.extent ≡ extent_of d

-- The object of the token t of the file n has its declaration, and may be meant there.
record IsMeant (u : UsesView) (n t : ℕ) (o : Object) : Type 0 where
  declared : is_some (declared_as u o) ≡ has_declaration o
  scope : (d : Declared) → declared_as u o ≡ Some d → may_mean d.block d n t ≡ true

some_is : {X : Type 0} (x y : X) → Some x ≡ Some y → x ≡ y
some_is x y e = cc

is_some-map : {X Y : Type 0} (f : X → Y) (o : Option X) → is_some (option_map f o) ≡ is_some o
is_some-map f None = refl
is_some-map f (Some x) = refl

in_scope : (a b c e : Bool) → a && b && c ≡ true → a && (e || (b && c)) ≡ true
in_scope true true true true h = refl
in_scope true true true false h = refl
in_scope true true false e h = cc
in_scope true false c e h = cc
in_scope false b c e h = cc

at_name : (a e r : Bool) → a && e ≡ true → a && (e || r) ≡ true
at_name true true r h = refl
at_name true false r h = cc
at_name false e r h = cc

covered : (d : Found) (b : Block) (n t : ℕ) → covers (extent_by d.file d.it.scope b) n t ≡ true → may_mean b (declared_by d) n t ≡ true
covered d block.Package n t h = refl
covered d (block.Local i) n t h = in_scope (nat_eq d.file n) (nat_le d.it.scope.from t) (nat_lt t d.it.scope.to) (nat_eq d.it.name t) h

named : (d : Found) (b : Block) (n t : ℕ) → nat_eq d.file n && nat_eq d.it.name t ≡ true → may_mean b (declared_by d) n t ≡ true
named d block.Package n t h = refl
named d (block.Local i) n t h = at_name (nat_eq d.file n) (nat_eq d.it.name t) (nat_le d.it.scope.from t && nat_lt t d.it.scope.to) h

-- what is known of a meaning's declaration
meant_by : (u : UsesView) (n t : ℕ) (m : Meaning) → IsDeclared u m → ((x : Found) → m.source ≡ Some x → may_mean x.it.block (declared_by x) n t ≡ true) → IsMeant u n t m.object
meant_by u n t m h f = record {
  declared = ap is_some h.declared ∙ is_some-map declared_by m.source ∙ sym h.sort;
  scope = λ d e. by m.source refl d (sym h.declared ∙ e);
}
  where
    by : (s : Option Found) → m.source ≡ s → (d : Declared) → option_map declared_by s ≡ Some d → may_mean d.block d n t ≡ true
    by None p d e = cc
    by (Some x) p d e = subst (λ y. may_mean y.block y n t ≡ true) (some_is (declared_by x) d e) (f x p)

covered_meant : (u : UsesView) (n t : ℕ) (m : Meaning) → IsDeclared u m → covers m.extent n t ≡ true → IsMeant u n t m.object
covered_meant u n t m h c = meant_by u n t m h (λ x p. covered x x.it.block n t (ap (λ e. covers e n t) (sym (h.extent x p)) ∙ c))

named_meant : (u : UsesView) (n t : ℕ) (m : Meaning) → IsDeclared u m → is_declared_at n t m.source ≡ true → IsMeant u n t m.object
named_meant u n t m h c = meant_by u n t m h (λ x p. named x x.it.block n t (ap (is_declared_at n t) (sym p) ∙ c))

-- the element behind others
seam : {X : Type 0} (xs : List X) (x : X) (ys : List X) → slice_get (xs ++ x ∷ ys) (length xs) ≡ Some x
seam [] x ys = refl
seam (y ∷ xs) x ys = seam xs x ys

there : {X : Type 0} (all xs : List X) (x : X) (ys : List X) (n : ℕ) → all ≡ xs ++ x ∷ ys → n ≡ length xs → slice_get all n ≡ Some x
there all xs x ys n e l = ap (λ a. slice_get a n) e ∙ ap (λ k. slice_get (xs ++ x ∷ ys) k) l ∙ seam xs x ys

one_more : {X : Type 0} (xs : List X) (x : X) (n : ℕ) → n ≡ length xs → suc n ≡ length (xs ++ x ∷ [])
one_more xs x n e = omega (arith, e, length-append xs (x ∷ []))

shift : {X : Type 0} (all xs : List X) (x : X) (ys : List X) → all ≡ xs ++ x ∷ ys → all ≡ (xs ++ x ∷ []) ++ ys
shift all xs x ys e = e ∙ sym (append_assoc xs (x ∷ []) ys)

module _ (u : UsesView) where
  abbrev AreDeclared : List Meaning → Type 0
  AreDeclared ms = Each (λ m. IsDeclared u m) ms

  -- The declarations behind a function: P are the objects of the package so far, L the locals of the earlier functions, and C
  -- those of this one.
  abbrev AfterFunction : List Found → Type 0
  AfterFunction ds = (k : Numbers) (P C : List Declared) (L : List (List Declared)) → u.package_level ≡ P ++ declared_in_package ds → u.locals ≡ L ++ (C ++ own_locals ds) ∷ function_locals ds → k.shared ≡ length P → k.functions ≡ suc (length L) → k.local ≡ length C → AreDeclared (numbered k ds)

  known : (d : Found) (o : Object) → declared_as u o ≡ Some (declared_by d) → has_declaration o ≡ true → IsDeclared u (declared_meaning d o)
  known d o e h = record { declared = e; sort = h; extent = λ x p. ap extent_of (some_is d x p) }

  package_declared : (d : Found) (k : Numbers) (P : List Declared) (ys : List Declared) → u.package_level ≡ P ++ declared_by d ∷ ys → k.shared ≡ length P → IsDeclared u (declared_meaning d (object.Package k.shared))
  package_declared d k P ys e l = known d (object.Package k.shared) (there u.package_level P (declared_by d) ys k.shared e l) refl

  local_declared : (d : Found) (k : Numbers) (C : List Declared) (L : List (List Declared)) (ys : List Declared) (zs : List (List Declared)) → u.locals ≡ L ++ (C ++ declared_by d ∷ ys) ∷ zs → k.functions ≡ suc (length L) → k.local ≡ length C → IsDeclared u (declared_meaning d (object.Local (k.functions - 1) k.local))
  local_declared d k C L ys zs e f l = known d (object.Local (k.functions - 1) k.local) (ap (λ o. local_in o k.local) (there u.locals L (C ++ declared_by d ∷ ys) zs (k.functions - 1) e (omega (arith, f))) ∙ there (C ++ declared_by d ∷ ys) C (declared_by d) ys k.local refl l) refl

  after_function : (ds : List Found) → AfterFunction ds
  after_function [] k P C L p l s f n = tt
  after_function (d ∷ ds) k P C L p l s f n = by d.it.block d.it.entity (after_function ds) p l
    where
      in_package : (b : Bool) → AfterFunction ds → u.package_level ≡ P ++ declared_by d ∷ declared_in_package ds → u.locals ≡ L ++ (C ++ (if b then [] else own_locals ds)) ∷ (if b then own_locals ds ∷ function_locals ds else function_locals ds) → AreDeclared (numbered (behind_shared k b) ds)
      in_package true rest p l = rest (behind_shared k true) (P ++ declared_by d ∷ []) [] (L ++ (C ++ []) ∷ []) (shift u.package_level P (declared_by d) (declared_in_package ds) p) (shift u.locals L (C ++ []) (own_locals ds ∷ function_locals ds) l) (one_more P (declared_by d) k.shared s) (ap suc (f ∙ one_more L (C ++ []) (length L) refl)) refl
      in_package false rest p l = rest (behind_shared k false) (P ++ declared_by d ∷ []) C L (shift u.package_level P (declared_by d) (declared_in_package ds) p) l (one_more P (declared_by d) k.shared s) f n

      by : (b : Block) (e : Entity) → AfterFunction ds → u.package_level ≡ P ++ (if is_package b then declared_by d ∷ declared_in_package ds else declared_in_package ds) → u.locals ≡ L ++ (C ++ (if is_package b && is_function e then [] else if is_package b then own_locals ds else declared_by d ∷ own_locals ds)) ∷ (if is_package b && is_function e then own_locals ds ∷ function_locals ds else function_locals ds) → IsDeclared u (declared_meaning d (own_number k b)) × AreDeclared (numbered (numbers_behind k e b) ds)
      by block.Package e rest p l = (package_declared d k P (declared_in_package ds) p s, in_package (is_function e) rest p l)
      by (block.Local i) e rest p l = (local_declared d k C L (own_locals ds) (function_locals ds) l f n, rest (record k { local = suc k.local }) P (C ++ declared_by d ∷ []) L p (l ∙ ap (λ c. L ++ c ∷ function_locals ds) (shift (C ++ declared_by d ∷ own_locals ds) C (declared_by d) (own_locals ds) refl)) s f (one_more C (declared_by d) k.local n))

  -- the declarations up to the first function
  abbrev BeforeFunction : List Found → Type 0
  BeforeFunction ds = (k : Numbers) (P : List Declared) → AreBehind false ds → u.package_level ≡ P ++ declared_in_package ds → u.locals ≡ function_locals ds → k.shared ≡ length P → k.functions ≡ 0 → AreDeclared (numbered k ds)

  before_function : (ds : List Found) → BeforeFunction ds
  before_function [] k P h p l s f = tt
  before_function (d ∷ ds) k P h p l s f = by d.it.block d.it.entity (before_function ds) h p l
    where
      in_package : (b : Bool) → BeforeFunction ds → AreBehind b ds → u.package_level ≡ P ++ declared_by d ∷ declared_in_package ds → u.locals ≡ (if b then own_locals ds ∷ function_locals ds else function_locals ds) → AreDeclared (numbered (behind_shared k b) ds)
      in_package true rest h p l = after_function ds (behind_shared k true) (P ++ declared_by d ∷ []) [] [] (shift u.package_level P (declared_by d) (declared_in_package ds) p) l (one_more P (declared_by d) k.shared s) (ap suc f) refl
      in_package false rest h p l = rest (behind_shared k false) (P ++ declared_by d ∷ []) h (shift u.package_level P (declared_by d) (declared_in_package ds) p) l (one_more P (declared_by d) k.shared s) f

      by : (b : Block) (e : Entity) → BeforeFunction ds → IsOuter b × AreBehind (is_package b && is_function e) ds → u.package_level ≡ P ++ (if is_package b then declared_by d ∷ declared_in_package ds else declared_in_package ds) → u.locals ≡ (if is_package b && is_function e then own_locals ds ∷ function_locals ds else function_locals ds) → IsDeclared u (declared_meaning d (own_number k b)) × AreDeclared (numbered (numbers_behind k e b) ds)
      by block.Package e rest h p l = (package_declared d k P (declared_in_package ds) p s, in_package (is_function e) rest h.1 p l)
      by (block.Local i) e rest h p l = absurd h.0

  imports_declared : (n : ℕ) (us : List names.Unit) (ms : List Meaning) → AreDeclared ms → AreDeclared (imported_from n us ++ ms)
  imports_declared n [] ms h = h
  imports_declared n (x ∷ us) ms h = by (imports_fmt x.tokens x.events) (imports_declared (suc n) us ms h)
    where
      by : (b : Bool) → AreDeclared (imported_from (suc n) us ++ ms) → AreDeclared ((if b then imported_meaning n ∷ imported_from (suc n) us else imported_from (suc n) us) ++ ms)
      by true g = (record { declared = refl; sort = refl; extent = λ x p. cc }, g)
      by false g = g

  -- a declared meaning that covers the token t of the file n
  abbrev IsMeaning : ℕ → ℕ → Option Meaning → Type 0
  IsMeaning n t None = Unit
  IsMeaning n t (Some m) = IsDeclared u m × (covers m.extent n t ≡ true)

  abbrev AreCovering : ℕ → ℕ → List Meaning → Type 0
  AreCovering n t ms = Each (λ m. IsDeclared u m × (covers m.extent n t ≡ true)) ms

  abbrev IsObject : ℕ → ℕ → Option Object → Type 0
  IsObject n t None = Unit
  IsObject n t (Some o) = IsMeant u n t o

  both_true : (a b : Bool) → a && b ≡ true → b ≡ true
  both_true true b h = h
  both_true false b h = cc

  covering_declared : (n t : ℕ) (w : List ℕ) (ms : List Meaning) → AreDeclared ms → AreCovering n t (covering n t w ms)
  covering_declared n t w [] h = tt
  covering_declared n t w (m ∷ ms) h = by (same_text m.name w && covers m.extent n t) refl (covering_declared n t w ms h.1)
    where
      by : (b : Bool) → same_text m.name w && covers m.extent n t ≡ b → AreCovering n t (covering n t w ms) → AreCovering n t (if b then m ∷ covering n t w ms else covering n t w ms)
      by true e g = ((h.0, both_true (same_text m.name w) (covers m.extent n t) e), g)
      by false e g = g

  innermost_declared : (n t : ℕ) (all ms : List Meaning) → AreCovering n t ms → IsMeaning n t (innermost_of all ms)
  innermost_declared n t all [] h = tt
  innermost_declared n t all (m ∷ ms) h = by (is_innermost m.extent all) (innermost_declared n t all ms h.1)
    where
      by : (b : Bool) → IsMeaning n t (innermost_of all ms) → IsMeaning n t (if b then Some m else innermost_of all ms)
      by true g = h.0
      by false g = g

  known_declared : (n t : ℕ) (p : Option Predeclared) → IsObject n t (known_object p)
  known_declared n t None = tt
  known_declared n t (Some p) = record { declared = refl; scope = λ d e. cc }

  by_declared : (n t : ℕ) (w : List ℕ) (m : Option Meaning) → IsMeaning n t m → IsObject n t (object_by w m)
  by_declared n t w None h = known_declared n t (known_in known_names w)
  by_declared n t w (Some m) h = covered_meant u n t m h.0 h.1

  at_declared : (n t : ℕ) (w : List ℕ) (ms : List Meaning) → AreDeclared ms → IsObject n t (object_at ms n t w)
  at_declared n t w ms h = by (is_blank w)
    where
      by : (b : Bool) → IsObject n t (if b then None else object_by w (innermost_of (covering n t w ms) (covering n t w ms)))
      by true = tt
      by false = by_declared n t w (innermost_of (covering n t w ms) (covering n t w ms)) (innermost_declared n t (covering n t w ms) (covering n t w ms) (covering_declared n t w ms h))

  own_declared : (n t : ℕ) (w : List ℕ) (all ms : List Meaning) → AreDeclared all → AreDeclared ms → IsObject n t (own_object n t w all ms)
  own_declared n t w all [] a h = at_declared n t w all a
  own_declared n t w all (m ∷ ms) a h = by (is_declared_at n t m.source) refl (own_declared n t w all ms a h.1)
    where
      by : (b : Bool) → is_declared_at n t m.source ≡ b → IsObject n t (own_object n t w all ms) → IsObject n t (if b then Some m.object else own_object n t w all ms)
      by true e g = named_meant u n t m h.0 e
      by false e g = g

  if_object : (n t : ℕ) (b : Bool) (x y : Option Object) → IsObject n t x → IsObject n t y → IsObject n t (if b then x else y)
  if_object n t true x y h g = h
  if_object n t false x y h g = g

  token_declared : (ms : List Meaning) (n : ℕ) (ts : TokenList) (t : ℕ) (es : List Event) → AreDeclared ms → IsObject n t (token_object ms n ts t es)
  token_declared ms n ts t [] h = tt
  token_declared ms n ts t (event.Use x ∷ es) h = if_object n t (nat_eq x.name t) (object_at ms n t (word ts t)) (token_object ms n ts t es) (at_declared n t (word ts t) ms h) (token_declared ms n ts t es h)
  token_declared ms n ts t (event.Declaration d ∷ es) h = if_object n t (nat_eq d.name t) (own_object n t (word ts t) ms ms) (token_object ms n ts t es) (own_declared n t (word ts t) ms ms h h) (token_declared ms n ts t es h)
  token_declared ms n ts t (e ∷ es) h = token_declared ms n ts t es h

  in_row : (n t : ℕ) (o : Option Object) → IsObject n t o → IsObject n t (object_there (Some o))
  in_row n t None g = g
  in_row n t (Some o) g = g

  row_declared : (ms : List Meaning) (n : ℕ) (ts : TokenList) (es : List Event) (t k i : ℕ) → AreDeclared ms → IsObject n (t + i) (object_there (slice_get (token_objects ms n ts es t k) i))
  row_declared ms n ts es t zero i h = tt
  row_declared ms n ts es t (suc k) zero h = let same : t ≡ t + 0 = omega arith in subst (λ x. IsObject n x (object_there (Some (token_object ms n ts t es)))) same (in_row n t (token_object ms n ts t es) (token_declared ms n ts t es h))
  row_declared ms n ts es t (suc k) (suc i) h = let next : suc t + i ≡ t + suc i = omega arith in subst (λ x. IsObject n x (object_there (slice_get (token_objects ms n ts es (suc t) k) i))) next (row_declared ms n ts es (suc t) k i h)

  rows_declared : (ms : List Meaning) (n : ℕ) (us : List names.Unit) (i t : ℕ) → AreDeclared ms → IsObject (n + i) t (object_in (slice_get (objects_from ms n us) i) t)
  rows_declared ms n [] i t h = tt
  rows_declared ms n (x ∷ us) zero t h =
      let file : n ≡ n + 0 = omega arith in
      let token : 0 + t ≡ t = omega arith in
      let row = token_objects ms n x.tokens x.events 0 (length x.tokens.tokens) in
      subst (λ y. IsObject y t (object_there (slice_get row t))) file (subst (λ y. IsObject n y (object_there (slice_get row t))) token (row_declared ms n x.tokens x.events 0 (length x.tokens.tokens) t h))
  rows_declared ms n (x ∷ us) (suc i) t h = let next : suc n + i ≡ n + suc i = omega arith in subst (λ y. IsObject y t (object_in (slice_get (objects_from ms (suc n) us) i) t)) next (rows_declared ms (suc n) us i t h)

count_locals : (ds : List Found) → length (function_locals ds) ≡ count_functions (declared_in_package ds)
count_locals [] = refl
count_locals (d ∷ ds) = by (is_package d.it.block) (is_function d.it.entity) refl (count_locals ds)
  where
    by : (b f : Bool) → is_function d.it.entity ≡ f → length (function_locals ds) ≡ count_functions (declared_in_package ds) → length (if b && f then own_locals ds ∷ function_locals ds else function_locals ds) ≡ count_functions (if b then declared_by d ∷ declared_in_package ds else declared_in_package ds)
    by true true e h = ap suc h ∙ sym (ap (λ c. if c then suc (count_functions (declared_in_package ds)) else count_functions (declared_in_package ds)) e)
    by true false e h = h ∙ sym (ap (λ c. if c then suc (count_functions (declared_in_package ds)) else count_functions (declared_in_package ds)) e)
    by false f e h = h

uses_complete : (us : List names.Unit) → AreOrderly us → AreCounted us → AreInside us → least (clause_faults us) ≡ None → IsComplete (uses us)
uses_complete us h c i f =
    let u = uses us in
    let all : Each (λ m. IsDeclared u m) (meanings us) = imports_declared u 0 us (numbered first_numbers (declarations us)) (before_function u (declarations us) first_numbers [] (declarations_behind us h f) refl refl refl refl) in
    let meant : (n t : ℕ) (o : Object) → object_of u n t ≡ Some o → IsMeant u n t o = λ n t o e. let file : 0 + n ≡ n = omega arith in subst (IsObject u n t) e (subst (λ y. IsObject u y t (object_of u n t)) file (rows_declared u (meanings us) 0 us n t all)) in
    let sorted = declarations_sorted us h in
    record {
      declared = λ n t o e. (meant n t o e).declared;
      own = uses_own us h c;
      scope = λ n t o d e g. (meant n t o e).scope d g;
      order = package_order (declarations us) sorted;
      local_order = locals_order (declarations us) sorted;
      package_block = package_blocks (declarations us);
      local_block = local_blocks (declarations us);
      inside = uses_inside us i f;
      functions = count_locals (declarations us);
    }

-- what the objects of the tokens and the declarations give
pub known_complete : (us : List names.Unit) (os : List (List (Option Object))) (ds : List Found) → AreOrderly us → AreCounted us → AreInside us → least (clause_faults us) ≡ None → os ≡ objects us → ds ≡ declarations us → IsComplete (uses_by os ds)
known_complete us os ds h c i f o d =
    let same : uses_by os ds ≡ uses us = ap (λ x. uses_by x ds) o ∙ ap (uses_by (objects us)) d in
    subst IsComplete (sym same) (uses_complete us h c i f)
