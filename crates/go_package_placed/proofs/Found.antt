-- What the names of a file that are declared, and what is looked up there, mean.
use Rattle.std.proofs.Common.{◌≡◌, ◌∙◌, ℕ, zero, suc, ◌+◌, ◌<◌, ◌≤◌, ◌⊎◌, inl, inr, Bool, true, false, ◌&&◌, nat_eq, List, [], ◌∷◌, ◌++◌, Option, Some, None, refl, sym, ap, subst, arith}
use Rattle.std.specs.Prelude.{slice_get, if◌then◌else◌, nat_le, nat_lt, not}
use Rattle.std.specs.List.{AllByRecursion}
use Rattle.std.proofs.lemmas.Bool.{eq-eqb, eqb-true}
use Rattle.std.proofs.lemmas.Bool.Decides.{nat_tests}
use Rattle.go_tokens.specs.Spellings.{same_text}
use Rattle.go_tokens.specs.Tokens.{TokenList}
use Rattle.go_tree.specs.declared.context.Block.{Block}
use Rattle.go_tree.specs.declared.context.Block.TheVariants as block
use Rattle.go_tree.specs.declared.context.Manner.TheVariants as manner
use Rattle.go_tree.specs.declared.context.Scope.{Scope}
use Rattle.go_tree.specs.declared.event.Declaration.{Declaration}
use Rattle.go_tree.specs.declared.event.Event.{Event}
use Rattle.go_tree.specs.declared.event.Event.TheVariants as event
use Rattle.go_tree.specs.declared.object.Object.{Object}
use Rattle.go_tree.specs.declared.object.Object.TheVariants as object
use Rattle.go_tree.specs.declared.object.Predeclared.{Predeclared}
use Rattle.go_tree.specs.Contexts.{is_package}
use Rattle.go_tree.specs.Declarations.{Found, found, found_in, found_from, may_be_reused, is_reused, is_new, new_among, declarations}
use Rattle.go_tree.specs.Extents.{covers, extent_by}
use Rattle.go_tree.specs.Imports.{imports_fmt}
use Rattle.go_tree.specs.Meanings.{Meaning, Numbers, first_numbers, own_number, numbers_behind, numbered, imported_meaning, imported_from, meanings, covering, is_innermost, innermost_of, meaning_at}
use Rattle.go_tree.specs.Objects.{known_object, object_by, object_at, own_object}
use Rattle.go_tree.specs.Predeclared.{known_names, known_in}
use Rattle.go_tree.specs.Units as names
use Rattle.go_tree.specs.Units.{is_blank, word}
use Rattle.go_scopes_events.specs.Orders.{AreInOrder, EachDeclared}

-- ---- lists

pub false_true : {A : Type 0} → false ≡ true → A
false_true e = cc

and_left : (a b : Bool) → (a && b) ≡ true → a ≡ true
and_left true b e = refl
and_left false b e = e

and_right : (a b : Bool) → (a && b) ≡ true → b ≡ true
and_right true b e = e
and_right false b e = false_true e

pub all_append : {A : Type 0} (Q : A → Type 0) (xs ys : List A) → AllByRecursion Q xs → AllByRecursion Q ys → AllByRecursion Q (xs ++ ys)
all_append Q [] ys h k = k
all_append Q (x ∷ xs) ys h k = (h.0, all_append Q xs ys h.1 k)

pub same_unit : (a b : names.Unit) → ◌≡◌ {A = Option names.Unit} (Some a) (Some b) → a ≡ b
same_unit a b e = cc

-- ---- declarations that are told

abbrev pub Tells : Declaration → List Event → Type 0
Tells x [] = ⊥
Tells x (event.Declaration d ∷ es) = (x ≡ d) ⊎ Tells x es
Tells x (e ∷ es) = Tells x es

each_of : (Q : Declaration → Type 0) (es : List Event) → ((d : Declaration) → Tells d es → Q d) → EachDeclared Q es
each_of Q [] f = tt
each_of Q (event.Declaration d ∷ es) f = (f d (inl refl), each_of Q es (λ x t. f x (inr t)))
each_of Q (event.Use u ∷ es) f = each_of Q es f
each_of Q (event.Import p ∷ es) f = each_of Q es f
each_of Q (event.Member m g i ∷ es) f = each_of Q es f
each_of Q (event.Bodiless i j ∷ es) f = each_of Q es f
each_of Q (event.Statement i j ∷ es) f = each_of Q es f
each_of Q (event.Misplaced i j ∷ es) f = each_of Q es f
each_of Q (event.SecondDefault i ∷ es) f = each_of Q es f

above : (Q : Declaration → Type 0) (t lo hi : ℕ) (es : List Event) → AreInOrder lo hi es → t < lo → EachDeclared (λ y. y.name ≡ t → Q y) es
above Q t lo hi [] o l = tt
above Q t lo hi (event.Declaration d ∷ es) o l = let a = o.0 in (λ e. absurd (omega (arith, a, l, e)), above Q t (suc d.name) hi es o.1 (omega (arith, a, l)))
above Q t lo hi (event.Use u ∷ es) o l = let a = o.0 in above Q t (suc u.name) hi es o.1 (omega (arith, a, l))
above Q t lo hi (event.Import p ∷ es) o l = above Q t lo hi es o l
above Q t lo hi (event.Member m g i ∷ es) o l = above Q t lo hi es o l
above Q t lo hi (event.Bodiless i j ∷ es) o l = above Q t lo hi es o l
above Q t lo hi (event.Statement i j ∷ es) o l = above Q t lo hi es o l
above Q t lo hi (event.Misplaced i j ∷ es) o l = above Q t lo hi es o l
above Q t lo hi (event.SecondDefault i ∷ es) o l = above Q t lo hi es o l

behind : (lo hi : ℕ) (x : Declaration) (es : List Event) → AreInOrder lo hi es → Tells x es → lo ≤ x.name
behind lo hi x [] o t = absurd t
behind lo hi x (event.Declaration d ∷ es) o (inl e) = let a = o.0 in let s = ap (λ (y : Declaration). y.name) e in omega (arith, a, s)
behind lo hi x (event.Declaration d ∷ es) o (inr t) = let a = o.0 in let r = behind (suc d.name) hi x es o.1 t in omega (arith, a, r)
behind lo hi x (event.Use u ∷ es) o t = let a = o.0 in let r = behind (suc u.name) hi x es o.1 t in omega (arith, a, r)
behind lo hi x (e ∷ es) o t = behind lo hi x es o t

-- Of each token there is one declaration.
pub once : (lo hi : ℕ) (x : Declaration) (es : List Event) → AreInOrder lo hi es → Tells x es → EachDeclared (λ y. y.name ≡ x.name → y ≡ x) es
once lo hi x [] o t = tt
once lo hi x (event.Declaration d ∷ es) o (inl e) = (λ q. sym e, above (λ y. y ≡ x) x.name (suc d.name) hi es o.1 (let s = ap (λ (y : Declaration). y.name) e in omega (arith, s)))
once lo hi x (event.Declaration d ∷ es) o (inr t) = (λ q. absurd (let r = behind (suc d.name) hi x es o.1 t in omega (arith, q, r)), once (suc d.name) hi x es o.1 t)
once lo hi x (event.Use u ∷ es) o t = once (suc u.name) hi x es o.1 t
once lo hi x (event.Import p ∷ es) o t = once lo hi x es o t
once lo hi x (event.Member m g i ∷ es) o t = once lo hi x es o t
once lo hi x (event.Bodiless i j ∷ es) o t = once lo hi x es o t
once lo hi x (event.Statement i j ∷ es) o t = once lo hi x es o t
once lo hi x (event.Misplaced i j ∷ es) o t = once lo hi x es o t
once lo hi x (event.SecondDefault i ∷ es) o t = once lo hi x es o t

-- ---- those of one file among all

module _ (n : ℕ) (Q : Declaration → Type 0) where
  abbrev InFile : Found → Type 0
  InFile y = y.file ≡ n → Q y.it

  in_each : (k : ℕ) (ts : TokenList) (es : List Event) → (k ≡ n → EachDeclared Q es) → AllByRecursion InFile (found_in k ts es)
  in_each k ts [] h = tt
  in_each k ts (event.Declaration d ∷ es) h = (λ e. (h e).0, in_each k ts es (λ e. (h e).1))
  in_each k ts (event.Use u ∷ es) h = in_each k ts es h
  in_each k ts (event.Import p ∷ es) h = in_each k ts es h
  in_each k ts (event.Member m g i ∷ es) h = in_each k ts es h
  in_each k ts (event.Bodiless i j ∷ es) h = in_each k ts es h
  in_each k ts (event.Statement i j ∷ es) h = in_each k ts es h
  in_each k ts (event.Misplaced i j ∷ es) h = in_each k ts es h
  in_each k ts (event.SecondDefault i ∷ es) h = in_each k ts es h

  from_each : (k : ℕ) (us : List names.Unit) → ((i : ℕ) (u : names.Unit) → slice_get us i ≡ Some u → k + i ≡ n → EachDeclared Q u.events) → AllByRecursion InFile (found_from k us)
  from_each k [] f = tt
  from_each k (u ∷ us) f =
      all_append InFile (found_in k u.tokens u.events) (found_from (suc k) us)
      (in_each k u.tokens u.events (λ e. f 0 u refl (let z : k + 0 ≡ k = omega arith in z ∙ e)))
      (from_each (suc k) us (λ i v g e. f (suc i) v g (let z : k + suc i ≡ suc k + i = omega arith in z ∙ e)))

  new_each : (P : Found → Type 0) (all xs : List Found) → AllByRecursion P xs → AllByRecursion P (new_among all xs)
  new_each P all [] h = tt
  new_each P all (x ∷ xs) h = by (is_new all x) (new_each P all xs h.1)
    where
      by : (b : Bool) → AllByRecursion P (new_among all xs) → AllByRecursion P (if b then x ∷ new_among all xs else new_among all xs)
      by true r = (h.0, r)
      by false r = r

  -- what holds of the declarations that a file tells
  pub found_each : (us : List names.Unit) (u : names.Unit) → slice_get us n ≡ Some u → EachDeclared Q u.events → AllByRecursion InFile (found us)
  found_each us u there h =
      from_each 0 us (λ i v g e.
      let z : 0 + i ≡ i = omega arith in
      subst (λ (w : names.Unit). EachDeclared Q w.events) (same_unit u v (sym there ∙ ap (slice_get us) (sym e ∙ z) ∙ g)) h)

  pub declared_each : (us : List names.Unit) (u : names.Unit) → slice_get us n ≡ Some u → EachDeclared Q u.events → AllByRecursion InFile (declarations us)
  declared_each us u there h = new_each InFile (found us) (found us) (found_each us u there h)

-- ---- what a name means

-- the tokens of a scope pass the test
abbrev pub IsHeld : (ℕ → Bool) → Declaration → Type 0
IsHeld p d = is_package d.block ≡ false → (x : ℕ) → d.scope.from ≤ x → x < d.scope.to → p x ≡ true

scope_covers : (n t k : ℕ) (s : Scope) → (nat_eq k n && nat_le s.from t && nat_lt t s.to) ≡ true → (k ≡ n) × (s.from ≤ t) × (t < s.to)
scope_covers n t k s e = (grind (arith, nat_tests), grind (arith, nat_tests), grind (arith, nat_tests))

no_object : (x : Object) → ◌≡◌ {A = Option Object} None (Some x) → ⊥
no_object x e = cc

module _ (n t : ℕ) (p : ℕ → Bool) where
  -- one that means a local stands where the test passes
  abbrev Meant : Meaning → Type 0
  Meant m = (f k : ℕ) → m.object ≡ object.Local f k → p t ≡ true

  abbrev CoverIn : Meaning → Type 0
  CoverIn m = covers m.extent n t ≡ true → Meant m

  abbrev MeaningIn : Option Meaning → Type 0
  MeaningIn None = Unit {0}
  MeaningIn (Some m) = Meant m

  covering_in : (w : List ℕ) (ms : List Meaning) → AllByRecursion CoverIn ms → AllByRecursion Meant (covering n t w ms)
  covering_in w [] h = tt
  covering_in w (m ∷ ms) h = by (same_text m.name w && covers m.extent n t) refl (covering_in w ms h.1)
    where
      by : (b : Bool) → (same_text m.name w && covers m.extent n t) ≡ b → AllByRecursion Meant (covering n t w ms) → AllByRecursion Meant (if b then m ∷ covering n t w ms else covering n t w ms)
      by true e r = (h.0 (and_right (same_text m.name w) (covers m.extent n t) e), r)
      by false e r = r

  innermost_in : (all ms : List Meaning) → AllByRecursion Meant ms → MeaningIn (innermost_of all ms)
  innermost_in all [] h = tt
  innermost_in all (m ∷ ms) h = by (is_innermost m.extent all) (innermost_in all ms h.1)
    where
      by : (b : Bool) → MeaningIn (innermost_of all ms) → MeaningIn (if b then Some m else innermost_of all ms)
      by true r = h.0
      by false r = r

  imported_covers : (k : ℕ) (us : List names.Unit) → AllByRecursion CoverIn (imported_from k us)
  imported_covers k [] = tt
  imported_covers k (u ∷ us) = by (imports_fmt u.tokens u.events) (imported_covers (suc k) us)
    where
      no_local : (f j : ℕ) → object.Import ≡ object.Local f j → p t ≡ true
      no_local f j e = cc

      by : (b : Bool) → AllByRecursion CoverIn (imported_from (suc k) us) → AllByRecursion CoverIn (if b then imported_meaning k ∷ imported_from (suc k) us else imported_from (suc k) us)
      by true r = (λ c f j e. no_local f j e, r)
      by false r = r

  one_covers : (k : Numbers) (d : Found) → (d.file ≡ n → IsHeld p d.it) → (b : Block) → d.it.block ≡ b → covers (extent_by d.file d.it.scope b) n t ≡ true → (f j : ℕ) → own_number k b ≡ object.Local f j → p t ≡ true
  one_covers k d h block.Package e c f j q = cc
  one_covers k d h (block.Local i) e c f j q = let r = scope_covers n t d.file d.it.scope c in h r.0 (ap is_package e) t r.1 r.2

  numbered_covers : (k : Numbers) (ds : List Found) → AllByRecursion (λ d. d.file ≡ n → IsHeld p d.it) ds → AllByRecursion CoverIn (numbered k ds)
  numbered_covers k [] h = tt
  numbered_covers k (d ∷ ds) h = (λ c f j e. one_covers k d h.0 d.it.block refl c f j e, numbered_covers (numbers_behind k d.it.entity d.it.block) ds h.1)

  meaning_in : (us : List names.Unit) → AllByRecursion (λ d. d.file ≡ n → IsHeld p d.it) (declarations us) → (w : List ℕ) → MeaningIn (meaning_at (meanings us) n t w)
  meaning_in us h w =
      innermost_in (covering n t w (meanings us)) (covering n t w (meanings us))
      (covering_in w (meanings us) (all_append CoverIn (imported_from 0 us) (numbered first_numbers (declarations us)) (imported_covers 0 us) (numbered_covers first_numbers (declarations us) h)))

  known_no : (o : Option Predeclared) (f j : ℕ) → known_object o ≡ Some (object.Local f j) → p t ≡ true
  known_no None f j e = cc
  known_no (Some b) f j e = cc

  same_object : (a b : Object) → ◌≡◌ {A = Option Object} (Some a) (Some b) → a ≡ b
  same_object a b e = cc

  object_in : (w : List ℕ) (m : Option Meaning) → MeaningIn m → (f j : ℕ) → object_by w m ≡ Some (object.Local f j) → p t ≡ true
  object_in w None h f j e = known_no (known_in known_names w) f j e
  object_in w (Some m) h f j e = h f j (same_object m.object (object.Local f j) e)

  -- a name that means a local stands in a scope
  pub local_stands : (us : List names.Unit) → AllByRecursion (λ d. d.file ≡ n → IsHeld p d.it) (declarations us) → (w : List ℕ) (f j : ℕ) → object_at (meanings us) n t w ≡ Some (object.Local f j) → p t ≡ true
  local_stands us h w f j e = by (is_blank w) e
    where
      by : (b : Bool) → (if b then None else object_by w (meaning_at (meanings us) n t w)) ≡ Some (object.Local f j) → p t ≡ true
      by true q = absurd (no_object (object.Local f j) q)
      by false q = object_in w (meaning_at (meanings us) n t w) (meaning_in us h w) f j q

-- ---- what a parameter is

-- it is nothing that is declared outside of functions
abbrev pub NoObject : Option Object → Type 0
NoObject (Some object.Import) = ⊥
NoObject (Some (object.Predeclared b)) = ⊥
NoObject (Some (object.Package m)) = ⊥
NoObject o = Unit {0}

-- one of the declarations stands at the token
abbrev AnyAt : ℕ → ℕ → List Found → Type 0
AnyAt n t [] = ⊥
AnyAt n t (y ∷ ys) = ((y.file ≡ n) × (y.it.name ≡ t)) ⊎ AnyAt n t ys

imports_aside : (n t : ℕ) (w : List ℕ) (all : List Meaning) (k : ℕ) (us : List names.Unit) (ms : List Meaning) → own_object n t w all (imported_from k us ++ ms) ≡ own_object n t w all ms
imports_aside n t w all k [] ms = refl
imports_aside n t w all k (u ∷ us) ms = by (imports_fmt u.tokens u.events) (imports_aside n t w all (suc k) us ms)
  where
    by : (b : Bool) → own_object n t w all (imported_from (suc k) us ++ ms) ≡ own_object n t w all ms
        → own_object n t w all ((if b then imported_meaning k ∷ imported_from (suc k) us else imported_from (suc k) us) ++ ms) ≡ own_object n t w all ms
    by true g = g
    by false g = g

module _ (n t : ℕ) (w : List ℕ) (all : List Meaning) where
  local_own : (k : Numbers) (b : Block) → is_package b ≡ false → NoObject (Some (own_number k b))
  local_own k block.Package e = cc
  local_own k (block.Local i) e = tt

  own_local : (k : Numbers) (ds : List Found) → AllByRecursion (λ y. y.file ≡ n → y.it.name ≡ t → is_package y.it.block ≡ false) ds → (is_blank w ≡ true) ⊎ AnyAt n t ds → NoObject (own_object n t w all (numbered k ds))
  own_local k [] h (inl e) = subst (λ b. NoObject (if b then None else object_by w (meaning_at all n t w))) (sym e) tt
  own_local k [] h (inr a) = absurd a
  own_local k (y ∷ ds) h a = by (nat_eq y.file n) (nat_eq y.it.name t) refl refl a (λ x. own_local (numbers_behind k y.it.entity y.it.block) ds h.1 x)
    where
      other : (x : Bool) → nat_eq y.file n ≡ x → x ≡ false → (is_blank w ≡ true) ⊎ AnyAt n t (y ∷ ds) → (is_blank w ≡ true) ⊎ AnyAt n t ds
      other x e f (inl b) = inl b
      other x e f (inr (inl z)) = false_true (sym f ∙ sym e ∙ eq-eqb y.file n z.0)
      other x e f (inr (inr z)) = inr z

      apart : (x : Bool) → nat_eq y.it.name t ≡ x → x ≡ false → (is_blank w ≡ true) ⊎ AnyAt n t (y ∷ ds) → (is_blank w ≡ true) ⊎ AnyAt n t ds
      apart x e f (inl b) = inl b
      apart x e f (inr (inl z)) = false_true (sym f ∙ sym e ∙ eq-eqb y.it.name t z.1)
      apart x e f (inr (inr z)) = inr z

      by : (x z : Bool) → nat_eq y.file n ≡ x → nat_eq y.it.name t ≡ z → (is_blank w ≡ true) ⊎ AnyAt n t (y ∷ ds)
          → ((is_blank w ≡ true) ⊎ AnyAt n t ds → NoObject (own_object n t w all (numbered (numbers_behind k y.it.entity y.it.block) ds)))
          → NoObject (if x && z then Some (own_number k y.it.block) else own_object n t w all (numbered (numbers_behind k y.it.entity y.it.block) ds))
      by true true e g c rest = local_own k y.it.block (h.0 (eqb-true y.file n e) (eqb-true y.it.name t g))
      by true false e g c rest = rest (apart false g refl c)
      by false z e g c rest = rest (other false e refl c)

-- it is declared in front of no `:=`, and in a body
abbrev pub IsOwn : ℕ → TokenList → List Meaning → Declaration → Type 0
IsOwn n ts ms d = d.manner ≡ manner.Declared → is_package d.block ≡ false → NoObject (own_object n d.name (word ts d.name) ms ms)

any_front : (n t : ℕ) (xs ys : List Found) → AnyAt n t xs → AnyAt n t (xs ++ ys)
any_front n t [] ys h = absurd h
any_front n t (x ∷ xs) ys (inl h) = inl h
any_front n t (x ∷ xs) ys (inr h) = inr (any_front n t xs ys h)

module _ (n : ℕ) (d : Declaration) where
  -- a declaration that isn't blank and that stands before no `:=` is new
  abbrev AnyNew : List Found → List Found → Type 0
  AnyNew all [] = ⊥
  AnyNew all (y ∷ ys) = ((y.file ≡ n) × (y.it.name ≡ d.name) × (is_new all y ≡ true)) ⊎ AnyNew all ys

  new_front : (all xs ys : List Found) → AnyNew all xs → AnyNew all (xs ++ ys)
  new_front all [] ys h = absurd h
  new_front all (x ∷ xs) ys (inl h) = inl h
  new_front all (x ∷ xs) ys (inr h) = inr (new_front all xs ys h)

  new_behind : (all xs ys : List Found) → AnyNew all ys → AnyNew all (xs ++ ys)
  new_behind all [] ys h = h
  new_behind all (x ∷ xs) ys h = inr (new_behind all xs ys h)

  is_declared_new : (all : List Found) (x : Found) → is_blank x.name ≡ false → x.it.manner ≡ manner.Declared → is_new all x ≡ true
  is_declared_new all x e f = ap (λ b. not b && not (may_be_reused x.it.manner && is_reused x all)) e ∙ ap (λ m. not (may_be_reused m && is_reused x all)) f

  new_in : (all : List Found) (ts : TokenList) (es : List Event) → Tells d es → is_blank (word ts d.name) ≡ false → d.manner ≡ manner.Declared → AnyNew all (found_in n ts es)
  new_in all ts [] t e f = absurd t
  new_in all ts (event.Declaration x ∷ es) (inl q) e f =
      let y : Found = record { file = n; name = word ts x.name; place = names.bytes_at n ts x.name; it = x } in
      inl (refl, sym (ap (λ (z : Declaration). z.name) q), is_declared_new all y (subst (λ (z : Declaration). is_blank (word ts z.name) ≡ false) q e) (subst (λ (z : Declaration). z.manner ≡ manner.Declared) q f))
  new_in all ts (event.Declaration x ∷ es) (inr t) e f = inr (new_in all ts es t e f)
  new_in all ts (event.Use u ∷ es) t e f = new_in all ts es t e f
  new_in all ts (event.Import p ∷ es) t e f = new_in all ts es t e f
  new_in all ts (event.Member m g i ∷ es) t e f = new_in all ts es t e f
  new_in all ts (event.Bodiless i j ∷ es) t e f = new_in all ts es t e f
  new_in all ts (event.Statement i j ∷ es) t e f = new_in all ts es t e f
  new_in all ts (event.Misplaced i j ∷ es) t e f = new_in all ts es t e f
  new_in all ts (event.SecondDefault i ∷ es) t e f = new_in all ts es t e f

  new_from : (all : List Found) (k : ℕ) (us : List names.Unit) (i : ℕ) (u : names.Unit) → slice_get us i ≡ Some u → k + i ≡ n → Tells d u.events → is_blank (word u.tokens d.name) ≡ false → d.manner ≡ manner.Declared
      → AnyNew all (found_from k us)
  new_from all k [] i u there e t b f = absurd cc
  new_from all k (v ∷ us) zero u there e t b f =
      let same : u ≡ v = same_unit u v (sym there) in
      let is : k ≡ n = (let z : k ≡ k + 0 = omega arith in z) ∙ e in
      new_front all (found_in k v.tokens v.events) (found_from (suc k) us)
      (subst (λ m. AnyNew all (found_in m v.tokens v.events)) (sym is)
      (subst (λ (x : names.Unit). AnyNew all (found_in n x.tokens x.events)) same (new_in all u.tokens u.events t b f)))
  new_from all k (v ∷ us) (suc i) u there e t b f =
      new_behind all (found_in k v.tokens v.events) (found_from (suc k) us) (new_from all (suc k) us i u there (let z : suc k + i ≡ k + suc i = omega arith in z ∙ e) t b f)

  any_new : (all xs : List Found) → AnyNew all xs → AnyAt n d.name (new_among all xs)
  any_new all [] h = h
  any_new all (x ∷ xs) (inl h) = subst (λ b. AnyAt n d.name (if b then x ∷ new_among all xs else new_among all xs)) (sym h.2) (inl (h.0, h.1))
  any_new all (x ∷ xs) (inr h) = by (is_new all x) (any_new all xs h)
    where
      by : (b : Bool) → AnyAt n d.name (new_among all xs) → AnyAt n d.name (if b then x ∷ new_among all xs else new_among all xs)
      by true r = inr r
      by false r = r

module _ (us : List names.Unit) (n : ℕ) (u : names.Unit) (there : slice_get us n ≡ Some u) (hi : ℕ) (order : AreInOrder 0 hi u.events) where
  one_own : (d : Declaration) → Tells d u.events → IsOwn n u.tokens (meanings us) d
  one_own d t f b =
      let ms = meanings us in
      let w = word u.tokens d.name in
      let locals = declared_each n (λ y. y.name ≡ d.name → y ≡ d) us u there (once 0 hi d u.events order t) in
      subst NoObject (sym (imports_aside n d.name w ms 0 us (numbered first_numbers (declarations us))))
      (own_local n d.name w ms first_numbers (declarations us)
      (all_locals (declarations us) locals) (blank_or (is_blank w) refl))
    where
      all_locals : (ds : List Found) → AllByRecursion (λ y. y.file ≡ n → y.it.name ≡ d.name → y.it ≡ d) ds → AllByRecursion (λ y. y.file ≡ n → y.it.name ≡ d.name → is_package y.it.block ≡ false) ds
      all_locals [] h = tt
      all_locals (y ∷ ds) h = (λ e g. ap (λ (z : Declaration). is_package z.block) (h.0 e g) ∙ b, all_locals ds h.1)

      blank_or : (x : Bool) → is_blank (word u.tokens d.name) ≡ x → (is_blank (word u.tokens d.name) ≡ true) ⊎ AnyAt n d.name (declarations us)
      blank_or true e = inl e
      blank_or false e = inr (any_new n d (found us) (found us) (new_from n d (found us) 0 us n u there (omega arith) t e f))

  -- parameters are no objects that are declared outside of functions
  pub all_own : EachDeclared (IsOwn n u.tokens (meanings us)) u.events
  all_own = each_of (IsOwn n u.tokens (meanings us)) u.events one_own

  -- and what isn't looked up in a scope means no local
  pub all_apart : (p : ℕ → Bool) → EachDeclared (IsHeld p) u.events → (t f j : ℕ) (w : List ℕ) → object_at (meanings us) n t w ≡ Some (object.Local f j) → p t ≡ true
  all_apart p h t f j w e = local_stands n t p us (declared_each n (IsHeld p) us u there h) w f j e
