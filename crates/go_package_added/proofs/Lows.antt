-- The fault that is reported of a function stands at its tokens.
use Rattle.std.proofs.Common.{◌≡◌, ◌∙◌, ℕ, zero, suc, ◌-◌, ◌<◌, ◌≤◌, Bool, true, false, List, [], ◌∷◌, length, Option, Some, None, refl, sym, ap, subst, arith}
use Rattle.std.specs.Prelude.{if◌then◌else◌, nat_eq, nat_lt, slice_get, Result, Err}
use Rattle.std.specs.Str.{chars}
use Rattle.std.proofs.lemmas.Bool.Decides.{nat_tests}
use Rattle.go_grammar.specs.declared.kind.Kind.{Kind}
use Rattle.go_grammar.specs.declared.kind.Kind.TheVariants as kind
use Rattle.go_grammar.specs.declared.kind.Sort.TheVariants as declaring
use Rattle.go_grammar.specs.Trees.{Tree, node, Trees, none, more, skip, last}
use Rattle.go_rewriting.specs.Places.{carry, carries}
use Rattle.go_tree.specs.declared.object.Object.{Object}
use Rattle.go_tree.specs.declared.object.Object.TheVariants as object
use Rattle.go_tree.specs.Uses.{object_there}
use Rattle.go_types.specs.Relations.{Rights}
use Rattle.go_typed.specs.declared.form.Referent.{Referent}
use Rattle.go_typed.specs.declared.form.Referent.TheVariants as referent
use Rattle.go_exprs_rules.specs.Scopes.{Scope}
use Rattle.go_exprs_rules.specs.declared.fault.TypeFault.{TypeFault}
use Rattle.go_exprs_elsewhere.specs.Elsewhere.{Moves, fault_placed, referent_moved, LastKept, KeepsLast, AllKeepLast}
use Rattle.go_stmts_defs.specs.Bodies.{start}
use Rattle.go_stmts_elsewhere.specs.Frames.{AlongFrames, ObjectAlong, PlaceKept, KeepsPlaces, AllKeepPlaces}
use Rattle.go_stmts_elsewhere.specs.Functions.{AlongFunctions, KeepsOrder}
use Rattle.go_package_defs.specs.Bodies.{Behind, Surroundings, Portion, texts_from, objects_from, based_tree, portion_of, scope_of, text_there, local_type, function_in, function_with, types_in, typed_function}
use Rattle.go_package_defs.specs.Declarations.{Specification}
use Rattle.go_package_defs.specs.Sources.{Package}
use Rattle.go_package_added.proofs.Scopes.{KeepsWords}
use Rattle.go_package_added.proofs.Unchanged.{FunctionsElsewhere}

-- ---- tokens behind the token w move on by one

abbrev shift : ℕ → ℕ → ℕ
shift w i = if nat_lt w i then suc i else i

abbrev parting : ℕ → Moves
parting w = record { token = shift w; spelled = λ i. true; local = λ n. n; constant = λ n. n; type = λ n. n; variable = λ n. n; function = λ n. n }

low : (w i : ℕ) → i ≤ w → shift w i ≡ i
low w i l = ap (λ b. if b then suc i else i) (let z : nat_lt w i ≡ false = grind (arith, nat_tests) in z)

high : (w i : ℕ) → w < i → shift w i ≡ suc i
high w i l = ap (λ b. if b then suc i else i) (let z : nat_lt w i ≡ true = grind (arith, nat_tests) in z)

in_order : (w : ℕ) → KeepsOrder (parting w)
in_order w = record { less = less; same = same }
  where
    less : (a b : ℕ) → nat_lt (shift w a) (shift w b) ≡ nat_lt a b
    less a b = by (nat_lt w a) (nat_lt w b) refl refl
      where
        by : (x y : Bool) → nat_lt w a ≡ x → nat_lt w b ≡ y → nat_lt (if x then suc a else a) (if y then suc b else b) ≡ nat_lt a b
        by true true e f = grind (arith, nat_tests)
        by true false e f = grind (arith, nat_tests, e, f)
        by false true e f = grind (arith, nat_tests, e, f)
        by false false e f = refl

    same : (a b : ℕ) → nat_eq (shift w a) (shift w b) ≡ nat_eq a b
    same a b = by (nat_lt w a) (nat_lt w b) refl refl
      where
        by : (x y : Bool) → nat_lt w a ≡ x → nat_lt w b ≡ y → nat_eq (if x then suc a else a) (if y then suc b else b) ≡ nat_eq a b
        by true true e f = grind (arith, nat_tests)
        by true false e f = grind (arith, nat_tests, e, f)
        by false true e f = grind (arith, nat_tests, e, f)
        by false false e f = refl

-- a token that stays is none of those that move
stays_low : (w i : ℕ) → i ≡ shift w i → i ≤ w
stays_low w i e = by (nat_lt w i) refl e
  where
    by : (b : Bool) → nat_lt w i ≡ b → i ≡ (if b then suc i else i) → i ≤ w
    by true q z = absurd (omega (arith, z))
    by false q z = grind (arith, nat_tests)

-- ---- trees in front of the token w

abbrev mutual
  -- each node begins in front of the token w, and ends there or before
  pub IsLow : ℕ → Tree → Type 0
  IsLow w (node k i j ps) = (i < w) × (j ≤ w) × AreLow w ps

  pub AreLow : ℕ → Trees → Type 0
  AreLow w none = Unit {0}
  AreLow w (more t ts) = IsLow w t × AreLow w ts
  AreLow w (skip ts) = AreLow w ts

module _ (w : ℕ) where
  mutual
    carried : (t : Tree) → IsLow w t → carry (shift w) t ≡ t
    carried (node k i j ps) h =
        ap (λ a. node k a (shift w j) (carries (shift w) ps)) (low w i (let l = h.0 in omega (arith, l))) ∙ ap (λ a. node k i a (carries (shift w) ps)) (low w j h.1) ∙ ap (node k i j) (all_carried ps h.2)

    all_carried : (ts : Trees) → AreLow w ts → carries (shift w) ts ≡ ts
    all_carried none h = refl
    all_carried (more t ts) h = ap (λ z. more z (carries (shift w) ts)) (carried t h.0) ∙ ap (more t) (all_carried ts h.1)
    all_carried (skip ts) h = ap skip (all_carried ts h)

  one_before : (j : ℕ) → j ≤ w → shift w (j - 1) ≡ shift w j - 1
  one_before j l = low w (j - 1) (omega (arith, l)) ∙ sym (ap (λ a. a - 1) (low w j l))

  last_kept : (k : Kind) (j : ℕ) → j ≤ w → LastKept (parting w) k j
  last_kept kind.Selector j l = one_before j l
  last_kept k j l = tt

  mutual
    keeps_last : (t : Tree) → IsLow w t → KeepsLast (parting w) t
    keeps_last (node k i j ps) h = (last_kept k j h.1, all_keep_last ps h.2)

    all_keep_last : (ts : Trees) → AreLow w ts → AllKeepLast (parting w) ts
    all_keep_last none h = tt
    all_keep_last (more t ts) h = (keeps_last t h.0, all_keep_last ts h.1)
    all_keep_last (skip ts) h = all_keep_last ts h

  place_kept : (k : Kind) (i j : ℕ) → i < w → j ≤ w → PlaceKept (parting w) k i j
  place_kept (kind.Specification declaring.Type) i j l u = low w (suc i) (omega (arith, l)) ∙ ap suc (sym (low w i (omega (arith, l))))
  place_kept kind.FunctionDeclaration i j l u = one_before j u
  place_kept k i j l u = tt

  mutual
    keeps_places : (t : Tree) → IsLow w t → KeepsPlaces (parting w) t
    keeps_places (node k i j ps) h = (place_kept k i j h.0 h.1, all_keep_places ps h.2)

    all_keep_places : (ts : Trees) → AreLow w ts → AllKeepPlaces (parting w) ts
    all_keep_places none h = tt
    all_keep_places (more t ts) h = (keeps_places t h.0, all_keep_places ts h.1)
    all_keep_places (skip ts) h = all_keep_places ts h

-- ---- a declaration by itself says nothing behind its tokens

beyond_end : {A : Type 0} (xs : List A) (i : ℕ) → length xs ≤ i → slice_get xs i ≡ None
beyond_end [] i l = refl
beyond_end (x ∷ xs) zero l = absurd (omega (arith, l))
beyond_end (x ∷ xs) (suc i) l = beyond_end xs i (omega (arith, l))

there_same : {A : Type 0} (w : ℕ) (xs : List A) → length xs ≡ w → (i : ℕ) → slice_get xs (shift w i) ≡ slice_get xs i
there_same w xs e i = by (nat_lt w i) refl
  where
    by : (b : Bool) → nat_lt w i ≡ b → slice_get xs (if b then suc i else i) ≡ slice_get xs i
    by true q = beyond_end xs (suc i) (let z : w < i = grind (arith, nat_tests) in omega (arith, z, e)) ∙ sym (beyond_end xs i (let z : w < i = grind (arith, nat_tests) in omega (arith, z, e)))
    by false q = refl

same_referent : (w : ℕ) (r : Referent) → r ≡ referent_moved (parting w) r
same_referent w (referent.Constant n) = refl
same_referent w (referent.Type n) = refl
same_referent w (referent.Variable n) = refl
same_referent w (referent.Function n) = refl
same_referent w (referent.Predeclared n) = refl
same_referent w referent.Println = refl

module _ (w : ℕ) (s : Scope) where
  object_along : (z : Option Object) → ObjectAlong (parting w) (λ n. true) s s z z
  object_along None = tt
  object_along (Some object.Import) = tt
  object_along (Some (object.Predeclared x)) = refl
  object_along (Some (object.Package n)) = ((λ need. refl), same_referent w (s.referents n))
  object_along (Some (object.Local f n)) = (refl, refl)

module _ (law : FunctionsElsewhere) (words : KeepsWords) (w : ℕ) (a : Surroundings) (rights : Rights) (o : Portion) (as_many_texts : length o.texts ≡ w) (as_many_objects : length o.objects ≡ w) where
  abbrev here : Scope
  here = scope_of a rights o

  frames : (count : ℕ) (types : ℕ → ℕ) → AlongFrames (parting w) (λ n. true) (start here count types) (start here count types)
  frames count types = record {
    rights = refl;
    iota = refl;
    needed = refl;
    limits = refl;
    texts = λ i e. ap text_there (there_same w o.texts as_many_texts i);
    characters = λ i e. ap (λ x. chars (text_there x)) (there_same w o.texts as_many_texts i);
    objects = λ i. subst (ObjectAlong (parting w) (λ n. true) here here (object_there (slice_get o.objects i))) (sym (ap object_there (there_same w o.objects as_many_objects i))) (object_along w here (object_there (slice_get o.objects i)));
    apart = λ n k e f h. h;
    room = λ n e. refl;
    locals = λ n e. refl;
    types = λ n e. refl;
    source = refl;
    repeats = tt;
    tag = refl;
    results = refl;
  }

  itself_along : (count : ℕ) (types : ℕ → ℕ) (number : ℕ) (t : Tree) → IsLow w t
      → AlongFunctions (parting w) (λ n. true) (last t) number (function_in here number count types t) (function_in here number count types t)
  itself_along count types number t h =
      subst (λ z. AlongFunctions (parting w) (λ n. true) (last t) number (function_in here number count types t) (function_in here number count types z)) (carried w t h)
      (law (parting w) (λ n. true) here here count count types types number number t (frames count types) (λ need c x d y. refl) (words (parting w) t (λ i. refl) (keeps_last w t h)) (keeps_places w t h))

abbrev Stands : ℕ → TypeFault → Type 0
Stands w f = (f.first ≤ w) × (f.last ≤ w)

fault_stands : (w end n : ℕ) (r : Result Behind TypeFault) (f : TypeFault) → r ≡ Err f → AlongFunctions (parting w) (λ k. true) end n r r → Stands w f
fault_stands w end n r f e h = by (subst (λ z. AlongFunctions (parting w) (λ k. true) end n z z) e h (in_order w))
  where
    by : f ≡ fault_placed (parting w) f → Stands w f
    by q = (stays_low w f.first (ap (λ (z : TypeFault). z.first) q), stays_low w f.last (ap (λ (z : TypeFault). z.last) q))

-- ---- a function of a package

texts_count : (p : Package) (m t k : ℕ) → length (texts_from p m t k) ≡ k
texts_count p m t zero = refl
texts_count p m t (suc k) = ap suc (texts_count p m (suc t) k)

objects_count : (p : Package) (m t k : ℕ) → length (objects_from p m t k) ≡ k
objects_count p m t zero = refl
objects_count p m t (suc k) = ap suc (objects_count p m (suc t) k)

abbrev pub MaybeLow : ℕ → Option Tree → Type 0
MaybeLow w None = Unit {0}
MaybeLow w (Some t) = IsLow w t

module _ (law : FunctionsElsewhere) (words : KeepsWords) (p : Package) (a : Surroundings) (rights : Rights) (number : ℕ) (d : Specification) where
  of_tree : (bs : List Bool) (o : Option Tree) (f : TypeFault) → MaybeLow (d.last - d.first) o → function_with a rights number bs (portion_of p d) o ≡ Err f → Stands (d.last - d.first) f
  of_tree bs None f h e = let one : f ≡ _ = sym (inner e) in (ap_le (ap (λ (z : TypeFault). z.first) one), ap_le (ap (λ (z : TypeFault). z.last) one))
    where
      inner : {x y : TypeFault} → ◌≡◌ {A = Result Behind TypeFault} (Err x) (Err y) → x ≡ y
      inner q = cc

      ap_le : {x : ℕ} → x ≡ 0 → x ≤ d.last - d.first
      ap_le q = omega (arith, q)
  of_tree bs (Some t) f h e =
      fault_stands (d.last - d.first) (last t) number (function_with a rights number bs (portion_of p d) (Some t)) f e
      (itself_along law words (d.last - d.first) a _ (portion_of p d) (texts_count p d.file d.first (d.last - d.first)) (objects_count p d.file d.first (d.last - d.first)) (length bs) (local_type (length rights) bs) number t h)

  pub fault_low : (f : TypeFault) → MaybeLow (d.last - d.first) (based_tree d.first d.tree) → typed_function p a rights number d ≡ Err f → Stands (d.last - d.first) f
  fault_low f h e = of_tree (types_in p number) (based_tree d.first d.tree) f h e
