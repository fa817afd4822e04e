-- What is chosen of windows that are the same has names, and its types can be written.
use Rattle.std.proofs.Common.{◌≡◌, ℕ, suc, ◌<◌, Bool, true, false, ◌&&◌, ◌||◌, List, [], ◌∷◌, ◌++◌, map, length, Option, Some, None, refl, sym, ap, subst, ◌∙◌, arith}
use Rattle.std.specs.Prelude.{if◌then◌else◌, nat_eq, slice_get, unwrap_or}
use Rattle.std.specs.List.{AllByRecursion, list_all, zip}
use Rattle.std.proofs.lemmas.Bool.{and_parts}
use Rattle.std.proofs.lemmas.Bool.Decides.{nat_tests}
use Rattle.go_types.specs.Trees.{TypeTree, row}
use Rattle.go_typed.specs.Trees.{Sort, Typed, typed, Typeds, SortHas, Every, EveryPart}
use Rattle.go_typed.specs.Trees as trees
use Rattle.clone_window.proofs.Public.{all-as-many}
use Rattle.clone_window.specs.Masses.{is_hole, is_inside}
use Rattle.clone_window.specs.Sameness.{standing, are_alike, all_agree, all_locals, local_pairs, is_one_to_one, sort_at, is_matched, is_same}
use Rattle.go_print_laws.specs.Lexemes.{IsName, AreNames}
use Rattle.go_print_laws.specs.Types.{CanBeWritten, RowCanBeWritten}
use Rattle.param_choose.specs.Choosing.{Choice, HoleParameter, choice, type_in, parameter_with, parameter_of, is_parameter, parameters_from, hole_parameters, is_needed}
use Rattle.param_choose.specs.Holes.{Hole, holes_in, holes_among, holes}
use Rattle.param_choose.specs.Locals.{Variable, has, only, free_locals, is_outside, once, each_local, declared_names}
use Rattle.param_choose.specs.Members.{Member, local_at, second_of, uses_within}
use Rattle.escape_check.specs.Places.{Sources, local_text}
use Rattle.escape_check.specs.Types.{declared_text, variable_types, hole_types}
use Rattle.extract_texts.specs.Texts.{variable_names}
use Rattle.extract_texts_written.proofs.Origins.{below_there}
use Rattle.extract_texts_written.proofs.Locals.{MemberWritten, VariableWritten, where_written}

-- ---- rows

module _ (s : Sources) (m : Member TypeTree) where
  abbrev AllWritten : List (Variable TypeTree) → Type 0
  AllWritten vs = AllByRecursion (VariableWritten s m) vs

  pub names_of : (vs : List (Variable TypeTree)) → AllWritten vs → AreNames (variable_names s m vs)
  names_of [] h = tt
  names_of (v ∷ vs) h = (h.0.name, names_of vs h.1)

  pub types_of : (vs : List (Variable TypeTree)) → AllWritten vs → AllByRecursion (CanBeWritten (declared_text s)) (variable_types vs)
  types_of [] h = tt
  types_of (v ∷ vs) h = (h.0.type, types_of vs h.1)

  only_written : (test : ℕ → Bool) (vs : List (Variable TypeTree)) → AllWritten vs → AllWritten (only test vs)
  only_written test [] h = tt
  only_written test (v ∷ vs) h = by (test v.local) (only_written test vs h.1)
    where
      by : (b : Bool) → AllWritten (only test vs) → AllWritten ((if b then v ∷ [] else []) ++ only test vs)
      by true g = (h.0, g)
      by false g = g

pub row_can : (name : ℕ → List ℕ) (ts : List TypeTree) → AllByRecursion (CanBeWritten name) ts → RowCanBeWritten name (row (map (λ x. x) ts))
row_can name [] h = tt
row_can name (t ∷ ts) h = (h.0, row_can name ts h.1)

pub both_types : (P : TypeTree → Type 0) (xs ys : List TypeTree) → AllByRecursion P xs → AllByRecursion P ys → AllByRecursion P (xs ++ ys)
both_types P [] ys a b = b
both_types P (x ∷ xs) ys a b = (a.0, both_types P xs ys a.1 b)

pub both_names : (xs ys : List (List ℕ)) → AreNames xs → AreNames ys → AreNames (xs ++ ys)
both_names [] ys a b = b
both_names (x ∷ xs) ys a b = (a.0, both_names xs ys a.1 b)

-- ---- the types of holes

module _ (P : TypeTree → Type 0) where
  abbrev HolesHave : List (Hole TypeTree) → Type 0
  HolesHave hs = AllByRecursion (λ (h : Hole TypeTree). SortHas P h.sort) hs

  both_holes : (xs ys : List (Hole TypeTree)) → HolesHave xs → HolesHave ys → HolesHave (xs ++ ys)
  both_holes [] ys a b = b
  both_holes (x ∷ xs) ys a b = (a.0, both_holes xs ys a.1 b)

  either_have : (b : Bool) (x : Hole TypeTree) (xs : List (Hole TypeTree)) → SortHas P x.sort → HolesHave xs → HolesHave (if b then x ∷ [] else xs)
  either_have true x xs h g = (h, tt)
  either_have false x xs h g = g

  mutual
    in_have : (k : ℕ) (a : Bool) (x : Typed TypeTree) → Every P x → HolesHave (holes_in k a x)
    in_have k a (typed f i j l ps) h = either_have (is_hole a f l) (record { node = k; from = i; upto = j; sort = l.sort }) (holes_among (suc k) (is_inside a f l) ps) h.0 (among_have (suc k) (is_inside a f l) ps h.1)

    among_have : (k : ℕ) (a : Bool) (ps : Typeds TypeTree) → EveryPart P ps → HolesHave (holes_among k a ps)
    among_have k a trees.none h = tt
    among_have k a (trees.more p ps) h = both_holes (holes_in k a p) (holes_among _ a ps) (in_have k a p h.0) (among_have _ a ps h.1)
    among_have k a (trees.skip ps) h = among_have k a ps h

  one_has : (start n : ℕ) (x : Hole TypeTree) (y : Sort TypeTree) → SortHas P y → AllByRecursion P (hole_types (parameter_with start n x (type_in y)))
  one_has start n x (trees.Constant t c) h = (h, tt)
  one_has start n x y h = tt

  split_types : (xs ys : List (HoleParameter TypeTree)) → AllByRecursion P (hole_types xs) → AllByRecursion P (hole_types ys) → AllByRecursion P (hole_types (xs ++ ys))
  split_types [] ys a b = b
  split_types (x ∷ xs) ys a b = (a.0, split_types xs ys a.1 b)

  from_have : (ms : List (Member TypeTree)) (t : Member TypeTree) (n : ℕ) (hs : List (Hole TypeTree)) → HolesHave hs → AllByRecursion P (hole_types (parameters_from ms t n hs))
  from_have ms t n [] h = tt
  from_have ms t n (x ∷ hs) h = split_types (if is_parameter ms t n x then parameter_of t.start n x else []) (parameters_from ms t (suc n) hs) (by (is_parameter ms t n x)) (from_have ms t (suc n) hs h.1)
    where
      by : (b : Bool) → AllByRecursion P (hole_types (if b then parameter_of t.start n x else []))
      by true = one_has t.start n x x.sort h.0
      by false = tt

  pub parameters_have : (ms : List (Member TypeTree)) (t : Member TypeTree) → EveryPart P t.statements → AllByRecursion P (hole_types (hole_parameters ms t))
  parameters_have ms t h = from_have ms t 0 (holes t) (among_have 0 false t.statements h)

-- ---- the choice

-- The variables that are handed over are variables of the template with names.
pub record ChoiceWritten (s : Sources) (t : Member TypeTree) (h : Choice TypeTree) : Type 0 where
  pub free : AllByRecursion (VariableWritten s t) h.free
  pub holes : AllByRecursion (CanBeWritten (declared_text s)) (hole_types h.holes)
  pub assigned : AllByRecursion (VariableWritten s t) h.assigned
  pub declared : AllByRecursion (VariableWritten s t) h.declared

pub choice_written : (array : Sort TypeTree → Bool) (s : Sources) (ms : List (Member TypeTree)) (t : Member TypeTree) → MemberWritten s t → ChoiceWritten s t (choice array ms t)
choice_written array s ms t h =
    let free = where_written s t h (is_outside t) (once [] (each_local (uses_within t))) in
    record {
      free = free;
      holes = parameters_have (CanBeWritten (declared_text s)) ms t h.statements;
      assigned = only_written s t _ (free_locals t) free;
      declared = where_written s t h (is_needed ms t) (declared_names t);
    }

-- ---- the local of another window that stands where one of the template does

abbrev Known : Sort TypeTree → Type 0
Known x = nat_eq (standing x) 1 ≡ true

same_test : (a b : ℕ) → nat_eq a b ≡ true → a ≡ b
same_test a b e = grind (arith, nat_tests)

has_split : (n k : ℕ) (ns : List ℕ) → (nat_eq n k || has ns n) ≡ true → (nat_eq n k ≡ false) → has ns n ≡ true
has_split n k ns h e = sym (ap (λ b. b || has ns n) e) ∙ h

paired : (identical : TypeTree → TypeTree → Bool) (here there : List (Sort TypeTree)) (xs ys : List ℕ) (n : ℕ) → length xs ≡ length ys → has xs n ≡ true
    → list_all (is_matched identical here there) (zip xs ys) ≡ true → are_alike identical (sort_at here n) (sort_at there (second_of (zip xs ys) n)) ≡ true
paired identical here there [] ys n e h m = absurd cc
paired identical here there (x ∷ xs) [] n e h m = absurd (omega (arith, e))
paired identical here there (x ∷ xs) (y ∷ ys) n e h m =
    let b = and_parts (is_matched identical here there (x, y)) (list_all (is_matched identical here there) (zip xs ys)) m in
    by (nat_eq x n) refl b.0 (λ g. paired identical here there xs ys n (omega (arith, e)) g b.1)
  where
    by : (c : Bool) → nat_eq x n ≡ c → are_alike identical (sort_at here x) (sort_at there y) ≡ true
        → (has xs n ≡ true → are_alike identical (sort_at here n) (sort_at there (second_of (zip xs ys) n)) ≡ true)
        → are_alike identical (sort_at here n) (sort_at there (if c then y else second_of (zip xs ys) n)) ≡ true
    by true g a rest = subst (λ k. are_alike identical (sort_at here k) (sort_at there y) ≡ true) (same_test x n g) a
    by false g a rest = rest (has_split n x xs h (let z : nat_eq n x ≡ false = grind (arith, nat_tests) in z))

-- a variable has one that stands for something
value_there : (identical : TypeTree → TypeTree → Bool) (t : TypeTree) (x : Sort TypeTree) → are_alike identical (trees.Value t) x ≡ true → x ≡ trees.Unknown → ⊥
value_there identical t x h e = absurd (let z = sym h ∙ ap (are_alike identical (trees.Value t)) e in cc)

there_or : (sorts : List (Sort TypeTree)) (n : ℕ) (o : Option (Sort TypeTree)) → slice_get sorts n ≡ o → (unwrap_or o trees.Unknown ≡ trees.Unknown → ⊥) → n < length sorts
there_or sorts n None e h = absurd (h refl)
there_or sorts n (Some x) e h = below_there sorts n x e

-- the template's local is a variable
abbrev pub IsVariable : Member TypeTree → ℕ → Type 0
IsVariable t n = (u : TypeTree) × (sort_at t.locals n ≡ trees.Value u)

module _ (identical : TypeTree → TypeTree → Bool) (s : Sources) (t m : Member TypeTree) (written : MemberWritten s m) (same : is_same identical t.locals m.locals t.statements m.statements ≡ true) where
  pub partner_named : (n : ℕ) → IsVariable t n → has (all_locals false t.statements) n ≡ true → IsName (local_text s m (local_at t m n))
  partner_named n v h =
      let xs = all_locals false t.statements in
      let ys = all_locals false m.statements in
      let three = and_parts (all_agree identical false false t.statements m.statements && is_one_to_one (local_pairs t.statements m.statements)) (list_all (is_matched identical t.locals m.locals) (local_pairs t.statements m.statements)) same in
      let two = and_parts (all_agree identical false false t.statements m.statements) (is_one_to_one (local_pairs t.statements m.statements)) three.0 in
      let alike = paired identical t.locals m.locals xs ys n (all-as-many identical false false t.statements m.statements two.0) h three.1 in
      let known = subst (λ x. are_alike identical x (sort_at m.locals (local_at t m n)) ≡ true) v.1 alike in
      written.named (local_at t m n) (there_or m.locals (local_at t m n) (slice_get m.locals (local_at t m n)) refl (value_there identical v.0 (sort_at m.locals (local_at t m n)) known))
