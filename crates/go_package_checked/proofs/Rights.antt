-- The right sides of the types of a package without faults are within the limit on scalars.
use Rattle.std.proofs.Common.{◌≡◌, ℕ, zero, suc, ◌⊎◌, inl, inr, Bool, true, false, List, [], ◌∷◌, ◌++◌, length, Option, Some, None, refl, sym, ap, subst, ◌∙◌, arith}
use Rattle.std.specs.Prelude.{◌&&◌, if◌then◌else◌, slice_get}
use Rattle.std.specs.List.{AllByRecursion}
use Rattle.go_grammar.specs.declared.kind.Category.TheVariants as category
use Rattle.go_grammar.specs.Trees.{Tree}
use Rattle.go_tree.specs.declared.context.Entity.{Entity}
use Rattle.go_tree.specs.declared.context.Entity.TheVariants as entity
use Rattle.go_tree.specs.declared.object.Object.{Object}
use Rattle.go_tree.specs.declared.object.Object.TheVariants as object
use Rattle.go_types.specs.Trees.{TypeTree}
use Rattle.go_types.specs.Relations.{Rights}
use Rattle.go_types_relations.specs.Questions.{flat, entry}
use Rattle.go_typed.specs.Trees.{sort_of}
use Rattle.go_typed.specs.Trees as sort
use Rattle.go_exprs_rules.specs.declared.fault.TypeFault.{TypeFault}
use Rattle.go_exprs_rules.specs.Faults.{joined}
use Rattle.go_exprs_rules.specs.Scopes.{Needed, in_full, at_once, loosely, Scope, Hint, type_place}
use Rattle.go_exprs_rules.specs.Settling.{Part}
use Rattle.go_exprs_rules.specs.Sorts.{Stands, is_unknown, named_type, value_type}
use Rattle.go_exprs_rules.specs.Tables.{no_faults}
use Rattle.go_exprs_rules.specs.TypeNodes.{part_type}
use Rattle.go_exprs_rules.specs.Typing.{typing, faults}
use Rattle.go_print_laws.specs.Reading.{IsWithin}
use Rattle.go_stmts_defs.specs.Assigning.{called_results, unassigned, result_unassigned, constant_failing, constant_in, first_known, variable}
use Rattle.go_package_defs.specs.Declarations.{Specification, is_alone}
use Rattle.go_package_defs.specs.Knowledge.{Outline, outlines, State, state_there, state_of, is_type, is_sound, is_told_by, is_told, all_pass, needs_of, passes, stands_if, stands_where, rights_of, free_scope, told_scope}
use Rattle.go_package_defs.specs.Sources.{Package}
use Rattle.go_package_defs.specs.Verdicts.{type_hint, value_hint, part_in, faults_in, typed_type, type_faults, own_value, values_faults, Assigned, assigned, constant_assigned, result_assigned, value_assigned, shared_value, variable_by, variable_assigned, function_assigned, assigned_as, assigned_if, are_judged, assigned_of, own_type, right_found, type_state, own_faults, value_state}
use Rattle.go_package_laws.specs.Ranks.{Ranks, type_object, IsFoundAs, AreFound}
use Rattle.go_package_laws.proofs.Public.{right_there, right_entry}
use Rattle.go_stmts_final_types.specs.Fewer.{KnowsLess, knowing}
use Rattle.go_stmts_final_types.specs.Shapes.{IsShaped}
use Rattle.go_stmts_limits.specs.Limits.{RightsAreWithin}
use Rattle.go_stmts_limits.specs.Written.{unjudged, TypeIsWithin, NamesTypesWithin}
use Rattle.go_package_checked.proofs.Failing.{IsFine, outline_has}
use Rattle.go_package_checked.proofs.Shapes.{HasType}

-- what the laws say that are cited
abbrev pub LessKnown : Type 0
LessKnown = (s : Scope) (sorts : Needed → Object → Stands) (h : Hint) (t : Tree) → KnowsLess s sorts → IsShaped category.Type t → (typing s h t ≡ typing (knowing s sorts) h t) ⊎ (is_unknown (sort_of (typing s h t)) ≡ true)

abbrev pub Unjudged : Type 0
Unjudged = (s : Scope) (h : Hint) (t : Tree) → s.limits ≡ true → joined (faults s h t) ≡ [] → typing (unjudged s) h t ≡ typing s h t

abbrev pub Written : Type 0
Written = (limit s : Scope) (h : Hint) (t : Tree) → NamesTypesWithin limit s → IsShaped category.Type t → TypeIsWithin limit (named_type (sort_of (typing s h t)))

-- ---- names that stand for something have no rule that fails at their assignment, and for no type

pub record IsClean (a : Assigned) : Type 0 where
  pub told : is_told_by a.stands None ≡ true → no_faults a.failing ≡ true
  pub untyped : named_type a.stands ≡ None

assigned_clean : (x : Stands) (fs : List TypeFault) → named_type x ≡ None → IsClean (assigned x fs)
assigned_clean x [] e = record { told = λ h. refl; untyped = e }
assigned_clean x (f ∷ fs) e = record { told = λ h. cc; untyped = refl }

constant_untyped : (t : Option TypeTree) (x : Stands) → named_type (constant_in t x) ≡ None
constant_untyped None (sort.Constant u c) = refl
constant_untyped None (sort.OpenConstant c) = refl
constant_untyped None x = refl
constant_untyped (Some t) (sort.Constant u c) = refl
constant_untyped (Some t) (sort.OpenConstant c) = refl
constant_untyped (Some t) x = refl

variable_untyped : (t : Option TypeTree) → named_type (variable t) ≡ None
variable_untyped None = refl
variable_untyped (Some t) = refl

module _ (rights : Rights) where
  constant_clean : (t : Option TypeTree) (x : Option Part) → IsClean (constant_assigned rights t x)
  constant_clean t None = assigned_clean sort.Unknown [] refl
  constant_clean t (Some x) = assigned_clean (constant_in t (sort_of x)) (constant_failing rights t x) (constant_untyped t (sort_of x))

  result_clean : (t : Option TypeTree) (x : Part) (r : Option TypeTree) → IsClean (result_assigned rights t x r)
  result_clean t x None = assigned_clean (variable t) [] (variable_untyped t)
  result_clean t x (Some r) = assigned_clean (variable (first_known t (Some r))) (result_unassigned rights x t r) (variable_untyped (first_known t (Some r)))

  value_clean : (t : Option TypeTree) (x : Part) → IsClean (value_assigned rights t x)
  value_clean t x = assigned_clean (variable (first_known t (value_type (sort_of x)))) (unassigned rights t x) (variable_untyped (first_known t (value_type (sort_of x))))

  shared_clean : (t : Option TypeTree) (x : Part) (alone : Bool) (c : ℕ) → IsClean (shared_value rights t x alone c)
  shared_clean t x true (suc c) = assigned_clean (variable t) [] (variable_untyped t)
  shared_clean t x true zero = value_clean t x
  shared_clean t x false c = value_clean t x

  by_clean : (t : Option TypeTree) (x : Part) (alone : Bool) (c : ℕ) (o : Option (List TypeTree)) → IsClean (variable_by rights t x alone c o)
  by_clean t x alone c None = shared_clean t x alone c
  by_clean t x alone c (Some rs) = result_clean t x (slice_get rs c)

  variable_clean : (t : Option TypeTree) (x : Option Part) (alone : Bool) (c : ℕ) → IsClean (variable_assigned rights t x alone c)
  variable_clean t None alone c = assigned_clean (variable t) [] (variable_untyped t)
  variable_clean t (Some x) alone c = by_clean t x alone c (called_results rights (sort_of x))

  function_clean : (t : Option TypeTree) → IsClean (function_assigned t)
  function_clean None = assigned_clean sort.Unknown [] refl
  function_clean (Some t) = assigned_clean (sort.Value t) [] refl

  as_clean : (e : Entity) (d : Specification) (c : ℕ) (t : Option TypeTree) (x : Option Part) → IsClean (assigned_as e rights d c t x)
  as_clean entity.Constant d c t x = constant_clean t x
  as_clean entity.Function d c t x = function_clean t
  as_clean entity.Type d c t x = assigned_clean sort.Unknown [] refl
  as_clean entity.Variable d c t x = variable_clean t x (is_alone d) c
  as_clean entity.Parameter d c t x = variable_clean t x (is_alone d) c

  if_clean : (b : Bool) (a : Assigned) → IsClean a → IsClean (assigned_if b a)
  if_clean true a h = h
  if_clean false a h = assigned_clean sort.Unknown [] refl

  name_clean : (d : Specification) (c : ℕ) (fs : List TypeFault) (t x : Option Part) → IsClean (assigned_of rights d c fs t x)
  name_clean d c fs t x = if_clean (are_judged fs t x) (assigned_as d.entity rights d c (part_type t) x) (as_clean d.entity d c (part_type t) x)

-- ---- lists without faults

front_none : (xs ys : List TypeFault) → xs ++ ys ≡ [] → xs ≡ []
front_none [] ys e = refl
front_none (x ∷ xs) ys e = cc

behind_none : (xs ys : List TypeFault) → xs ++ ys ≡ [] → ys ≡ []
behind_none [] ys e = e
behind_none (x ∷ xs) ys e = cc

none_both : (xs ys : List TypeFault) → xs ≡ [] → ys ≡ [] → xs ++ ys ≡ []
none_both [] ys e f = f
none_both (x ∷ xs) ys e f = cc

value_none : (s : Scope) (h : Hint) (ts : List Tree) (n : ℕ) → values_faults s h ts ≡ [] → faults_in s h (slice_get ts n) ≡ []
value_none s h [] n e = refl
value_none s h (t ∷ ts) zero e = front_none (joined (faults s h t)) (values_faults s h ts) e
value_none s h (t ∷ ts) (suc n) e = value_none s h ts n (behind_none (joined (faults s h t)) (values_faults s h ts) e)

outside : {A B : Type 0} (xs : List A) (ys : List B) (n : ℕ) → length ys ≡ length xs → slice_get xs n ≡ None → slice_get ys n ≡ None
outside [] [] n l e = refl
outside [] (y ∷ ys) n l e = cc
outside (x ∷ xs) [] n l e = cc
outside (x ∷ xs) (y ∷ ys) zero l e = cc
outside (x ∷ xs) (y ∷ ys) (suc n) l e = outside xs ys n (let q : length ys ≡ length xs = omega (arith, l) in q) e

hint_is : (e : Entity) → is_type e ≡ true → type_hint e ≡ type_place
hint_is entity.Type e = refl
hint_is x e = absurd cc

and_both : (a b : Bool) → a ≡ true → b ≡ true → (a && b) ≡ true
and_both true b e f = f
and_both false b e f = cc

module _ (p : Package) (ds : List Specification) (found : List State) (ranks : Ranks) (a : AreFound p (outlines p ds) found ranks) (fine : AllByRecursion (IsFine p (outlines p ds) found) ds) where
  abbrev os : List Outline
  os = outlines p ds

  abbrev free : Specification → Scope
  free d = free_scope p os found d

  abbrev told : Specification → Scope
  told d = told_scope p os found d

  own_fine : (n : ℕ) (o : Outline) → slice_get os n ≡ Some o → IsFine p os found o.specification
  own_fine n o e = outline_has (IsFine p os found) refl p ds fine n o e

  of_type : (d : Specification) → IsFine p os found d → type_faults (free d) d ≡ []
  of_type d e = front_none (type_faults (free d) d) (values_faults (free d) (value_hint d) d.values) e

  of_own : (d : Specification) (c : ℕ) → IsFine p os found d → own_faults (free d) d c ≡ []
  of_own d c e =
      none_both (type_faults (free d) d) (faults_in (free d) (value_hint d) (own_value d c)) (of_type d e)
      (value_none (free d) (value_hint d) d.values (if is_alone d then 0 else c) (behind_none (type_faults (free d) d) (values_faults (free d) (value_hint d) d.values) e))

  -- what is found of an object: it is sound where it is told, and stands for no type that isn't declared
  record IsKept (limit : Scope) (s : State) : Type 0 where
    sound : is_told s ≡ true → is_sound s ≡ true
    typed : TypeIsWithin limit (named_type s.stands)

  module _ (limit : Scope) where
    kept_as : (s z : State) → s ≡ z → IsKept limit z → IsKept limit s
    kept_as s z e h = subst (IsKept limit) (sym e) h

    value_kept : (d : Specification) (c : ℕ) (fs : List TypeFault) → fs ≡ [] → IsKept limit (value_state (free d) d c fs)
    value_kept d c fs e =
        let x = assigned_of (free d).rights d c fs (typed_type (free d) d) (part_in (free d) (value_hint d) (own_value d c)) in
        let k = name_clean (free d).rights d c fs (typed_type (free d) d) (part_in (free d) (value_hint d) (own_value d c)) in
        record {
          sound = λ h. and_both (no_faults fs) (no_faults x.failing) (ap no_faults e) (k.told h);
          typed = subst (TypeIsWithin limit) (sym k.untyped) tt;
        }

    type_kept : (n : ℕ) (d : Specification) → type_faults (free d) d ≡ [] → IsKept limit (type_state (own_type p n) (told d) (free d) d)
    type_kept n d e = record { sound = λ h. and_both (no_faults (type_faults (free d) d)) true (ap no_faults e) refl; typed = tt }

    found_kept : (n : ℕ) (o : Outline) (b : Bool) → slice_get os n ≡ Some o → IsFoundAs p os found ranks n o b → IsKept limit (state_of found n)
    found_kept n o true e f = kept_as (state_of found n) (type_state (own_type p n) (told o.specification) (free o.specification) o.specification) f.is (type_kept n o.specification (of_type o.specification (own_fine n o e)))
    found_kept n o false e f =
        let d = o.specification in
        kept_as (state_of found n) (value_state (free d) d o.column (own_faults (free d) d o.column)) f.is (value_kept d o.column (own_faults (free d) d o.column) (of_own d o.column (own_fine n o e)))

    kept_by : (n : ℕ) (o : Option Outline) → slice_get os n ≡ o → IsKept limit (state_of found n)
    kept_by n None e = kept_as (state_of found n) (state_there None) (ap state_there (outside os found n a.as_many e)) (record { sound = λ h. cc; typed = tt })
    kept_by n (Some o) e = found_kept n o (is_type o.specification.entity) e (a.each n o e)

    kept : (n : ℕ) → IsKept limit (state_of found n)
    kept n = kept_by n (slice_get os n) refl

    -- ---- what is told is sound

    all_sound : (ns : List ℕ) → all_pass is_told found ns ≡ true → all_pass is_sound found ns ≡ true
    all_sound [] e = refl
    all_sound (n ∷ ns) e = and_both (is_sound (state_of found n)) (all_pass is_sound found ns) ((kept n).sound (first (is_told (state_of found n)) (all_pass is_told found ns) e)) (all_sound ns (second (is_told (state_of found n)) (all_pass is_told found ns) e))
      where
        first : (x y : Bool) → (x && y) ≡ true → x ≡ true
        first true y q = refl
        first false y q = cc

        second : (x y : Bool) → (x && y) ≡ true → y ≡ true
        second true y q = q
        second false y q = cc

    passes_sound : (need : Needed) (n : ℕ) → passes is_told os found need n ≡ true → passes is_sound os found need n ≡ true
    passes_sound loosely n e = refl
    passes_sound in_full n e = all_sound (n ∷ needs_of in_full (slice_get os n)) e
    passes_sound at_once n e = all_sound (n ∷ needs_of at_once (slice_get os n)) e

    object_less : (need : Needed) (o : Object) → (stands_where is_told os found need o ≡ stands_where is_sound os found need o) ⊎ (stands_where is_told os found need o ≡ sort.Unknown)
    object_less need (object.Package n) = by (passes is_told os found need n) refl
      where
        by : (b : Bool) → passes is_told os found need n ≡ b
            → (stands_if (passes is_told os found need n) (state_of found n) ≡ stands_if (passes is_sound os found need n) (state_of found n)) ⊎ (stands_if (passes is_told os found need n) (state_of found n) ≡ sort.Unknown)
        by true e = inl (ap (λ b. stands_if b (state_of found n)) (e ∙ sym (passes_sound need n e)))
        by false e = inr (ap (λ b. stands_if b (state_of found n)) e)
    object_less need object.Import = inl refl
    object_less need (object.Predeclared b) = inl refl
    object_less need (object.Local g m) = inl refl

    object_typed : (need : Needed) (o : Object) → TypeIsWithin limit (named_type (stands_where is_sound os found need o))
    object_typed need (object.Package n) = by (passes is_sound os found need n)
      where
        by : (b : Bool) → TypeIsWithin limit (named_type (stands_if b (state_of found n)))
        by true = (kept n).typed
        by false = tt
    object_typed need object.Import = tt
    object_typed need (object.Predeclared b) = tt
    object_typed need (object.Local g m) = tt

    module _ (less : LessKnown) (same : Unjudged) (written : Written) (rights : limit.rights ≡ rights_of p found) (shapes : AllByRecursion HasType ds) where
      names_within : (d : Specification) → NamesTypesWithin limit (free d)
      names_within d = record { judged = refl; front = λ n l. ap (λ r. slice_get r n) (sym rights); objects = object_typed }

      no_type : (x : Stands) (r : TypeTree) → is_unknown x ≡ true → named_type x ≡ Some r → ⊥
      no_type sort.Unknown r u e = cc
      no_type x r u e = cc

      -- a type that is told is what it is where limits are judged
      tree_within : (d : Specification) (t : Tree) (r : TypeTree) → IsShaped category.Type t → joined (faults (free d) type_place t) ≡ [] → named_type (sort_of (typing (told d) type_place t)) ≡ Some r → IsWithin limit r
      tree_within d t r w z e = by (less (told d) (stands_where is_sound os found) type_place t (record { same = object_less }) w)
        where
          by : (typing (told d) type_place t ≡ typing (knowing (told d) (stands_where is_sound os found)) type_place t) ⊎ (is_unknown (sort_of (typing (told d) type_place t)) ≡ true) → IsWithin limit r
          by (inr u) = absurd (no_type (sort_of (typing (told d) type_place t)) r u e)
          by (inl q) =
              let one : typing (told d) type_place t ≡ typing (free d) type_place t = q ∙ same (free d) type_place t refl z in
              let is : named_type (sort_of (typing (free d) type_place t)) ≡ Some r = ap (λ x. named_type (sort_of x)) (sym one) ∙ e in
              subst (TypeIsWithin limit) is (written limit (free d) type_place t (names_within d) w)

      found_type : (fs : List TypeFault) (x : Option Part) (r : TypeTree) → right_found fs x ≡ Some r → part_type x ≡ Some r
      found_type [] x r e = e
      found_type (f ∷ fs) x r e = cc

      type_within : (d : Specification) (o : Option Tree) (r : TypeTree) → is_type d.entity ≡ true → d.type_tree ≡ o → HasType d → faults_in (free d) type_place o ≡ [] → part_type (part_in (told d) type_place o) ≡ Some r → IsWithin limit r
      type_within d None r t q w z e = cc
      type_within d (Some x) r t q w z e = tree_within d x r (w t x q) z e

      right_within : (n : ℕ) (o : Outline) (b : Bool) (r : TypeTree) → is_type o.specification.entity ≡ b → slice_get os n ≡ Some o → IsFoundAs p os found ranks n o b → (state_of found n).right ≡ Some r → IsWithin limit r
      right_within n o false r t e f q = absurd (none_there r (sym (ap (λ (s : State). s.right) f.is) ∙ q))
        where
          none_there : (y : TypeTree) → ◌≡◌ {A = Option TypeTree} None (Some y) → ⊥
          none_there y z = cc
      right_within n o true r t e f q =
          let d = o.specification in
          let right : right_found (type_faults (told d) d) (typed_type (told d) d) ≡ Some r = sym (ap (λ (s : State). s.right) f.is) ∙ q in
          let h = hint_is d.entity t in
          let none : faults_in (free d) type_place d.type_tree ≡ [] = subst (λ x. faults_in (free d) x d.type_tree ≡ []) h (of_type d (own_fine n o e)) in
          let there : part_type (part_in (told d) type_place d.type_tree) ≡ Some r = subst (λ x. part_type (part_in (told d) x d.type_tree) ≡ Some r) h (found_type (type_faults (told d) d) (typed_type (told d) d) r right) in
          type_within d d.type_tree r t refl (outline_has HasType (λ x. absurd cc) p ds shapes n o e) none there

      state_within : (n : ℕ) (o : Option Outline) (r : TypeTree) → slice_get os n ≡ o → (state_of found n).right ≡ Some r → IsWithin limit r
      state_within n None r e q = absurd (none_there r (sym (ap (λ s. (state_there s).right) (outside os found n a.as_many e)) ∙ q))
        where
          none_there : (y : TypeTree) → ◌≡◌ {A = Option TypeTree} None (Some y) → ⊥
          none_there y z = cc
      state_within n (Some o) r e q = right_within n o (is_type o.specification.entity) r refl e (a.each n o e) q

      object_within : (o : Option ℕ) (r : TypeTree) → right_there found o ≡ Some r → IsWithin limit r
      object_within None r q = cc
      object_within (Some n) r q = state_within n (slice_get os n) r refl q

      pub rights_within : RightsAreWithin limit (rights_of p found)
      rights_within m r h =
          let there : entry (rights_of p found) m ≡ Some r = ap flat h in
          object_within (type_object p.uses.package_level m) r (sym (right_entry p.uses.package_level found (a.as_many ∙ sym a.declared) m) ∙ there)
