-- In a package whose declarations have no fault no rule fails at a specification.
use Rattle.std.proofs.Common.{◌≡◌, ℕ, zero, suc, Bool, true, false, List, [], ◌∷◌, ◌++◌, map, Option, Some, None, Ok, refl, subst}
use Rattle.std.specs.Prelude.{if◌then◌else◌, slice_get}
use Rattle.std.specs.List.{AllByRecursion}
use Rattle.go_tree.specs.Failures.{Failure, is_earlier, earlier, least_from, least}
use Rattle.go_exprs_rules.specs.declared.fault.TypeFault.{TypeFault}
use Rattle.go_exprs_rules.specs.Scopes.{Scope}
use Rattle.go_package_defs.specs.Answer.{Environment, failures_at, all_failures, hidden_failures, or_else, package_failures, unless, environment_of, answer_on}
use Rattle.go_package_defs.specs.Declarations.{Specification}
use Rattle.go_package_defs.specs.Knowledge.{Outline, outlines, outline_by, State, no_specification, column_of, found_or, declaring, free_scope}
use Rattle.go_package_defs.specs.Sources.{Package}
use Rattle.go_package_defs.specs.Verdicts.{expression_faults, specification_rule, unblocked_faults_on, unblocked_faults}

-- ---- the least of no failures

earlier_there : (f g : Failure) → (h : Failure) × (earlier (Some f) g ≡ Some h)
earlier_there f g = by (is_earlier g f)
  where
    by : (b : Bool) → (h : Failure) × ((if b then Some g else Some f) ≡ Some h)
    by true = (g, refl)
    by false = (f, refl)

some_least : (f : Failure) (fs : List Failure) → least_from (Some f) fs ≡ None → ⊥
some_least f [] e = cc
some_least f (g ∷ gs) e = let h = earlier_there f g in some_least h.0 gs (subst (λ o. least_from o gs ≡ None) h.1 e)

least_none : (fs : List Failure) → least fs ≡ None → fs ≡ []
least_none [] e = refl
least_none (f ∷ fs) e = absurd (some_least f fs e)

unless_none : {A : Type 0} (o : Option Failure) (x y : A) → unless o x ≡ Ok y → (o ≡ None) × (x ≡ y)
unless_none None x y e = (refl, cc)
unless_none (Some f) x y e = absurd cc

front_none : {A : Type 0} (xs ys : List A) → xs ++ ys ≡ [] → xs ≡ []
front_none [] ys e = refl
front_none (x ∷ xs) ys e = cc

behind_none : {A : Type 0} (xs ys : List A) → xs ++ ys ≡ [] → ys ≡ []
behind_none [] ys e = e
behind_none (x ∷ xs) ys e = cc

else_none : (fs gs : List Failure) → or_else fs gs ≡ [] → gs ≡ []
else_none [] gs e = e
else_none (f ∷ fs) gs e = absurd cc

-- ---- specifications

module _ (p : Package) (os : List Outline) (found : List State) where
  -- no rule fails in its type and its expressions
  abbrev pub IsFine : Specification → Type 0
  IsFine d = expression_faults (free_scope p os found d) d ≡ []

  -- nor does its own
  abbrev pub IsRuled : Specification → Type 0
  IsRuled d = specification_rule (free_scope p os found d) d ≡ []

  placed_none : (n : ℕ) (fs : List TypeFault) → failures_at p n fs ≡ [] → fs ≡ []
  placed_none n [] e = refl
  placed_none n (f ∷ fs) e = cc

  on_fine : (s : Scope) (d : Specification) (fs : List TypeFault) → unblocked_faults_on s d fs ≡ [] → fs ≡ []
  on_fine s d [] e = refl
  on_fine s d (f ∷ fs) e = e

  on_ruled : (s : Scope) (d : Specification) (fs : List TypeFault) → unblocked_faults_on s d fs ≡ [] → specification_rule s d ≡ []
  on_ruled s d [] e = e
  on_ruled s d (f ∷ fs) e = absurd cc

  none_at : (d : Specification) (ds : List Specification) → hidden_failures p os found (d ∷ ds) ≡ [] → unblocked_faults p os found d ≡ []
  none_at d ds e = placed_none d.file (unblocked_faults p os found d) (front_none (failures_at p d.file (unblocked_faults p os found d)) (hidden_failures p os found ds) e)

  none_behind : (d : Specification) (ds : List Specification) → hidden_failures p os found (d ∷ ds) ≡ [] → hidden_failures p os found ds ≡ []
  none_behind d ds e = behind_none (failures_at p d.file (unblocked_faults p os found d)) (hidden_failures p os found ds) e

  all_fine : (ds : List Specification) → hidden_failures p os found ds ≡ [] → AllByRecursion IsFine ds
  all_fine [] e = tt
  all_fine (d ∷ ds) e = (on_fine (free_scope p os found d) d (expression_faults (free_scope p os found d) d) (none_at d ds e), all_fine ds (none_behind d ds e))

  all_ruled : (ds : List Specification) → hidden_failures p os found ds ≡ [] → AllByRecursion IsRuled ds
  all_ruled [] e = tt
  all_ruled (d ∷ ds) e = (on_ruled (free_scope p os found d) d (expression_faults (free_scope p os found d) d) (none_at d ds e), all_ruled ds (none_behind d ds e))

  -- what is answered
  pub record Answered (ds : List Specification) (e : Environment) : Type 0 where
    pub fine : AllByRecursion IsFine ds
    pub ruled : AllByRecursion IsRuled ds
    pub environment : environment_of p found ≡ e

  pub answered : (ds : List Specification) (e : Environment) → answer_on p ds os found ≡ Ok e → Answered ds e
  answered ds e a =
      let u = unless_none (least (package_failures p os found ds)) (environment_of p found) e a in
      let none : hidden_failures p os found ds ≡ [] = else_none (all_failures p os found ds) (hidden_failures p os found ds) (least_none (package_failures p os found ds) u.0) in
      record { fine = all_fine ds none; ruled = all_ruled ds none; environment = u.1 }

-- ---- the specifications of objects

some_same : {A : Type 0} (a b : A) → (let o : Option A = Some a in o) ≡ Some b → a ≡ b
some_same a b q = cc

map_at : {A B : Type 0} (f : A → B) (xs : List A) (n : ℕ) (y : B) → slice_get (map f xs) n ≡ Some y → (x : A) × (f x ≡ y)
map_at f [] n y e = absurd cc
map_at f (x ∷ xs) zero y e = (x, some_same (f x) y e)
map_at f (x ∷ xs) (suc n) y e = map_at f xs n y e

module _ (P : Specification → Type 0) (nothing : P no_specification) where
  chosen_has : (s : Specification) (o : Option ℕ) (x : Specification × ℕ) → P s → P x.0 → P (found_or s o x).0
  chosen_has s (Some c) x h g = h
  chosen_has s None x h g = g

  declaring_has : (ds : List Specification) (n t : ℕ) → AllByRecursion P ds → P (declaring ds n t).0
  declaring_has [] n t h = nothing
  declaring_has (d ∷ ds) n t h = chosen_has d (column_of n t d) (declaring ds n t) h.0 (declaring_has ds n t h.1)

  -- What all specifications of a package have those of its objects have.
  pub outline_has : (p : Package) (ds : List Specification) → AllByRecursion P ds → (n : ℕ) (o : Outline) → slice_get (outlines p ds) n ≡ Some o → P o.specification
  outline_has p ds h n o e =
      let m = map_at (λ d. outline_by p d (declaring ds d.file d.name)) p.uses.package_level n o e in
      subst (λ (z : Outline). P z.specification) m.1 (declaring_has ds m.0.file m.0.name h)
