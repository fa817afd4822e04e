-- A name of the package block is assigned something known where its value is known and no rule fails at its specification.
use Rattle.std.proofs.Common.{◌≡◌, ℕ, zero, suc, ◌<◌, Bool, true, false, cond, List, [], ◌∷◌, ◌++◌, length, Option, Some, None, refl, sym, ap, subst, ◌∙◌, arith}
use Rattle.std.specs.Prelude.{◌==◌, is_some, replicate, slice_get}
use Rattle.std.proofs.lemmas.Bool.Decides.{nat_tests}
use Rattle.go_base.specs.declared.fault.FaultCode.{FaultCode}
use Rattle.go_base.specs.declared.fault.FaultCode.TheVariants as code
use Rattle.go_constants.specs.declared.values.Const.{Const}
use Rattle.go_constants.specs.declared.values.Const.TheVariants as const
use Rattle.go_types.specs.Trees.{TypeTree}
use Rattle.go_types.specs.Relations.{Rights}
use Rattle.go_types_relations.specs.Tests.{is_assignable, underlying_of}
use Rattle.go_typed.specs.Trees.{typed, sort_of}
use Rattle.go_typed.specs.Trees as sort
use Rattle.go_exprs_rules.specs.declared.fault.TypeFault.{TypeFault}
use Rattle.go_exprs_rules.specs.Faults.{fault_at}
use Rattle.go_exprs_rules.specs.Settling.{Part, at_part, unrepresented, unassignable, unassignable_by}
use Rattle.go_exprs_rules.specs.Sorts.{Stands, is_unknown, is_open, is_constant, is_family, family_of_const, family_of_type, family_of_open, kind_of_const, suits, value_type}
use Rattle.go_stmts_defs.specs.Assigning.{called_results, unassigned, all_unassigned, result_unassigned, results_unassigned, assignment_by, constant_failing, constants_failing, constant_in, first_known, variable}
use Rattle.go_stmts_defs.specs.Rules.{variables_failing}
use Rattle.go_package_defs.specs.Verdicts.{known_parts, Assigned, assigned, constant_assigned, result_assigned, value_assigned, variable_by, variable_assigned, function_assigned}
use Rattle.go_stmts_final_types.specs.Names.{alone, is_fit, KeepsFamily}
use Rattle.go_stmts_final_types.specs.Placed.{IsKnownObject}
use Rattle.go_stmts_final_types.proofs.Public.{Given, Single, is_single, constant_is, unassigned_type, assignable_families}

-- ---- what fails

some_fault : {X : Type 0} (c : FaultCode) (x : Part) → at_part c x ≡ [] → X
some_fault c (typed f i j l ps) e = cc

some_same : {A : Type 0} (a b : A) → (let o : Option A = Some a in o) ≡ Some b → a ≡ b
some_same a b q = cc

front_none : (xs ys : List TypeFault) → xs ++ ys ≡ [] → xs ≡ []
front_none [] ys e = refl
front_none (x ∷ xs) ys e = cc

behind_none : (xs ys : List TypeFault) → xs ++ ys ≡ [] → ys ≡ []
behind_none [] ys e = e
behind_none (x ∷ xs) ys e = cc

-- what a name is assigned without a rule that fails
pub record IsAssigned (rights : Rights) (a : Assigned) : Type 0 where
  pub none : a.failing ≡ []
  pub known : IsKnownObject rights a.stands

-- and it has a type
pub record IsTyped (rights : Rights) (a : Assigned) : Type 0 where
  pub assigned : IsAssigned rights a
  pub typed : is_open a.stands ≡ false

assigned_is : (rights : Rights) (x : Stands) (fs : List TypeFault) → fs ≡ [] → IsKnownObject rights x → IsAssigned rights (assigned x fs)
assigned_is rights x [] e h = record { none = refl; known = h }
assigned_is rights x (f ∷ fs) e h = cc

value_is : (rights : Rights) (o : Option TypeTree) (fs : List TypeFault) → fs ≡ [] → is_some o ≡ true → IsTyped rights (assigned (variable o) fs)
value_is rights (Some t) [] e h = record { assigned = record { none = refl; known = record { fit = refl; family = tt } }; typed = refl }
value_is rights (Some t) (f ∷ fs) e h = cc
value_is rights None fs e h = cc

-- ---- constants

open_family : (c : Const) → family_of_open (kind_of_const c) ≡ family_of_const c
open_family (const.Bool b) = refl
open_family (const.Int z true) = refl
open_family (const.Int z false) = refl
open_family (const.Text s) = refl

module _ (rights : Rights) where
  suited : (b : Bool) (x : Part) (fs : List TypeFault) → cond b fs (at_part code.Assignable x) ≡ [] → b ≡ true
  suited true x fs e = refl
  suited false x fs e = some_fault code.Assignable x e

  constant_asked : (t : TypeTree) (x : Part) → constant_failing rights (Some t) x ≡ [] → unassignable rights t x ≡ []
  constant_asked t x e = by (is_constant (sort_of x)) e
    where
      by : (b : Bool) → cond b (unassignable rights t x) (at_part code.Operands x) ≡ [] → unassignable rights t x ≡ []
      by true e = e
      by false e = some_fault code.Operands x e

  typed_constant : (t : TypeTree) (x : Part) (z : Stands) → is_constant z ≡ true → KeepsFamily rights z → unassignable_by rights t z x ≡ [] → IsKnownObject rights (constant_in (Some t) z)
  typed_constant t x (sort.Constant u c) k g e =
      record { fit = refl; family = subst (λ z. is_family (family_of_const c) z ≡ true) (assignable_families rights u t (suited (is_assignable rights u t) x [] e)) g }
  typed_constant t x (sort.OpenConstant c) k g e =
      record { fit = refl; family = subst (λ z. is_family z (family_of_type (underlying_of rights t)) ≡ true) (open_family c) (suited (suits rights (kind_of_const c) t) x (unrepresented rights t x) e) }
  typed_constant t x z k g e = cc

  open_constant : (z : Stands) → is_constant z ≡ true → is_fit alone z ≡ true → KeepsFamily rights z → IsKnownObject rights (constant_in None z)
  open_constant z k f g = subst (λ b. IsKnownObject rights (cond b z sort.Unknown)) (sym k) (record { fit = f; family = g })

  pub constant_good : (t : Option TypeTree) (x : Part) → is_fit alone (sort_of x) ≡ true → KeepsFamily rights (sort_of x) → constant_failing rights t x ≡ [] → IsAssigned rights (constant_assigned rights t (Some x))
  constant_good None x f g e = assigned_is rights (constant_in None (sort_of x)) (constant_failing rights None x) e (open_constant (sort_of x) (constant_is rights None x e) f g)
  constant_good (Some t) x f g e =
      assigned_is rights (constant_in (Some t) (sort_of x)) (constant_failing rights (Some t) x) e (typed_constant t x (sort_of x) (constant_is rights (Some t) x e) g (constant_asked t x e))

  -- of all values that are known each passes
  pub known_passes : (t : Option TypeTree) (xs : List Part) (c : ℕ) (x : Part) → constants_failing rights t (known_parts xs) ≡ [] → slice_get xs c ≡ Some x → is_unknown (sort_of x) ≡ false → constant_failing rights t x ≡ []
  known_passes t [] c x e m k = absurd cc
  known_passes t (y ∷ xs) zero x e m k =
      let same : y ≡ x = some_same y x m in
      let there : is_unknown (sort_of y) ≡ false = ap (λ z. is_unknown (sort_of z)) same ∙ k in
      let f : constants_failing rights t (cond (is_unknown (sort_of y)) (known_parts xs) (y ∷ known_parts xs)) ≡ [] = e in
      subst (λ z. constant_failing rights t z ≡ []) same (front_none (constant_failing rights t y) (constants_failing rights t (known_parts xs)) (subst (λ b. constants_failing rights t (cond b (known_parts xs) (y ∷ known_parts xs)) ≡ []) there f))
  known_passes t (y ∷ xs) (suc c) x e m k = known_passes t xs c x (rest (is_unknown (sort_of y)) e) m k
    where
      rest : (b : Bool) → constants_failing rights t (cond b (known_parts xs) (y ∷ known_parts xs)) ≡ [] → constants_failing rights t (known_parts xs) ≡ []
      rest true e = e
      rest false e = behind_none (constant_failing rights t y) (constants_failing rights t (known_parts xs)) e

-- ---- variables

replicated : {A : Type 0} (n : ℕ) (x : A) → length (replicate n x) ≡ n
replicated zero x = refl
replicated (suc n) x = ap suc (replicated n x)

equal_by : (m n : ℕ) → (m == n) ≡ true → m ≡ n
equal_by m n e = grind (arith, nat_tests, e)

-- so many as there are
as_many : (n k : ℕ) (t : Option TypeTree) → (length (replicate n t) == k) ≡ true → n ≡ k
as_many n k t e = sym (replicated n t) ∙ equal_by (length (replicate n t)) k e

holds : (b : Bool) (i j : ℕ) (fs : List TypeFault) → cond b fs (fault_at code.Count i j) ≡ [] → (b ≡ true) × (fs ≡ [])
holds true i j fs e = (refl, e)
holds false i j fs e = cc

module _ (rights : Rights) where
  result_at : (x : Part) (t : Option TypeTree) (n : ℕ) (rs : List TypeTree) (c : ℕ) → c < n → n ≡ length rs → results_unassigned rights x (replicate n t) rs ≡ [] → (r : TypeTree) × (slice_get rs c ≡ Some r) × (result_unassigned rights x t r ≡ [])
  result_at x t zero rs c l m e = absurd (omega (arith, l))
  result_at x t (suc n) [] c l m e = absurd (omega (arith, m))
  result_at x t (suc n) (r ∷ rs) zero l m e = (r, refl, front_none (result_unassigned rights x t r) (results_unassigned rights x (replicate n t) rs) e)
  result_at x t (suc n) (r ∷ rs) (suc c) l m e = result_at x t n rs c (omega (arith, l)) (omega (arith, m)) (behind_none (result_unassigned rights x t r) (results_unassigned rights x (replicate n t) rs) e)

  value_at : (t : Option TypeTree) (n : ℕ) (xs : List Part) (c : ℕ) → c < n → n ≡ length xs → all_unassigned rights (replicate n t) xs ≡ [] → (x : Part) × (slice_get xs c ≡ Some x) × (unassigned rights t x ≡ [])
  value_at t zero xs c l m e = absurd (omega (arith, l))
  value_at t (suc n) [] c l m e = absurd (omega (arith, m))
  value_at t (suc n) (x ∷ xs) zero l m e = (x, refl, front_none (unassigned rights t x) (all_unassigned rights (replicate n t) xs) e)
  value_at t (suc n) (x ∷ xs) (suc c) l m e = value_at t n xs c (omega (arith, l)) (omega (arith, m)) (behind_none (unassigned rights t x) (all_unassigned rights (replicate n t) xs) e)

  value_good : (t : Option TypeTree) (x : Part) → Given x → Single x → unassigned rights t x ≡ [] → IsTyped rights (value_assigned rights t x)
  value_good t x g s e = value_is rights (first_known t (value_type (sort_of x))) (unassigned rights t x) e (unassigned_type rights t x g s e)

  result_good : (t : Option TypeTree) (x : Part) (r : TypeTree) → result_unassigned rights x t r ≡ [] → IsTyped rights (result_assigned rights t x (Some r))
  result_good t x r e = value_is rights (first_known t (Some r)) (result_unassigned rights x t r) e (known_first t)
    where
      known_first : (t : Option TypeTree) → is_some (first_known t (Some r)) ≡ true
      known_first None = refl
      known_first (Some u) = refl

  no_results : (z : Stands) → is_single z ≡ true → called_results rights z ≡ None
  no_results (sort.Results t) e = cc
  no_results z e = refl

  one_single : (z : Stands) → called_results rights z ≡ None → is_single z ≡ true
  one_single (sort.Results t) e = cc
  one_single z e = refl

  -- one value for all names
  alone_good : (i j n c : ℕ) (t : Option TypeTree) (x : Part) (o : Option (List TypeTree)) → called_results rights (sort_of x) ≡ o → c < n → Given x → assignment_by rights i j (replicate n t) (x ∷ []) o ≡ [] → IsTyped rights (variable_by rights t x true c o)
  alone_good i j n c t x (Some rs) m l g e =
      let h = holds (length (replicate n t) == length rs) i j (results_unassigned rights x (replicate n t) rs) e in
      let r = result_at x t n rs c l (as_many n (length rs) t h.0) h.1 in
      subst (λ z. IsTyped rights (result_assigned rights t x z)) (sym r.1) (result_good t x r.0 r.2)
  alone_good i j n zero t x None m l g e =
      let h = holds (length (replicate n t) == 1) i j (all_unassigned rights (replicate n t) (x ∷ [])) e in
      let v = value_at t n (x ∷ []) 0 l (as_many n 1 t h.0) h.1 in
      value_good t x g (one_single (sort_of x) m) (subst (λ z. unassigned rights t z ≡ []) (sym (some_same x v.0 v.1)) v.2)
  alone_good i j n (suc c) t x None m l g e =
      let h = holds (length (replicate n t) == 1) i j (all_unassigned rights (replicate n t) (x ∷ [])) e in
      absurd (omega (arith, l, as_many n 1 t h.0))

  -- what is known of the value of a name
  abbrev pub KnownValue : Bool → Option Part → Type 0
  KnownValue b None = Unit {0}
  KnownValue true (Some x) = Given x
  KnownValue false (Some x) = Given x × Single x

  each_good : (i j n c : ℕ) (t : Option TypeTree) (xs : List Part) → c < n → KnownValue false (slice_get xs c) → assignment_by rights i j (replicate n t) xs None ≡ [] → IsTyped rights (variable_assigned rights t (slice_get xs c) false c)
  each_good i j n c t xs l g e =
      let h = holds (length (replicate n t) == length xs) i j (all_unassigned rights (replicate n t) xs) e in
      let v = value_at t n xs c l (as_many n (length xs) t h.0) h.1 in
      let k : KnownValue false (Some v.0) = subst (KnownValue false) v.1 g in
      subst (λ z. IsTyped rights (variable_assigned rights t z false c)) (sym v.1)
      (subst (λ z. IsTyped rights (variable_by rights t v.0 false c z)) (sym (no_results (sort_of v.0) k.1)) (value_good t v.0 k.0 k.1 v.2))

  pub variable_good : (i j n c : ℕ) (t : Option TypeTree) (xs : List Part) (b : Bool) → c < n → (xs ≡ [] → is_some t ≡ true) → b ≡ (length xs == 1) → KnownValue b (slice_get xs (cond b 0 c)) → variables_failing rights i j n t xs ≡ []
      → IsTyped rights (variable_assigned rights t (slice_get xs (cond b 0 c)) b c)
  variable_good i j n c t [] true l h m g e = value_is rights t [] refl (h refl)
  variable_good i j n c t [] false l h m g e = value_is rights t [] refl (h refl)
  variable_good i j n c t (x ∷ []) true l h m g e = alone_good i j n c t x (called_results rights (sort_of x)) refl l g e
  variable_good i j n c t (x ∷ []) false l h m g e = let never : ⊥ = cc in absurd never
  variable_good i j n c t (x ∷ y ∷ zs) true l h m g e = absurd (many (length zs) m)
    where
      many : (k : ℕ) → true ≡ (suc (suc k) == 1) → ⊥
      many k m = grind (arith, nat_tests, m)
  variable_good i j n c t (x ∷ y ∷ zs) false l h m g e = each_good i j n c t (x ∷ y ∷ zs) l g e

-- ---- functions

pub function_good : (rights : Rights) (t : Option TypeTree) → is_some t ≡ true → IsTyped rights (function_assigned t)
function_good rights (Some t) e = record { assigned = record { none = refl; known = record { fit = refl; family = tt } }; typed = refl }
function_good rights None e = cc
