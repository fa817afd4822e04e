-- Range clauses over values with variables in them.
use Rattle.std.proofs.Common.{◌≡◌, ◌∙◌, ◌⊎◌, inl, inr, ℕ, suc, Bool, true, false, List, [], ◌∷◌, length, Option, Some, None, refl, sym, ap, subst, arith}
use Rattle.std.proofs.lemmas.Bool.Decides.{nat_tests}
use Rattle.std.specs.Prelude.{nat_lt, if◌then◌else◌}
use Rattle.std.specs.Option.{option_map}
use Rattle.go_base.specs.declared.fault.FaultCode.TheVariants as code
use Rattle.go_types.specs.Trees.{TypeTree}
use Rattle.go_types.specs.Relations.{Rights}
use Rattle.go_types_relations.specs.Tests.{is_assignable}
use Rattle.go_typed.specs.Trees.{sort_of}
use Rattle.go_typed.specs.declared.sort.Untyped.TheVariants as untyped
use Rattle.go_typed.specs.Trees as sort
use Rattle.go_constants.specs.declared.values.Const.TheVariants as const
use Rattle.go_exprs_rules.specs.declared.family.OpenKind.{OpenKind}
use Rattle.go_exprs_rules.specs.declared.family.OpenKind.TheVariants as untyped_kind
use Rattle.go_exprs_rules.specs.declared.fault.TypeFault.{TypeFault}
use Rattle.go_exprs_rules.specs.Faults.{fault_at}
use Rattle.go_exprs_rules.specs.Settling.{Part, at_part, undefaulted_by, undefaulted}
use Rattle.go_exprs_rules.specs.Sorts.{Stands, is_open, is_constant, is_text, is_whole, open_kind, kind_of_untyped, kind_of_const, default_type, value_type, form_of_value, element_of, int, rune}
use Rattle.go_stmts_defs.specs.Assigning.{unassigned}
use Rattle.go_stmts_defs.specs.Rules.{each, not_a_target, target_type, element_types, number_types, range_types, element_unassigned}
use Rattle.go_stmts_defs.specs.Rules.{elements_unassigned, number_target, is_open_number, number_unassigned, numbers_unassigned, range_assigned, targets_failing}
use Rattle.go_exprs_variables.specs.Operands.{Operand}
use Rattle.go_exprs_variables.specs.Stood.{Stood, as_before, in_place, early}
use Rattle.go_exprs_variables.proofs.Public.{assignable_itself, both_none, no_place, none_of_both, text_kept, tree_self, whole_kept}
use Rattle.go_stmts_variables.specs.Rules.{given_type, Targets, no_target, a_target, RangeKept}
use Rattle.go_stmts_variables.proofs.Conditions.{undefaulted_kept}
use Rattle.go_stmts_variables.proofs.Values.{elsewhere, unassigned_kept}

module _ (rights : Rights) where
  -- ---- targets

  pub targets_each : (ts us : List Part) → Targets rights ts us → each (not_a_target rights) ts ≡ [] → each (not_a_target rights) us ≡ []
  targets_each ts us no_target e = refl
  targets_each ts us (a_target t u ts' us' s f g) e =
      let both = both_none (not_a_target rights t) (each (not_a_target rights) ts') e in
      none_of_both (not_a_target rights u) (each (not_a_target rights) us') (f both.0) (targets_each ts' us' g both.1)

  targets_by : (defines : Bool) (ts us : List Part) → Targets rights ts us → targets_failing rights defines ts ≡ [] → targets_failing rights defines us ≡ []
  targets_by true ts us g e = refl
  targets_by false ts us g e = targets_each ts us g e

  pub length_targets : (ts us : List Part) → Targets rights ts us → length us ≡ length ts
  length_targets ts us no_target = refl
  length_targets ts us (a_target t u ts' us' s f g) = ap suc (length_targets ts' us' g)

  pub target_kept : (ts us : List Part) → Targets rights ts us → number_target us ≡ number_target ts
  target_kept ts us no_target = refl
  target_kept ts us (a_target t u ts' us' s f g) = s

  element_kept : (x y : Part) (t : Option TypeTree) (r : TypeTree) → element_unassigned rights x t r ≡ [] → element_unassigned rights y t r ≡ []
  element_kept x y None r e = refl
  element_kept x y (Some t) r e = elsewhere rights (is_assignable rights r t) x y e

  elements_kept : (x y : Part) (ts us : List Part) (rs : List TypeTree) → Targets rights ts us → elements_unassigned rights x ts rs ≡ [] → elements_unassigned rights y us rs ≡ []
  elements_kept x y ts us rs no_target e = refl
  elements_kept x y ts us [] (a_target t u ts' us' s f g) e = refl
  elements_kept x y ts us (r ∷ rs) (a_target t u ts' us' s f g) e =
      let both = both_none (element_unassigned rights x (target_type t) r) (elements_unassigned rights x ts' rs) e in
      none_of_both (element_unassigned rights y (target_type u) r) (elements_unassigned rights y us' rs) (ap (λ z. element_unassigned rights y z r) s ∙ element_kept x y (target_type t) r both.0) (elements_kept x y ts' us' rs g both.1)

  -- ---- the values of a range clause, by what is gone over

  abbrev range_in : Stands → Option (List TypeTree)
  range_in a = if is_text rights a then Some (int ∷ rune ∷ []) else (if is_whole rights a then number_types (value_type a) else element_types (element_of (form_of_value rights a)))

  open_value : (z : Stands) (k : OpenKind) → open_kind z ≡ Some k → value_type z ≡ Some (default_type k)
  open_value (sort.Open u) k e = let same : kind_of_untyped u ≡ k = cc in ap (λ q. Some (default_type q)) same
  open_value (sort.OpenConstant c) k e = let same : kind_of_const c ≡ k = cc in ap (λ q. Some (default_type q)) same
  open_value z k e = cc

  open_form : (z : Stands) (k : OpenKind) → open_kind z ≡ Some k → form_of_value rights z ≡ None
  open_form (sort.Open u) k e = refl
  open_form (sort.OpenConstant c) k e = refl
  open_form z k e = cc

  some_is : (o : Option TypeTree) (t u : TypeTree) → Some t ≡ o → o ≡ Some u → t ≡ u
  some_is o t u e f = cc

  -- values of default types have no elements
  default_elements : (k : OpenKind) → element_of (form_of_value rights (sort.Value (default_type k))) ≡ None
  default_elements untyped_kind.Boolean = refl
  default_elements untyped_kind.Integer = refl
  default_elements untyped_kind.Rune = refl
  default_elements untyped_kind.Text = refl

  by_tests : (b d : Bool) (a c : Stands) → value_type c ≡ value_type a → element_of (form_of_value rights c) ≡ element_of (form_of_value rights a)
      → (if b then Some (int ∷ rune ∷ []) else (if d then number_types (value_type c) else element_types (element_of (form_of_value rights c)))) ≡
      (if b then Some (int ∷ rune ∷ []) else (if d then number_types (value_type a) else element_types (element_of (form_of_value rights a))))
  by_tests true d a c e f = refl
  by_tests false true a c e f = ap number_types e
  by_tests false false a c e f = ap element_types f

  same_range : (u : Option TypeTree) (a c : Stands) → Stood rights u a c → u ≡ option_map default_type (open_kind a) → range_in c ≡ range_in a
  same_range u a c (as_before v z) e = refl
  same_range u a c (in_place v t z) e = refl
  same_range u a c (early t z k m f) e =
      let same : t ≡ default_type k = some_is (option_map default_type (open_kind z)) t (default_type k) e (ap (option_map default_type) m) in
      ap (λ b. if b then Some (int ∷ rune ∷ []) else (if is_whole rights (sort.Value t) then number_types (Some t) else element_types (element_of (form_of_value rights (sort.Value t)))))
      (text_kept rights (Some t) z (sort.Value t) (early t z k m f))
      ∙ ap (λ b. if is_text rights z then Some (int ∷ rune ∷ []) else (if b then number_types (Some t) else element_types (element_of (form_of_value rights (sort.Value t))))) (whole_kept rights (Some t) z (sort.Value t) (early t z k m f))
      ∙ by_tests (is_text rights z) (is_whole rights z) z (sort.Value t) (ap Some same ∙ sym (open_value z k m))
      (ap (λ y. element_of (form_of_value rights (sort.Value y))) same ∙ default_elements k ∙ sym (ap element_of (open_form z k m)))

  -- what takes its default type has the values that it had
  pub same_range_types : (x y : Part) → Operand rights (given_type None x) x y → range_types rights y ≡ range_types rights x
  same_range_types x y o = same_range (given_type None x) (sort_of x) (sort_of y) o.stands refl

  -- an untyped integer constant has numbers of its default type
  number_types_by : (z : Stands) → is_open_number z ≡ true → (k : OpenKind) × (open_kind z ≡ Some k) × (range_in z ≡ Some (default_type k ∷ int ∷ []))
  number_types_by (sort.OpenConstant (const.Int n true)) e = (kind_of_const (const.Int n true), refl, refl)
  number_types_by (sort.OpenConstant (const.Int n false)) e = (kind_of_const (const.Int n false), refl, refl)
  number_types_by (sort.OpenConstant (const.Bool b)) e = cc
  number_types_by (sort.OpenConstant (const.Text b)) e = cc
  number_types_by z e = cc

  pub open_number_types : (x : Part) → is_open_number (sort_of x) ≡ true → (k : OpenKind) × (open_kind (sort_of x) ≡ Some k) × (range_types rights x ≡ Some (default_type k ∷ int ∷ []))
  open_number_types x e = number_types_by (sort_of x) e

  -- ---- what isn't an untyped integer constant

  closed_number : (u : Option TypeTree) (a b : Stands) → Stood rights u a b → is_open_number a ≡ false → is_open_number b ≡ false
  closed_number u a b (as_before v c) e = e
  closed_number u a b (in_place v t c) e = refl
  closed_number u a b (early t c k m n) e = refl

  few : (b : Bool) (fs : List TypeFault) (i j : ℕ) → (if b then fault_at code.Count i j else fs) ≡ [] → (b ≡ false) × (fs ≡ [])
  few true fs i j e = cc
  few false fs i j e = (refl, e)

  module _ (i j : ℕ) (ts us : List Part) (x y : Part) (g : Targets rights ts us) where
    numbers_kept : (rs : List TypeTree) → is_open_number (sort_of x) ≡ false → Operand rights (given_type None x) x y → numbers_unassigned rights i j ts x rs ≡ [] → numbers_unassigned rights i j us y rs ≡ []
    numbers_kept rs n o e =
        let c = few (nat_lt 1 (length ts)) (if is_open_number (sort_of x) then unassigned rights (number_target ts) x else number_unassigned rights ts x rs) i j e in
        let old : number_unassigned rights ts x rs ≡ [] = sym (ap (λ b. if b then unassigned rights (number_target ts) x else number_unassigned rights ts x rs) n) ∙ c.1 in
        let both = both_none (undefaulted rights x) (elements_unassigned rights x ts rs) old in
        ap (λ m. if nat_lt 1 m then fault_at code.Count i j else (if is_open_number (sort_of y) then unassigned rights (number_target us) y else number_unassigned rights us y rs)) (length_targets ts us g)
        ∙ ap (λ b. if b then fault_at code.Count i j else (if is_open_number (sort_of y) then unassigned rights (number_target us) y else number_unassigned rights us y rs)) c.0
        ∙ ap (λ b. if b then unassigned rights (number_target us) y else number_unassigned rights us y rs) (closed_number (given_type None x) (sort_of x) (sort_of y) o.stands n)
        ∙ none_of_both (undefaulted rights y) (elements_unassigned rights y us rs) (undefaulted_kept rights x y o both.0) (elements_kept x y ts us rs g both.1)

    values_by : (b : Bool) (rs : List TypeTree) → is_open_number (sort_of x) ≡ false → Operand rights (given_type None x) x y → (if b then numbers_unassigned rights i j ts x rs else elements_unassigned rights x ts rs) ≡ []
        → (if b then numbers_unassigned rights i j us y rs else elements_unassigned rights y us rs) ≡ []
    values_by true rs n o e = numbers_kept rs n o e
    values_by false rs n o e = elements_kept x y ts us rs g e

    assigned_by : (d : Option (List TypeTree)) → is_open_number (sort_of x) ≡ false → Operand rights (given_type None x) x y → range_assigned rights i j ts x d ≡ [] → range_assigned rights i j us y d ≡ []
    assigned_by None n o e = absurd (no_place code.Operands x e)
    assigned_by (Some rs) n o e =
        ap (λ b. if b then numbers_unassigned rights i j us y rs else elements_unassigned rights y us rs) (whole_kept rights (given_type None x) (sort_of x) (sort_of y) o.stands) ∙ values_by (is_whole rights (sort_of x)) rs n o e

    closed_range : is_open_number (sort_of x) ≡ false → Operand rights (given_type None x) x y → range_assigned rights i j ts x (range_types rights x) ≡ [] → range_assigned rights i j us y (range_types rights y) ≡ []
    closed_range n o e = ap (range_assigned rights i j us y) (same_range_types x y o) ∙ assigned_by (range_types rights x) n o e

    -- ---- an untyped integer constant

    record Number (z : Stands) : Type 0 where
      pub text : is_text rights z ≡ false
      pub whole : is_whole rights z ≡ true

    number : (z : Stands) → is_open_number z ≡ true → Number z
    number (sort.OpenConstant (const.Int n true)) e = record { text = refl; whole = refl }
    number (sort.OpenConstant (const.Int n false)) e = record { text = refl; whole = refl }
    number (sort.OpenConstant (const.Bool b)) e = cc
    number (sort.OpenConstant (const.Text b)) e = cc
    number z e = cc

    number_kept : (u : Option TypeTree) (a b : Stands) → Stood rights u a b → Number a → Number b
    number_kept u a b st n = record { text = text_kept rights u a b st ∙ n.text; whole = whole_kept rights u a b st ∙ n.whole }

    -- a number is given to at most one target
    given_number : (rs ps : List Part) (z : Part) (t : TypeTree) → Number (sort_of z) → value_type (sort_of z) ≡ Some t → range_assigned rights i j ps z (range_types rights z) ≡ numbers_unassigned rights i j ps z (t ∷ int ∷ [])
    given_number rs ps z t n e =
        ap (λ b. range_assigned rights i j ps z (if b then Some (int ∷ rune ∷ []) else (if is_whole rights (sort_of z) then number_types (value_type (sort_of z)) else element_types (element_of (form_of_value rights (sort_of z)))))) n.text
        ∙ ap (λ b. range_assigned rights i j ps z (if b then number_types (value_type (sort_of z)) else element_types (element_of (form_of_value rights (sort_of z))))) n.whole
        ∙ ap (λ o. range_assigned rights i j ps z (number_types o)) e
        ∙ ap (λ b. if b then numbers_unassigned rights i j ps z (t ∷ int ∷ []) else elements_unassigned rights z ps (t ∷ int ∷ [])) n.whole

    never_one : (n : ℕ) → nat_lt 1 (suc (suc n)) ≡ false → ⊥
    never_one n e = grind (arith, nat_tests, e)

    one_element : (ps : List Part) (t : TypeTree) → nat_lt 1 (length ps) ≡ false → (number_target ps ≡ None) ⊎ (number_target ps ≡ Some t) → elements_unassigned rights y ps (t ∷ int ∷ []) ≡ []
    one_element [] t e f = refl
    one_element (p ∷ []) t e (inl f) = none_of_both (element_unassigned rights y (target_type p) t) [] (ap (λ o. element_unassigned rights y o t) f) refl
    one_element (p ∷ []) t e (inr f) =
        none_of_both (element_unassigned rights y (target_type p) t) []
        (ap (λ o. element_unassigned rights y o t) f ∙ ap (λ b. if b then [] else at_part code.Assignable y) (assignable_itself rights t (tree_self t))) refl
    one_element (p ∷ q ∷ ps) t e f = absurd (never_one (length ps) e)

    default_of : (z : Stands) → is_open_number z ≡ true → (t : TypeTree) × (value_type z ≡ Some t)
    default_of (sort.OpenConstant c) e = (default_type (kind_of_const c), refl)
    default_of z e = cc

    -- the target's type, or none
    target_or : (o : Option TypeTree) (t : TypeTree) → Some t ≡ given_type o x → (o ≡ None) ⊎ (o ≡ Some t)
    target_or None t e = inl refl
    target_or (Some u) t e = let same : u ≡ t = cc in inr (ap Some same)

    record OneNumber : Type 0 where
      pub count : nat_lt 1 (length us) ≡ false
      pub assigned : unassigned rights (number_target ts) x ≡ []

    -- where it is a value of its type
    variable_number : (t : TypeTree) → OneNumber → Number (sort_of y) → sort_of y ≡ sort.Value t → (number_target us ≡ None) ⊎ (number_target us ≡ Some t) → range_assigned rights i j us y (range_types rights y) ≡ []
    variable_number t one n m f =
        given_number us us y t n (ap value_type m)
        ∙ ap (λ b. if b then fault_at code.Count i j else (if is_open_number (sort_of y) then unassigned rights (number_target us) y else number_unassigned rights us y (t ∷ int ∷ []))) one.count
        ∙ ap (λ z. if is_open_number z then unassigned rights (number_target us) y else number_unassigned rights us y (t ∷ int ∷ [])) m
        ∙ none_of_both (undefaulted rights y) (elements_unassigned rights y us (t ∷ int ∷ [])) (ap (λ z. undefaulted_by rights (open_kind z) y) m) (one_element us t one.count f)

    -- where it is the constant still
    constant_number : OneNumber → Operand rights (given_type (number_target ts) x) x y → is_open_number (sort_of y) ≡ true → range_assigned rights i j us y (range_types rights y) ≡ []
    constant_number one o e =
        let d = default_of (sort_of y) e in
        given_number us us y d.0 (number (sort_of y) e) d.1
        ∙ ap (λ b. if b then fault_at code.Count i j else (if is_open_number (sort_of y) then unassigned rights (number_target us) y else number_unassigned rights us y (d.0 ∷ int ∷ []))) one.count
        ∙ ap (λ b. if b then unassigned rights (number_target us) y else number_unassigned rights us y (d.0 ∷ int ∷ [])) e
        ∙ ap (λ q. unassigned rights q y) (target_kept ts us g) ∙ unassigned_kept rights (number_target ts) x y o one.assigned

    by_stood : (u : Option TypeTree) (a b : Stands) → Stood rights u a b → a ≡ sort_of x → b ≡ sort_of y → u ≡ given_type (number_target ts) x → is_open_number (sort_of x) ≡ true → OneNumber
        → Operand rights (given_type (number_target ts) x) x y
        → range_assigned rights i j us y (range_types rights y) ≡ []
    by_stood u a b (as_before v c) m n s e one o = constant_number one o (ap is_open_number (sym n ∙ m) ∙ e)
    by_stood u a b (in_place v t c) m n s e one o = let never : false ≡ true = ap is_open_number m ∙ e in cc
    by_stood u a b (early t c k f h) m n s e one o =
        variable_number t one (number_kept (given_type (number_target ts) x) (sort_of x) (sort_of y) o.stands (number (sort_of x) e)) (sym n)
        (subst (λ z. (z ≡ None) ⊎ (z ≡ Some t)) (sym (target_kept ts us g)) (target_or (number_target ts) t s))

    open_range : is_open_number (sort_of x) ≡ true → Operand rights (given_type (number_target ts) x) x y → range_assigned rights i j ts x (range_types rights x) ≡ [] → range_assigned rights i j us y (range_types rights y) ≡ []
    open_range e o f =
        let d = default_of (sort_of x) e in
        let c = few (nat_lt 1 (length ts)) (if is_open_number (sort_of x) then unassigned rights (number_target ts) x else number_unassigned rights ts x (d.0 ∷ int ∷ [])) i j (sym (given_number ts ts x d.0 (number (sort_of x) e) d.1)
        ∙ f) in
        by_stood (given_type (number_target ts) x) (sort_of x) (sort_of y) o.stands refl refl refl e
        (record { count = ap (λ m. nat_lt 1 m) (length_targets ts us g) ∙ c.0; assigned = sym (ap (λ b. if b then unassigned rights (number_target ts) x else number_unassigned rights ts x (d.0 ∷ int ∷ [])) e) ∙ c.1 }) o

    -- an untyped number is given to the target, if there is one
    pub open_assigned : is_open_number (sort_of x) ≡ true → range_assigned rights i j ts x (range_types rights x) ≡ [] → unassigned rights (number_target ts) x ≡ []
    open_assigned e f =
        let d = default_of (sort_of x) e in
        let c = few (nat_lt 1 (length ts)) (if is_open_number (sort_of x) then unassigned rights (number_target ts) x else number_unassigned rights ts x (d.0 ∷ int ∷ [])) i j (sym (given_number ts ts x d.0 (number (sort_of x) e) d.1)
        ∙ f) in
        sym (ap (λ b. if b then unassigned rights (number_target ts) x else number_unassigned rights ts x (d.0 ∷ int ∷ [])) e) ∙ c.1

    whole_default : (rs : List TypeTree) → is_open_number (sort_of x) ≡ false → is_whole rights (sort_of x) ≡ true → range_assigned rights i j ts x (Some rs) ≡ [] → undefaulted rights x ≡ []
    whole_default rs n m f =
        let c = few (nat_lt 1 (length ts)) (if is_open_number (sort_of x) then unassigned rights (number_target ts) x else number_unassigned rights ts x rs) i j
        (sym (ap (λ b. if b then numbers_unassigned rights i j ts x rs else elements_unassigned rights x ts rs) m) ∙ f) in
        (both_none (undefaulted rights x) (elements_unassigned rights x ts rs) (sym (ap (λ b. if b then unassigned rights (number_target ts) x else number_unassigned rights ts x rs) n) ∙ c.1)).0

    default_by : (z : Stands) → z ≡ sort_of x → is_open z ≡ true → is_constant z ≡ false → is_open_number (sort_of x) ≡ false → range_assigned rights i j ts x (range_types rights x) ≡ [] → undefaulted rights x ≡ []
    default_by (sort.Open untyped.Boolean) e o c n f = absurd (no_place code.Operands x (ap (λ z. range_assigned rights i j ts x (range_in z)) e ∙ f))
    default_by (sort.Open untyped.Integer) e o c n f = whole_default (int ∷ int ∷ []) n (ap (is_whole rights) (sym e)) (ap (λ z. range_assigned rights i j ts x (range_in z)) e ∙ f)
    default_by (sort.Open untyped.Rune) e o c n f = whole_default (rune ∷ int ∷ []) n (ap (is_whole rights) (sym e)) (ap (λ z. range_assigned rights i j ts x (range_in z)) e ∙ f)
    default_by (sort.OpenConstant k) e o c n f = cc
    default_by z e o c n f = cc

    -- any other untyped value that isn't constant has its default type
    pub default_assigned : is_open (sort_of x) ≡ true → is_constant (sort_of x) ≡ false → is_open_number (sort_of x) ≡ false → range_assigned rights i j ts x (range_types rights x) ≡ [] → undefaulted rights x ≡ []
    default_assigned o c n f = default_by (sort_of x) refl o c n f

    ranged : (b : Bool) → is_open_number (sort_of x) ≡ b → Operand rights (if b then given_type (number_target ts) x else given_type None x) x y → range_assigned rights i j ts x (range_types rights x) ≡ []
        → (range_assigned rights i j us y (range_types rights y) ≡ []) × (number_target ts ≡ None → range_types rights y ≡ range_types rights x)
    ranged true e o f = (open_range e o f, λ n. same_range_types x y (subst (λ q. Operand rights (given_type q x) x y) n o))
    ranged false e o f = (closed_range e o f, λ n. same_range_types x y o)

pub range_kept : RangeKept
range_kept rights i j defines ts us x y xs ys g o e =
    let both = both_none (targets_failing rights defines ts) (range_assigned rights i j ts x (range_types rights x)) e in
    let r = ranged rights i j ts us x y g (is_open_number (sort_of x)) refl o both.1 in
    (none_of_both (targets_failing rights defines us) (range_assigned rights i j us y (range_types rights y)) (targets_by rights defines ts us g both.0) r.0, r.1)
