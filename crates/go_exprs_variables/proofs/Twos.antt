-- Operators with two operands: from the node that fits to its operands, and the step.
use Rattle.std.proofs.Common.{◌≡◌, ◌∙◌, ℕ, true, false, [], ◌∷◌, Option, Some, None, refl, sym, ap, subst}
use Rattle.std.specs.Prelude.{◌&&◌, if◌then◌else◌, is_some}
use Rattle.go_base.specs.declared.fault.FaultCode.TheVariants as code
use Rattle.go_constants.specs.declared.values.Const.TheVariants as const
use Rattle.go_grammar.specs.declared.kind.Arithmetic.{Arithmetic}
use Rattle.go_grammar.specs.declared.kind.Kind.TheVariants as kind
use Rattle.go_grammar.specs.declared.kind.Operator.{Operator}
use Rattle.go_grammar.specs.declared.kind.Operator.TheVariants as operator
use Rattle.go_types.specs.Trees.{TypeTree}
use Rattle.go_typed.specs.declared.form.Form.TheVariants as form
use Rattle.go_typed.specs.Trees.{Sort, Label, typed, Typeds, sort_of, label_of, row}
use Rattle.go_typed.specs.Trees as sort
use Rattle.go_exprs_rules.specs.declared.family.Family.TheVariants as family
use Rattle.go_exprs_rules.specs.declared.family.OpenKind.{OpenKind}
use Rattle.go_exprs_rules.specs.declared.family.OpenKind.TheVariants as untyped_kind
use Rattle.go_exprs_rules.specs.Faults.{fault_at, or_else}
use Rattle.go_exprs_rules.specs.Operators.{Common, in_type, in_kind, own, family_in, result_in, value_in, constant_op, binary_value, out_of_range, is_count, shift_failing, shift_failing_in, shift_sort, shift_sort_in, shifted_take, is_shift, operation_failing, operation_sort, operation_takes, open_kinds, common, common_by, binary_failing, binary_failing_in, binary_sort, binary_take}
use Rattle.go_exprs_rules.specs.Scopes.{Scope, Hint}
use Rattle.go_exprs_rules.specs.Settling.{Part, settled, unrepresented, stay, default, as_type}
use Rattle.go_exprs_rules.specs.Sorts.{Stands, kind_of_untyped, kind_of_const, is_constant, is_open, is_unknown, is_family, takes_type, open_kind, own_type, constant_of, suits, uint}
use Rattle.go_exprs_rules.specs.Tables.{Parts, is_judged, is_type, label, built, own_faults, all_given}
use Rattle.clone_window.specs.Masses as masses
use Rattle.go_exprs_variables.specs.Operands.{IsValue}
use Rattle.go_exprs_variables.specs.Variables as variables
use Rattle.go_exprs_variables.specs.Variables.{Standins, begun, Fits, AllFit, WillFit}
use Rattle.go_exprs_variables.proofs.Assembly.{keeps_type, taken_once}
use Rattle.go_exprs_variables.proofs.Binary.{never_folds, not_both}
use Rattle.go_exprs_variables.proofs.BinarySteps.{IsPlain, plain_failing, plain_sort, binary_fits, binary_step}
use Rattle.go_exprs_variables.proofs.Identities.{tree_self}
use Rattle.go_exprs_variables.proofs.NodeSteps.{parts_fit, parts_fit_later, stands_made, rule_of}
use Rattle.go_exprs_variables.proofs.Operands.{Ready, Fitting, closed_so, open_so}
use Rattle.go_exprs_variables.proofs.Parts.{holds}
use Rattle.go_exprs_variables.proofs.Shifts.{and_true}
use Rattle.go_exprs_variables.proofs.ShiftSteps.{shift_step}
use Rattle.go_exprs_variables.proofs.Waits.{plain_tests, known_first, known_sort, judged, Waits, part_waits}
use Rattle.go_exprs_variables.proofs.Ones.{left_of}

module _ (w : Standins) (s : Scope) (h : Hint) (i j : ℕ) where
  abbrev two : Part → Part → Parts
  two x y = Some x ∷ Some y ∷ []

  abbrev new : Part → Part
  new x = begun w false x

  -- an operand of an operation stands for no type
  owned : (z : Stands) → is_some (own z) ≡ true → is_type z ≡ false
  owned (sort.IsType t) e = cc
  owned z e = refl

  pub record TwoKnown (x y : Part) : Type 0 where
    pub left : is_unknown (sort_of x) ≡ false
    pub right : is_unknown (sort_of y) ≡ false

  pub two_known : (x y : Part) → is_judged (two x y) ≡ true → TwoKnown x y
  two_known x y e = let first = known_first x (Some y ∷ []) e in record { left = first.0; right = (known_first y [] first.1).0 }

  node_value : (o : Operator) (x y : Part) → own_faults s (kind.Binary o) h i j (two x y) ≡ [] → masses.is_constant (sort_of (built s (kind.Binary o) h i j (two x y))) ≡ false → WillFit s.rights w false (built s (kind.Binary o) h i j (two x y))
      → IsValue (operation_sort s.rights o (sort_of x) (sort_of y))
  node_value o x y f constant fits =
      let is = stands_made s (kind.Binary o) h i j (two x y) (judged w s h i j (kind.Binary o) (two x y) refl fits) f in
      record {
        constant = plain_tests (operation_sort s.rights o (sort_of x) (sort_of y)) (ap (λ z. masses.is_constant (sort_of z)) (sym is) ∙ constant);
        known = ap (λ z. is_unknown (sort_of z)) (sym is) ∙ known_sort w s.rights (built s (kind.Binary o) h i j (two x y)) fits;
      }

  -- ---- operators that neither compare nor shift

  pub plain_fits : (o : Operator) → IsPlain o → (x y : Part) → Ready s.rights w false x → Ready s.rights w false y → own_faults s (kind.Binary o) h i j (two x y) ≡ [] → masses.is_constant (sort_of (built s (kind.Binary o) h i j (two x y))) ≡ false
      → WillFit s.rights w false (built s (kind.Binary o) h i j (two x y)) → WillFit s.rights w false x × WillFit s.rights w false y
  plain_fits o plain x y rx ry f constant fits = binary_fits s tree_self o plain h i j w false x y rx ry f (subst IsValue (plain_sort s.rights o (sort_of x) (sort_of y) plain) (node_value o x y f constant fits)) fits

  pub plain_whole : (o : Operator) → IsPlain o → (x y : Part) → Ready s.rights w false x → Ready s.rights w false y → own_faults s (kind.Binary o) h i j (two x y) ≡ [] → masses.is_constant (sort_of (built s (kind.Binary o) h i j (two x y))) ≡ false
      → WillFit s.rights w false (built s (kind.Binary o) h i j (two x y)) → (own_faults s (kind.Binary o) h i j (two (new x) (new y)) ≡ []) × (built s (kind.Binary o) h i j (two (new x) (new y)) ≡ begun w false (built s (kind.Binary o) h i j (two x y)))
  plain_whole o plain x y rx ry f constant fits = binary_step s tree_self o plain h i j w false x y rx ry f (subst IsValue (plain_sort s.rights o (sort_of x) (sort_of y) plain) (node_value o x y f constant fits)) fits

  left_value : (a b : Stands) (d : Common) → common s.rights a b ≡ Some d → is_type a ≡ false
  left_value (sort.IsType t) b d e = absurd (by_second (own_type b) e)
    where
      by_second : (u : Option TypeTree) → common_by s.rights (sort.IsType t) b None u ≡ Some d → ⊥
      by_second (Some u) e = cc
      by_second None e = cc
  left_value a b d e = refl

  right_value : (a b : Stands) (d : Common) → common s.rights a b ≡ Some d → is_type b ≡ false
  right_value a (sort.IsType t) d e = absurd (by_first (own_type a) (open_kind a) refl e)
    where
      by_first : (u : Option TypeTree) (k : Option OpenKind) → open_kind a ≡ k → common_by s.rights a (sort.IsType t) u None ≡ Some d → ⊥
      by_first (Some u) k m e = cc
      by_first None None m e = let two : open_kinds None None ≡ Some d = sym (ap (λ z. open_kinds z None) m) ∙ e in cc
      by_first None (Some k) m e = let two : open_kinds (Some k) None ≡ Some d = sym (ap (λ z. open_kinds z None) m) ∙ e in cc
  right_value a b d e = refl

  pub plain_values : (o : Operator) → IsPlain o → (x y : Part) → operation_failing s.rights o i j x y ≡ [] → (is_type (sort_of x) ≡ false) × (is_type (sort_of y) ≡ false)
  plain_values o plain x y e = by_common (common s.rights (sort_of x) (sort_of y)) refl (sym (plain_failing s.rights o i j x y plain) ∙ e)
    where
      by_common : (d : Option Common) → common s.rights (sort_of x) (sort_of y) ≡ d → binary_failing s.rights o i j x y ≡ [] → (is_type (sort_of x) ≡ false) × (is_type (sort_of y) ≡ false)
      by_common None m f = let two : fault_at code.Operands i j ≡ [] = sym (ap (binary_failing_in s.rights o i j x y) m) ∙ f in cc
      by_common (Some d) m f = (left_value (sort_of x) (sort_of y) d m, right_value (sort_of x) (sort_of y) d m)

  -- ---- shifts

  module _ (c : Arithmetic) (is : is_shift (operator.Compute c) ≡ true) where
    abbrev o : Operator
    o = operator.Compute c

    pub record ShiftFacts (x y : Part) : Type 0 where
      pub value : IsValue (shift_sort o (sort_of x) (sort_of y))
      pub later : Option TypeTree
      pub waits : Waits w s.rights x later
      pub fitting : Fitting s.rights w false uint y
      pub count : WillFit s.rights w false y

    shift_is : (a b : Stands) → operation_sort s.rights o a b ≡ shift_sort o a b
    shift_is a b = ap (λ z. if z then shift_sort o a b else binary_sort s.rights o a b) is

    rule_is : (x y : Part) → operation_failing s.rights o i j x y ≡ shift_failing s.rights o i j x y
    rule_is x y = ap (λ z. if z then shift_failing s.rights o i j x y else binary_failing s.rights o i j x y) is

    takes_are : (a b : Stands) → operation_takes s.rights o a b ≡ shifted_take a b ∷ as_type uint ∷ []
    takes_are a b = ap (λ z. if z then shifted_take a b ∷ as_type uint ∷ [] else binary_take s.rights a b ∷ binary_take s.rights a b ∷ []) is

    no_fold : (a b : Stands) (d : Option Common) → IsValue (shift_sort_in o a b d) → (k : Common) → d ≡ Some k → binary_value o a b ≡ None
    no_fold a b None v k e = cc
    no_fold a b (Some d) v k e = never_folds d (binary_value o a b) v

    count_kind : (z : Stands) (k : OpenKind) → open_kind z ≡ Some k → is_count s.rights z ≡ true → (suits s.rights k uint ≡ true) × (is_constant z ≡ true)
    count_kind (sort.Open u) k e f = cc
    count_kind (sort.OpenConstant (const.Int v true)) k e f = let same : k ≡ untyped_kind.Rune = cc in (ap (λ m. suits s.rights m uint) same, refl)
    count_kind (sort.OpenConstant (const.Int v false)) k e f = let same : k ≡ untyped_kind.Integer = cc in (ap (λ m. suits s.rights m uint) same, refl)
    count_kind (sort.OpenConstant (const.Bool b)) k e f = cc
    count_kind (sort.OpenConstant (const.Text b)) k e f = cc
    count_kind z k e f = cc

    count_typed : (z : Stands) → open_kind z ≡ None → is_count s.rights z ≡ true → takes_type z ≡ false
    count_typed sort.Nil e f = cc
    count_typed (sort.Open u) e f = cc
    count_typed (sort.OpenConstant u) e f = cc
    count_typed z e f = refl

    count_by : (y : Part) (k : Option OpenKind) → open_kind (sort_of y) ≡ k → is_count s.rights (sort_of y) ≡ true → Fits w false (settled uint y) → Fitting s.rights w false uint y × WillFit s.rights w false y
    count_by y None e f fits =
        let closed = count_typed (sort_of y) e f in
        let has : Fits w false y = subst (Fits w false) (keeps_type uint y closed) fits in
        (closed_so (ap is_some e) has, variables.has (ap is_some e) has)
    count_by y (Some k) e f fits =
        let kind = count_kind (sort_of y) k e f in
        (open_so k e kind.0 fits, variables.takes uint k e kind.0 (λ n. no_range kind.1 n) fits)
      where
        no_range : {X : Type 0} → is_constant (sort_of y) ≡ true → is_constant (sort_of y) ≡ false → X
        no_range m n = let both : true ≡ false = sym m ∙ n in cc

    own_closed : (a : Stands) (d : Common) → own a ≡ Some d → is_unknown (value_in d) ≡ false → is_open (value_in d) ≡ false → is_open a ≡ false
    own_closed (sort.Open u) (in_type t) e k f = cc
    own_closed (sort.Open u) (in_kind untyped_kind.Boolean) e k f = cc
    own_closed (sort.Open u) (in_kind untyped_kind.Integer) e k f = cc
    own_closed (sort.Open u) (in_kind untyped_kind.Rune) e k f = cc
    own_closed (sort.Open u) (in_kind untyped_kind.Text) e k f = cc
    own_closed (sort.OpenConstant u) (in_type t) e k f = cc
    own_closed (sort.OpenConstant u) (in_kind untyped_kind.Boolean) e k f = cc
    own_closed (sort.OpenConstant u) (in_kind untyped_kind.Integer) e k f = cc
    own_closed (sort.OpenConstant u) (in_kind untyped_kind.Rune) e k f = cc
    own_closed (sort.OpenConstant u) (in_kind untyped_kind.Text) e k f = cc
    own_closed a d e k f = refl

    kind_of : (a : Stands) (m : OpenKind) → own a ≡ Some (in_kind m) → open_kind a ≡ Some m
    kind_of (sort.Open u) m e = let same : kind_of_untyped u ≡ m = cc in ap (λ z. Some z) same
    kind_of (sort.OpenConstant c) m e = let same : kind_of_const c ≡ m = cc in ap (λ z. Some z) same
    kind_of a m e = cc

    own_kind : (a : Stands) (d : Common) (k : OpenKind) → own a ≡ Some d → open_kind (value_in d) ≡ Some k → open_kind a ≡ Some k
    own_kind a (in_type t) k e f = cc
    own_kind a (in_kind untyped_kind.Text) k e f = cc
    own_kind a (in_kind untyped_kind.Boolean) k e f = kind_of a untyped_kind.Boolean e ∙ f
    own_kind a (in_kind untyped_kind.Integer) k e f = kind_of a untyped_kind.Integer e ∙ f
    own_kind a (in_kind untyped_kind.Rune) k e f = kind_of a untyped_kind.Rune e ∙ f

    shift_by : (x y : Part) (d : Option Common) → own (sort_of x) ≡ d → shift_failing_in s.rights o i j x y d ≡ [] → IsValue (shift_sort_in o (sort_of x) (sort_of y) d) → WillFit s.rights w false (typed (form.Binary o) i j (label (form.Binary o) (operation_sort s.rights o (sort_of x) (sort_of y)) (two x y)) (sort.more x (sort.more (settled uint y) sort.none)))
        → IsValue (operation_sort s.rights o (sort_of x) (sort_of y)) → ShiftFacts x y
    shift_by x y None e rule value fits node = cc
    shift_by x y (Some d) e rule value fits node =
        let ok = holds (is_family family.Integers (family_in s.rights d) && is_count s.rights (sort_of y)) (or_else (unrepresented s.rights uint y) (out_of_range s.rights i j d (binary_value o (sort_of x) (sort_of y)))) code.Operands i j rule in
        let tests = and_true (is_family family.Integers (family_in s.rights d)) (is_count s.rights (sort_of y)) ok.0 in
        let z = operation_sort s.rights o (sort_of x) (sort_of y) in
        let none : binary_value o (sort_of x) (sort_of y) ≡ None = never_folds d (binary_value o (sort_of x) (sort_of y)) value in
        let is_value : z ≡ value_in d = shift_is (sort_of x) (sort_of y) ∙ ap (shift_sort_in o (sort_of x) (sort_of y)) e ∙ ap (result_in d) none in
        let part = part_waits w s.rights (form.Binary o) i j (label (form.Binary o) z (two x y)) x (sort.more (settled uint y) sort.none) node.constant
        (λ m. own_closed (sort_of x) d e (ap is_unknown (sym is_value) ∙ node.known) (ap is_open (sym is_value) ∙ m)) (λ k m. (k, own_kind (sort_of x) d k e (ap open_kind (sym is_value) ∙ m), refl)) fits in
        let count = count_by y (open_kind (sort_of y)) refl tests.1 (second_fits (open_kind z) refl) in
        record {
          value = subst IsValue (shift_is (sort_of x) (sort_of y)) node;
          later = part.0;
          waits = part.1;
          fitting = count.0;
          count = count.1;
        }
      where
        second_fits : (k : Option OpenKind) → open_kind (operation_sort s.rights o (sort_of x) (sort_of y)) ≡ k → Fits w false (settled uint y)
        second_fits None m =
            (parts_fit s.rights w false (form.Binary o) i j (label (form.Binary o) (operation_sort s.rights o (sort_of x) (sort_of y)) (two x y)) (sort.more x (sort.more (settled uint y) sort.none)) node.constant (ap is_some m) fits).1.0
        second_fits (Some k) m =
            let later = parts_fit_later s.rights w false (form.Binary o) i j (label (form.Binary o) (operation_sort s.rights o (sort_of x) (sort_of y)) (two x y)) (sort.more x (sort.more (settled uint y) sort.none)) node.constant k m fits in
            subst (Fits w false) (taken_once later.type uint y) later.fit.1.0

    pub shift_values : (x y : Part) → operation_failing s.rights o i j x y ≡ [] → (is_type (sort_of x) ≡ false) × (is_type (sort_of y) ≡ false)
    shift_values x y e = by_own (own (sort_of x)) refl (sym (rule_is x y) ∙ e)
      where
        by_own : (d : Option Common) → own (sort_of x) ≡ d → shift_failing_in s.rights o i j x y d ≡ [] → (is_type (sort_of x) ≡ false) × (is_type (sort_of y) ≡ false)
        by_own None m f = cc
        by_own (Some d) m f =
            let ok = holds (is_family family.Integers (family_in s.rights d) && is_count s.rights (sort_of y)) (or_else (unrepresented s.rights uint y) (out_of_range s.rights i j d (binary_value o (sort_of x) (sort_of y)))) code.Operands i j f in
            let tests = and_true (is_family family.Integers (family_in s.rights d)) (is_count s.rights (sort_of y)) ok.0 in
            (owned (sort_of x) (ap is_some m), count_value (sort_of y) tests.1)
          where
            count_value : (z : Stands) → is_count s.rights z ≡ true → is_type z ≡ false
            count_value (sort.IsType t) e = cc
            count_value z e = refl

    pub shift_facts : (x y : Part) → own_faults s (kind.Binary o) h i j (two x y) ≡ [] → masses.is_constant (sort_of (built s (kind.Binary o) h i j (two x y))) ≡ false → WillFit s.rights w false (built s (kind.Binary o) h i j (two x y)) → ShiftFacts x y
    shift_facts x y f constant fits =
        let js = judged w s h i j (kind.Binary o) (two x y) refl fits in
        let node = node_value o x y f constant fits in
        let rule : shift_failing s.rights o i j x y ≡ [] = sym (rule_is x y) ∙ rule_of s (kind.Binary o) h i j (two x y) js f in
        let value : IsValue (shift_sort o (sort_of x) (sort_of y)) = subst IsValue (shift_is (sort_of x) (sort_of y)) node in
        let none = no_value x y (own (sort_of x)) rule value in
        let take : shifted_take (sort_of x) (sort_of y) ≡ stay = ap (λ z. if z then default else stay) (not_both (constant_op o) (constant_of (sort_of x)) (constant_of (sort_of y)) none) in
        let shape = stands_made s (kind.Binary o) h i j (two x y) js f
        ∙ ap (λ z. typed (form.Binary o) i j (label (form.Binary o) (operation_sort s.rights o (sort_of x) (sort_of y)) (two x y)) (row (all_given z (two x y)))) (takes_are (sort_of x) (sort_of y) ∙ ap (λ z. z ∷ as_type uint ∷ []) take) in
        shift_by x y (own (sort_of x)) refl rule value (subst (WillFit s.rights w false) shape fits) node
      where
        no_value : (x y : Part) (d : Option Common) → shift_failing_in s.rights o i j x y d ≡ [] → IsValue (shift_sort_in o (sort_of x) (sort_of y) d) → binary_value o (sort_of x) (sort_of y) ≡ None
        no_value x y None f v = cc
        no_value x y (Some d) f v = never_folds d (binary_value o (sort_of x) (sort_of y)) v

    pub shift_whole : (x y : Part) → Ready s.rights w false x → Ready s.rights w false y → own_faults s (kind.Binary o) h i j (two x y) ≡ [] → ShiftFacts x y
        → (own_faults s (kind.Binary o) h i j (two (new x) (new y)) ≡ []) × (built s (kind.Binary o) h i j (two (new x) (new y)) ≡ begun w false (built s (kind.Binary o) h i j (two x y)))
    shift_whole x y rx ry f facts = shift_step s tree_self h i j w false c is facts.later x y rx ry (left_of w s h i j facts.later x facts.waits) facts.fitting f facts.value
