-- Comparisons: from the node that fits to its operands, and the step.
use Rattle.std.proofs.Common.{◌≡◌, ◌∙◌, ℕ, Bool, true, false, [], ◌∷◌, ◌++◌, Option, Some, None, refl, sym, ap, subst}
use Rattle.std.specs.Prelude.{◌&&◌, ◌||◌, not, if◌then◌else◌, is_some}
use Rattle.go_base.specs.declared.fault.FaultCode.TheVariants as code
use Rattle.go_constants.specs.declared.values.Const.{Const}
use Rattle.go_grammar.specs.declared.kind.Comparison.{Comparison}
use Rattle.go_grammar.specs.declared.kind.Kind.{Kind}
use Rattle.go_grammar.specs.declared.kind.Kind.TheVariants as kind
use Rattle.go_grammar.specs.declared.kind.Operator.TheVariants as operator
use Rattle.go_types.specs.Trees.{TypeTree}
use Rattle.go_types_relations.specs.Tests.{underlying_of}
use Rattle.go_typed.specs.declared.form.Form.TheVariants as form
use Rattle.go_typed.specs.Trees.{Sort, Label, typed, Typeds, sort_of, label_of, row}
use Rattle.go_typed.specs.Trees as sort
use Rattle.go_exprs_rules.specs.declared.family.OpenKind.{OpenKind}
use Rattle.go_exprs_rules.specs.declared.family.OpenKind.TheVariants as untyped_kind
use Rattle.go_exprs_rules.specs.Faults.{fault_at}
use Rattle.go_exprs_rules.specs.Operators.{Common, in_type, in_kind, type_in, common_kind, comparing, folded_both, one_typed, open_kinds, nil_common, compared_in, compared_failing, compared_failing_in, compared_refuse, compared_sort, compared_take, compared_take_in, unfit, result_in}
use Rattle.go_exprs_rules.specs.Scopes.{Scope, Hint}
use Rattle.go_exprs_rules.specs.Settling.{Part, settled, unrepresented, as_type}
use Rattle.go_exprs_rules.specs.Sorts.{Stands, is_constant, is_open, is_nil, is_unknown, takes_type, open_kind, own_type, constant_of, default_type, suits, has_nil}
use Rattle.go_exprs_rules.specs.Tables.{Parts, is_type, label, built, own_faults, all_given}
use Rattle.clone_window.specs.Masses as masses
use Rattle.go_exprs_variables.specs.Operands.{Operand, IsValue}
use Rattle.go_exprs_variables.specs.Stood.{Stood, as_before, in_place, early}
use Rattle.go_exprs_variables.specs.Variables as variables
use Rattle.go_exprs_variables.specs.Variables.{Standins, all_wanted, or_wanted, wanted, begun, Fits, WillFit}
use Rattle.go_exprs_variables.proofs.Arguments.{Given, given_fitting, closed_given}
use Rattle.go_exprs_variables.proofs.Assembly.{keeps_type, taken_once, has_taken, Become, no_more, one}
use Rattle.go_exprs_variables.proofs.Binary.{never_folds, not_both, less_folds}
use Rattle.go_exprs_variables.proofs.ComparisonRows.{comparison_row, type_taken}
use Rattle.go_exprs_variables.proofs.Comparisons.{comparison, compared_is}
use Rattle.go_exprs_variables.proofs.Defaults.{default_suits}
use Rattle.go_exprs_variables.proofs.Identities.{tree_self}
use Rattle.go_exprs_variables.proofs.Meeting.{constants, both_of, kinds_are, by_family}
use Rattle.go_exprs_variables.proofs.NodeSteps.{node_step, parts_fit_later, stands_made, rule_of}
use Rattle.go_exprs_variables.proofs.Operands.{Ready, open_so, calls_kept, closed_wants, varies_given}
use Rattle.go_exprs_variables.proofs.Parts.{both_none, none_of_both, neither, of_neither}
use Rattle.go_exprs_variables.proofs.Ready.{Facts}
use Rattle.go_exprs_variables.proofs.Waits.{plain_tests, known_first, known_sort, judged}

module _ (w : Standins) (s : Scope) (h : Hint) (i j : ℕ) (o : Comparison) where
  abbrev two : Part → Part → Parts
  two x y = Some x ∷ Some y ∷ []

  abbrev new : Part → Part
  new x = begun w false x

  abbrev compare : Kind
  compare = kind.Binary (operator.Compare o)

  -- ---- what is known of the operands

  pub record CompareFacts (x y : Part) : Type 0 where
    pub type : TypeTree
    pub left : Given w s.rights (as_type type) (Some type) x
    pub right : Given w s.rights (as_type type) (Some type) y
    pub failing : compared_failing s.rights o i j (new x) (new y) ≡ []
    pub old : compared_take s.rights (sort_of x) (sort_of y) ≡ as_type type
    pub now : compared_take s.rights (sort_of (new x)) (sort_of (new y)) ≡ as_type type
    pub folds : folded_both (comparing o) (constant_of (sort_of x)) (constant_of (sort_of y)) ≡ None

  node_value : (x y : Part) → own_faults s compare h i j (two x y) ≡ [] → masses.is_constant (sort_of (built s compare h i j (two x y))) ≡ false → WillFit s.rights w false (built s compare h i j (two x y)) → IsValue (compared_sort o (sort_of x) (sort_of y))
  node_value x y f constant fits =
      let is = stands_made s compare h i j (two x y) (judged w s h i j compare (two x y) refl fits) f in
      record {
        constant = plain_tests (compared_sort o (sort_of x) (sort_of y)) (ap (λ z. masses.is_constant (sort_of z)) (sym is) ∙ constant);
        known = ap (λ z. is_unknown (sort_of z)) (sym is) ∙ known_sort w s.rights (built s compare h i j (two x y)) fits;
      }

  pub record Taken (t : TypeTree) (x y : Part) : Type 0 where
    pub left : Fits w false (settled t x)
    pub right : Fits w false (settled t y)

  -- both fit once they have the type that they take
  operands_fit : (t : TypeTree) (x y : Part) → own_faults s compare h i j (two x y) ≡ [] → WillFit s.rights w false (built s compare h i j (two x y)) → IsValue (compared_sort o (sort_of x) (sort_of y)) → compared_take s.rights (sort_of x) (sort_of y) ≡ as_type t → Taken t x y
  operands_fit t x y f fits value take =
      let z = compared_sort o (sort_of x) (sort_of y) in
      let none = never_folds (in_kind untyped_kind.Boolean) (folded_both (comparing o) (constant_of (sort_of x)) (constant_of (sort_of y))) value in
      let open_now : open_kind z ≡ Some untyped_kind.Boolean = ap (λ v. open_kind (result_in (in_kind untyped_kind.Boolean) v)) none in
      let shape = stands_made s compare h i j (two x y) (judged w s h i j compare (two x y) refl fits) f
      ∙ ap (λ k. typed (form.Binary (operator.Compare o)) i j (label (form.Binary (operator.Compare o)) z (two x y)) (row (all_given (k ∷ k ∷ []) (two x y)))) take in
      let later = parts_fit_later s.rights w false (form.Binary (operator.Compare o)) i j (label (form.Binary (operator.Compare o)) z (two x y)) (sort.more (settled t x) (sort.more (settled t y) sort.none)) value.constant untyped_kind.Boolean open_now (subst (WillFit s.rights w false) shape fits) in
      record { left = subst (Fits w false) (taken_once later.type t x) later.fit.0; right = subst (Fits w false) (taken_once later.type t y) later.fit.1.0 }

  -- an operand that is no `nil`, has the constants in it that the type has, and is of its kind where it is untyped
  side_by : (t : TypeTree) (x : Part) (k : Option OpenKind) → open_kind (sort_of x) ≡ k → Ready s.rights w false x → is_nil (sort_of x) ≡ false → ((m : OpenKind) → open_kind (sort_of x) ≡ Some m → suits s.rights m t ≡ true) → unrepresented s.rights t x ≡ []
      → Fits w false (settled t x) → Given w s.rights (as_type t) (Some t) x
  side_by t x None is r unnil suit range fits = closed_given w s.rights t x r (ap is_some is) (subst (Fits w false) (keeps_type t x (untaken (sort_of x) is unnil)) fits)
    where
      untaken : (z : Stands) → open_kind z ≡ None → is_nil z ≡ false → takes_type z ≡ false
      untaken z e f = ap (λ b. is_some b || is_nil z) e ∙ f
  side_by t x (Some k) is r unnil suit range fits = given_fitting w s.rights t x r (open_so k is (suit k is) fits) (variables.takes t k is (suit k is) (λ c. range) fits)

  side : (t : TypeTree) (x : Part) → Ready s.rights w false x → is_nil (sort_of x) ≡ false → ((m : OpenKind) → open_kind (sort_of x) ≡ Some m → suits s.rights m t ≡ true) → unrepresented s.rights t x ≡ [] → Fits w false (settled t x) → Given w s.rights (as_type t) (Some t) x
  side t x r unnil suit range fits = side_by t x (open_kind (sort_of x)) refl r unnil suit range fits

  -- ---- neither is `nil`

  no_type : (z : Stands) (k : OpenKind) → open_kind z ≡ Some k → own_type z ≡ None
  no_type (sort.Open u) k e = refl
  no_type (sort.OpenConstant u) k e = refl
  no_type z k e = cc

  one_suits : (u : TypeTree) (k : OpenKind) (d : Common) → one_typed s.rights u (Some k) ≡ Some d → suits s.rights k (type_in d) ≡ true
  one_suits u k d e = by_test (suits s.rights k u) refl e
    where
      by_test : (b : Bool) → suits s.rights k u ≡ b → (if b then Some (in_type u) else None) ≡ Some d → suits s.rights k (type_in d) ≡ true
      by_test true f g = let is : in_type u ≡ d = cc in ap (λ c. suits s.rights k (type_in c)) (sym is) ∙ f
      by_test false f g = cc

  both_suit : (k l : OpenKind) (d : Common) → open_kinds (Some k) (Some l) ≡ Some d → (suits s.rights k (type_in d) ≡ true) × (suits s.rights l (type_in d) ≡ true)
  both_suit k l d e =
      let is = kinds_are s.rights tree_self (common_kind k l) d e in
      let fam = both_of k l is.0 is.1 in
      let first : suits s.rights k (default_type is.0) ≡ true = by_family s.rights tree_self is.0 k (default_type is.0) (sym fam.1) (default_suits s.rights is.0) in
      let second : suits s.rights l (default_type is.0) ≡ true = by_family s.rights tree_self k l (default_type is.0) fam.0 first in
      (ap (λ c. suits s.rights k (type_in c)) is.2 ∙ first, ap (λ c. suits s.rights l (type_in c)) is.2 ∙ second)

  left_suits : (p : Option TypeTree) (k : OpenKind) (q : Option TypeTree) (l : Option OpenKind) (d : Common) → p ≡ None → comparison s.rights p (Some k) q l ≡ Some d → suits s.rights k (type_in d) ≡ true
  left_suits None k (Some u) l d e f = one_suits u k d f
  left_suits None k None (Some l) d e f = (both_suit k l d f).0
  left_suits None k None None d e f = cc
  left_suits (Some p) k q l d e f = cc

  right_suits : (p : Option TypeTree) (k : Option OpenKind) (q : Option TypeTree) (l : OpenKind) (d : Common) → q ≡ None → comparison s.rights p k q (Some l) ≡ Some d → suits s.rights l (type_in d) ≡ true
  right_suits (Some u) k None l d e f = one_suits u l d f
  right_suits None (Some k) None l d e f = (both_suit k l d f).1
  right_suits None None None l d e f = cc
  right_suits p k (Some q) l d e f = cc

  -- the constants in the operands
  ranges : (d : Common) (x y : Part) → (is_constant (sort_of x) && is_constant (sort_of y)) ≡ false → compared_refuse s.rights d x y ≡ [] → (unrepresented s.rights (type_in d) x ≡ []) × (unrepresented s.rights (type_in d) y ≡ [])
  ranges (in_type t) x y p e = both_none (unrepresented s.rights t x) (unrepresented s.rights t y) e
  ranges (in_kind k) x y p e =
      let t = default_type k in
      both_none (unrepresented s.rights t x) (unrepresented s.rights t y) (sym (ap (λ b. if b then [] else unrepresented s.rights t x ++ unrepresented s.rights t y) p) ∙ e)

  compared_type : (z : Stands) (d : Common) (y : Stands) → is_nil z ≡ false → is_nil y ≡ false → compared_in s.rights z y ≡ Some d → is_type z ≡ false
  compared_type (sort.IsType t) d y e f g = by_other (own_type y) (sym (compared_is s.rights (sort.IsType t) y e f) ∙ g)
    where
      by_other : (u : Option TypeTree) → comparison s.rights None None u (open_kind y) ≡ Some d → true ≡ false
      by_other (Some u) e = cc
      by_other None e = cc
  compared_type z d y e f g = refl

  compared_second : (z : Stands) (d : Common) (y : Stands) → is_nil z ≡ false → is_nil y ≡ false → compared_in s.rights z y ≡ Some d → is_type y ≡ false
  compared_second z d (sort.IsType t) e f g = by_first (own_type z) (open_kind z) (sym (compared_is s.rights z (sort.IsType t) e f) ∙ g)
    where
      by_first : (u : Option TypeTree) (k : Option OpenKind) → comparison s.rights u k None None ≡ Some d → true ≡ false
      by_first (Some u) k e = cc
      by_first None None e = cc
      by_first None (Some k) e = cc
  compared_second z d y e f g = refl

  both_values : (d : Common) (x y : Part) → Facts w s.rights x → Facts w s.rights y → is_unknown (sort_of x) ≡ false → is_unknown (sort_of y) ≡ false → is_nil (sort_of x) ≡ false → is_nil (sort_of y) ≡ false → compared_in s.rights (sort_of x) (sort_of y) ≡ Some d
      → own_faults s compare h i j (two x y) ≡ [] → WillFit s.rights w false (built s compare h i j (two x y)) → IsValue (compared_sort o (sort_of x) (sort_of y)) → compared_failing s.rights o i j x y ≡ [] → CompareFacts x y
  both_values d x y fx fy kx ky nx ny is f fits value rule =
      let none = never_folds (in_kind untyped_kind.Boolean) (folded_both (comparing o) (constant_of (sort_of x)) (constant_of (sort_of y))) value in
      let p = not_both (comparing o) (constant_of (sort_of x)) (constant_of (sort_of y)) none in
      let t = type_in d in
      let take = type_taken s.rights tree_self (sort_of x) (sort_of y) d is p in
      let taken = operands_fit t x y f fits value take in
      let by = sym (compared_is s.rights (sort_of x) (sort_of y) nx ny) ∙ is in
      let nils : (is_nil (sort_of x) || is_nil (sort_of y)) ≡ false = ap (λ b. b || is_nil (sort_of y)) nx ∙ ny in
      let refuse = (neither (unfit s.rights o i j (is_nil (sort_of x) || is_nil (sort_of y)) d) (compared_refuse s.rights d x y) (sym (ap (compared_failing_in s.rights o i j x y) is) ∙ rule)).1 in
      let range = ranges d x y p refuse in
      let left = side t x (fx.ready kx (compared_type (sort_of x) d (sort_of y) nx ny is)) nx
      (λ k m. left_suits (own_type (sort_of x)) k (own_type (sort_of y)) (open_kind (sort_of y)) d (no_type (sort_of x) k m) (ap (λ z. comparison s.rights (own_type (sort_of x)) z (own_type (sort_of y)) (open_kind (sort_of y))) (sym m) ∙ by)) range.0 taken.left in
      let right = side t y (fy.ready ky (compared_second (sort_of x) d (sort_of y) nx ny is)) ny
      (λ k m. right_suits (own_type (sort_of x)) (open_kind (sort_of x)) (own_type (sort_of y)) k d (no_type (sort_of y) k m) (ap (λ z. comparison s.rights (own_type (sort_of x)) (open_kind (sort_of x)) (own_type (sort_of y)) z) (sym m) ∙ by)) range.1 taken.right in
      let r = comparison_row s.rights tree_self o i j d x y (new x) (new y) left.operand right.operand nx ny p is rule in
      record { type = t; left = left; right = right; failing = r.0; old = take; now = r.1 ∙ take; folds = none }

  -- ---- one is `nil`

  nil_at : (b c : Stands) (t : TypeTree) → Stood s.rights (Some t) b c → is_nil b ≡ true → c ≡ b
  nil_at b c t st e = by_stood (Some t) b c st e
    where
      by_stood : (u : Option TypeTree) (b c : Stands) → Stood s.rights u b c → is_nil b ≡ true → c ≡ b
      by_stood u b c (as_before v z) e = refl
      by_stood u b c (in_place v q z) e = cc
      by_stood u b c (early q z k m n) e = no_kind z k m e
        where
          no_kind : {X : Type 0} → (z : Stands) (k : OpenKind) → open_kind z ≡ Some k → is_nil z ≡ true → X
          no_kind sort.Nil k m e = cc
          no_kind z k m e = cc

  type_at : (b c : Stands) (t : TypeTree) → Stood s.rights (Some t) b c → is_some (own_type b) ≡ true → own_type c ≡ own_type b
  type_at b c t st e = by_stood (Some t) b c st e
    where
      by_stood : (u : Option TypeTree) (b c : Stands) → Stood s.rights u b c → is_some (own_type b) ≡ true → own_type c ≡ own_type b
      by_stood u b c (as_before v z) e = refl
      by_stood u b c (in_place v q z) e = refl
      by_stood u b c (early q z k m n) e = let none : false ≡ true = sym (ap is_some (no_type z k m)) ∙ e in cc

  no_nil : (z : Stands) → is_some (own_type z) ≡ true → (is_nil z ≡ false) × (is_open z ≡ false) × (takes_type z ≡ false) × (is_type z ≡ false)
  no_nil (sort.Value t) e = (refl, refl, refl, refl)
  no_nil (sort.Constant t c) e = (refl, refl, refl, refl)
  no_nil z e = cc

  nil_is : (z : Stands) → is_nil z ≡ true → z ≡ sort.Nil
  nil_is sort.Nil e = refl
  nil_is z e = cc

  common_is : (t : Option TypeTree) (d : Common) → nil_common s.rights t ≡ Some d → t ≡ Some (type_in d)
  common_is (Some t) d e = by_test (has_nil (underlying_of s.rights t)) e
    where
      by_test : (b : Bool) → (if b then Some (in_type t) else None) ≡ Some d → Some t ≡ Some (type_in d)
      by_test true f = let is : in_type t ≡ d = cc in ap (λ c. Some (type_in c)) is
      by_test false f = cc
  common_is None d e = cc

  in_its_type : (t : Option TypeTree) (d : Common) → nil_common s.rights t ≡ Some d → d ≡ in_type (type_in d)
  in_its_type (Some t) d e = by_test (has_nil (underlying_of s.rights t)) e
    where
      by_test : (b : Bool) → (if b then Some (in_type t) else None) ≡ Some d → d ≡ in_type (type_in d)
      by_test true f = let is : in_type t ≡ d = cc in sym is ∙ ap (λ c. in_type (type_in c)) is
      by_test false f = cc
  in_its_type None d e = cc

  -- the rule where one operand is `nil`: it is asked of the type of the other one
  nil_rule : (d : Common) (x y z v : Part) → compared_in s.rights (sort_of x) (sort_of y) ≡ Some d → compared_in s.rights (sort_of z) (sort_of v) ≡ Some d → d ≡ in_type (type_in d) → (is_nil (sort_of x) || is_nil (sort_of y)) ≡ true → (is_nil (sort_of z) || is_nil (sort_of v)) ≡ true
      → Operand s.rights (Some (type_in d)) x z → Operand s.rights (Some (type_in d)) y v → compared_failing s.rights o i j x y ≡ [] → compared_failing s.rights o i j z v ≡ []
  nil_rule d x y z v old now form_is p q ox oy e =
      let t = type_in d in
      let both = neither (unfit s.rights o i j (is_nil (sort_of x) || is_nil (sort_of y)) d) (compared_refuse s.rights d x y) (sym (ap (compared_failing_in s.rights o i j x y) old) ∙ e) in
      let range = both_none (unrepresented s.rights t x) (unrepresented s.rights t y) (sym (ap (λ c. compared_refuse s.rights c x y) form_is) ∙ both.1) in
      ap (compared_failing_in s.rights o i j z v) now
      ∙ of_neither (unfit s.rights o i j (is_nil (sort_of z) || is_nil (sort_of v)) d) (compared_refuse s.rights d z v) (ap (λ b. unfit s.rights o i j b d) (q ∙ sym p) ∙ both.0)
      (ap (λ c. compared_refuse s.rights c z v) form_is ∙ none_of_both (unrepresented s.rights t z) (unrepresented s.rights t v) (ox.range t range.0) (oy.range t range.1))

  nil_take : (d : Common) (b c : Stands) → compared_in s.rights b c ≡ Some d → d ≡ in_type (type_in d) → compared_take s.rights b c ≡ as_type (type_in d)
  nil_take d b c e f = ap (compared_take_in b c) e ∙ ap (λ z. compared_take_in b c (Some z)) f

  or_true : (b c : Bool) → c ≡ true → (b || c) ≡ true
  or_true true c e = refl
  or_true false c e = e

  no_fold : (c : Option Const) → folded_both (comparing o) c None ≡ None
  no_fold None = refl
  no_fold (Some c) = refl

  compared_nil : (b c : Stands) → is_nil b ≡ true → compared_in s.rights b c ≡ nil_common s.rights (own_type c)
  compared_nil sort.Nil c e = refl
  compared_nil b c e = cc

  compared_with_nil : (b c : Stands) → is_nil b ≡ false → is_nil c ≡ true → compared_in s.rights b c ≡ nil_common s.rights (own_type b)
  compared_with_nil sort.Nil c e f = cc
  compared_with_nil (sort.Value t) sort.Nil e f = refl
  compared_with_nil (sort.Constant t v) sort.Nil e f = refl
  compared_with_nil sort.Nothing sort.Nil e f = refl
  compared_with_nil sort.Unknown sort.Nil e f = refl
  compared_with_nil sort.Blank sort.Nil e f = refl
  compared_with_nil (sort.Builtin p) sort.Nil e f = refl
  compared_with_nil sort.Println sort.Nil e f = refl
  compared_with_nil sort.Package sort.Nil e f = refl
  compared_with_nil (sort.IsType t) sort.Nil e f = refl
  compared_with_nil (sort.Open u) sort.Nil e f = refl
  compared_with_nil (sort.OpenConstant u) sort.Nil e f = refl
  compared_with_nil (sort.Results t) sort.Nil e f = refl
  compared_with_nil b c e f = cc

  nil_no_type : (z : Stands) → is_nil z ≡ true → is_type z ≡ false
  nil_no_type sort.Nil e = refl
  nil_no_type z e = cc

  nil_closed : (z : Stands) → is_nil z ≡ true → is_open z ≡ false
  nil_closed sort.Nil e = refl
  nil_closed z e = cc

  no_constant : (z : Stands) → is_nil z ≡ true → constant_of z ≡ None
  no_constant sort.Nil e = refl
  no_constant z e = cc

  nil_left : (d : Common) (x y : Part) → Facts w s.rights x → Facts w s.rights y → is_unknown (sort_of x) ≡ false → is_unknown (sort_of y) ≡ false → is_nil (sort_of x) ≡ true → nil_common s.rights (own_type (sort_of y)) ≡ Some d
      → own_faults s compare h i j (two x y) ≡ [] → WillFit s.rights w false (built s compare h i j (two x y)) → IsValue (compared_sort o (sort_of x) (sort_of y)) → compared_failing s.rights o i j x y ≡ [] → CompareFacts x y
  nil_left d x y fx fy kx ky nx is f fits value rule =
      let t = type_in d in
      let own = common_is (own_type (sort_of y)) d is in
      let form_is = in_its_type (own_type (sort_of y)) d is in
      let y_is = no_nil (sort_of y) (ap is_some own) in
      let old : compared_in s.rights (sort_of x) (sort_of y) ≡ Some d = compared_nil (sort_of x) (sort_of y) nx ∙ is in
      let take = nil_take d (sort_of x) (sort_of y) old form_is in
      let taken = operands_fit t x y f fits value take in
      let left = closed_given w s.rights t x (fx.ready kx (nil_no_type (sort_of x) nx)) (nil_closed (sort_of x) nx) (fx.nil nx t taken.left) in
      let right = closed_given w s.rights t y (fy.ready ky y_is.3) y_is.1 (subst (Fits w false) (keeps_type t y y_is.2) taken.right) in
      let nil_now : is_nil (sort_of (new x)) ≡ true = ap is_nil (nil_at (sort_of x) (sort_of (new x)) t left.operand.stands nx) ∙ nx in
      let type_now = type_at (sort_of y) (sort_of (new y)) t right.operand.stands (ap is_some own) in
      let now : compared_in s.rights (sort_of (new x)) (sort_of (new y)) ≡ Some d = compared_nil (sort_of (new x)) (sort_of (new y)) nil_now ∙ ap (nil_common s.rights) type_now ∙ is in
      record {
        type = t;
        left = left;
        right = right;
        failing = nil_rule d x y (new x) (new y) old now form_is (ap (λ b. b || is_nil (sort_of y)) nx) (ap (λ b. b || is_nil (sort_of (new y))) nil_now) left.operand right.operand rule;
        old = take;
        now = nil_take d (sort_of (new x)) (sort_of (new y)) now form_is;
        folds = ap (λ c. folded_both (comparing o) c (constant_of (sort_of y))) (no_constant (sort_of x) nx);
      }

  nil_right : (d : Common) (x y : Part) → Facts w s.rights x → Facts w s.rights y → is_unknown (sort_of x) ≡ false → is_unknown (sort_of y) ≡ false → is_nil (sort_of x) ≡ false → is_nil (sort_of y) ≡ true → nil_common s.rights (own_type (sort_of x)) ≡ Some d
      → own_faults s compare h i j (two x y) ≡ [] → WillFit s.rights w false (built s compare h i j (two x y)) → IsValue (compared_sort o (sort_of x) (sort_of y)) → compared_failing s.rights o i j x y ≡ [] → CompareFacts x y
  nil_right d x y fx fy kx ky nx ny is f fits value rule =
      let t = type_in d in
      let own = common_is (own_type (sort_of x)) d is in
      let form_is = in_its_type (own_type (sort_of x)) d is in
      let x_is = no_nil (sort_of x) (ap is_some own) in
      let old : compared_in s.rights (sort_of x) (sort_of y) ≡ Some d = compared_with_nil (sort_of x) (sort_of y) nx ny ∙ is in
      let take = nil_take d (sort_of x) (sort_of y) old form_is in
      let taken = operands_fit t x y f fits value take in
      let left = closed_given w s.rights t x (fx.ready kx x_is.3) x_is.1 (subst (Fits w false) (keeps_type t x x_is.2) taken.left) in
      let right = closed_given w s.rights t y (fy.ready ky (nil_no_type (sort_of y) ny)) (nil_closed (sort_of y) ny) (fy.nil ny t taken.right) in
      let type_now = type_at (sort_of x) (sort_of (new x)) t left.operand.stands (ap is_some own) in
      let no_nil_now : is_nil (sort_of (new x)) ≡ false = (no_nil (sort_of (new x)) (ap is_some type_now ∙ ap is_some own)).0 in
      let nil_now : is_nil (sort_of (new y)) ≡ true = ap is_nil (nil_at (sort_of y) (sort_of (new y)) t right.operand.stands ny) ∙ ny in
      let now : compared_in s.rights (sort_of (new x)) (sort_of (new y)) ≡ Some d = compared_with_nil (sort_of (new x)) (sort_of (new y)) no_nil_now nil_now ∙ ap (nil_common s.rights) type_now ∙ is in
      record {
        type = t;
        left = left;
        right = right;
        failing = nil_rule d x y (new x) (new y) old now form_is (or_true (is_nil (sort_of x)) (is_nil (sort_of y)) ny) (or_true (is_nil (sort_of (new x))) (is_nil (sort_of (new y))) nil_now) left.operand right.operand rule;
        old = take;
        now = nil_take d (sort_of (new x)) (sort_of (new y)) now form_is;
        folds = ap (folded_both (comparing o) (constant_of (sort_of x))) (no_constant (sort_of y) ny) ∙ no_fold (constant_of (sort_of x));
      }

  -- ---- all of them

  some_common : (x y : Part) (d : Option Common) → compared_in s.rights (sort_of x) (sort_of y) ≡ d → compared_failing s.rights o i j x y ≡ [] → (c : Common) × (compared_in s.rights (sort_of x) (sort_of y) ≡ Some c)
  some_common x y None e f = let two : fault_at code.Operands i j ≡ [] = sym (ap (compared_failing_in s.rights o i j x y) e) ∙ f in cc
  some_common x y (Some c) e f = (c, e)

  by_nils : (x y : Part) (p q : Bool) → is_nil (sort_of x) ≡ p → is_nil (sort_of y) ≡ q → Facts w s.rights x → Facts w s.rights y → is_unknown (sort_of x) ≡ false → is_unknown (sort_of y) ≡ false → own_faults s compare h i j (two x y) ≡ []
      → WillFit s.rights w false (built s compare h i j (two x y)) → IsValue (compared_sort o (sort_of x) (sort_of y)) → compared_failing s.rights o i j x y ≡ [] → (d : Common) → compared_in s.rights (sort_of x) (sort_of y) ≡ Some d → CompareFacts x y
  by_nils x y true q nx ny fx fy kx ky f fits value rule d is = nil_left d x y fx fy kx ky nx (sym (compared_nil (sort_of x) (sort_of y) nx) ∙ is) f fits value rule
  by_nils x y false true nx ny fx fy kx ky f fits value rule d is = nil_right d x y fx fy kx ky nx ny (sym (compared_with_nil (sort_of x) (sort_of y) nx ny) ∙ is) f fits value rule
  by_nils x y false false nx ny fx fy kx ky f fits value rule d is = both_values d x y fx fy kx ky nx ny is f fits value rule

  pub compare_facts : (x y : Part) → Facts w s.rights x → Facts w s.rights y → own_faults s compare h i j (two x y) ≡ [] → masses.is_constant (sort_of (built s compare h i j (two x y))) ≡ false → WillFit s.rights w false (built s compare h i j (two x y)) → CompareFacts x y
  compare_facts x y fx fy f constant fits =
      let js = judged w s h i j compare (two x y) refl fits in
      let first = known_first x (Some y ∷ []) js in
      let value = node_value x y f constant fits in
      let rule = rule_of s compare h i j (two x y) js f in
      let d = some_common x y (compared_in s.rights (sort_of x) (sort_of y)) refl rule in
      by_nils x y (is_nil (sort_of x)) (is_nil (sort_of y)) refl refl fx fy first.0 (known_first y [] first.1).0 f fits value rule d.0 d.1

  wants_nothing : (t : TypeTree) (x : Part) → wanted w false (settled t x) ≡ None
  wants_nothing t x = closed_wants s.rights w false (settled t x) (not_open (sort_of (settled t x)) (has_taken t x))
    where
      not_open : (z : Stands) → takes_type z ≡ false → is_open z ≡ false
      not_open (sort.Open k) e = cc
      not_open (sort.OpenConstant c) e = cc
      not_open z e = refl

  -- The step at a comparison.
  pub compare_whole : (x y : Part) → own_faults s compare h i j (two x y) ≡ [] → masses.is_constant (sort_of (built s compare h i j (two x y))) ≡ false → WillFit s.rights w false (built s compare h i j (two x y)) → CompareFacts x y
      → (own_faults s compare h i j (two (new x) (new y)) ≡ []) × (built s compare h i j (two (new x) (new y)) ≡ begun w false (built s compare h i j (two x y)))
  compare_whole x y f constant fits facts =
      let t = facts.type in
      let js = judged w s h i j compare (two x y) refl fits in
      let value = node_value x y f constant fits in
      let now = known_both (is_unknown (sort_of (new x))) (is_unknown (sort_of (new y))) facts.left.known facts.right.known in
      let folds_now : folded_both (comparing o) (constant_of (sort_of (new x))) (constant_of (sort_of (new y))) ≡ None =
      less_folds (comparing o) (constant_of (sort_of x)) (constant_of (sort_of y)) (constant_of (sort_of (new x))) (constant_of (sort_of (new y))) (constants s.rights (Some t) (sort_of x) (sort_of (new x)) facts.left.operand.stands)
      (constants s.rights (Some t) (sort_of y) (sort_of (new y)) facts.right.operand.stands) facts.folds in
      let same : compared_sort o (sort_of (new x)) (sort_of (new y)) ≡ compared_sort o (sort_of x) (sort_of y) = ap (result_in (in_kind untyped_kind.Boolean)) (folds_now ∙ sym facts.folds) in
      let parts : Become s.rights w false None (two x y) (two (settled t x) (settled t y)) (two (new x) (new y)) (two (settled t (new x)) (settled t (new y))) =
      one x (settled t x) (new x) (settled t (new x)) (Some y ∷ []) (Some (settled t y) ∷ []) (Some (new y) ∷ []) (Some (settled t (new y)) ∷ []) facts.left.gives (calls_kept s.rights w false x facts.left.ready) (varies_given s.rights w false (as_type t) (new x))
      (one y (settled t y) (new y) (settled t (new y)) [] [] [] [] facts.right.gives (calls_kept s.rights w false y facts.right.ready) (varies_given s.rights w false (as_type t) (new y)) no_more) in
      node_step s compare h i j w false None (two x y) (two (new x) (new y)) js now refl f value.constant
      (record { form = refl; key = refl; held = refl; name = λ z. refl })
      (record {
        failing = facts.failing;
        stands = subst (Stood s.rights None (compared_sort o (sort_of x) (sort_of y))) (sym same) (as_before None (compared_sort o (sort_of x) (sort_of y)));
        wants = None;
        wanted = sym (ap (λ z. if is_open (compared_sort o (sort_of x) (sort_of y)) then all_wanted w false (row (all_given (z ∷ z ∷ []) (two x y))) else None) facts.old ∙ nothing (is_open (compared_sort o (sort_of x) (sort_of y))) t x y);
        sort = same;
        parts = subst (λ z. Become s.rights w false None (two x y) (all_given (z ∷ z ∷ []) (two x y)) (two (new x) (new y)) (all_given (compared_take s.rights (sort_of (new x)) (sort_of (new y)) ∷ compared_take s.rights (sort_of (new x)) (sort_of (new y)) ∷ []) (two (new x) (new y)))) (sym facts.old)
            (subst (λ z. Become s.rights w false None (two x y) (two (settled t x) (settled t y)) (two (new x) (new y)) (all_given (z ∷ z ∷ []) (two (new x) (new y)))) (sym facts.now) parts);
      })
    where
      known_both : (b c : Bool) → b ≡ false → c ≡ false → not (b || (c || false)) ≡ true
      known_both b c e f = ap (λ z. not (z || (c || false))) e ∙ ap (λ z. not (z || false)) f

      nothing : (b : Bool) (t : TypeTree) (x y : Part) → (if b then or_wanted (wanted w false (settled t x)) (or_wanted (wanted w false (settled t y)) None) else None) ≡ None
      nothing false t x y = refl
      nothing true t x y = ap (λ z. or_wanted z (or_wanted (wanted w false (settled t y)) None)) (wants_nothing t x) ∙ ap (λ z. or_wanted z None) (wants_nothing t y)
