-- The step of the induction at a binary operator that neither compares nor shifts.
use Rattle.std.proofs.Common.{◌≡◌, ◌∙◌, ◌⊎◌, inl, inr, ℕ, Bool, true, false, List, [], ◌∷◌, ◌++◌, Option, Some, None, refl, sym, ap, subst}
use Rattle.std.specs.Prelude.{◌||◌, not, if◌then◌else◌, is_some}
use Rattle.go_base.specs.declared.fault.FaultCode.TheVariants as code
use Rattle.go_constants.specs.declared.values.Const.{Const}
use Rattle.go_grammar.specs.declared.kind.Kind.TheVariants as kind
use Rattle.go_grammar.specs.declared.kind.Operator.{Operator}
use Rattle.go_grammar.specs.declared.kind.Operator.TheVariants as operator
use Rattle.go_types.specs.Trees.{TypeTree}
use Rattle.go_types.specs.Relations.{Rights}
use Rattle.go_types_relations.specs.Identity.{is_identical}
use Rattle.go_typed.specs.declared.form.Form.TheVariants as form
use Rattle.go_typed.specs.Trees.{Sort, Label, Typed, typed, Typeds, sort_of, form_of, label_of, row}
use Rattle.go_typed.specs.Trees as sort
use Rattle.go_exprs_rules.specs.declared.family.OpenKind.{OpenKind}
use Rattle.go_exprs_rules.specs.declared.family.OpenKind.TheVariants as untyped_kind
use Rattle.go_exprs_rules.specs.Faults.{fault_at, or_else}
use Rattle.go_exprs_rules.specs.Operators.{Common, in_type, in_kind, admits, family_in, zero_divisor, out_of_range, common, common_by, one_typed, constant_op, folded_both, open_value, result_in, binary_value, binary_failing, binary_failing_in, binary_sort, binary_sort_in, binary_take, binary_take_in, is_shift, operation_failing, operation_sort, operation_takes, shift_failing, shift_sort, shifted_take, open_kinds, common_kind}
use Rattle.go_exprs_rules.specs.Scopes.{Scope, Hint}
use Rattle.go_exprs_rules.specs.Settling.{Part, settled, unrepresented, all_unrepresented, Take, stay, default, as_type}
use Rattle.go_exprs_rules.specs.Sorts.{Stands, is_constant, is_open, is_unknown, retyped, constant_of, open_kind, own_type, suits, uint, takes_type, family_of_open}
use Rattle.go_exprs_rules.specs.Tables.{Parts, own_faults, built, all_given, label}
use Rattle.go_exprs_variables.specs.Operands.{Both}
use Rattle.go_exprs_variables.specs.Stood.{Stood, as_before, in_place, early}
use Rattle.go_exprs_variables.specs.Variables.{Standins, wanted, all_wanted, or_wanted, begun, Fits, AllFit, WillFit, takes, has}
use Rattle.go_exprs_variables.proofs.Parts.{both_none, neither}
use Rattle.go_exprs_variables.proofs.Unary.{IsValue}
use Rattle.go_exprs_variables.proofs.Meeting.{both_of, kinds_are, by_family}
use Rattle.go_exprs_variables.proofs.Binary.{TakesSo, same, at_once, BinaryRow, binary_row, admitted, never_folds, not_both}
use Rattle.go_exprs_variables.proofs.Assembly.{keeps_type}
use Rattle.go_exprs_variables.proofs.Assembly.{Become, no_more, one, sort_with, is_some_row}
use Rattle.go_exprs_variables.proofs.Operands.{Ready, Fitting, closed_so, open_so, operand, calls_kept, given_under, stays, sooner_taken, varies_given, wanting_is, quiet_is}
use Rattle.go_exprs_variables.proofs.NodeSteps.{node_step, stands_made, rule_of, parts_fit, parts_fit_later}

-- ---- operators that neither compare nor shift

abbrev pub compares : Operator → Bool
compares (operator.Compare c) = true
compares o = false

abbrev pub IsPlain : Operator → Type 0
IsPlain o = (compares o ≡ false) × (is_shift o ≡ false)

pub plain_failing : (rights : Rights) (o : Operator) (i j : ℕ) (x y : Part) → IsPlain o → operation_failing rights o i j x y ≡ binary_failing rights o i j x y
plain_failing rights operator.Either i j x y e = refl
plain_failing rights operator.Both i j x y e = refl
plain_failing rights (operator.Compute c) i j x y e = ap (λ b. if b then shift_failing rights (operator.Compute c) i j x y else binary_failing rights (operator.Compute c) i j x y) e.1
plain_failing rights (operator.Compare c) i j x y e = cc

pub plain_sort : (rights : Rights) (o : Operator) (x y : Stands) → IsPlain o → operation_sort rights o x y ≡ binary_sort rights o x y
plain_sort rights operator.Either x y e = refl
plain_sort rights operator.Both x y e = refl
plain_sort rights (operator.Compute c) x y e = ap (λ b. if b then shift_sort (operator.Compute c) x y else binary_sort rights (operator.Compute c) x y) e.1
plain_sort rights (operator.Compare c) x y e = cc

plain_takes : (rights : Rights) (o : Operator) (x y : Stands) → IsPlain o → operation_takes rights o x y ≡ binary_take rights x y ∷ binary_take rights x y ∷ []
plain_takes rights operator.Either x y e = refl
plain_takes rights operator.Both x y e = refl
plain_takes rights (operator.Compute c) x y e = ap (λ b. if b then shifted_take x y ∷ as_type uint ∷ [] else binary_take rights x y ∷ binary_take rights x y ∷ []) e.1
plain_takes rights (operator.Compare c) x y e = cc

-- ---- where one operand is a value of a type

-- they meet in that type, or nowhere
pub left_typed : (rights : Rights) (a b : Stands) (t : TypeTree) → own_type a ≡ Some t → (common rights a b ≡ None) ⊎ (common rights a b ≡ Some (in_type t))
left_typed rights a b t e = by_other (own_type b) refl
  where
    unless : (c : Bool) → ((if c then Some (in_type t) else None) ≡ None) ⊎ ((if c then Some (in_type t) else None) ≡ Some (in_type t))
    unless true = inr refl
    unless false = inl refl

    by_kind : (k : Option OpenKind) → (one_typed rights t k ≡ None) ⊎ (one_typed rights t k ≡ Some (in_type t))
    by_kind None = inl refl
    by_kind (Some k) = unless (suits rights k t)

    by_other : (o : Option TypeTree) → own_type b ≡ o → (common rights a b ≡ None) ⊎ (common rights a b ≡ Some (in_type t))
    by_other (Some u) f =
        subst (λ z. (z ≡ None) ⊎ (z ≡ Some (in_type t))) (sym (ap (λ z. common_by rights a b z (own_type b)) e ∙ ap (common_by rights a b (Some t)) f)) (unless (is_identical t u))
    by_other None f =
        subst (λ z. (z ≡ None) ⊎ (z ≡ Some (in_type t))) (sym (ap (λ z. common_by rights a b z (own_type b)) e ∙ ap (common_by rights a b (Some t)) f)) (by_kind (open_kind b))

pub right_typed : (rights : Rights) (a b : Stands) (t : TypeTree) → own_type a ≡ None → own_type b ≡ Some t → (common rights a b ≡ None) ⊎ (common rights a b ≡ Some (in_type t))
right_typed rights a b t e f = subst (λ z. (z ≡ None) ⊎ (z ≡ Some (in_type t))) (sym (ap (λ z. common_by rights a b z (own_type b)) e ∙ ap (common_by rights a b None) f)) (by_kind (open_kind a))
  where
    unless : (c : Bool) → ((if c then Some (in_type t) else None) ≡ None) ⊎ ((if c then Some (in_type t) else None) ≡ Some (in_type t))
    unless true = inr refl
    unless false = inl refl

    by_kind : (k : Option OpenKind) → (one_typed rights t k ≡ None) ⊎ (one_typed rights t k ≡ Some (in_type t))
    by_kind None = inl refl
    by_kind (Some k) = unless (suits rights k t)

module _ (s : Scope) (itself : (t : TypeTree) → is_identical t t ≡ true) (o : Operator) (plain : IsPlain o) (h : Hint) (i j : ℕ) (w : Standins) (a : Bool) where
  abbrev two : Part → Part → Parts
  two x y = Some x ∷ Some y ∷ []

  abbrev both : Part → Part → Typeds TypeTree
  both x y = sort.more x (sort.more y sort.none)

  abbrev ready : Part → Type 0
  ready x = Ready s.rights w a x

  abbrev new : Part → Part
  new x = begun w a x

  known_both : (b c : Bool) → b ≡ false → c ≡ false → not (b || (c || false)) ≡ true
  known_both b c e f = ap (λ z. not (z || (c || false))) e ∙ ap (λ z. not (z || false)) f

  -- ---- the parts, once they have what the node gives

  typed_parts : (u : Option TypeTree) (t : TypeTree) (x y : Part) → ready x → ready y → Fitting s.rights w a t x → Fitting s.rights w a t y
      → Become s.rights w a u (two x y) (two (settled t x) (settled t y)) (two (new x) (new y)) (two (settled t (new x)) (settled t (new y)))
  typed_parts u t x y r q f g =
      one x (settled t x) (new x) (settled t (new x)) (Some y ∷ []) (Some (settled t y) ∷ []) (Some (new y) ∷ []) (Some (settled t (new y)) ∷ []) (given_under s.rights w a u t x r f) (calls_kept s.rights w a x r) (varies_given s.rights w a (as_type t) (new x))
      (one y (settled t y) (new y) (settled t (new y)) [] [] [] [] (given_under s.rights w a u t y q g) (calls_kept s.rights w a y q) (varies_given s.rights w a (as_type t) (new y)) no_more)

  waiting_parts : (x y : Part) → ready x → ready y → wanted w a x ≡ None → wanted w a y ≡ None → Become s.rights w a None (two x y) (two x y) (two (new x) (new y)) (two (new x) (new y))
  waiting_parts x y r q e f =
      one x x (new x) (new x) (Some y ∷ []) (Some y ∷ []) (Some (new y) ∷ []) (Some (new y) ∷ []) (stays s.rights w a x None r e) (calls_kept s.rights w a x r) refl
      (one y y (new y) (new y) [] [] [] [] (stays s.rights w a y None q f) (calls_kept s.rights w a y q) refl no_more)

  sooner_parts : (t : TypeTree) (x y : Part) → ready x → ready y → Fits w a (settled t x) → Fits w a (settled t y)
      → Become s.rights w a (Some t) (two x y) (two x y) (two (new x) (new y)) (two (settled t (new x)) (settled t (new y)))
  sooner_parts t x y r q f g =
      one x x (new x) (settled t (new x)) (Some y ∷ []) (Some y ∷ []) (Some (new y) ∷ []) (Some (settled t (new y)) ∷ []) (sooner_taken s.rights w a t x r f) (calls_kept s.rights w a x r) (varies_given s.rights w a (as_type t) (new x))
      (one y y (new y) (settled t (new y)) [] [] [] [] (sooner_taken s.rights w a t y q g) (calls_kept s.rights w a y q) (varies_given s.rights w a (as_type t) (new y)) no_more)

  -- ---- operands that wait for their type

  typed_meeting : (x y : Part) (t : TypeTree) → (common s.rights (sort_of x) (sort_of y) ≡ None) ⊎ (common s.rights (sort_of x) (sort_of y) ≡ Some (in_type t)) → binary_failing s.rights o i j x y ≡ [] → common s.rights (sort_of x) (sort_of y) ≡ Some (in_type t)
  typed_meeting x y t (inr e) f = e
  typed_meeting x y t (inl e) f = let two : fault_at code.Operands i j ≡ [] = sym (ap (binary_failing_in s.rights o i j x y) e) ∙ f in cc

  abbrev taking : Part → Part → List Take
  taking x y = binary_take s.rights (sort_of x) (sort_of y) ∷ binary_take s.rights (sort_of x) (sort_of y) ∷ []

  pub record Waiting (x y : Part) : Type 0 where
    pub wants : Option TypeTree
    pub wanted : wants ≡ all_wanted w a (both x y)
    pub sort : binary_sort s.rights o (sort_of (new x)) (sort_of (new y)) ≡ sort_with s.rights w a wants (binary_sort s.rights o (sort_of x) (sort_of y))
    pub parts : Become s.rights w a wants (two x y) (two x y) (two (new x) (new y)) (all_given (taking (new x) (new y)) (two (new x) (new y)))

  retyped_value : (t : TypeTree) (k : OpenKind) → IsValue (open_value k) → retyped t (open_value k) ≡ sort.Value t
  retyped_value t untyped_kind.Boolean v = refl
  retyped_value t untyped_kind.Integer v = refl
  retyped_value t untyped_kind.Rune v = refl
  retyped_value t untyped_kind.Text v = let e = v.known in cc

  -- one operand is a value of the type by now, and both take it
  met : (t : TypeTree) (k : OpenKind) (x y : Part) → ready x → ready y → Fits w a (settled t x) → Fits w a (settled t y) → binary_sort s.rights o (sort_of x) (sort_of y) ≡ open_value k → IsValue (open_value k)
      → common s.rights (sort_of (new x)) (sort_of (new y)) ≡ Some (in_type t) → binary_value o (sort_of (new x)) (sort_of (new y)) ≡ None → Some t ≡ all_wanted w a (both x y) → Waiting x y
  met t k x y r q f g old known is none want =
      let take : binary_take s.rights (sort_of (new x)) (sort_of (new y)) ≡ as_type t = ap (binary_take_in (sort_of (new x)) (sort_of (new y))) is in
      record {
        wants = Some t;
        wanted = want;
        sort = ap (binary_sort_in o (sort_of (new x)) (sort_of (new y))) is ∙ ap (result_in (in_type t)) none ∙ sym (retyped_value t k known) ∙ ap (retyped t) (sym old);
        parts = subst (λ z. Become s.rights w a (Some t) (two x y) (two x y) (two (new x) (new y)) (all_given (z ∷ z ∷ []) (two (new x) (new y)))) (sym take) (sooner_parts t x y r q f g);
      }

  no_second : (c : Option Const) → folded_both (constant_op o) c None ≡ None
  no_second None = refl
  no_second (Some c) = refl

  waits : (t : TypeTree) (k : OpenKind) (x y : Part) (p q : Option TypeTree) → ready x → ready y → Fitting s.rights w a t x → Fitting s.rights w a t y → Fits w a (settled t x) → Fits w a (settled t y) → is_open (sort_of x) ≡ true → is_open (sort_of y) ≡ true
      → wanted w a x ≡ p → wanted w a y ≡ q → binary_sort s.rights o (sort_of x) (sort_of y) ≡ open_value k → IsValue (open_value k) → binary_take s.rights (sort_of x) (sort_of y) ≡ stay
      → binary_failing s.rights o i j (new x) (new y) ≡ [] → Waiting x y
  waits t k x y None None rx ry fx fy gx gy ox oy wx wy old known take new_failing =
      let sx : sort_of (new x) ≡ sort_of x = quiet_is s.rights w a x rx ox wx in
      let sy : sort_of (new y) ≡ sort_of y = quiet_is s.rights w a y ry oy wy in
      let stay_still : binary_take s.rights (sort_of (new x)) (sort_of (new y)) ≡ stay = ap (λ z. binary_take s.rights z (sort_of (new y))) sx ∙ ap (binary_take s.rights (sort_of x)) sy ∙ take in
      record {
        wants = None;
        wanted = sym (ap (λ z. or_wanted z (or_wanted (wanted w a y) None)) wx ∙ ap (λ z. or_wanted z None) wy);
        sort = ap (λ z. binary_sort s.rights o z (sort_of (new y))) sx ∙ ap (binary_sort s.rights o (sort_of x)) sy;
        parts = subst (λ z. Become s.rights w a None (two x y) (two x y) (two (new x) (new y)) (all_given (z ∷ z ∷ []) (two (new x) (new y)))) (sym stay_still) (waiting_parts x y rx ry wx wy);
      }
  waits t k x y (Some u) q rx ry fx fy gx gy ox oy wx wy old known take new_failing =
      let is = wanting_is s.rights w a t u x rx fx wx in
      let meeting = typed_meeting (new x) (new y) t (left_typed s.rights (sort_of (new x)) (sort_of (new y)) t (ap own_type is.1)) new_failing in
      met t k x y rx ry gx gy old known meeting (ap (λ z. folded_both (constant_op o) (constant_of z) (constant_of (sort_of (new y)))) is.1)
      (sym (ap (λ z. or_wanted z (or_wanted (wanted w a y) None)) wx ∙ ap Some is.0))
  waits t k x y None (Some u) rx ry fx fy gx gy ox oy wx wy old known take new_failing =
      let is = wanting_is s.rights w a t u y ry fy wy in
      let first : own_type (sort_of (new x)) ≡ None = ap own_type (quiet_is s.rights w a x rx ox wx) ∙ no_type (sort_of x) ox in
      let meeting = typed_meeting (new x) (new y) t (right_typed s.rights (sort_of (new x)) (sort_of (new y)) t first (ap own_type is.1)) new_failing in
      met t k x y rx ry gx gy old known meeting (ap (λ z. folded_both (constant_op o) (constant_of (sort_of (new x))) (constant_of z)) is.1 ∙ no_second (constant_of (sort_of (new x))))
      (sym (ap (λ z. or_wanted z (or_wanted (wanted w a y) None)) wx ∙ ap (λ z. or_wanted z None) wy ∙ ap Some is.0))
    where
      no_type : (z : Stands) → is_open z ≡ true → own_type z ≡ None
      no_type (sort.Open v) e = refl
      no_type (sort.OpenConstant v) e = refl
      no_type (sort.Value v) e = cc
      no_type (sort.Constant v c) e = cc
      no_type sort.Nothing e = refl
      no_type sort.Unknown e = refl
      no_type sort.Blank e = refl
      no_type sort.Nil e = refl
      no_type (sort.Builtin b) e = refl
      no_type sort.Println e = refl
      no_type sort.Package e = refl
      no_type (sort.IsType v) e = refl
      no_type (sort.Results v) e = refl

  -- ---- the node

  -- the operand has the type in which the operands meet, or takes it
  pub data Side (t : TypeTree) (b : Stands) : Type 0 where
    typed_side : own_type b ≡ Some t → Side t b
    other_side : (u : TypeTree) → own_type b ≡ Some u → Side t b
    open_side : (k : OpenKind) → open_kind b ≡ Some k → suits s.rights k t ≡ true → Side t b

  typed_closed : (b : Stands) (t : TypeTree) → own_type b ≡ Some t → (is_open b ≡ false) × (takes_type b ≡ false)
  typed_closed (sort.Value u) t e = (refl, refl)
  typed_closed (sort.Constant u c) t e = (refl, refl)
  typed_closed (sort.Open u) t e = cc
  typed_closed (sort.OpenConstant c) t e = cc
  typed_closed sort.Nothing t e = cc
  typed_closed sort.Unknown t e = cc
  typed_closed sort.Blank t e = cc
  typed_closed sort.Nil t e = cc
  typed_closed (sort.Builtin b) t e = cc
  typed_closed sort.Println t e = cc
  typed_closed sort.Package t e = cc
  typed_closed (sort.IsType u) t e = cc
  typed_closed (sort.Results u) t e = cc

  fitting : (t : TypeTree) (x : Part) → Side t (sort_of x) → Fits w a (settled t x) → Fitting s.rights w a t x
  fitting t x (typed_side e) f = let c = typed_closed (sort_of x) t e in closed_so c.0 (subst (Fits w a) (keeps_type t x c.1) f)
  fitting t x (other_side u e) f = let c = typed_closed (sort_of x) u e in closed_so c.0 (subst (Fits w a) (keeps_type t x c.1) f)
  fitting t x (open_side k e m) f = open_so k e m f

  one_side : (t u : TypeTree) (k : Option OpenKind) → one_typed s.rights u k ≡ Some (in_type t) → (u ≡ t) × ((m : OpenKind) × (k ≡ Some m) × (suits s.rights m t ≡ true))
  one_side t u None e = cc
  one_side t u (Some k) e = by_test (suits s.rights k u) refl e
    where
      by_test : (b : Bool) → suits s.rights k u ≡ b → (if b then Some (in_type u) else None) ≡ Some (in_type t) → (u ≡ t) × ((m : OpenKind) × (Some k ≡ Some m) × (suits s.rights m t ≡ true))
      by_test true f g = let same : u ≡ t = cc in (same, (k, refl, ap (suits s.rights k) (sym same) ∙ f))
      by_test false f g = cc

  no_type_kinds : (k l : Option OpenKind) (t : TypeTree) → open_kinds k l ≡ Some (in_type t) → ⊥
  no_type_kinds (Some k) (Some l) t e = let is = kinds_are s.rights itself (common_kind k l) (in_type t) e in let two : in_type t ≡ in_kind is.0 = is.2 in cc
  no_type_kinds (Some k) None t e = cc
  no_type_kinds None l t e = cc

  sides : (b c : Stands) (t : TypeTree) (p q : Option TypeTree) → own_type b ≡ p → own_type c ≡ q → common_by s.rights b c p q ≡ Some (in_type t) → Side t b × Side t c
  sides b c t (Some p) (Some q) e f g = (other_side p e, other_side q f)
  sides b c t (Some p) None e f g = let o = one_side t p (open_kind c) g in (typed_side (e ∙ ap Some o.0), open_side o.1.0 o.1.1 o.1.2)
  sides b c t None (Some q) e f g = let o = one_side t q (open_kind b) g in (open_side o.1.0 o.1.1 o.1.2, typed_side (f ∙ ap Some o.0))
  sides b c t None None e f g = absurd (no_type_kinds (open_kind b) (open_kind c) t g)

  both_open : (k : OpenKind) (p q : Option OpenKind) → open_kinds p q ≡ Some (in_kind k) → (m : OpenKind) × (n : OpenKind) × (p ≡ Some m) × (q ≡ Some n) × (family_of_open m ≡ family_of_open k) × (family_of_open n ≡ family_of_open k)
  both_open k None q e = cc
  both_open k (Some m) None e = cc
  both_open k (Some m) (Some n) e =
      let is = kinds_are s.rights itself (common_kind m n) (in_kind k) e in
      let same : is.0 ≡ k = let two : in_kind k ≡ in_kind is.0 = is.2 in cc in
      let fam = both_of m n is.0 is.1 in
      (m, n, refl, refl, sym fam.1 ∙ ap family_of_open same, fam.0 ∙ sym fam.1 ∙ ap family_of_open same)

  untyped_both : (b c : Stands) (k : OpenKind) (p q : Option TypeTree) → common_by s.rights b c p q ≡ Some (in_kind k) → open_kinds (open_kind b) (open_kind c) ≡ Some (in_kind k)
  untyped_both b c k (Some p) (Some q) e = by_test (is_identical p q) e
    where
      by_test : (d : Bool) → (if d then Some (in_type p) else None) ≡ Some (in_kind k) → open_kinds (open_kind b) (open_kind c) ≡ Some (in_kind k)
      by_test true e = cc
      by_test false e = cc
  untyped_both b c k (Some p) None e = absurd (no_kind_one p (open_kind c) e)
    where
      no_kind_one : (u : TypeTree) (m : Option OpenKind) → one_typed s.rights u m ≡ Some (in_kind k) → ⊥
      no_kind_one u None e = cc
      no_kind_one u (Some m) e = by_test (suits s.rights m u) e
        where
          by_test : (d : Bool) → (if d then Some (in_type u) else None) ≡ Some (in_kind k) → ⊥
          by_test true e = cc
          by_test false e = cc
  untyped_both b c k None (Some q) e = absurd (no_kind_one q (open_kind b) e)
    where
      no_kind_one : (u : TypeTree) (m : Option OpenKind) → one_typed s.rights u m ≡ Some (in_kind k) → ⊥
      no_kind_one u None e = cc
      no_kind_one u (Some m) e = by_test (suits s.rights m u) e
        where
          by_test : (d : Bool) → (if d then Some (in_type u) else None) ≡ Some (in_kind k) → ⊥
          by_test true e = cc
          by_test false e = cc
  untyped_both b c k None None e = e

  open_is : (b : Stands) (k : OpenKind) → open_kind b ≡ Some k → is_open b ≡ true
  open_is b k e = ap is_some e

  same_closed : (u : Option TypeTree) (t : TypeTree) (b c : Stands) → Stood s.rights u b c → u ≡ None → b ≡ sort.Value t → c ≡ b
  same_closed u t b c (as_before v z) e f = refl
  same_closed u t b c (in_place v q z) e f = cc
  same_closed u t b c (early q z k m n) e f = cc

  same_take : (u : Option TypeTree) (k l : Take) → TakesSo u k l → u ≡ None → l ≡ k
  same_take u k l (same v z) e = refl
  same_take u k l (at_once t) e = cc

  still_known : (u : Option TypeTree) (b c : Stands) → Stood s.rights u b c → is_unknown b ≡ false → is_unknown c ≡ false
  still_known u b c (as_before v z) e = e
  still_known u b c (in_place v t z) e = refl
  still_known u b c (early t z k m n) e = refl

  abbrev sorted : Part → Part → Stands
  sorted x y = binary_sort s.rights o (sort_of x) (sort_of y)

  abbrev typed_node : Part → Part → Part
  typed_node x y = typed (form.Binary o) i j (label (form.Binary o) (sorted x y) (two x y)) (row (all_given (taking x y) (two x y)))

  -- What the step needs: the row, and that the operands with variables in them are known.
  pub record BinaryStep (x y : Part) : Type 0 where
    pub later : Option TypeTree
    pub rule : BinaryRow s.rights itself later o i j x y (new x) (new y)
    pub left : is_unknown (sort_of (new x)) ≡ false
    pub right : is_unknown (sort_of (new y)) ≡ false
    pub wants : Option TypeTree
    pub wanted : wants ≡ (if is_open (sorted x y) then all_wanted w a (row (all_given (taking x y) (two x y))) else None)
    pub sort : sorted (new x) (new y) ≡ sort_with s.rights w a wants (sorted x y)
    pub parts : Become s.rights w a wants (two x y) (all_given (taking x y) (two x y)) (two (new x) (new y)) (all_given (taking (new x) (new y)) (two (new x) (new y)))
    pub left_fits : WillFit s.rights w a x
    pub right_fits : WillFit s.rights w a y

  will_fit : (t : TypeTree) (x : Part) → Fitting s.rights w a t x → unrepresented s.rights t x ≡ [] → WillFit s.rights w a x
  will_fit t x (closed_so e fits) r = has e fits
  will_fit t x (open_so k e m fits) r = takes t k e m (λ c. r) fits

  -- the operands have the constants in them that their type has
  both_in_range : (t : TypeTree) (x y : Part) → common s.rights (sort_of x) (sort_of y) ≡ Some (in_type t) → binary_failing s.rights o i j x y ≡ [] → (unrepresented s.rights t x ≡ []) × (unrepresented s.rights t y ≡ [])
  both_in_range t x y is f =
      let out = out_of_range s.rights i j (in_type t) (binary_value o (sort_of x) (sort_of y)) in
      let refuse = unrepresented s.rights t x ++ unrepresented s.rights t y in
      let ok = admitted (admits o (family_in s.rights (in_type t))) (or_else (refuse ++ zero_divisor o y) out) refuse i j (sym (ap (binary_failing_in s.rights o i j x y) is) ∙ f) in
      let both = both_none refuse (zero_divisor o y) (neither (refuse ++ zero_divisor o y) out ok.1).0 in
      both_none (unrepresented s.rights t x) (unrepresented s.rights t y) both.0

  in_one_type : (t : TypeTree) (x y : Part) → ready x → ready y → common s.rights (sort_of x) (sort_of y) ≡ Some (in_type t) → binary_failing s.rights o i j x y ≡ [] → IsValue (sorted x y) → WillFit s.rights w a (typed_node x y) → BinaryStep x y
  in_one_type t x y rx ry is f value fits =
      let take : binary_take s.rights (sort_of x) (sort_of y) ≡ as_type t = ap (binary_take_in (sort_of x) (sort_of y)) is in
      let old : sorted x y ≡ sort.Value t =
      ap (binary_sort_in o (sort_of x) (sort_of y)) is ∙ ap (result_in (in_type t)) (never_folds (in_type t) (binary_value o (sort_of x) (sort_of y)) (subst IsValue (ap (binary_sort_in o (sort_of x) (sort_of y)) is) value)) in
      let closed : is_open (sorted x y) ≡ false = ap is_open old in
      let all : AllFit w a (both (settled t x) (settled t y)) = subst (λ z. AllFit w a (row (all_given (z ∷ z ∷ []) (two x y)))) take (parts_fit s.rights w a (form.Binary o) i j (label (form.Binary o) (sorted x y) (two x y)) (row (all_given (taking x y) (two x y))) value.constant closed fits) in
      let side = sides (sort_of x) (sort_of y) t (own_type (sort_of x)) (own_type (sort_of y)) refl refl is in
      let fx = fitting t x side.0 all.0 in
      let fy = fitting t y side.1 all.1.0 in
      let ox = operand s.rights w a t x rx fx in
      let oy = operand s.rights w a t y ry fy in
      let ops : (c : Common) → common s.rights (sort_of x) (sort_of y) ≡ Some c → Both s.rights None c x y (new x) (new y) =
      (λ c e. let one : in_type t ≡ c = cc in subst (λ c. Both s.rights None c x y (new x) (new y)) one (record { left = ox; right = oy; later = λ t e. cc })) in
      let r = binary_row s.rights itself None o i j x y (new x) (new y) ops f value in
      let again : binary_take s.rights (sort_of (new x)) (sort_of (new y)) ≡ as_type t = same_take None (binary_take s.rights (sort_of x) (sort_of y)) (binary_take s.rights (sort_of (new x)) (sort_of (new y))) r.take refl ∙ take in
      record {
        later = None;
        rule = r;
        left = still_known (Some t) (sort_of x) (sort_of (new x)) ox.stands rx.known;
        right = still_known (Some t) (sort_of y) (sort_of (new y)) oy.stands ry.known;
        wants = None;
        wanted = sym (ap (λ b. if b then all_wanted w a (row (all_given (taking x y) (two x y))) else None) closed);
        sort = same_closed None t (sorted x y) (sorted (new x) (new y)) r.stands refl old;
        left_fits = will_fit t x fx (both_in_range t x y is f).0;
        right_fits = will_fit t y fy (both_in_range t x y is f).1;
        parts = subst (λ z. Become s.rights w a None (two x y) (all_given (z ∷ z ∷ []) (two x y)) (two (new x) (new y)) (all_given (taking (new x) (new y)) (two (new x) (new y)))) (sym take)
            (subst (λ z. Become s.rights w a None (two x y) (two (settled t x) (settled t y)) (two (new x) (new y)) (all_given (z ∷ z ∷ []) (two (new x) (new y)))) (sym again) (typed_parts None t x y rx ry fx fy));
      }

  kind_of_value : (k : OpenKind) → IsValue (open_value k) → open_kind (open_value k) ≡ Some k
  kind_of_value untyped_kind.Boolean v = refl
  kind_of_value untyped_kind.Integer v = refl
  kind_of_value untyped_kind.Rune v = refl
  kind_of_value untyped_kind.Text v = let e = v.known in cc

  fits_both : (k : OpenKind) (t : TypeTree) (x y : Part) → ready x → ready y → common s.rights (sort_of x) (sort_of y) ≡ Some (in_kind k) → binary_failing s.rights o i j x y ≡ [] → IsValue (sorted x y) → sorted x y ≡ open_value k → IsValue (open_value k)
      → binary_take s.rights (sort_of x) (sort_of y) ≡ stay → open_kind (sorted x y) ≡ Some k → Fitting s.rights w a t x → Fitting s.rights w a t y → Fits w a (settled t x) → Fits w a (settled t y) → is_open (sort_of x) ≡ true → is_open (sort_of y) ≡ true
      → all_unrepresented s.rights t (both x y) ≡ [] → BinaryStep x y
  fits_both k t x y rx ry is f value old known take open_now fx fy gx gy px py range =
      let ox = operand s.rights w a t x rx fx in
      let oy = operand s.rights w a t y ry fy in
      let each = both_none (unrepresented s.rights t x) (unrepresented s.rights t y ++ []) range in
      let second = both_none (unrepresented s.rights t y) [] each.1 in
      let ops : (c : Common) → common s.rights (sort_of x) (sort_of y) ≡ Some c → Both s.rights (Some t) c x y (new x) (new y) =
      (λ c e. let one : in_kind k ≡ c = cc in subst (λ c. Both s.rights (Some t) c x y (new x) (new y)) one
      (record { left = ox; right = oy; later = λ u g. let same : t ≡ u = cc in (ap (λ z. unrepresented s.rights z x) (sym same) ∙ each.0, ap (λ z. unrepresented s.rights z y) (sym same) ∙ second.0) })) in
      let r = binary_row s.rights itself (Some t) o i j x y (new x) (new y) ops f value in
      let z = waits t k x y (wanted w a x) (wanted w a y) rx ry fx fy gx gy px py refl refl old known take r.failing in
      let still : is_open (sorted x y) ≡ true = open_is (sorted x y) k open_now in
      record {
        later = Some t;
        rule = r;
        left = still_known (Some t) (sort_of x) (sort_of (new x)) ox.stands rx.known;
        right = still_known (Some t) (sort_of y) (sort_of (new y)) oy.stands ry.known;
        wants = z.wants;
        wanted = z.wanted ∙ sym (ap (λ b. if b then all_wanted w a (row (all_given (taking x y) (two x y))) else None) still ∙ ap (λ q. all_wanted w a (row (all_given (q ∷ q ∷ []) (two x y)))) take);
        sort = z.sort;
        left_fits = will_fit t x fx each.0;
        right_fits = will_fit t y fy second.0;
        parts = subst (λ q. Become s.rights w a z.wants (two x y) (all_given (q ∷ q ∷ []) (two x y)) (two (new x) (new y)) (all_given (taking (new x) (new y)) (two (new x) (new y)))) (sym take) z.parts;
      }

  in_one_kind : (k : OpenKind) (x y : Part) → ready x → ready y → common s.rights (sort_of x) (sort_of y) ≡ Some (in_kind k) → binary_failing s.rights o i j x y ≡ [] → IsValue (sorted x y) → WillFit s.rights w a (typed_node x y) → BinaryStep x y
  in_one_kind k x y rx ry is f value fits =
      let value_in_kind : IsValue (result_in (in_kind k) (binary_value o (sort_of x) (sort_of y))) = subst IsValue (ap (binary_sort_in o (sort_of x) (sort_of y)) is) value in
      let none : binary_value o (sort_of x) (sort_of y) ≡ None = never_folds (in_kind k) (binary_value o (sort_of x) (sort_of y)) value_in_kind in
      let old : sorted x y ≡ open_value k = ap (binary_sort_in o (sort_of x) (sort_of y)) is ∙ ap (result_in (in_kind k)) none in
      let known : IsValue (open_value k) = subst IsValue old value in
      let take : binary_take s.rights (sort_of x) (sort_of y) ≡ stay =
      ap (binary_take_in (sort_of x) (sort_of y)) is ∙ ap (λ b. if b then default else stay) (not_both (constant_op o) (constant_of (sort_of x)) (constant_of (sort_of y)) none) in
      let open_now : open_kind (sorted x y) ≡ Some k = ap open_kind old ∙ kind_of_value k known in
      let node_label : Label TypeTree = label (form.Binary o) (sorted x y) (two x y) in
      let later = parts_fit_later s.rights w a (form.Binary o) i j node_label (both x y) value.constant k open_now (subst (λ z. WillFit s.rights w a (typed (form.Binary o) i j node_label (row (all_given (z ∷ z ∷ []) (two x y))))) take fits) in
      let t = later.type in
      let kinds = both_open k (open_kind (sort_of x)) (open_kind (sort_of y)) (untyped_both (sort_of x) (sort_of y) k (own_type (sort_of x)) (own_type (sort_of y)) is) in
      let fx : Fitting s.rights w a t x = open_so kinds.0 kinds.2 (by_family s.rights itself k kinds.0 t kinds.4 later.suits) later.fit.0 in
      let fy : Fitting s.rights w a t y = open_so kinds.1 kinds.3 (by_family s.rights itself k kinds.1 t kinds.5 later.suits) later.fit.1.0 in
      fits_both k t x y rx ry is f value old known take open_now fx fy later.fit.0 later.fit.1.0 (open_is (sort_of x) kinds.0 kinds.2) (open_is (sort_of y) kinds.1 kinds.3) later.range

  by_meeting : (c : Option Common) (x y : Part) → ready x → ready y → common s.rights (sort_of x) (sort_of y) ≡ c → binary_failing s.rights o i j x y ≡ [] → IsValue (sorted x y) → WillFit s.rights w a (typed_node x y) → BinaryStep x y
  by_meeting None x y rx ry is f value fits = let two : fault_at code.Operands i j ≡ [] = sym (ap (binary_failing_in s.rights o i j x y) is) ∙ f in cc
  by_meeting (Some (in_type t)) x y rx ry is f value fits = in_one_type t x y rx ry is f value fits
  by_meeting (Some (in_kind k)) x y rx ry is f value fits = in_one_kind k x y rx ry is f value fits

  -- Both operands will fit.
  pub binary_fits : (x y : Part) → ready x → ready y → own_faults s (kind.Binary o) h i j (two x y) ≡ [] → IsValue (sorted x y) → WillFit s.rights w a (built s (kind.Binary o) h i j (two x y)) → WillFit s.rights w a x × WillFit s.rights w a y
  binary_fits x y rx ry f value fits =
      let judged = known_both (is_unknown (sort_of x)) (is_unknown (sort_of y)) rx.known ry.known in
      let rule : binary_failing s.rights o i j x y ≡ [] = sym (plain_failing s.rights o i j x y plain) ∙ rule_of s (kind.Binary o) h i j (two x y) judged f in
      let shape : built s (kind.Binary o) h i j (two x y) ≡ typed_node x y =
      stands_made s (kind.Binary o) h i j (two x y) judged f
      ∙ ap (λ z. typed (form.Binary o) i j (label (form.Binary o) z (two x y)) (row (all_given (operation_takes s.rights o (sort_of x) (sort_of y)) (two x y)))) (plain_sort s.rights o (sort_of x) (sort_of y) plain)
      ∙ ap (λ z. typed (form.Binary o) i j (label (form.Binary o) (sorted x y) (two x y)) (row (all_given z (two x y)))) (plain_takes s.rights o (sort_of x) (sort_of y) plain) in
      let b = by_meeting (common s.rights (sort_of x) (sort_of y)) x y rx ry refl rule value (subst (WillFit s.rights w a) shape fits) in
      (b.left_fits, b.right_fits)

  -- The whole step at a binary operator: both parts with variables in them, the node over them.
  pub binary_step : (x y : Part) → ready x → ready y → own_faults s (kind.Binary o) h i j (two x y) ≡ [] → IsValue (sorted x y) → WillFit s.rights w a (built s (kind.Binary o) h i j (two x y))
      → (own_faults s (kind.Binary o) h i j (two (new x) (new y)) ≡ []) × (built s (kind.Binary o) h i j (two (new x) (new y)) ≡ begun w a (built s (kind.Binary o) h i j (two x y)))
  binary_step x y rx ry f value fits =
      let judged = known_both (is_unknown (sort_of x)) (is_unknown (sort_of y)) rx.known ry.known in
      let rule : binary_failing s.rights o i j x y ≡ [] = sym (plain_failing s.rights o i j x y plain) ∙ rule_of s (kind.Binary o) h i j (two x y) judged f in
      let sort_is : operation_sort s.rights o (sort_of x) (sort_of y) ≡ sorted x y = plain_sort s.rights o (sort_of x) (sort_of y) plain in
      let sort_now : operation_sort s.rights o (sort_of (new x)) (sort_of (new y)) ≡ sorted (new x) (new y) = plain_sort s.rights o (sort_of (new x)) (sort_of (new y)) plain in
      let takes_are : operation_takes s.rights o (sort_of x) (sort_of y) ≡ taking x y = plain_takes s.rights o (sort_of x) (sort_of y) plain in
      let takes_now : operation_takes s.rights o (sort_of (new x)) (sort_of (new y)) ≡ taking (new x) (new y) = plain_takes s.rights o (sort_of (new x)) (sort_of (new y)) plain in
      let shape : built s (kind.Binary o) h i j (two x y) ≡ typed_node x y =
      stands_made s (kind.Binary o) h i j (two x y) judged f
      ∙ ap (λ z. typed (form.Binary o) i j (label (form.Binary o) z (two x y)) (row (all_given (operation_takes s.rights o (sort_of x) (sort_of y)) (two x y)))) sort_is
      ∙ ap (λ z. typed (form.Binary o) i j (label (form.Binary o) (sorted x y) (two x y)) (row (all_given z (two x y)))) takes_are in
      let b = by_meeting (common s.rights (sort_of x) (sort_of y)) x y rx ry refl rule value (subst (WillFit s.rights w a) shape fits) in
      let judged_now = known_both (is_unknown (sort_of (new x))) (is_unknown (sort_of (new y))) b.left b.right in
      let stood : Stood s.rights b.later (operation_sort s.rights o (sort_of x) (sort_of y)) (operation_sort s.rights o (sort_of (new x)) (sort_of (new y))) =
      subst (λ z. Stood s.rights b.later z (operation_sort s.rights o (sort_of (new x)) (sort_of (new y)))) (sym sort_is) (subst (Stood s.rights b.later (sorted x y)) (sym sort_now) b.rule.stands) in
      let some : is_some_row s.rights w a (all_given (operation_takes s.rights o (sort_of (new x)) (sort_of (new y))) (two (new x) (new y))) ≡ true = ap (λ z. is_some_row s.rights w a (all_given z (two (new x) (new y)))) takes_now in
      node_step s (kind.Binary o) h i j w a b.later (two x y) (two (new x) (new y)) judged judged_now some f (ap is_constant sort_is ∙ value.constant)
      (record { form = refl; key = refl; held = refl; name = λ z. refl })
      (record {
        failing = plain_failing s.rights o i j (new x) (new y) plain ∙ b.rule.failing;
        stands = stood;
        wants = b.wants;
        wanted = b.wanted ∙ sym (ap (λ z. if is_open z then all_wanted w a (row (all_given (operation_takes s.rights o (sort_of x) (sort_of y)) (two x y))) else None) sort_is
            ∙ ap (λ z. if is_open (sorted x y) then all_wanted w a (row (all_given z (two x y))) else None) takes_are);
        sort = sort_now ∙ b.sort ∙ ap (sort_with s.rights w a b.wants) (sym sort_is);
        parts = subst (λ z. Become s.rights w a b.wants (two x y) (all_given z (two x y)) (two (new x) (new y)) (all_given (operation_takes s.rights o (sort_of (new x)) (sort_of (new y))) (two (new x) (new y)))) (sym takes_are)
            (subst (λ z. Become s.rights w a b.wants (two x y) (all_given (taking x y) (two x y)) (two (new x) (new y)) (all_given z (two (new x) (new y)))) (sym takes_now) b.parts);
      })
