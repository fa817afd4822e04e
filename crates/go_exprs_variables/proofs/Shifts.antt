-- Shifts, where variables stand in place of constants in the operands.
use Rattle.std.proofs.Common.{◌≡◌, ◌∙◌, ℕ, Bool, true, false, [], Option, Some, None, refl, sym, ap, subst}
use Rattle.std.specs.Prelude.{◌&&◌, not}
use Rattle.go_base.specs.declared.fault.FaultCode.TheVariants as code
use Rattle.go_constants.specs.declared.values.Const.TheVariants as const
use Rattle.go_grammar.specs.declared.kind.Operator.{Operator}
use Rattle.go_types.specs.Trees.{TypeTree}
use Rattle.go_types.specs.Relations.{Rights}
use Rattle.go_types_relations.specs.Identity.{is_identical}
use Rattle.go_typed.specs.Trees.{Sort, typed, sort_of}
use Rattle.go_typed.specs.Trees as sort
use Rattle.go_exprs_rules.specs.declared.family.Family.TheVariants as family
use Rattle.go_exprs_rules.specs.declared.family.OpenKind.{OpenKind}
use Rattle.go_exprs_rules.specs.declared.family.OpenKind.TheVariants as untyped_kind
use Rattle.go_exprs_rules.specs.Faults.{or_else}
use Rattle.go_exprs_rules.specs.Operators.{Common, in_type, in_kind, constant_op, family_in, own, own_by, result_in, value_in, open_value, out_of_range, binary_value, is_count, shift_failing, shift_failing_in, shift_sort, shift_sort_in}
use Rattle.go_exprs_rules.specs.Settling.{Part, unrepresented}
use Rattle.go_exprs_rules.specs.Sorts.{Stands, constant_of, is_family, family_of_open, is_whole, is_negative, open_kind, own_type, suits, uint}
use Rattle.go_exprs_variables.specs.Stood.{Stood, as_before, in_place, early}
use Rattle.go_exprs_variables.proofs.Families.{suited}
use Rattle.go_exprs_variables.proofs.Unary.{IsValue}
use Rattle.go_exprs_variables.proofs.Parts.{Operand, neither, of_neither, holds, held}
use Rattle.go_exprs_variables.proofs.Meeting.{Seen, unchanged, closed, seen, constants}
use Rattle.go_exprs_variables.proofs.Binary.{never_folds, less_folds, known_kind}

pub and_true : (a b : Bool) → (a && b) ≡ true → (a ≡ true) × (b ≡ true)
and_true true b e = (refl, e)
and_true false b e = cc

pub true_and : (a b : Bool) → a ≡ true → b ≡ true → (a && b) ≡ true
true_and a b e f = ap (λ z. z && b) e ∙ f

module _ (rights : Rights) (itself : (t : TypeTree) → is_identical t t ≡ true) where
  -- ---- counts

  whole_uint : (k : OpenKind) → suits rights k uint ≡ true → is_family family.Integers (Some (family_of_open k)) ≡ true → is_count rights (sort.Value uint) ≡ true
  whole_uint k e f = ap (is_family family.Integers) (suited rights k uint e) ∙ f

  counts_early : (a : Stands) (k : OpenKind) → open_kind a ≡ Some k → suits rights k uint ≡ true → is_count rights a ≡ true → is_count rights (sort.Value uint) ≡ true
  counts_early (sort.OpenConstant (const.Int z true)) k e f h = let is : k ≡ untyped_kind.Rune = cc in whole_uint untyped_kind.Rune (ap (λ m. suits rights m uint) (sym is) ∙ f) refl
  counts_early (sort.OpenConstant (const.Int z false)) k e f h = let is : k ≡ untyped_kind.Integer = cc in whole_uint untyped_kind.Integer (ap (λ m. suits rights m uint) (sym is) ∙ f) refl
  counts_early (sort.OpenConstant (const.Bool b)) k e f h = cc
  counts_early (sort.OpenConstant (const.Text bs)) k e f h = cc
  counts_early (sort.Open u) k e f h = cc
  counts_early sort.Nothing k e f h = cc
  counts_early sort.Unknown k e f h = cc
  counts_early sort.Blank k e f h = cc
  counts_early sort.Nil k e f h = cc
  counts_early (sort.Builtin b) k e f h = cc
  counts_early sort.Println k e f h = cc
  counts_early sort.Package k e f h = cc
  counts_early (sort.IsType t) k e f h = cc
  counts_early (sort.Value t) k e f h = cc
  counts_early (sort.Constant t c) k e f h = cc
  counts_early (sort.Results t) k e f h = cc

  counts : (o : Option TypeTree) (a b : Stands) → o ≡ Some uint → Stood rights o a b → is_count rights a ≡ true → is_count rights b ≡ true
  counts o a b is (as_before v c) h = h
  counts o a b is (in_place v t c) h = (and_true (is_whole rights (sort.Constant t c)) (not (is_negative (Some c))) h).0
  counts o a b is (early t c k e f) h = let same : t ≡ uint = cc in ap (λ z. is_count rights (sort.Value z)) same ∙ counts_early c k e (ap (suits rights k) (sym same) ∙ f) h

  -- ---- the row

  pub record ShiftRow (u : Option TypeTree) (o : Operator) (i j : ℕ) (x y z w : Part) : Type 0 where
    pub failing : shift_failing rights o i j z w ≡ []
    pub stands : Stood rights u (shift_sort o (sort_of x) (sort_of y)) (shift_sort o (sort_of z) (sort_of w))

  judged : (o : Operator) (i j : ℕ) (z w : Part) (d : Common) → own (sort_of z) ≡ Some d → is_family family.Integers (family_in rights d) ≡ true → is_count rights (sort_of w) ≡ true → unrepresented rights uint w ≡ []
      → binary_value o (sort_of z) (sort_of w) ≡ None → shift_failing rights o i j z w ≡ []
  judged o i j z w d is a n r v =
      ap (shift_failing_in rights o i j z w) is
      ∙ held (is_family family.Integers (family_in rights d) && is_count rights (sort_of w)) (or_else (unrepresented rights uint w) (out_of_range rights i j d (binary_value o (sort_of z) (sort_of w)))) code.Operands i j
      (true_and (is_family family.Integers (family_in rights d)) (is_count rights (sort_of w)) a n)
      (of_neither (unrepresented rights uint w) (out_of_range rights i j d (binary_value o (sort_of z) (sort_of w))) r (ap (out_of_range rights i j d) v))

  own_kept : (a b : Stands) → own_type b ≡ own_type a → open_kind b ≡ open_kind a → own b ≡ own a
  own_kept a b e f = ap (λ t. own_by t (open_kind b)) e ∙ ap (own_by (own_type a)) f

  own_is : (a : Stands) (t : TypeTree) → own_type a ≡ Some t → own a ≡ Some (in_type t)
  own_is a t e = ap (λ z. own_by z (open_kind a)) e

  own_kind : (a : Stands) (k : OpenKind) → own_type a ≡ None → open_kind a ≡ Some k → own a ≡ Some (in_kind k)
  own_kind a k e f = ap (λ z. own_by z (open_kind a)) e ∙ ap (own_by None) f

  by_seen : (u : Option TypeTree) (o : Operator) (i j : ℕ) (x y z w : Part) (c : Common) → own (sort_of x) ≡ Some c → is_family family.Integers (family_in rights c) ≡ true → is_count rights (sort_of w) ≡ true → unrepresented rights uint w ≡ []
      → binary_value o (sort_of z) (sort_of w) ≡ None → shift_sort o (sort_of x) (sort_of y) ≡ value_in c → IsValue (value_in c) → Seen rights u (sort_of x) (sort_of z) → ShiftRow u o i j x y z w
  by_seen u o i j x y z w c is ints count range new old_is known (unchanged e g) =
      let there : own (sort_of z) ≡ Some c = own_kept (sort_of x) (sort_of z) e g ∙ is in
      let new_is : shift_sort o (sort_of z) (sort_of w) ≡ value_in c = ap (shift_sort_in o (sort_of z) (sort_of w)) there ∙ ap (result_in c) new in
      record {
        failing = judged o i j z w c there ints count range new;
        stands = subst (λ r. Stood rights u (shift_sort o (sort_of x) (sort_of y)) r) (old_is ∙ sym new_is) (as_before u (shift_sort o (sort_of x) (sort_of y)));
      }
  by_seen u o i j x y z w c is ints count range new old_is known (closed t k n m v q later fits) =
      let kind : c ≡ in_kind k = let two : Some c ≡ Some (in_kind k) = sym is ∙ own_kind (sort_of x) k n m in cc in
      let there : own (sort_of z) ≡ Some (in_type t) = own_is (sort_of z) t v in
      let whole : is_family family.Integers (family_in rights (in_type t)) ≡ true = ap (is_family family.Integers) (suited rights k t fits) ∙ sym (ap (λ d. is_family family.Integers (family_in rights d)) kind) ∙ ints in
      let new_is : shift_sort o (sort_of z) (sort_of w) ≡ sort.Value t = ap (shift_sort_in o (sort_of z) (sort_of w)) there ∙ ap (result_in (in_type t)) new in
      let stood : Stood rights u (open_value k) (sort.Value t) = subst (λ r. Stood rights r (open_value k) (sort.Value t)) (sym later) (known_kind rights itself t k (subst IsValue (ap value_in kind) known) fits) in
      record {
        failing = judged o i j z w (in_type t) there whole count range new;
        stands = subst (λ r. Stood rights u r (shift_sort o (sort_of z) (sort_of w))) (sym (old_is ∙ ap value_in kind)) (subst (Stood rights u (open_value k)) (sym new_is) stood);
      }

  row_by : (u : Option TypeTree) (o : Operator) (i j : ℕ) (x y z w : Part) (c : Common) → Operand rights u x z → Operand rights (Some uint) y w → own (sort_of x) ≡ Some c
      → shift_failing_in rights o i j x y (Some c) ≡ [] → IsValue (result_in c (binary_value o (sort_of x) (sort_of y))) → Seen rights u (sort_of x) (sort_of z) → ShiftRow u o i j x y z w
  row_by u o i j x y z w c left right is f value s =
      let all = or_else (unrepresented rights uint y) (out_of_range rights i j c (binary_value o (sort_of x) (sort_of y))) in
      let ok = holds (is_family family.Integers (family_in rights c) && is_count rights (sort_of y)) all code.Operands i j f in
      let both = and_true (is_family family.Integers (family_in rights c)) (is_count rights (sort_of y)) ok.0 in
      let range = right.range uint (neither (unrepresented rights uint y) (out_of_range rights i j c (binary_value o (sort_of x) (sort_of y))) ok.1).0 in
      let count = counts (Some uint) (sort_of y) (sort_of w) refl right.stands both.1 in
      let old : binary_value o (sort_of x) (sort_of y) ≡ None = never_folds c (binary_value o (sort_of x) (sort_of y)) value in
      let new : binary_value o (sort_of z) (sort_of w) ≡ None =
      less_folds (constant_op o) (constant_of (sort_of x)) (constant_of (sort_of y)) (constant_of (sort_of z)) (constant_of (sort_of w)) (constants rights u (sort_of x) (sort_of z) left.stands) (constants rights (Some uint) (sort_of y) (sort_of w) right.stands) old in
      let old_is : shift_sort o (sort_of x) (sort_of y) ≡ value_in c = ap (shift_sort_in o (sort_of x) (sort_of y)) is ∙ ap (result_in c) old in
      by_seen u o i j x y z w c is both.0 count range new old_is (subst IsValue (ap (result_in c) old) value) s

  row_in : (u : Option TypeTree) (o : Operator) (i j : ℕ) (x y z w : Part) (r : Option Common) → own (sort_of x) ≡ r → Operand rights u x z → Operand rights (Some uint) y w
      → shift_failing_in rights o i j x y r ≡ [] → IsValue (shift_sort_in o (sort_of x) (sort_of y) r) → ShiftRow u o i j x y z w
  row_in u o i j x y z w None is left right f value = cc
  row_in u o i j x y z w (Some c) is left right f value = row_by u o i j x y z w c left right is f value (seen rights u (sort_of x) (sort_of z) left.stands)

  -- The count takes `uint`, and the left operand what the shift takes.
  pub shift_row : (u : Option TypeTree) (o : Operator) (i j : ℕ) (x y z w : Part) → Operand rights u x z → Operand rights (Some uint) y w
      → shift_failing rights o i j x y ≡ [] → IsValue (shift_sort o (sort_of x) (sort_of y)) → ShiftRow u o i j x y z w
  shift_row u o i j x y z w left right f value = row_in u o i j x y z w (own (sort_of x)) refl left right f value
