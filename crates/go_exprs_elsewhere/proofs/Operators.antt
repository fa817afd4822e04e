-- The rules on operators elsewhere.
use Rattle.std.proofs.Common.{◌≡◌, ℕ, Bool, true, false, [], ◌++◌, Option, Some, None, refl}
use Rattle.std.specs.Prelude.{◌&&◌, ◌||◌, if◌then◌else◌, Result, Ok, Err}
use Rattle.go_base.specs.declared.fault.FaultCode.TheVariants as code
use Rattle.go_constants.specs.declared.values.Const.{Const}
use Rattle.go_constants.specs.declared.values.ConstFault.{ConstFault}
use Rattle.go_constants.specs.declared.values.ConstFault.TheVariants as const_fault
use Rattle.go_grammar.specs.declared.kind.Comparison.{Comparison}
use Rattle.go_grammar.specs.declared.kind.Operator.{Operator}
use Rattle.go_grammar.specs.declared.kind.Operator.TheVariants as operator
use Rattle.go_grammar.specs.declared.kind.Sign.{Sign}
use Rattle.go_types.specs.Relations.{Rights}
use Rattle.go_types_relations.specs.Tests.{is_comparable}
use Rattle.go_typed.specs.Trees.{typed}
use Rattle.go_exprs_rules.specs.declared.family.Family.TheVariants as family
use Rattle.go_exprs_rules.specs.Faults.{fault_at, or_else}
use Rattle.go_exprs_rules.specs.Operators.{Common, in_type, in_kind, common, family_in, refused, both_refuse, in_range, out_of_range, own, unary_value, sign_family, unary_failing_in, unary_failing, admits, divides, zero_divisor, binary_value, binary_failing_in, binary_failing}
use Rattle.go_exprs_rules.specs.Operators.{is_count, shift_failing_in, shift_failing, is_equality, compared_in, unordered, incomparable, unfit, compared_refuse, compared_failing_in, compared_failing, is_shift, operation_failing}
use Rattle.go_exprs_rules.specs.Settling.{Part, unrepresented}
use Rattle.go_exprs_rules.specs.Sorts.{Stands, is_family, constant_of, is_constant, is_nil, is_zero, default_type, uint}
use Rattle.go_exprs_elsewhere.specs.Elsewhere.{Moves, placed}
use Rattle.go_exprs_elsewhere.proofs.Parts.{fails, either, either_of, both, or_else_kept}
use Rattle.go_exprs_elsewhere.proofs.Settling.{unrepresented_kept}

module _ (m : Moves) (rights : Rights) where
  out_of_range_kept : (i j : ℕ) (c : Common) (v : Option (Result Const ConstFault)) → out_of_range rights (m.token i) (m.token j) c v ≡ fails m (out_of_range rights i j c v)
  out_of_range_kept i j c None = refl
  out_of_range_kept i j c (Some (Ok v)) = either m (in_range rights c v) [] (fault_at code.Representable i j)
  out_of_range_kept i j c (Some (Err const_fault.TooWide)) = refl
  out_of_range_kept i j c (Some (Err e)) = refl

  unary_in_kept : (o : Sign) (i j : ℕ) (a : Stands) (c : Option Common) → unary_failing_in rights o (m.token i) (m.token j) a c ≡ fails m (unary_failing_in rights o i j a c)
  unary_in_kept o i j a None = refl
  unary_in_kept o i j a (Some c) =
      either_of m (is_family (sign_family o) (family_in rights c)) (out_of_range rights (m.token i) (m.token j) c (unary_value rights o a)) (fault_at code.Operands (m.token i) (m.token j))
      (out_of_range rights i j c (unary_value rights o a)) (fault_at code.Operands i j) (out_of_range_kept i j c (unary_value rights o a)) refl

  pub unary_kept : (o : Sign) (i j : ℕ) (a : Stands) → unary_failing rights o (m.token i) (m.token j) a ≡ fails m (unary_failing rights o i j a)
  unary_kept o i j a = unary_in_kept o i j a (own a)

  refused_kept : (c : Common) (x : Part) → refused rights c (placed m x) ≡ fails m (refused rights c x)
  refused_kept (in_type t) x = unrepresented_kept m rights t x
  refused_kept (in_kind k) x = refl

  both_refuse_kept : (c : Common) (x y : Part) → both_refuse rights c (placed m x) (placed m y) ≡ fails m (both_refuse rights c x y)
  both_refuse_kept c x y = both m (refused rights c (placed m x)) (refused rights c (placed m y)) (refused rights c x) (refused rights c y) (refused_kept c x) (refused_kept c y)

  zero_divisor_kept : (o : Operator) (y : Part) → zero_divisor o (placed m y) ≡ fails m (zero_divisor o y)
  zero_divisor_kept o (typed f i j l ps) = either m (divides o && is_zero (constant_of l.sort)) (fault_at code.ZeroDivisor i j) []

  binary_in_kept : (o : Operator) (i j : ℕ) (x y : Part) (v : Option (Result Const ConstFault)) (c : Common)
      → (if admits o (family_in rights c) then or_else (both_refuse rights c (placed m x) (placed m y) ++ zero_divisor o (placed m y)) (out_of_range rights (m.token i) (m.token j) c v) else both_refuse rights c (placed m x) (placed m y) ++ fault_at code.Operands (m.token i) (m.token j))
      ≡ fails m (if admits o (family_in rights c) then or_else (both_refuse rights c x y ++ zero_divisor o y) (out_of_range rights i j c v) else both_refuse rights c x y ++ fault_at code.Operands i j)
  binary_in_kept o i j x y v c =
      either_of m (admits o (family_in rights c))
      (or_else (both_refuse rights c (placed m x) (placed m y) ++ zero_divisor o (placed m y)) (out_of_range rights (m.token i) (m.token j) c v)) (both_refuse rights c (placed m x) (placed m y) ++ fault_at code.Operands (m.token i) (m.token j))
      (or_else (both_refuse rights c x y ++ zero_divisor o y) (out_of_range rights i j c v)) (both_refuse rights c x y ++ fault_at code.Operands i j)
      (or_else_kept m (both_refuse rights c (placed m x) (placed m y) ++ zero_divisor o (placed m y)) (out_of_range rights (m.token i) (m.token j) c v) (both_refuse rights c x y ++ zero_divisor o y) (out_of_range rights i j c v)
      (both m (both_refuse rights c (placed m x) (placed m y)) (zero_divisor o (placed m y)) (both_refuse rights c x y) (zero_divisor o y) (both_refuse_kept c x y) (zero_divisor_kept o y)) (out_of_range_kept i j c v))
      (both m (both_refuse rights c (placed m x) (placed m y)) (fault_at code.Operands (m.token i) (m.token j)) (both_refuse rights c x y) (fault_at code.Operands i j) (both_refuse_kept c x y) refl)

  binary_by_kept : (o : Operator) (i j : ℕ) (x y : Part) (c : Option Common) → binary_failing_in rights o (m.token i) (m.token j) (placed m x) (placed m y) c ≡ fails m (binary_failing_in rights o i j x y c)
  binary_by_kept o i j x y None = refl
  binary_by_kept o i j (typed f a b k ps) (typed g c d l qs) (Some t) = binary_in_kept o i j (typed f a b k ps) (typed g c d l qs) (binary_value o k.sort l.sort) t

  binary_kept : (o : Operator) (i j : ℕ) (x y : Part) → binary_failing rights o (m.token i) (m.token j) (placed m x) (placed m y) ≡ fails m (binary_failing rights o i j x y)
  binary_kept o i j (typed f a b k ps) (typed g c d l qs) = binary_by_kept o i j (typed f a b k ps) (typed g c d l qs) (common rights k.sort l.sort)

  shift_by_kept : (o : Operator) (i j : ℕ) (x n : Part) (c : Option Common) → shift_failing_in rights o (m.token i) (m.token j) (placed m x) (placed m n) c ≡ fails m (shift_failing_in rights o i j x n c)
  shift_by_kept o i j x n None = refl
  shift_by_kept o i j (typed f a b k ps) (typed g c d l qs) (Some t) =
      let n = typed g c d l qs in
      either_of m (is_family family.Integers (family_in rights t) && is_count rights l.sort)
      (or_else (unrepresented rights uint (placed m n)) (out_of_range rights (m.token i) (m.token j) t (binary_value o k.sort l.sort))) (fault_at code.Operands (m.token i) (m.token j))
      (or_else (unrepresented rights uint n) (out_of_range rights i j t (binary_value o k.sort l.sort))) (fault_at code.Operands i j)
      (or_else_kept m (unrepresented rights uint (placed m n)) (out_of_range rights (m.token i) (m.token j) t (binary_value o k.sort l.sort)) (unrepresented rights uint n) (out_of_range rights i j t (binary_value o k.sort l.sort))
      (unrepresented_kept m rights uint n) (out_of_range_kept i j t (binary_value o k.sort l.sort)))
      refl

  shift_kept : (o : Operator) (i j : ℕ) (x n : Part) → shift_failing rights o (m.token i) (m.token j) (placed m x) (placed m n) ≡ fails m (shift_failing rights o i j x n)
  shift_kept o i j (typed f a b k ps) n = shift_by_kept o i j (typed f a b k ps) n (own k.sort)

  pub unordered_kept : (i j : ℕ) (c : Common) → unordered rights (m.token i) (m.token j) c ≡ fails m (unordered rights i j c)
  unordered_kept i j c = either m (is_family family.Integers (family_in rights c) || is_family family.Texts (family_in rights c)) [] (fault_at code.Operands i j)

  incomparable_kept : (i j : ℕ) (c : Common) → incomparable rights (m.token i) (m.token j) c ≡ fails m (incomparable rights i j c)
  incomparable_kept i j (in_type t) = either m (is_comparable rights t) [] (fault_at code.NotComparable i j)
  incomparable_kept i j (in_kind k) = refl

  unfit_kept : (o : Comparison) (i j : ℕ) (b : Bool) (c : Common) → unfit rights o (m.token i) (m.token j) b c ≡ fails m (unfit rights o i j b c)
  unfit_kept o i j true c = either m (is_equality o) [] (fault_at code.Operands i j)
  unfit_kept o i j false c =
      either_of m (is_equality o) (incomparable rights (m.token i) (m.token j) c) (unordered rights (m.token i) (m.token j) c) (incomparable rights i j c) (unordered rights i j c) (incomparable_kept i j c) (unordered_kept i j c)

  compared_refuse_kept : (c : Common) (x y : Part) → compared_refuse rights c (placed m x) (placed m y) ≡ fails m (compared_refuse rights c x y)
  compared_refuse_kept (in_type t) x y =
      both m (unrepresented rights t (placed m x)) (unrepresented rights t (placed m y)) (unrepresented rights t x) (unrepresented rights t y) (unrepresented_kept m rights t x) (unrepresented_kept m rights t y)
  compared_refuse_kept (in_kind k) (typed f a b p ps) (typed g c d l qs) =
      let x = typed f a b p ps in
      let y = typed g c d l qs in
      let t = default_type k in
      either_of m (is_constant p.sort && is_constant l.sort) [] (unrepresented rights t (placed m x) ++ unrepresented rights t (placed m y)) [] (unrepresented rights t x ++ unrepresented rights t y) refl
      (both m (unrepresented rights t (placed m x)) (unrepresented rights t (placed m y)) (unrepresented rights t x) (unrepresented rights t y) (unrepresented_kept m rights t x) (unrepresented_kept m rights t y))

  compared_by_kept : (o : Comparison) (i j : ℕ) (x y : Part) (c : Option Common) → compared_failing_in rights o (m.token i) (m.token j) (placed m x) (placed m y) c ≡ fails m (compared_failing_in rights o i j x y c)
  compared_by_kept o i j x y None = refl
  compared_by_kept o i j (typed f a b k ps) (typed g c d l qs) (Some t) =
      let x = typed f a b k ps in
      let y = typed g c d l qs in
      or_else_kept m (unfit rights o (m.token i) (m.token j) (is_nil k.sort || is_nil l.sort) t) (compared_refuse rights t (placed m x) (placed m y)) (unfit rights o i j (is_nil k.sort || is_nil l.sort) t) (compared_refuse rights t x y)
      (unfit_kept o i j (is_nil k.sort || is_nil l.sort) t) (compared_refuse_kept t x y)

  compared_kept : (o : Comparison) (i j : ℕ) (x y : Part) → compared_failing rights o (m.token i) (m.token j) (placed m x) (placed m y) ≡ fails m (compared_failing rights o i j x y)
  compared_kept o i j (typed f a b k ps) (typed g c d l qs) = compared_by_kept o i j (typed f a b k ps) (typed g c d l qs) (compared_in rights k.sort l.sort)

  other_kept : (o : Operator) (i j : ℕ) (x y : Part) → (if is_shift o then shift_failing rights o (m.token i) (m.token j) (placed m x) (placed m y) else binary_failing rights o (m.token i) (m.token j) (placed m x) (placed m y))
      ≡ fails m (if is_shift o then shift_failing rights o i j x y else binary_failing rights o i j x y)
  other_kept o i j x y =
      either_of m (is_shift o) (shift_failing rights o (m.token i) (m.token j) (placed m x) (placed m y)) (binary_failing rights o (m.token i) (m.token j) (placed m x) (placed m y)) (shift_failing rights o i j x y) (binary_failing rights o i j x y) (shift_kept o i j x y) (binary_kept o i j x y)

  pub operation_kept : (o : Operator) (i j : ℕ) (x y : Part) → operation_failing rights o (m.token i) (m.token j) (placed m x) (placed m y) ≡ fails m (operation_failing rights o i j x y)
  operation_kept (operator.Compare c) i j x y = compared_kept c i j x y
  operation_kept o i j x y = other_kept o i j x y
