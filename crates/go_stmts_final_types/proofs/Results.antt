-- Operations that no rule refuses stand for something known.
use Rattle.std.proofs.Common.{◌≡◌, ℕ, zero, suc, Bool, true, false, cond, [], ◌∷◌, ◌++◌, List, Option, Some, None, Ok, Err, Result, ℤ, pos, negsuc, refl, sym, ap, subst, ◌∙◌, true≢false}
use Rattle.std.specs.Prelude.{◌^◌, ◌-◌, ◌&&◌, ◌||◌, not, is_some, neg_ℤ}
use Rattle.go_base.specs.declared.fault.FaultCode.TheVariants as code
use Rattle.go_constants.specs.declared.values.Const.{Const}
use Rattle.go_constants.specs.declared.values.Const.TheVariants as const
use Rattle.go_constants.specs.declared.values.ConstFault.{ConstFault}
use Rattle.go_constants.specs.declared.values.ConstFault.TheVariants as const_fault
use Rattle.go_constants.specs.Folding.{folded, whole_const}
use Rattle.go_grammar.specs.declared.kind.Arithmetic.{Arithmetic}
use Rattle.go_grammar.specs.declared.kind.Arithmetic.TheVariants as arithmetic
use Rattle.go_grammar.specs.declared.kind.Comparison.{Comparison}
use Rattle.go_grammar.specs.declared.kind.Comparison.TheVariants as comparison
use Rattle.go_grammar.specs.declared.kind.Operator.{Operator}
use Rattle.go_grammar.specs.declared.kind.Operator.TheVariants as operator
use Rattle.go_grammar.specs.declared.kind.Sign.{Sign}
use Rattle.go_grammar.specs.declared.kind.Sign.TheVariants as sign
use Rattle.go_ints.specs.Kinds.{bits_of, is_signed}
use Rattle.go_types.specs.Trees.{TypeTree, integer}
use Rattle.go_types.specs.Relations.{Rights}
use Rattle.go_types_relations.specs.Tests.{underlying_of}
use Rattle.go_typed.specs.Trees.{typed, sort_of}
use Rattle.go_typed.specs.Trees as sort
use Rattle.go_typed.specs.declared.sort.Untyped.TheVariants as untyped
use Rattle.go_exprs_rules.specs.declared.family.Family.{Family}
use Rattle.go_exprs_rules.specs.declared.family.Family.TheVariants as family
use Rattle.go_exprs_rules.specs.declared.family.OpenKind.{OpenKind}
use Rattle.go_exprs_rules.specs.declared.family.OpenKind.TheVariants as untyped_kind
use Rattle.go_exprs_rules.specs.declared.fault.TypeFault.{TypeFault}
use Rattle.go_exprs_rules.specs.Calls.{met}
use Rattle.go_exprs_rules.specs.Faults.{or_else, fault_at}
use Rattle.go_exprs_rules.specs.Operators.{Common, in_type, in_kind, family_in, own, common, constant_op, comparing, folded_both, value_in, constant_in, result_in, in_range, out_of_range, complement_mask, signed_const, signed_value, unary_value, sign_family, unary_failing_in, unary_failing, unary_sort_in, unary_sort}
use Rattle.go_exprs_rules.specs.Operators.{admits, divides, zero_divisor, binary_value, binary_failing_in, binary_failing, binary_sort_in, binary_sort, both_refuse, is_count, shift_failing_in, shift_failing, shift_sort_in, shift_sort, is_equality, compared_in, compared_failing_in, compared_failing, compared_sort, unfit, incomparable, unordered, compared_refuse, is_shift, operation_failing, operation_sort}
use Rattle.go_exprs_rules.specs.Settling.{Part, unrepresented, unrepresented_constant}
use Rattle.go_exprs_rules.specs.Sorts.{Stands, is_family, family_of_const, family_of_type, constant_of, own_type, is_nil, is_zero, is_negative, uint, underlying_in}
use Rattle.go_stmts_final_types.specs.Names.{alone, is_fit, KeepsFamily}
use Rattle.go_stmts_final_types.proofs.Families.{InFamily, own_family, one_family, met_both, common_met, common_families, compared_families, represents_keeps, whole_value, text_value}
use Rattle.go_stmts_final_types.proofs.Given.{labelled}
use Rattle.go_stmts_final_types.proofs.Nodes.{and_first, and_second}
use Rattle.go_stmts_final_types.proofs.Tests.{holds, fails_not, second_none}

-- it stands for something known, and a constant is of the family of its type
pub record Stood (rights : Rights) (x : Stands) : Type 0 where
  pub fit : is_fit alone x ≡ true
  pub family : KeepsFamily rights x

-- no operation on constants fails but for the width of its result
abbrev pub Folds : Option (Result Const ConstFault) → Type 0
Folds None = Unit {0}
Folds (Some (Ok v)) = Unit {0}
Folds (Some (Err const_fault.TooWide)) = Unit {0}
Folds (Some (Err e)) = ⊥

abbrev is_untyped_text : Common → Bool
is_untyped_text (in_kind untyped_kind.Text) = true
is_untyped_text c = false

-- ---- results

open_stood : (rights : Rights) (c : Common) → is_untyped_text c ≡ false → Stood rights (value_in c)
open_stood rights (in_type t) e = record { fit = refl; family = tt }
open_stood rights (in_kind untyped_kind.Boolean) e = record { fit = refl; family = tt }
open_stood rights (in_kind untyped_kind.Integer) e = record { fit = refl; family = tt }
open_stood rights (in_kind untyped_kind.Rune) e = record { fit = refl; family = tt }
open_stood rights (in_kind untyped_kind.Text) e = cc

constant_stood : (rights : Rights) (c : Common) (v : Const) → in_range rights c v ≡ true → Stood rights (constant_in c v)
constant_stood rights (in_type t) v e = record { fit = refl; family = represents_keeps rights t v e }
constant_stood rights (in_kind k) v e = record { fit = refl; family = tt }

result_stood : (rights : Rights) (i j : ℕ) (c : Common) (r : Option (Result Const ConstFault)) → Folds r → (r ≡ None → is_untyped_text c ≡ false) → out_of_range rights i j c r ≡ [] → Stood rights (result_in c r)
result_stood rights i j c None f n e = open_stood rights c (n refl)
result_stood rights i j c (Some (Ok v)) f n e = constant_stood rights c v (holds (in_range rights c v) [] _ e).0
result_stood rights i j c (Some (Err const_fault.TooWide)) f n e = cc
result_stood rights i j c (Some (Err const_fault.DivideZero)) f n e = elim f [ ]
result_stood rights i j c (Some (Err const_fault.Operands)) f n e = elim f [ ]
result_stood rights i j c (Some (Err const_fault.Memory)) f n e = elim f [ ]

-- ---- values of operations

whole_folds : (b : Bool) (z : ℤ) (rune : Bool) → Folds (Some (whole_const (cond b (Ok z) (Err const_fault.TooWide)) rune))
whole_folds true z rune = tt
whole_folds false z rune = tt

arithmetic_folds : (a : Arithmetic) (x : ℤ) (l : Bool) (y : ℤ) (r : Bool) → is_shift (operator.Compute a) ≡ false → (divides (operator.Compute a) && is_zero (Some (const.Int y r))) ≡ false
    → Folds (Some (folded (constant_op (operator.Compute a)) (const.Int x l) (const.Int y r)))
arithmetic_folds arithmetic.ShiftLeft x l y r s d = cc
arithmetic_folds arithmetic.ShiftRight x l y r s d = cc
arithmetic_folds arithmetic.Divide x l (pos zero) r s d = cc
arithmetic_folds arithmetic.Divide x l (pos (suc n)) r s d = whole_folds _ _ _
arithmetic_folds arithmetic.Divide x l (negsuc n) r s d = whole_folds _ _ _
arithmetic_folds arithmetic.Remainder x l (pos zero) r s d = cc
arithmetic_folds arithmetic.Remainder x l (pos (suc n)) r s d = whole_folds _ _ _
arithmetic_folds arithmetic.Remainder x l (negsuc n) r s d = whole_folds _ _ _
arithmetic_folds a x l y r s d = whole_folds _ _ _

whole_operands : (a : Arithmetic) (v w : Const) → family_of_const v ≡ family.Integers → family_of_const w ≡ family.Integers → is_shift (operator.Compute a) ≡ false → (divides (operator.Compute a) && is_zero (Some w)) ≡ false
    → Folds (Some (folded (constant_op (operator.Compute a)) v w))
whole_operands a (const.Int x l) (const.Int y r) e f s d = arithmetic_folds a x l y r s d
whole_operands a (const.Int x l) (const.Bool b) e f s d = cc
whole_operands a (const.Int x l) (const.Text t) e f s d = cc
whole_operands a (const.Bool b) w e f s d = cc
whole_operands a (const.Text t) w e f s d = cc

text_operands : (v w : Const) → family_of_const v ≡ family.Texts → family_of_const w ≡ family.Texts → Folds (Some (folded (constant_op (operator.Compute arithmetic.Add)) v w))
text_operands (const.Text a) (const.Text b) e f = tt
text_operands (const.Text a) (const.Int y r) e f = cc
text_operands (const.Text a) (const.Bool b) e f = cc
text_operands (const.Bool a) w e f = cc
text_operands (const.Int x l) w e f = cc

either_operands : (v w : Const) → family_of_const v ≡ family.Booleans → family_of_const w ≡ family.Booleans → Folds (Some (folded (constant_op operator.Either) v w)) × Folds (Some (folded (constant_op operator.Both) v w))
either_operands (const.Bool a) (const.Bool b) e f = (tt, tt)
either_operands (const.Bool a) (const.Int y r) e f = cc
either_operands (const.Bool a) (const.Text t) e f = cc
either_operands (const.Int x l) w e f = cc
either_operands (const.Text t) w e f = cc

abbrev is_comparing : Operator → Bool
is_comparing (operator.Compare c) = true
is_comparing o = false

added : (f : Option Family) (b : Bool) → is_family family.Integers f ≡ b → (b || is_family family.Texts f) ≡ true → (v w : Const) → is_family (family_of_const v) f ≡ true → is_family (family_of_const w) f ≡ true
    → Folds (Some (folded (constant_op (operator.Compute arithmetic.Add)) v w))
added f true m e v w g k = whole_operands arithmetic.Add v w (one_family (family_of_const v) family.Integers f g m) (one_family (family_of_const w) family.Integers f k m) refl refl
added f false m e v w g k = text_operands v w (one_family (family_of_const v) family.Texts f g e) (one_family (family_of_const w) family.Texts f k e)

binary_folds : (o : Operator) → is_shift o ≡ false → is_comparing o ≡ false → (f : Option Family) → admits o f ≡ true → (v w : Const) → is_family (family_of_const v) f ≡ true → is_family (family_of_const w) f ≡ true → (divides o && is_zero (Some w)) ≡ false
    → Folds (Some (folded (constant_op o) v w))
binary_folds operator.Either s n f e v w g k d = (either_operands v w (one_family (family_of_const v) family.Booleans f g e) (one_family (family_of_const w) family.Booleans f k e)).0
binary_folds operator.Both s n f e v w g k d = (either_operands v w (one_family (family_of_const v) family.Booleans f g e) (one_family (family_of_const w) family.Booleans f k e)).1
binary_folds (operator.Compare c) s n f e v w g k d = cc
binary_folds (operator.Compute arithmetic.Add) s n f e v w g k d = added f (is_family family.Integers f) refl e v w g k
binary_folds (operator.Compute a) s n f e v w g k d = whole_operands a v w (one_family (family_of_const v) family.Integers f g e) (one_family (family_of_const w) family.Integers f k e) s d

-- ---- untyped texts are constants

own_text : (a : Stands) → own a ≡ Some (in_kind untyped_kind.Text) → is_some (constant_of a) ≡ true
own_text (sort.OpenConstant c) e = refl
own_text (sort.Constant t c) e = refl
own_text (sort.Open untyped.Boolean) e = cc
own_text (sort.Open untyped.Integer) e = cc
own_text (sort.Open untyped.Rune) e = cc
own_text a e = cc

text_common : (c : Common) → is_untyped_text c ≡ true → c ≡ in_kind untyped_kind.Text
text_common (in_kind untyped_kind.Text) e = refl
text_common (in_kind untyped_kind.Boolean) e = cc
text_common (in_kind untyped_kind.Integer) e = cc
text_common (in_kind untyped_kind.Rune) e = cc
text_common (in_type t) e = cc

if_kind : {X : Type 0} (b : Bool) (t : TypeTree) (k : OpenKind) → cond b (Some (in_type t)) None ≡ Some (in_kind k) → X
if_kind true t k e = cc
if_kind false t k e = cc

met_text : (rights : Rights) (p q : Common) → met rights (Some p) (Some q) ≡ Some (in_kind untyped_kind.Text) → (p ≡ in_kind untyped_kind.Text) × (q ≡ in_kind untyped_kind.Text)
met_text rights (in_type t) (in_type u) e = if_kind _ t untyped_kind.Text e
met_text rights (in_type t) (in_kind k) e = if_kind _ t untyped_kind.Text e
met_text rights (in_kind k) (in_type u) e = if_kind _ u untyped_kind.Text e
met_text rights (in_kind untyped_kind.Text) (in_kind untyped_kind.Text) e = (refl, refl)
met_text rights (in_kind untyped_kind.Boolean) (in_kind untyped_kind.Boolean) e = cc
met_text rights (in_kind untyped_kind.Integer) (in_kind untyped_kind.Integer) e = cc
met_text rights (in_kind untyped_kind.Integer) (in_kind untyped_kind.Rune) e = cc
met_text rights (in_kind untyped_kind.Rune) (in_kind untyped_kind.Integer) e = cc
met_text rights (in_kind untyped_kind.Rune) (in_kind untyped_kind.Rune) e = cc
met_text rights (in_kind k) (in_kind l) e = cc

texts_constant : (rights : Rights) (a b : Stands) (c : Common) → common rights a b ≡ Some c → is_untyped_text c ≡ true → (is_some (constant_of a) ≡ true) × (is_some (constant_of b) ≡ true)
texts_constant rights a b c m e =
    let h = met_both rights (own a) (own b) c (sym (common_met rights a b) ∙ m) in
    let n : met rights (Some h.0) (Some h.1) ≡ Some (in_kind untyped_kind.Text) = ap (λ z. met rights z (Some h.1)) (sym h.2) ∙ (ap (met rights (own a)) (sym h.3) ∙ ((sym (common_met rights a b) ∙ m) ∙ ap Some (text_common c e))) in
    let t = met_text rights h.0 h.1 n in
    (own_text a (h.2 ∙ ap Some t.0), own_text b (h.3 ∙ ap Some t.1))

-- ---- binary operators

or_else_none : (fs gs : List TypeFault) → or_else fs gs ≡ [] → (fs ≡ []) × (gs ≡ [])
or_else_none [] gs e = (refl, e)
or_else_none (f ∷ fs) gs e = cc

not_true : (b : Bool) → (b ≡ true → ⊥) → b ≡ false
not_true true f = absurd (f refl)
not_true false f = refl

binary_stood : (rights : Rights) (o : Operator) → is_shift o ≡ false → is_comparing o ≡ false → (i j : ℕ) (x y : Part) → KeepsFamily rights (sort_of x) → KeepsFamily rights (sort_of y) → binary_failing rights o i j x y ≡ []
    → Stood rights (binary_sort rights o (sort_of x) (sort_of y))
binary_stood rights o s n i j x y g k e = by (common rights a b) refl e
  where
    a : Stands
    a = sort_of x

    b : Stands
    b = sort_of y

    values : (c : Common) → common rights a b ≡ Some c → admits o (family_in rights c) ≡ true → (divides o && is_zero (constant_of b)) ≡ false → (p q : Option Const) → constant_of a ≡ p → constant_of b ≡ q
        → Folds (folded_both (constant_op o) p q) × (folded_both (constant_op o) p q ≡ None → is_untyped_text c ≡ false)
    values c m t d (Some v) (Some w) u z =
        let h = common_families rights a b c v w m u z g k in
        (binary_folds o s n (family_in rights c) t v w h.0 h.1 (subst (λ r. (divides o && is_zero r) ≡ false) z d), λ r. cc)
    values c m t d (Some v) None u z = (tt, λ r. not_true (is_untyped_text c) (λ f. true≢false (sym (texts_constant rights a b c m f).1 ∙ ap is_some z)))
    values c m t d None q u z = (tt, λ r. not_true (is_untyped_text c) (λ f. true≢false (sym (texts_constant rights a b c m f).0 ∙ ap is_some u)))

    ruled : (c : Common) → common rights a b ≡ Some c → (t : Bool) → admits o (family_in rights c) ≡ t
        → cond t (or_else (both_refuse rights c x y ++ zero_divisor o y) (out_of_range rights i j c (binary_value o a b))) (both_refuse rights c x y ++ fault_at code.Operands i j) ≡ [] → Stood rights (result_in c (binary_value o a b))
    ruled c m true t e =
        let h = or_else_none (both_refuse rights c x y ++ zero_divisor o y) (out_of_range rights i j c (binary_value o a b)) e in
        let d = fails_not (divides o && is_zero (constant_of b)) code.ZeroDivisor y (second_none (both_refuse rights c x y) (zero_divisor o y) h.0) in
        let v = values c m t d (constant_of a) (constant_of b) refl refl in
        result_stood rights i j c (binary_value o a b) v.0 v.1 h.1
    ruled c m false t e = let never = second_none (both_refuse rights c x y) (fault_at code.Operands i j) e in cc

    by : (c : Option Common) → common rights a b ≡ c → binary_failing_in rights o i j x y c ≡ [] → Stood rights (binary_sort_in o a b c)
    by None m e = cc
    by (Some c) m e = ruled c m (admits o (family_in rights c)) refl e

-- ---- comparisons

equal_stood : (rights : Rights) (o : Comparison) (v w : Const) → is_equality o ≡ true → family_of_const v ≡ family_of_const w → Stood rights (result_in (in_kind untyped_kind.Boolean) (Some (folded (comparing o) v w)))
equal_stood rights comparison.Equal (const.Bool a) (const.Bool b) e m = record { fit = refl; family = tt }
equal_stood rights comparison.Equal (const.Int a l) (const.Int b r) e m = record { fit = refl; family = tt }
equal_stood rights comparison.Equal (const.Text a) (const.Text b) e m = record { fit = refl; family = tt }
equal_stood rights comparison.NotEqual (const.Bool a) (const.Bool b) e m = record { fit = refl; family = tt }
equal_stood rights comparison.NotEqual (const.Int a l) (const.Int b r) e m = record { fit = refl; family = tt }
equal_stood rights comparison.NotEqual (const.Text a) (const.Text b) e m = record { fit = refl; family = tt }
equal_stood rights comparison.Less v w e m = cc
equal_stood rights comparison.LessEqual v w e m = cc
equal_stood rights comparison.Greater v w e m = cc
equal_stood rights comparison.GreaterEqual v w e m = cc
equal_stood rights o v w e m = cc

wholes_stood : (rights : Rights) (o : Comparison) (a : ℤ) (l : Bool) (b : ℤ) (r : Bool) → Stood rights (result_in (in_kind untyped_kind.Boolean) (Some (folded (comparing o) (const.Int a l) (const.Int b r))))
wholes_stood rights o a l b r = by o
  where
    by : (o : Comparison) → Stood rights (result_in (in_kind untyped_kind.Boolean) (Some (folded (comparing o) (const.Int a l) (const.Int b r))))
    by comparison.Equal = record { fit = refl; family = tt }
    by comparison.NotEqual = record { fit = refl; family = tt }
    by comparison.Less = record { fit = refl; family = tt }
    by comparison.LessEqual = record { fit = refl; family = tt }
    by comparison.Greater = record { fit = refl; family = tt }
    by comparison.GreaterEqual = record { fit = refl; family = tt }

texts_stood : (rights : Rights) (o : Comparison) (a b : List ℕ) → Stood rights (result_in (in_kind untyped_kind.Boolean) (Some (folded (comparing o) (const.Text a) (const.Text b))))
texts_stood rights comparison.Equal a b = record { fit = refl; family = tt }
texts_stood rights comparison.NotEqual a b = record { fit = refl; family = tt }
texts_stood rights comparison.Less a b = record { fit = refl; family = tt }
texts_stood rights comparison.LessEqual a b = record { fit = refl; family = tt }
texts_stood rights comparison.Greater a b = record { fit = refl; family = tt }
texts_stood rights comparison.GreaterEqual a b = record { fit = refl; family = tt }

ordered_stood : (rights : Rights) (o : Comparison) (f : Option Family) (b : Bool) → is_family family.Integers f ≡ b → (b || is_family family.Texts f) ≡ true → (v w : Const) → is_family (family_of_const v) f ≡ true → is_family (family_of_const w) f ≡ true
    → Stood rights (result_in (in_kind untyped_kind.Boolean) (Some (folded (comparing o) v w)))
ordered_stood rights o f true m e v w g k =
    let p = whole_value v (one_family (family_of_const v) family.Integers f g m) in
    let q = whole_value w (one_family (family_of_const w) family.Integers f k m) in
    subst (λ x. Stood rights (result_in (in_kind untyped_kind.Boolean) (Some (folded (comparing o) x w)))) (sym p.2)
    (subst (λ y. Stood rights (result_in (in_kind untyped_kind.Boolean) (Some (folded (comparing o) (const.Int p.0 p.1) y)))) (sym q.2) (wholes_stood rights o p.0 p.1 q.0 q.1))
ordered_stood rights o f false m e v w g k =
    let p = text_value v (one_family (family_of_const v) family.Texts f g e) in
    let q = text_value w (one_family (family_of_const w) family.Texts f k e) in
    subst (λ x. Stood rights (result_in (in_kind untyped_kind.Boolean) (Some (folded (comparing o) x w)))) (sym p.1)
    (subst (λ y. Stood rights (result_in (in_kind untyped_kind.Boolean) (Some (folded (comparing o) (const.Text p.0) y)))) (sym q.1) (texts_stood rights o p.0 q.0))

constant_nil : (a : Stands) (v : Const) → constant_of a ≡ Some v → is_nil a ≡ false
constant_nil sort.Nil v e = cc
constant_nil a v e = refl

compared_stood : (rights : Rights) (o : Comparison) (i j : ℕ) (x y : Part) → KeepsFamily rights (sort_of x) → KeepsFamily rights (sort_of y) → compared_failing rights o i j x y ≡ [] → Stood rights (compared_sort o (sort_of x) (sort_of y))
compared_stood rights o i j x y g k e = by (compared_in rights a b) refl e
  where
    a : Stands
    a = sort_of x

    b : Stands
    b = sort_of y

    fitting : (c : Common) (v w : Const) (q : Bool) → is_equality o ≡ q → InFamily rights c v → InFamily rights c w → unfit rights o i j false c ≡ [] → Stood rights (result_in (in_kind untyped_kind.Boolean) (Some (folded (comparing o) v w)))
    fitting c v w true m p q e = equal_stood rights o v w m (one_family (family_of_const v) (family_of_const w) (family_in rights c) p q)
    fitting c v w false m p q e =
        let h : unordered rights i j c ≡ [] = subst (λ z. cond z (incomparable rights i j c) (unordered rights i j c) ≡ []) m e in
        ordered_stood rights o (family_in rights c) (is_family family.Integers (family_in rights c)) refl (holds (is_family family.Integers (family_in rights c) || is_family family.Texts (family_in rights c)) [] _ h).0 v w p q

    values : (c : Common) → compared_in rights a b ≡ Some c → unfit rights o i j (is_nil a || is_nil b) c ≡ [] → (p q : Option Const) → constant_of a ≡ p → constant_of b ≡ q → Stood rights (result_in (in_kind untyped_kind.Boolean) (folded_both (comparing o) p q))
    values c m u (Some v) (Some w) p q =
        let h = compared_families rights a b c v w m p q g k in
        let n : (is_nil a || is_nil b) ≡ false = ap (λ z. z || is_nil b) (constant_nil a v p) ∙ constant_nil b w q in
        fitting c v w (is_equality o) refl h.0 h.1 (subst (λ z. unfit rights o i j z c ≡ []) n u)
    values c m u (Some v) None p q = record { fit = refl; family = tt }
    values c m u None q p r = record { fit = refl; family = tt }

    by : (c : Option Common) → compared_in rights a b ≡ c → compared_failing_in rights o i j x y c ≡ [] → Stood rights (compared_sort o a b)
    by None m e = cc
    by (Some c) m e = values c m (or_else_none (unfit rights o i j (is_nil a || is_nil b) c) (compared_refuse rights c x y) e).0 (constant_of a) (constant_of b) refl refl

-- ---- shifts

whole_not_text : (rights : Rights) (c : Common) → is_family family.Integers (family_in rights c) ≡ true → is_untyped_text c ≡ false
whole_not_text rights (in_type t) e = refl
whole_not_text rights (in_kind untyped_kind.Boolean) e = refl
whole_not_text rights (in_kind untyped_kind.Integer) e = refl
whole_not_text rights (in_kind untyped_kind.Rune) e = refl
whole_not_text rights (in_kind untyped_kind.Text) e = cc

abbrev pub IsCounted : Const → Type 0
IsCounted w = (n : ℕ) × (rune : Bool) × (w ≡ const.Int (pos n) rune)

pub counted : (c : Const) → family_of_const c ≡ family.Integers → is_negative (Some c) ≡ false → IsCounted c
counted (const.Int (pos n) r) e m = (n, r, refl)
counted (const.Int (negsuc n) r) e m = cc
counted (const.Bool b) e m = cc
counted (const.Text t) e m = cc

not_false : (b : Bool) → not b ≡ true → b ≡ false
not_false true e = cc
not_false false e = refl

open_counted : (rights : Rights) (i j : ℕ) (c : Const) → is_count rights (sort.OpenConstant c) ≡ true → unrepresented_constant rights uint i j (Some c) ≡ [] → IsCounted c
open_counted rights i j (const.Int (pos n) r) e u = (n, r, refl)
open_counted rights i j (const.Int (negsuc n) r) e u = cc
open_counted rights i j (const.Bool b) e u = cc
open_counted rights i j (const.Text t) e u = cc

count_value : (rights : Rights) (n : Part) (w : Const) → KeepsFamily rights (sort_of n) → is_count rights (sort_of n) ≡ true → unrepresented rights uint n ≡ [] → constant_of (sort_of n) ≡ Some w → IsCounted w
count_value rights (typed f i j l ps) w k e u m = by l.sort k e u m
  where
    by : (s : Stands) → KeepsFamily rights s → is_count rights s ≡ true → unrepresented rights uint (typed f i j (labelled s l.varies l.calls) ps) ≡ [] → constant_of s ≡ Some w → IsCounted w
    by (sort.Constant t c) k e u m =
        let whole = and_first (is_family family.Integers (family_of_type (underlying_of rights t))) (not (is_negative (Some c))) e in
        let sign_ = not_false (is_negative (Some c)) (and_second (is_family family.Integers (family_of_type (underlying_of rights t))) (not (is_negative (Some c))) e) in
        let same : c ≡ w = cc in
        subst IsCounted same (counted c (one_family (family_of_const c) family.Integers (family_of_type (underlying_of rights t)) k whole) sign_)
    by (sort.OpenConstant c) k e u m = let same : c ≡ w = cc in subst IsCounted same (open_counted rights i j c e u)
    by s k e u m = cc

shift_folds : (o : Operator) → is_shift o ≡ true → (x : ℤ) (l : Bool) (n : ℕ) (r : Bool) → Folds (Some (folded (constant_op o) (const.Int x l) (const.Int (pos n) r)))
shift_folds (operator.Compute arithmetic.ShiftLeft) e x l n r = whole_folds _ _ _
shift_folds (operator.Compute arithmetic.ShiftRight) e x l n r = whole_folds _ _ _
shift_folds (operator.Compute a) e x l n r = cc
shift_folds o e x l n r = cc

shift_stood : (rights : Rights) (o : Operator) → is_shift o ≡ true → (i j : ℕ) (x n : Part) → KeepsFamily rights (sort_of x) → KeepsFamily rights (sort_of n) → shift_failing rights o i j x n ≡ [] → Stood rights (shift_sort o (sort_of x) (sort_of n))
shift_stood rights o s i j x n g k e = by (own (sort_of x)) refl e
  where
    values : (c : Common) → own (sort_of x) ≡ Some c → is_family family.Integers (family_in rights c) ≡ true → is_count rights (sort_of n) ≡ true → unrepresented rights uint n ≡ [] → (p q : Option Const) → constant_of (sort_of x) ≡ p → constant_of (sort_of n) ≡ q
        → Folds (folded_both (constant_op o) p q)
    values c m f t u (Some v) (Some w) p q =
        let a = whole_value v (one_family (family_of_const v) family.Integers (family_in rights c) (own_family rights (sort_of x) c v m p g) f) in
        let b = count_value rights n w k t u q in
        subst (λ z. Folds (Some (folded (constant_op o) z w))) (sym a.2) (subst (λ z. Folds (Some (folded (constant_op o) (const.Int a.0 a.1) z))) (sym b.2) (shift_folds o s a.0 a.1 b.0 b.1))
    values c m f t u (Some v) None p q = tt
    values c m f t u None q p r = tt

    by : (c : Option Common) → own (sort_of x) ≡ c → shift_failing_in rights o i j x n c ≡ [] → Stood rights (shift_sort_in o (sort_of x) (sort_of n) c)
    by None m e = cc
    by (Some c) m e =
        let r = binary_value o (sort_of x) (sort_of n) in
        let h = holds (is_family family.Integers (family_in rights c) && is_count rights (sort_of n)) (or_else (unrepresented rights uint n) (out_of_range rights i j c r)) _ e in
        let f = and_first (is_family family.Integers (family_in rights c)) (is_count rights (sort_of n)) h.0 in
        let t = and_second (is_family family.Integers (family_in rights c)) (is_count rights (sort_of n)) h.0 in
        let u = or_else_none (unrepresented rights uint n) (out_of_range rights i j c r) h.1 in
        result_stood rights i j c r (values c m f t u.0 (constant_of (sort_of x)) (constant_of (sort_of n)) refl refl) (λ z. whole_not_text rights c f) u.1

-- ---- all operations

pub operation_stood : (rights : Rights) (o : Operator) (i j : ℕ) (x y : Part) → KeepsFamily rights (sort_of x) → KeepsFamily rights (sort_of y) → operation_failing rights o i j x y ≡ [] → Stood rights (operation_sort rights o (sort_of x) (sort_of y))
operation_stood rights (operator.Compare c) i j x y g k e = compared_stood rights c i j x y g k e
operation_stood rights operator.Either i j x y g k e = binary_stood rights operator.Either refl refl i j x y g k e
operation_stood rights operator.Both i j x y g k e = binary_stood rights operator.Both refl refl i j x y g k e
operation_stood rights (operator.Compute a) i j x y g k e = by (is_shift (operator.Compute a)) refl e
  where
    by : (b : Bool) → is_shift (operator.Compute a) ≡ b → cond b (shift_failing rights (operator.Compute a) i j x y) (binary_failing rights (operator.Compute a) i j x y) ≡ []
        → Stood rights (cond b (shift_sort (operator.Compute a) (sort_of x) (sort_of y)) (binary_sort rights (operator.Compute a) (sort_of x) (sort_of y)))
    by true m e = shift_stood rights (operator.Compute a) m i j x y g k e
    by false m e = binary_stood rights (operator.Compute a) m refl i j x y g k e

-- ---- unary operators

mask_whole : (o : Option TypeTree) → family_of_const (complement_mask o) ≡ family.Integers
mask_whole (Some (integer k)) = by (is_signed k)
  where
    by : (b : Bool) → family_of_const (cond b (const.Int (neg_ℤ (pos 1)) false) (const.Int (pos (2 ^ bits_of k - 1)) false)) ≡ family.Integers
    by true = refl
    by false = refl
mask_whole o = refl

signed_folds : (o : Sign) (mask v : Const) → family_of_const mask ≡ family.Integers → family_of_const v ≡ sign_family o → Folds (Some (signed_const o mask v))
signed_folds sign.Plus mask v m e = tt
signed_folds sign.Minus mask v m e = whole_operands arithmetic.Subtract (const.Int (pos 0) false) v refl e refl refl
signed_folds sign.Complement mask v m e = whole_operands arithmetic.Xor mask v m e refl refl
signed_folds sign.Not mask (const.Bool b) m e = tt
signed_folds sign.Not mask (const.Int z r) m e = cc
signed_folds sign.Not mask (const.Text t) m e = cc

signed_not_text : (rights : Rights) (o : Sign) (c : Common) → is_family (sign_family o) (family_in rights c) ≡ true → is_untyped_text c ≡ false
signed_not_text rights o (in_type t) e = refl
signed_not_text rights o (in_kind untyped_kind.Boolean) e = refl
signed_not_text rights o (in_kind untyped_kind.Integer) e = refl
signed_not_text rights o (in_kind untyped_kind.Rune) e = refl
signed_not_text rights sign.Not (in_kind untyped_kind.Text) e = cc
signed_not_text rights o (in_kind untyped_kind.Text) e = cc

pub unary_stood : (rights : Rights) (o : Sign) (i j : ℕ) (a : Stands) → KeepsFamily rights a → unary_failing rights o i j a ≡ [] → Stood rights (unary_sort rights o a)
unary_stood rights o i j a k e = by (own a) refl e
  where
    mask : Const
    mask = complement_mask (underlying_in rights (own_type a))

    values : (c : Common) → own a ≡ Some c → is_family (sign_family o) (family_in rights c) ≡ true → (p : Option Const) → constant_of a ≡ p → Folds (signed_value o mask p)
    values c m f (Some v) p = signed_folds o mask v (mask_whole (underlying_in rights (own_type a))) (one_family (family_of_const v) (sign_family o) (family_in rights c) (own_family rights a c v m p k) f)
    values c m f None p = tt

    by : (c : Option Common) → own a ≡ c → unary_failing_in rights o i j a c ≡ [] → Stood rights (unary_sort_in rights o a c)
    by None m e = cc
    by (Some c) m e =
        let h = holds (is_family (sign_family o) (family_in rights c)) (out_of_range rights i j c (unary_value rights o a)) _ e in
        result_stood rights i j c (unary_value rights o a) (values c m h.0 (constant_of a) refl) (λ z. signed_not_text rights o c h.0) h.1
