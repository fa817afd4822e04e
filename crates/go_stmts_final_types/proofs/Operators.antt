-- Operations.
use Rattle.std.proofs.Common.{◌≡◌, ℕ, Bool, true, false, cond, [], ◌∷◌, Option, Some, None, refl, ap, ◌∙◌}
use Rattle.std.specs.Prelude.{◌&&◌, is_some}
use Rattle.go_constants.specs.declared.values.Const.{Const}
use Rattle.go_constants.specs.declared.values.ConstOp.{ConstOp}
use Rattle.go_grammar.specs.declared.kind.Comparison.{Comparison}
use Rattle.go_grammar.specs.declared.kind.Operator.{Operator}
use Rattle.go_grammar.specs.declared.kind.Operator.TheVariants as operator
use Rattle.go_grammar.specs.declared.kind.Sign.{Sign}
use Rattle.go_types.specs.Trees.{TypeTree}
use Rattle.go_types.specs.Relations.{Rights}
use Rattle.go_typed.specs.declared.sort.Untyped.TheVariants as untyped
use Rattle.go_typed.specs.Trees.{Label, Typed, typed, Typeds, sort_of}
use Rattle.go_typed.specs.Trees as sort
use Rattle.go_exprs_rules.specs.declared.family.OpenKind.{OpenKind}
use Rattle.go_exprs_rules.specs.declared.family.OpenKind.TheVariants as untyped_kind
use Rattle.go_exprs_rules.specs.Operators.{Common, open_kinds, result_in, binary_failing, in_type, in_kind, common, common_by, own, open_value, folded_both, constant_op, unary_sort, unary_take, binary_sort, binary_sort_in, binary_take, binary_take_in, shift_sort, shift_sort_in, shifted_take, shift_failing, shift_failing_in, is_count, family_in, compared_in, compared_sort, compared_take, compared_take_in, compared_failing, compared_failing_in, is_shift, operation_failing, operation_sort, operation_takes}
use Rattle.go_exprs_rules.specs.Settling.{Part, stay, default, as_type, given}
use Rattle.go_exprs_rules.specs.Sorts.{Stands, is_constant, constant_of, own_type, open_kind, default_type, is_family, uint}
use Rattle.go_exprs_rules.specs.declared.family.Family.TheVariants as family
use Rattle.go_exprs_rules.specs.Tables.{all_given}
use Rattle.go_stmts_final_types.proofs.Given.{Settles, Done, is_closed, is_valued, labelled, settled_done, default_done, closed_done}
use Rattle.go_stmts_final_types.proofs.Nodes.{Slot, AllSlots, done_slot, no_slot, waiting_slot, and_second}
use Rattle.go_stmts_final_types.proofs.Tests.{holds, count_valued}

-- ---- one operand

open_waits : (k : OpenKind) → is_closed (open_value k) ≡ false
open_waits untyped_kind.Boolean = refl
open_waits untyped_kind.Integer = refl
open_waits untyped_kind.Rune = refl
open_waits untyped_kind.Text = refl

pub unary_slot : (rights : Rights) (o : Sign) (x : Part) → Settles x → Slot (unary_sort rights o (sort_of x)) (given (unary_take (sort_of x)) x)
unary_slot rights o (typed f i j l ps) h = by_sort l.sort h
  where
    by_sort : (s : Stands) → Settles (typed f i j (labelled s l.varies l.calls) ps) → Slot (unary_sort rights o s) (given (unary_take s) (typed f i j (labelled s l.varies l.calls) ps))
    by_sort (sort.Value t) h = done_slot (sort.Value t) (typed f i j (labelled (sort.Value t) l.varies l.calls) ps) (closed_done (typed f i j (labelled (sort.Value t) l.varies l.calls) ps) h refl)
    by_sort (sort.Constant t c) h =
        done_slot (unary_sort rights o (sort.Constant t c)) (typed f i j (labelled (sort.Constant t c) l.varies l.calls) ps) (closed_done (typed f i j (labelled (sort.Constant t c) l.varies l.calls) ps) h refl)
    by_sort (sort.OpenConstant c) h =
        let x : Part = typed f i j (labelled (sort.OpenConstant c) l.varies l.calls) ps in done_slot (unary_sort rights o (sort.OpenConstant c)) (given default x) (default_done x h refl)
    by_sort (sort.Open untyped.Boolean) h = waiting_slot (sort.Open untyped.Boolean) (typed f i j (labelled (sort.Open untyped.Boolean) l.varies l.calls) ps) refl h refl
    by_sort (sort.Open untyped.Integer) h = waiting_slot (sort.Open untyped.Integer) (typed f i j (labelled (sort.Open untyped.Integer) l.varies l.calls) ps) refl h refl
    by_sort (sort.Open untyped.Rune) h = waiting_slot (sort.Open untyped.Rune) (typed f i j (labelled (sort.Open untyped.Rune) l.varies l.calls) ps) refl h refl
    by_sort s h = no_slot sort.Unknown (typed f i j (labelled s l.varies l.calls) ps) refl refl

-- ---- two operands

not_both : (o : ConstOp) (p q : Option Const) → (is_some p && is_some q) ≡ false → folded_both o p q ≡ None
not_both o (Some a) (Some b) e = cc
not_both o (Some a) None e = refl
not_both o None q e = refl

left_valued : (rights : Rights) (a b : Stands) (c : Common) → common rights a b ≡ Some c → is_valued a ≡ true
left_valued rights sort.Unknown b c e = by (own_type b) e
  where
    by : (o : Option TypeTree) → common_by rights sort.Unknown b None o ≡ Some c → false ≡ true
    by (Some u) e = cc
    by None e = cc
left_valued rights (sort.IsType t) b c e = by (own_type b) e
  where
    by : (o : Option TypeTree) → common_by rights (sort.IsType t) b None o ≡ Some c → false ≡ true
    by (Some u) e = cc
    by None e = cc
left_valued rights a b c e = refl

right_valued : (rights : Rights) (a b : Stands) (c : Common) → common rights a b ≡ Some c → is_valued b ≡ true
right_valued rights a sort.Unknown c e = by (own_type a) (open_kind a) refl e
  where
    by : (o : Option TypeTree) (k : Option OpenKind) → open_kind a ≡ k → common_by rights a sort.Unknown o None ≡ Some c → false ≡ true
    by (Some u) k m e = cc
    by None (Some k) m e = let same = ap (λ z. open_kinds z None) m in cc
    by None None m e = let same = ap (λ z. open_kinds z None) m in cc
right_valued rights a (sort.IsType t) c e = by (own_type a) (open_kind a) refl e
  where
    by : (o : Option TypeTree) (k : Option OpenKind) → open_kind a ≡ k → common_by rights a (sort.IsType t) o None ≡ Some c → false ≡ true
    by (Some u) k m e = cc
    by None (Some k) m e = let same = ap (λ z. open_kinds z None) m in cc
    by None None m e = let same = ap (λ z. open_kinds z None) m in cc
right_valued rights a b c e = refl

-- what an operand takes of an operation whose operands meet in c
module _ (o : Operator) (a b : Stands) where
  kind_slot : (k : OpenKind) (d : Bool) → (is_some (constant_of a) && is_some (constant_of b)) ≡ d → (x : Part) → Settles x → is_valued (sort_of x) ≡ true → Slot (binary_sort_in o a b (Some (in_kind k))) (given (cond d default stay) x)
  kind_slot k true e x h v = done_slot (binary_sort_in o a b (Some (in_kind k))) (given default x) (default_done x h v)
  kind_slot k false e x h v =
      waiting_slot (binary_sort_in o a b (Some (in_kind k))) x (ap (λ r. is_closed (result_in (in_kind k) r)) (not_both (constant_op o) (constant_of a) (constant_of b) e) ∙ open_waits k) h v

  meeting_slot : (c : Option Common) (x : Part) → Settles x → ((d : Common) → c ≡ Some d → is_valued (sort_of x) ≡ true) → Slot (binary_sort_in o a b c) (given (binary_take_in a b c) x)
  meeting_slot None x h v = no_slot sort.Unknown x refl refl
  meeting_slot (Some (in_type t)) x h v = done_slot (binary_sort_in o a b (Some (in_type t))) (given (as_type t) x) (settled_done x h t (v (in_type t) refl))
  meeting_slot (Some (in_kind k)) x h v = kind_slot k (is_some (constant_of a) && is_some (constant_of b)) refl x h (v (in_kind k) refl)

pub binary_slots : (rights : Rights) (o : Operator) (x y : Part) → Settles x → Settles y
    → AllSlots (binary_sort rights o (sort_of x) (sort_of y)) (Some (given (binary_take rights (sort_of x) (sort_of y)) x) ∷ Some (given (binary_take rights (sort_of x) (sort_of y)) y) ∷ [])
binary_slots rights o x y h g =
    let a = sort_of x in
    let b = sort_of y in
    (meeting_slot o a b (common rights a b) x h (left_valued rights a b), (meeting_slot o a b (common rights a b) y g (right_valued rights a b), tt))

-- ---- shifts

own_valued : (a : Stands) (c : Common) → own a ≡ Some c → is_valued a ≡ true
own_valued sort.Unknown c e = cc
own_valued (sort.IsType t) c e = cc
own_valued a c e = refl

own_closed : (a : Stands) (t : TypeTree) → own a ≡ Some (in_type t) → is_closed a ≡ true
own_closed sort.Unknown t e = cc
own_closed (sort.IsType u) t e = cc
own_closed (sort.Open u) t e = cc
own_closed (sort.OpenConstant c) t e = cc
own_closed a t e = refl

module _ (o : Operator) (x : Part) (n : Stands) (h : Settles x) where
  left_slot : (c : Common) (d : Bool) → own (sort_of x) ≡ Some c → (is_some (constant_of (sort_of x)) && is_some (constant_of n)) ≡ d → Slot (shift_sort_in o (sort_of x) n (Some c)) (given (cond d default stay) x)
  left_slot c true m e = done_slot (shift_sort_in o (sort_of x) n (Some c)) (given default x) (default_done x h (own_valued (sort_of x) c m))
  left_slot (in_type t) false m e = done_slot (shift_sort_in o (sort_of x) n (Some (in_type t))) x (closed_done x h (own_closed (sort_of x) t m))
  left_slot (in_kind k) false m e =
      waiting_slot (shift_sort_in o (sort_of x) n (Some (in_kind k))) x (ap (λ r. is_closed (result_in (in_kind k) r)) (not_both (constant_op o) (constant_of (sort_of x)) (constant_of n) e) ∙ open_waits k) h (own_valued (sort_of x) (in_kind k) m)

pub shift_slots : (rights : Rights) (o : Operator) (i j : ℕ) (x y : Part) → Settles x → Settles y → shift_failing rights o i j x y ≡ []
    → AllSlots (shift_sort o (sort_of x) (sort_of y)) (Some (given (shifted_take (sort_of x) (sort_of y)) x) ∷ Some (given (as_type uint) y) ∷ [])
shift_slots rights o i j x y h g e = by (own (sort_of x)) refl e
  where
    by : (c : Option Common) → own (sort_of x) ≡ c → shift_failing_in rights o i j x y c ≡ []
        → AllSlots (shift_sort_in o (sort_of x) (sort_of y) c) (Some (given (shifted_take (sort_of x) (sort_of y)) x) ∷ Some (given (as_type uint) y) ∷ [])
    by None m e = (no_slot sort.Unknown _ refl refl, (no_slot sort.Unknown _ refl refl, tt))
    by (Some c) m e =
        let t = holds (is_family family.Integers (family_in rights c) && is_count rights (sort_of y)) _ _ e in
        let v = count_valued rights (sort_of y) (and_second (is_family family.Integers (family_in rights c)) (is_count rights (sort_of y)) t.0) in
        (left_slot o x (sort_of y) h c (is_some (constant_of (sort_of x)) && is_some (constant_of (sort_of y))) m refl, (done_slot (shift_sort_in o (sort_of x) (sort_of y) (Some c)) (given (as_type uint) y) (settled_done y g uint v), tt))

-- ---- comparisons

left_compared : (rights : Rights) (a b : Stands) (c : Common) → compared_in rights a b ≡ Some c → is_valued a ≡ true
left_compared rights sort.Unknown sort.Nil c e = cc
left_compared rights sort.Unknown b c e = cc
left_compared rights (sort.IsType t) sort.Nil c e = cc
left_compared rights (sort.IsType t) b c e = cc
left_compared rights a b c e = refl

right_compared : (rights : Rights) (a b : Stands) (c : Common) → compared_in rights a b ≡ Some c → is_valued b ≡ true
right_compared rights sort.Nil sort.Unknown c e = cc
right_compared rights a sort.Unknown c e = cc
right_compared rights sort.Nil (sort.IsType t) c e = cc
right_compared rights a (sort.IsType t) c e = cc
right_compared rights a b c e = refl

pub compared_done : (a b : Stands) (c : Common) (x : Part) → Settles x → is_valued (sort_of x) ≡ true → Done (given (compared_take_in a b (Some c)) x)
compared_done a b (in_type t) x h v = settled_done x h t v
compared_done a b (in_kind k) x h v = by (is_constant a && is_constant b)
  where
    by : (d : Bool) → Done (given (cond d default (as_type (default_type k))) x)
    by true = default_done x h v
    by false = settled_done x h (default_type k) v

pub compared_slots : (rights : Rights) (o : Comparison) (i j : ℕ) (x y : Part) → Settles x → Settles y → compared_failing rights o i j x y ≡ []
    → AllSlots (compared_sort o (sort_of x) (sort_of y)) (Some (given (compared_take rights (sort_of x) (sort_of y)) x) ∷ Some (given (compared_take rights (sort_of x) (sort_of y)) y) ∷ [])
compared_slots rights o i j x y h g e = by (compared_in rights (sort_of x) (sort_of y)) refl e
  where
    by : (c : Option Common) → compared_in rights (sort_of x) (sort_of y) ≡ c → compared_failing_in rights o i j x y c ≡ []
        → AllSlots (compared_sort o (sort_of x) (sort_of y)) (Some (given (compared_take_in (sort_of x) (sort_of y) c) x) ∷ Some (given (compared_take_in (sort_of x) (sort_of y) c) y) ∷ [])
    by None m e = cc
    by (Some c) m e = (
      done_slot (compared_sort o (sort_of x) (sort_of y)) _ (compared_done (sort_of x) (sort_of y) c x h (left_compared rights (sort_of x) (sort_of y) c m)),
      (done_slot (compared_sort o (sort_of x) (sort_of y)) _ (compared_done (sort_of x) (sort_of y) c y g (right_compared rights (sort_of x) (sort_of y) c m)), tt),
    )

-- ---- all of them

pub operation_slots : (rights : Rights) (o : Operator) (i j : ℕ) (x y : Part) → Settles x → Settles y → operation_failing rights o i j x y ≡ []
    → AllSlots (operation_sort rights o (sort_of x) (sort_of y)) (all_given (operation_takes rights o (sort_of x) (sort_of y)) (Some x ∷ Some y ∷ []))
operation_slots rights (operator.Compare c) i j x y h g e = compared_slots rights c i j x y h g e
operation_slots rights operator.Either i j x y h g e = binary_slots rights operator.Either x y h g
operation_slots rights operator.Both i j x y h g e = binary_slots rights operator.Both x y h g
operation_slots rights (operator.Compute a) i j x y h g e = by (is_shift (operator.Compute a)) e
  where
    by : (b : Bool) → cond b (shift_failing rights (operator.Compute a) i j x y) (binary_failing rights (operator.Compute a) i j x y) ≡ []
        → AllSlots (cond b (shift_sort (operator.Compute a) (sort_of x) (sort_of y)) (binary_sort rights (operator.Compute a) (sort_of x) (sort_of y)))
        (all_given (cond b (shifted_take (sort_of x) (sort_of y) ∷ as_type uint ∷ []) (binary_take rights (sort_of x) (sort_of y) ∷ binary_take rights (sort_of x) (sort_of y) ∷ [])) (Some x ∷ Some y ∷ []))
    by true e = shift_slots rights (operator.Compute a) i j x y h g e
    by false e = binary_slots rights (operator.Compute a) x y h g
