-- Slice expressions, where variables stand in place of constants in the operand and in the bounds.
use Rattle.std.proofs.Common.{◌≡◌, ◌∙◌, ◌+◌, ◌⊎◌, inl, inr, ℕ, Bool, true, false, [], ◌++◌, Option, Some, None, refl, sym, ap}
use Rattle.std.specs.Prelude.{◌&&◌, ◌||◌, if◌then◌else◌, is_some}
use Rattle.std.specs.Option.{option_map}
use Rattle.go_base.specs.declared.fault.FaultCode.TheVariants as code
use Rattle.go_constants.specs.declared.values.Const.{Const}
use Rattle.go_constants.specs.declared.values.Const.TheVariants as const
use Rattle.go_types.specs.Trees.{TypeTree}
use Rattle.go_types.specs.Relations.{Rights}
use Rattle.go_typed.specs.Trees.{typed, sort_of}
use Rattle.go_typed.specs.Trees as sort
use Rattle.go_exprs_rules.specs.Indexes.{optional_bound, bounds_failing, is_greater, disordered, text_length, whole_or_absent, slice_failing, slice_sort, value_or_unknown}
use Rattle.go_exprs_rules.specs.Settling.{Part, at_part}
use Rattle.go_exprs_rules.specs.Sorts.{Stands, constant_of, is_text, form_of_value, slice_element, underlying_in, open_kind, default_type, value_type, int}
use Rattle.go_exprs_rules.specs.declared.family.OpenKind.{OpenKind}
pub use Rattle.go_exprs_variables.specs.Operands.{Bounded, no_bound, a_bound}
use Rattle.go_exprs_variables.specs.Stood.{Stood, as_before, in_place, early}
use Rattle.go_exprs_variables.proofs.Indexes.{whole_kept, text_kept, bound_kept, length_kept}
use Rattle.go_exprs_variables.proofs.Meeting.{Seen, unchanged, closed, seen, constants}
use Rattle.go_exprs_variables.proofs.Parts.{Operand, both_none, none_of_both, holds, held}
use Rattle.go_exprs_variables.proofs.Shifts.{and_true, true_and}

-- two constants in order are none out of order where one is none any more
pub ordered_kept : (a b c d : Option Const) → (c ≡ a) ⊎ (c ≡ None) → (d ≡ b) ⊎ (d ≡ None) → is_greater a b ≡ false → is_greater c d ≡ false
ordered_kept a b c d (inl e) (inl f) g = ap (λ z. is_greater z d) e ∙ ap (is_greater a) f ∙ g
ordered_kept a b c d (inr e) f g = ap (λ z. is_greater z d) e
ordered_kept a b c d (inl e) (inr f) g = ap (is_greater c) f ∙ no_second c
  where
    no_second : (c : Option Const) → is_greater c None ≡ false
    no_second None = refl
    no_second (Some (const.Int z r)) = refl
    no_second (Some (const.Bool z)) = refl
    no_second (Some (const.Text z)) = refl

pub in_order : (b : Bool) (x : Part) → (if b then at_part code.ConstIndex x else []) ≡ [] → b ≡ false
in_order false x e = refl
in_order true (typed f i j l ps) e = cc

pub still_in_order : (b : Bool) (y : Part) → b ≡ false → (if b then at_part code.ConstIndex y else []) ≡ []
still_in_order b y e = ap (λ z. if z then at_part code.ConstIndex y else []) e

module _ (rights : Rights) where
  pub disordered_kept : (x y z v : Part) → Operand rights (Some int) x z → Operand rights (Some int) y v → disordered (Some x) (Some y) ≡ [] → disordered (Some z) (Some v) ≡ []
  disordered_kept x y z v p q e =
      let kept = ordered_kept (constant_of (sort_of x)) (constant_of (sort_of y)) (constant_of (sort_of z)) (constant_of (sort_of v)) (constants rights (Some int) (sort_of x) (sort_of z) p.stands) (constants rights (Some int) (sort_of y) (sort_of v) q.stands)
      (in_order (is_greater (constant_of (sort_of x)) (constant_of (sort_of y))) x e) in
      still_in_order (is_greater (constant_of (sort_of z)) (constant_of (sort_of v))) z kept

  order_kept : (x y z v : Option Part) → Bounded rights x z → Bounded rights y v → disordered x y ≡ [] → disordered z v ≡ []
  order_kept x y z v no_bound q e = refl
  order_kept x y z v (a_bound a b p) no_bound e = refl
  order_kept x y z v (a_bound a b p) (a_bound c d q) e = disordered_kept a c b d p q e

  optional_kept : (l m : Option ℕ) (x y : Option Part) → (m ≡ l) ⊎ (m ≡ None) → Bounded rights x y → optional_bound rights l x ≡ [] → optional_bound rights m y ≡ []
  optional_kept l m x y h no_bound e = refl
  optional_kept l m x y h (a_bound a b p) e = bound_kept rights l m a b h p e

  absent_kept : (x y : Option Part) → Bounded rights x y → whole_or_absent rights x ≡ true → whole_or_absent rights y ≡ true
  absent_kept x y no_bound e = refl
  absent_kept x y (a_bound a b p) e = whole_kept rights (Some int) (sort_of a) (sort_of b) p.stands ∙ e

  bounds_kept : (l m : Option ℕ) (x y z v : Option Part) → (m ≡ l) ⊎ (m ≡ None) → Bounded rights x z → Bounded rights y v → bounds_failing rights l x y ≡ [] → bounds_failing rights m z v ≡ []
  bounds_kept l m x y z v h p q e =
      let outer = both_none (optional_bound rights l x ++ optional_bound rights l y) (disordered x y) e in
      let inner = both_none (optional_bound rights l x) (optional_bound rights l y) outer.0 in
      none_of_both (optional_bound rights m z ++ optional_bound rights m v) (disordered z v)
      (none_of_both (optional_bound rights m z) (optional_bound rights m v) (optional_kept l m x z h p inner.0) (optional_kept l m y v h q inner.1)) (order_kept x y z v p q outer.1)

  -- a text stays one, and a slice has its type
  sliced : (o : Option TypeTree) (a b : Stands) → Stood rights o a b → Seen rights o a b → (is_text rights a || is_some (slice_element (form_of_value rights a))) ≡ true → (is_text rights b || is_some (slice_element (form_of_value rights b))) ≡ true
  sliced o a b st (unchanged e f) g =
      ap (λ z. z || is_some (slice_element (form_of_value rights b))) (text_kept rights o a b st) ∙ ap (λ z. is_text rights a || is_some (slice_element (underlying_in rights z))) e ∙ g
  sliced o a b st (closed t k e f c d p q) g =
      ap (λ z. z || is_some (slice_element (form_of_value rights b))) (text_kept rights o a b st)
      ∙ first (is_text rights a) (is_some (slice_element (form_of_value rights a))) (is_some (slice_element (form_of_value rights b))) (ap (λ z. is_some (slice_element (underlying_in rights z))) e) g
    where
      first : (x y z : Bool) → y ≡ false → (x || y) ≡ true → (x || z) ≡ true
      first true y z m n = refl
      first false true z m n = cc
      first false false z m n = cc

  limit_kept : (v w : Option ℕ) → (w ≡ v) ⊎ (w ≡ None) → (option_map (λ n. n + 1) w ≡ option_map (λ n. n + 1) v) ⊎ (option_map (λ n. n + 1) w ≡ None)
  limit_kept v w (inl e) = inl (ap (option_map (λ n. n + 1)) e)
  limit_kept v w (inr e) = inr (ap (option_map (λ n. n + 1)) e)

  -- No rule of a slice expression fails that didn't.
  pub slice_row : (i j : ℕ) (o : Option TypeTree) (a b : Stands) (x y z v : Option Part) → Stood rights o a b → Bounded rights x z → Bounded rights y v → slice_failing rights i j a x y ≡ [] → slice_failing rights i j b z v ≡ []
  slice_row i j o a b x y z v st p q e =
      let form_old = is_text rights a || is_some (slice_element (form_of_value rights a)) in
      let form_new = is_text rights b || is_some (slice_element (form_of_value rights b)) in
      let limit_old = option_map (λ n. n + 1) (text_length (constant_of a)) in
      let limit_new = option_map (λ n. n + 1) (text_length (constant_of b)) in
      let ok = holds (form_old && whole_or_absent rights x && whole_or_absent rights y) (bounds_failing rights limit_old x y) code.Operands i j e in
      let outer = and_true (form_old && whole_or_absent rights x) (whole_or_absent rights y) ok.0 in
      let inner = and_true form_old (whole_or_absent rights x) outer.0 in
      held (form_new && whole_or_absent rights z && whole_or_absent rights v) (bounds_failing rights limit_new z v) code.Operands i j
      (true_and (form_new && whole_or_absent rights z) (whole_or_absent rights v)
      (true_and form_new (whole_or_absent rights z) (sliced o a b st (seen rights o a b st) inner.0) (absent_kept x z p inner.1)) (absent_kept y v q outer.1))
      (bounds_kept limit_old limit_new x y z v (limit_kept (text_length (constant_of a)) (text_length (constant_of b)) (length_kept rights (constant_of a) (constant_of b) (constants rights o a b st))) p q ok.1)

  -- It stands for what it stood for, where the operand takes its default type.
  pub sliced_sort : (o : Option TypeTree) (a b : Stands) → Stood rights o a b → o ≡ option_map default_type (open_kind a) → slice_sort b ≡ slice_sort a
  sliced_sort o a b (as_before v c) e = refl
  sliced_sort o a b (in_place v t c) e = refl
  sliced_sort o a b (early t c k m n) e = ap value_or_unknown (same ∙ sym (default_value c k m))
    where
      same : Some t ≡ Some (default_type k)
      same = e ∙ ap (option_map default_type) m

      default_value : (c : Stands) (k : OpenKind) → open_kind c ≡ Some k → value_type c ≡ Some (default_type k)
      default_value (sort.Open u) k m = ap (option_map default_type) m
      default_value (sort.OpenConstant u) k m = ap (option_map default_type) m
      default_value c k m = cc
