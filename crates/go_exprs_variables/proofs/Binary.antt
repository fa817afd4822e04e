-- Binary operators that neither compare nor shift, where variables stand in place of constants in the operands.
use Rattle.std.proofs.Common.{◌≡◌, ◌∙◌, ◌⊎◌, inl, inr, ℕ, Bool, true, false, List, [], ◌∷◌, ◌++◌, Option, Some, None, refl, sym, ap, subst}
use Rattle.std.specs.Prelude.{◌&&◌, if◌then◌else◌, is_some, Result}
use Rattle.go_base.specs.declared.fault.FaultCode.TheVariants as code
use Rattle.go_constants.specs.declared.values.Const.{Const}
use Rattle.go_constants.specs.declared.values.ConstFault.{ConstFault}
use Rattle.go_constants.specs.declared.values.ConstOp.{ConstOp}
use Rattle.go_grammar.specs.declared.kind.Operator.{Operator}
use Rattle.go_types.specs.Trees.{TypeTree}
use Rattle.go_types.specs.Relations.{Rights}
use Rattle.go_types_relations.specs.Identity.{is_identical}
use Rattle.go_typed.specs.Trees.{Sort, typed, sort_of}
use Rattle.go_typed.specs.Trees as sort
use Rattle.go_exprs_rules.specs.declared.family.OpenKind.{OpenKind}
use Rattle.go_exprs_rules.specs.declared.family.OpenKind.TheVariants as untyped_kind
use Rattle.go_exprs_rules.specs.declared.fault.TypeFault.{TypeFault}
use Rattle.go_exprs_rules.specs.Faults.{fault_at, or_else}
use Rattle.go_exprs_rules.specs.Operators.{Common, in_type, in_kind, common, constant_op, folded_both, family_in, both_refuse, result_in, value_in, open_value, out_of_range, admits, divides, zero_divisor, binary_value, binary_failing, binary_failing_in, binary_sort, binary_sort_in, binary_take, binary_take_in}
use Rattle.go_exprs_rules.specs.Settling.{Part, Take, stay, default, as_type, at_part, unrepresented}
use Rattle.go_exprs_rules.specs.Sorts.{Stands, constant_of, is_constant, is_zero, suits}
use Rattle.go_exprs_variables.specs.Operands.{Both}
use Rattle.go_exprs_variables.specs.Stood.{Stood, as_before, early, taken}
use Rattle.go_exprs_variables.proofs.Families.{suited}
use Rattle.go_exprs_variables.proofs.Unary.{IsValue, folds, truth_differs}
use Rattle.go_exprs_variables.proofs.Parts.{both_none, none_of_both, neither, of_neither}
use Rattle.go_exprs_variables.proofs.Meeting.{seen, constants, meeting_take, Meets, there, sooner, meets}

-- What operands take is the same; or they take the type of the node at once, which they took later.
pub data TakesSo : Option TypeTree → Take → Take → Type 0 where
  same : (u : Option TypeTree) (k : Take) → TakesSo u k k
  at_once : (t : TypeTree) → TakesSo (Some t) stay (as_type t)

-- ---- operations without a value

pub never_folds : (c : Common) (r : Option (Result Const ConstFault)) → IsValue (result_in c r) → r ≡ None
never_folds c None h = refl
never_folds c (Some r) h = absurd (folds c r h)

-- what isn't folded isn't where less is constant
pub less_folds : (o : ConstOp) (a b x y : Option Const) → (x ≡ a) ⊎ (x ≡ None) → (y ≡ b) ⊎ (y ≡ None) → folded_both o a b ≡ None → folded_both o x y ≡ None
less_folds o a b x y (inl e) (inl f) g = ap (λ z. folded_both o z y) e ∙ ap (folded_both o a) f ∙ g
less_folds o a b x y (inr e) f g = ap (λ z. folded_both o z y) e
less_folds o a b x y (inl e) (inr f) g = ap (λ z. folded_both o z y) e ∙ ap (folded_both o a) f ∙ no_second a
  where
    no_second : (a : Option Const) → folded_both o a None ≡ None
    no_second None = refl
    no_second (Some c) = refl

pub not_both : (o : ConstOp) (a b : Option Const) → folded_both o a b ≡ None → (is_some a && is_some b) ≡ false
not_both o (Some a) (Some b) e = cc
not_both o (Some a) None e = refl
not_both o None b e = refl

-- ---- rules

pub admitted : (b : Bool) (all fs : List TypeFault) (i j : ℕ) → (if b then all else fs ++ fault_at code.Operands i j) ≡ [] → (b ≡ true) × (all ≡ [])
admitted true all fs i j e = (refl, e)
admitted false all [] i j e = cc
admitted false all (f ∷ fs) i j e = cc

no_zero : (b : Bool) (y : Part) → (if b then at_part code.ZeroDivisor y else []) ≡ [] → b ≡ false
no_zero false y e = refl
no_zero true (typed f i j l ps) e = cc

is_no_zero : (v w : Option Const) → (w ≡ v) ⊎ (w ≡ None) → (b : Bool) → (b && is_zero v) ≡ false → (b && is_zero w) ≡ false
is_no_zero v w (inl e) b f = ap (λ z. b && is_zero z) e ∙ f
is_no_zero v w (inr e) true f = ap is_zero e
is_no_zero v w (inr e) false f = refl

module _ (rights : Rights) (itself : (t : TypeTree) → is_identical t t ≡ true) where
  pub record BinaryRow (u : Option TypeTree) (o : Operator) (i j : ℕ) (x y z w : Part) : Type 0 where
    pub failing : binary_failing rights o i j z w ≡ []
    pub stands : Stood rights u (binary_sort rights o (sort_of x) (sort_of y)) (binary_sort rights o (sort_of z) (sort_of w))
    pub take : TakesSo u (binary_take rights (sort_of x) (sort_of y)) (binary_take rights (sort_of z) (sort_of w))

  kept_refusal : (u : Option TypeTree) (c : Common) (x y z w : Part) → Both rights u c x y z w → both_refuse rights c x y ≡ [] → both_refuse rights c z w ≡ []
  kept_refusal u (in_type t) x y z w h e =
      let both = both_none (unrepresented rights t x) (unrepresented rights t y) e in
      none_of_both (unrepresented rights t z) (unrepresented rights t w) (h.left.range t both.0) (h.right.range t both.1)
  kept_refusal u (in_kind k) x y z w h e = refl

  sooner_refusal : (u : Option TypeTree) (c : Common) (t : TypeTree) (x y z w : Part) → Both rights u c x y z w → u ≡ Some t → both_refuse rights (in_type t) z w ≡ []
  sooner_refusal u c t x y z w h e =
      let both = h.later t e in
      none_of_both (unrepresented rights t z) (unrepresented rights t w) (h.left.range t both.0) (h.right.range t both.1)

  -- the operation over operands that meet in d
  judged : (o : Operator) (i j : ℕ) (z w : Part) (d : Common) → common rights (sort_of z) (sort_of w) ≡ Some d → admits o (family_in rights d) ≡ true → both_refuse rights d z w ≡ []
      → zero_divisor o w ≡ [] → binary_value o (sort_of z) (sort_of w) ≡ None → binary_failing rights o i j z w ≡ []
  judged o i j z w d is a r q v =
      ap (binary_failing_in rights o i j z w) is
      ∙ ap (λ b. if b then or_else (both_refuse rights d z w ++ zero_divisor o w) (out_of_range rights i j d (binary_value o (sort_of z) (sort_of w))) else both_refuse rights d z w ++ fault_at code.Operands i j) a
      ∙ of_neither (both_refuse rights d z w ++ zero_divisor o w) (out_of_range rights i j d (binary_value o (sort_of z) (sort_of w))) (none_of_both (both_refuse rights d z w) (zero_divisor o w) r q) (ap (out_of_range rights i j d) v)

  pub known_kind : (t : TypeTree) (k : OpenKind) → IsValue (open_value k) → suits rights k t ≡ true → Stood rights (Some t) (open_value k) (sort.Value t)
  known_kind t untyped_kind.Boolean h e = early t (open_value untyped_kind.Boolean) untyped_kind.Boolean refl e
  known_kind t untyped_kind.Integer h e = early t (open_value untyped_kind.Integer) untyped_kind.Integer refl e
  known_kind t untyped_kind.Rune h e = early t (open_value untyped_kind.Rune) untyped_kind.Rune refl e
  known_kind t untyped_kind.Text h e = absurd (truth_differs h.known)

  kind_takes : (a b : Stands) (k : OpenKind) → (is_constant a && is_constant b) ≡ false → binary_take_in a b (Some (in_kind k)) ≡ stay
  kind_takes a b k e = ap (λ b. if b then default else stay) e

  take_there : (a b x y : Stands) (c : Common) → (is_constant a && is_constant b) ≡ false → (is_constant x && is_constant y) ≡ false → binary_take_in x y (Some c) ≡ binary_take_in a b (Some c)
  take_there a b x y (in_type t) e f = refl
  take_there a b x y (in_kind k) e f = kind_takes x y k f ∙ sym (kind_takes a b k e)

  row_by : (u : Option TypeTree) (o : Operator) (i j : ℕ) (x y z w : Part) (c : Common) → Both rights u c x y z w → common rights (sort_of x) (sort_of y) ≡ Some c
      → (admits o (family_in rights c) ≡ true) × (or_else (both_refuse rights c x y ++ zero_divisor o y) (out_of_range rights i j c (binary_value o (sort_of x) (sort_of y))) ≡ [])
      → IsValue (result_in c (binary_value o (sort_of x) (sort_of y))) → Meets rights u c (common rights (sort_of z) (sort_of w)) → BinaryRow u o i j x y z w
  row_by u o i j x y z w c h is (ok, rest) value (there e) =
      let old : binary_value o (sort_of x) (sort_of y) ≡ None = never_folds c (binary_value o (sort_of x) (sort_of y)) value in
      let left = constants rights (taken (meeting_take c) u (sort_of x)) (sort_of x) (sort_of z) h.left.stands in
      let right = constants rights (taken (meeting_take c) u (sort_of y)) (sort_of y) (sort_of w) h.right.stands in
      let new : binary_value o (sort_of z) (sort_of w) ≡ None = less_folds (constant_op o) (constant_of (sort_of x)) (constant_of (sort_of y)) (constant_of (sort_of z)) (constant_of (sort_of w)) left right old in
      let parts = both_none (both_refuse rights c x y) (zero_divisor o y) (neither (both_refuse rights c x y ++ zero_divisor o y) (out_of_range rights i j c (binary_value o (sort_of x) (sort_of y))) rest).0 in
      let zero : zero_divisor o w ≡ [] = ap (λ b. if b then at_part code.ZeroDivisor w else []) (is_no_zero (constant_of (sort_of y)) (constant_of (sort_of w)) right (divides o) (no_zero (divides o && is_zero (constant_of (sort_of y))) y parts.1)) in
      let old_is : binary_sort rights o (sort_of x) (sort_of y) ≡ value_in c = ap (binary_sort_in o (sort_of x) (sort_of y)) is ∙ ap (result_in c) old in
      let new_is : binary_sort rights o (sort_of z) (sort_of w) ≡ value_in c = ap (binary_sort_in o (sort_of z) (sort_of w)) e ∙ ap (result_in c) new in
      let takes : binary_take rights (sort_of z) (sort_of w) ≡ binary_take rights (sort_of x) (sort_of y) =
      ap (binary_take_in (sort_of z) (sort_of w)) e
      ∙ take_there (sort_of x) (sort_of y) (sort_of z) (sort_of w) c (not_both (constant_op o) (constant_of (sort_of x)) (constant_of (sort_of y)) old) (not_both (constant_op o) (constant_of (sort_of z)) (constant_of (sort_of w)) new)
      ∙ sym (ap (binary_take_in (sort_of x) (sort_of y)) is) in
      record {
        failing = judged o i j z w c e ok (kept_refusal u c x y z w h parts.0) zero new;
        stands = subst (λ r. Stood rights u (binary_sort rights o (sort_of x) (sort_of y)) r) (old_is ∙ sym new_is) (as_before u (binary_sort rights o (sort_of x) (sort_of y)));
        take = subst (TakesSo u (binary_take rights (sort_of x) (sort_of y))) (sym takes) (same u (binary_take rights (sort_of x) (sort_of y)));
      }
  row_by u o i j x y z w c h is (ok, rest) value (sooner t k kind later fits e) =
      let old : binary_value o (sort_of x) (sort_of y) ≡ None = never_folds c (binary_value o (sort_of x) (sort_of y)) value in
      let left = constants rights (taken (meeting_take c) u (sort_of x)) (sort_of x) (sort_of z) h.left.stands in
      let right = constants rights (taken (meeting_take c) u (sort_of y)) (sort_of y) (sort_of w) h.right.stands in
      let new : binary_value o (sort_of z) (sort_of w) ≡ None = less_folds (constant_op o) (constant_of (sort_of x)) (constant_of (sort_of y)) (constant_of (sort_of z)) (constant_of (sort_of w)) left right old in
      let parts = both_none (both_refuse rights c x y) (zero_divisor o y) (neither (both_refuse rights c x y ++ zero_divisor o y) (out_of_range rights i j c (binary_value o (sort_of x) (sort_of y))) rest).0 in
      let zero : zero_divisor o w ≡ [] = ap (λ b. if b then at_part code.ZeroDivisor w else []) (is_no_zero (constant_of (sort_of y)) (constant_of (sort_of w)) right (divides o) (no_zero (divides o && is_zero (constant_of (sort_of y))) y parts.1)) in
      let family : admits o (family_in rights (in_type t)) ≡ true = ap (admits o) (suited rights k t fits) ∙ sym (ap (λ d. admits o (family_in rights d)) kind) ∙ ok in
      let old_is : binary_sort rights o (sort_of x) (sort_of y) ≡ open_value k = ap (binary_sort_in o (sort_of x) (sort_of y)) is ∙ ap (result_in c) old ∙ ap value_in kind in
      let known : IsValue (open_value k) = subst IsValue (ap (result_in c) old ∙ ap value_in kind) value in
      let new_is : binary_sort rights o (sort_of z) (sort_of w) ≡ sort.Value t = ap (binary_sort_in o (sort_of z) (sort_of w)) e ∙ ap (result_in (in_type t)) new in
      let old_take : binary_take rights (sort_of x) (sort_of y) ≡ stay =
      ap (binary_take_in (sort_of x) (sort_of y)) (is ∙ ap Some kind) ∙ kind_takes (sort_of x) (sort_of y) k (not_both (constant_op o) (constant_of (sort_of x)) (constant_of (sort_of y)) old) in
      let new_take : binary_take rights (sort_of z) (sort_of w) ≡ as_type t = ap (binary_take_in (sort_of z) (sort_of w)) e in
      let stood : Stood rights u (open_value k) (sort.Value t) = subst (λ v. Stood rights v (open_value k) (sort.Value t)) (sym later) (known_kind t k known fits) in
      let takes : TakesSo u stay (as_type t) = subst (λ v. TakesSo v stay (as_type t)) (sym later) (at_once t) in
      record {
        failing = judged o i j z w (in_type t) e family (sooner_refusal u c t x y z w h later) zero new;
        stands = subst (λ r. Stood rights u r (binary_sort rights o (sort_of z) (sort_of w))) (sym old_is) (subst (Stood rights u (open_value k)) (sym new_is) stood);
        take = subst (λ r. TakesSo u r (binary_take rights (sort_of z) (sort_of w))) (sym old_take) (subst (TakesSo u stay) (sym new_take) takes);
      }

  row_in : (u : Option TypeTree) (o : Operator) (i j : ℕ) (x y z w : Part) (r : Option Common) → common rights (sort_of x) (sort_of y) ≡ r → ((c : Common) → r ≡ Some c → Both rights u c x y z w)
      → binary_failing_in rights o i j x y r ≡ [] → IsValue (binary_sort_in o (sort_of x) (sort_of y) r) → BinaryRow u o i j x y z w
  row_in u o i j x y z w None is h f value = cc
  row_in u o i j x y z w (Some c) is h f value =
      let ops = h c refl in
      let left = seen rights (taken (meeting_take c) u (sort_of x)) (sort_of x) (sort_of z) ops.left.stands in
      let right = seen rights (taken (meeting_take c) u (sort_of y)) (sort_of y) (sort_of w) ops.right.stands in
      let all = or_else (both_refuse rights c x y ++ zero_divisor o y) (out_of_range rights i j c (binary_value o (sort_of x) (sort_of y))) in
      row_by u o i j x y z w c ops is (admitted (admits o (family_in rights c)) all (both_refuse rights c x y) i j f) value
      (meets rights itself u (taken (meeting_take c) u (sort_of x)) (taken (meeting_take c) u (sort_of y)) (sort_of x) (sort_of y) (sort_of z) (sort_of w) c left right refl refl is)

  -- No rule of the operation fails, it stands for what it stood for or for a value of the type that it takes, and its operands take theirs.
  pub binary_row : (u : Option TypeTree) (o : Operator) (i j : ℕ) (x y z w : Part) → ((c : Common) → common rights (sort_of x) (sort_of y) ≡ Some c → Both rights u c x y z w)
      → binary_failing rights o i j x y ≡ [] → IsValue (binary_sort rights o (sort_of x) (sort_of y)) → BinaryRow u o i j x y z w
  binary_row u o i j x y z w h f value = row_in u o i j x y z w (common rights (sort_of x) (sort_of y)) refl h f value
