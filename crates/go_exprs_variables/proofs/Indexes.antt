-- Index expressions, where variables stand in place of constants in the operand and in the index.
use Rattle.std.proofs.Common.{◌≡◌, ◌∙◌, ◌⊎◌, inl, inr, ℕ, Bool, true, false, [], Option, Some, None, refl, sym, ap}
use Rattle.std.specs.Prelude.{◌||◌, not, if◌then◌else◌, is_some}
use Rattle.go_base.specs.declared.fault.FaultCode.TheVariants as code
use Rattle.go_constants.specs.declared.values.Const.{Const}
use Rattle.go_constants.specs.declared.values.Const.TheVariants as const
use Rattle.go_types.specs.Trees.{TypeTree}
use Rattle.go_types.specs.Relations.{Rights}
use Rattle.go_typed.specs.Trees.{typed, sort_of}
use Rattle.go_exprs_rules.specs.declared.family.Family.TheVariants as family
use Rattle.go_exprs_rules.specs.declared.family.OpenKind.{OpenKind}
use Rattle.go_exprs_rules.specs.Faults.{fault_at}
use Rattle.go_exprs_rules.specs.Indexes.{below_limit, outside, bound_failing, text_length, index_failing_in, index_failing}
use Rattle.go_exprs_rules.specs.Settling.{Part, unrepresented, at_part}
use Rattle.go_exprs_rules.specs.Sorts.{Stands, is_family, family_of, family_of_kind, family_of_open, family_of_type, form_of_value, or_family, underlying_in, open_kind, constant_of, is_whole, is_text, is_negative, element_of, array_length, int}
use Rattle.go_exprs_variables.specs.Stood.{Stood, as_before, in_place, early}
use Rattle.go_exprs_variables.proofs.Families.{suited}
use Rattle.go_exprs_variables.proofs.Parts.{Operand, both_none, none_of_both, holds, held}
use Rattle.go_exprs_variables.proofs.Meeting.{Seen, unchanged, closed, seen, constants}

module _ (rights : Rights) where
  open_family : (a : Stands) (k : OpenKind) → open_kind a ≡ Some k → family_of rights a ≡ Some (family_of_open k)
  open_family a k e = ap (λ o. or_family (family_of_kind o) (family_of_type (form_of_value rights a))) e

  -- The family stays: integers are integers, and texts are texts.
  pub family_kept : (o : Option TypeTree) (a b : Stands) → Stood rights o a b → family_of rights b ≡ family_of rights a
  family_kept o a b (as_before v c) = refl
  family_kept o a b (in_place v t c) = refl
  family_kept o a b (early t c k e f) = suited rights k t f ∙ sym (open_family c k e)

  pub whole_kept : (o : Option TypeTree) (a b : Stands) → Stood rights o a b → is_whole rights b ≡ is_whole rights a
  whole_kept o a b h = ap (is_family family.Integers) (family_kept o a b h)

  pub text_kept : (o : Option TypeTree) (a b : Stands) → Stood rights o a b → is_text rights b ≡ is_text rights a
  text_kept o a b h = ap (is_family family.Texts) (family_kept o a b h)

  -- ---- bounds

  outside_kept : (l m : Option ℕ) (v w : Option Const) → (m ≡ l) ⊎ (m ≡ None) → (w ≡ v) ⊎ (w ≡ None) → outside l v ≡ false → outside m w ≡ false
  outside_kept l m v w h (inr e) f = ap (outside m) e
  outside_kept l m v w (inl d) (inl e) f = ap (λ z. outside z w) d ∙ ap (outside l) e ∙ f
  outside_kept l m v w (inr d) (inl e) f = ap (λ z. outside z w) d ∙ ap (outside None) e ∙ unlimited l v f
    where
      first : (b c : Bool) → (b || c) ≡ false → (b || false) ≡ false
      first true c g = cc
      first false c g = refl

      unlimited : (l : Option ℕ) (v : Option Const) → outside l v ≡ false → outside None v ≡ false
      unlimited l (Some (const.Int z rune)) g = first (is_negative (Some (const.Int z rune))) (not (below_limit l z)) g
      unlimited l (Some (const.Bool b)) g = refl
      unlimited l (Some (const.Text bs)) g = refl
      unlimited l None g = refl

  inside_of : (b : Bool) (x : Part) → (if b then at_part code.ConstIndex x else []) ≡ [] → b ≡ false
  inside_of false x e = refl
  inside_of true (typed f i j l ps) e = cc

  -- An index within its bounds stays so, also where there are none any more.
  pub bound_kept : (l m : Option ℕ) (x y : Part) → (m ≡ l) ⊎ (m ≡ None) → Operand rights (Some int) x y → bound_failing rights l x ≡ [] → bound_failing rights m y ≡ []
  bound_kept l m x y h ops e =
      let both = both_none (unrepresented rights int x) (if outside l (constant_of (sort_of x)) then at_part code.ConstIndex x else []) e in
      let within : outside m (constant_of (sort_of y)) ≡ false =
      outside_kept l m (constant_of (sort_of x)) (constant_of (sort_of y)) h (constants rights (Some int) (sort_of x) (sort_of y) ops.stands) (inside_of (outside l (constant_of (sort_of x))) x both.1) in
      none_of_both (unrepresented rights int y) (if outside m (constant_of (sort_of y)) then at_part code.ConstIndex y else []) (ops.range int both.0) (ap (λ b. if b then at_part code.ConstIndex y else []) within)

  -- ---- the row

  pub length_kept : (v w : Option Const) → (w ≡ v) ⊎ (w ≡ None) → (text_length w ≡ text_length v) ⊎ (text_length w ≡ None)
  length_kept v w (inl e) = inl (ap text_length e)
  length_kept v w (inr e) = inr (ap text_length e)

  element_kept : (i j : ℕ) (u : Option TypeTree) (n m : Part) → Operand rights (Some int) n m → index_failing_in rights i j u n ≡ [] → index_failing_in rights i j u m ≡ []
  element_kept i j u n m ops e =
      let ok = holds (is_some (element_of u)) (bound_failing rights (array_length u) n) code.Operands i j e in
      held (is_some (element_of u)) (bound_failing rights (array_length u) m) code.Operands i j ok.0 (bound_kept (array_length u) (array_length u) n m (inl refl) ops ok.1)

  -- the operand is no text: then it has a type, which stays
  form_kept : (i j : ℕ) (o : Option TypeTree) (a b : Stands) (n m : Part) → Seen rights o a b → Operand rights (Some int) n m → index_failing_in rights i j (form_of_value rights a) n ≡ [] → index_failing_in rights i j (form_of_value rights b) m ≡ []
  form_kept i j o a b n m (unchanged e f) ops g = ap (λ t. index_failing_in rights i j (underlying_in rights t) m) e ∙ element_kept i j (form_of_value rights a) n m ops g
  form_kept i j o a b n m (closed t k e f c d p q) ops g = let none : index_failing_in rights i j (form_of_value rights a) n ≡ fault_at code.Operands i j = ap (λ z. index_failing_in rights i j (underlying_in rights z) n) e in cc

  by_text : (i j : ℕ) (o : Option TypeTree) (a b : Stands) (n m : Part) (t : Bool) → Stood rights o a b → Operand rights (Some int) n m
      → (if t then bound_failing rights (text_length (constant_of a)) n else index_failing_in rights i j (form_of_value rights a) n) ≡ []
      → (if t then bound_failing rights (text_length (constant_of b)) m else index_failing_in rights i j (form_of_value rights b) m) ≡ []
  by_text i j o a b n m true st ops e = bound_kept (text_length (constant_of a)) (text_length (constant_of b)) n m (length_kept (constant_of a) (constant_of b) (constants rights o a b st)) ops e
  by_text i j o a b n m false st ops e = form_kept i j o a b n m (seen rights o a b st) ops e

  -- No rule of an index expression fails that didn't.
  pub index_row : (i j : ℕ) (o : Option TypeTree) (a b : Stands) (n m : Part) → Stood rights o a b → Operand rights (Some int) n m → index_failing rights i j a n ≡ [] → index_failing rights i j b m ≡ []
  index_row i j o a b n m st ops e =
      let ok = holds (is_whole rights (sort_of n)) (if is_text rights a then bound_failing rights (text_length (constant_of a)) n else index_failing_in rights i j (form_of_value rights a) n) code.Operands i j e in
      held (is_whole rights (sort_of m)) (if is_text rights b then bound_failing rights (text_length (constant_of b)) m else index_failing_in rights i j (form_of_value rights b) m) code.Operands i j
      (whole_kept (Some int) (sort_of n) (sort_of m) ops.stands ∙ ok.0)
      (ap (λ t. if t then bound_failing rights (text_length (constant_of b)) m else index_failing_in rights i j (form_of_value rights b) m) (text_kept o a b st) ∙ by_text i j o a b n m (is_text rights a) st ops ok.1)
