-- Calls of predeclared functions, where variables stand in place of constants in the arguments.
use Rattle.std.proofs.Common.{◌≡◌, ◌∙◌, ◌⊎◌, inl, inr, ℕ, Bool, true, false, List, [], ◌∷◌, ◌++◌, length, nat_le, Option, Some, None, refl, sym, ap}
use Rattle.std.specs.Prelude.{suc, ◌&&◌, ◌||◌, if◌then◌else◌, is_some}
use Rattle.std.specs.List.{list_all}
use Rattle.go_base.specs.declared.fault.FaultCode.TheVariants as code
use Rattle.go_constants.specs.declared.values.Const.{Const}
use Rattle.go_types.specs.Trees.{TypeTree}
use Rattle.go_types.specs.Relations.{Rights}
use Rattle.go_types_relations.specs.Identity.{is_identical}
use Rattle.go_types_relations.specs.Tests.{both_identical}
use Rattle.go_typed.specs.Trees.{typed, sort_of, label_of}
use Rattle.go_typed.specs.Trees as sort
use Rattle.go_exprs_rules.specs.declared.family.OpenKind.{OpenKind}
use Rattle.go_exprs_rules.specs.Calls.{count_unless, printed, has_elements, length_failing, sizes_failing, make_failing, each_unassignable, append_failing_in, append_failing, copies, copy_failing, first_count, array_count, constant_length}
use Rattle.go_exprs_rules.specs.Faults.{fault_at}
use Rattle.go_exprs_rules.specs.Indexes.{bound_failing, disordered, text_length}
use Rattle.go_exprs_rules.specs.Settling.{Part, unrepresented, undefaulted, undefaulted_by, unassignable}
use Rattle.go_exprs_rules.specs.Sorts.{Stands, constant_of, family_of, is_text, is_byte, is_whole, form_of_value, slice_element, element_of, array_length, underlying_in, named_type, open_kind, default_type, own_type, int}
pub use Rattle.go_exprs_variables.specs.Operands.{Operands, no_operand, an_operand}
use Rattle.go_exprs_variables.specs.Stood.{Stood, as_before, in_place, early}
use Rattle.go_exprs_variables.proofs.Conversions.{unless_true, unless_is}
use Rattle.go_exprs_variables.proofs.Given.{unassignable_kept}
use Rattle.go_exprs_variables.proofs.Indexes.{family_kept, whole_kept, text_kept, bound_kept}
use Rattle.go_exprs_variables.proofs.Meeting.{constants}
use Rattle.go_exprs_variables.proofs.Parts.{Operand, both_none, none_of_both, holds, held}
use Rattle.go_exprs_variables.proofs.Shifts.{and_true, true_and}
use Rattle.go_exprs_variables.proofs.Slices.{disordered_kept}

module _ (rights : Rights) where
  -- ---- what has a type keeps its form

  form_kept : (o : Option TypeTree) (a b : Stands) → Stood rights o a b → (form_of_value rights b ≡ form_of_value rights a) ⊎ (form_of_value rights a ≡ None)
  form_kept o a b (as_before v c) = inl refl
  form_kept o a b (in_place v t c) = inl refl
  form_kept o a b (early t c k m n) = inr (ap (underlying_in rights) (no_type c k m))
    where
      no_type : (c : Stands) (k : OpenKind) → open_kind c ≡ Some k → own_type c ≡ None
      no_type (sort.Open u) k e = refl
      no_type (sort.OpenConstant u) k e = refl
      no_type c k e = cc

  elements_kept : (o : Option TypeTree) (a b : Stands) → Stood rights o a b → has_elements rights a ≡ true → has_elements rights b ≡ true
  elements_kept o a b st e = by_form (form_kept o a b st)
    where
      by_form : (form_of_value rights b ≡ form_of_value rights a) ⊎ (form_of_value rights a ≡ None) → has_elements rights b ≡ true
      by_form (inl f) = ap (λ u. is_some (element_of u)) f ∙ e
      by_form (inr f) = let none : false ≡ true = sym (ap (λ u. is_some (element_of u)) f) ∙ e in cc

  -- ---- `len` and `cap`

  or_kept : (a b c d : Bool) → a ≡ b → (c ≡ true → d ≡ true) → (a || c) ≡ true → (b || d) ≡ true
  or_kept true true c d e f g = refl
  or_kept true false c d e f g = cc
  or_kept false true c d e f g = refl
  or_kept false false c d e f g = f g

  pub length_row : (i j : ℕ) (texts : Bool) (o : Option TypeTree) (x y : Part) → Stood rights o (sort_of x) (sort_of y) → length_failing rights i j texts (x ∷ []) ≡ [] → length_failing rights i j texts (y ∷ []) ≡ []
  length_row i j texts o x y st e =
      unless_is ((texts && is_text rights (sort_of y)) || has_elements rights (sort_of y)) i j
      (or_kept (texts && is_text rights (sort_of x)) (texts && is_text rights (sort_of y)) (has_elements rights (sort_of x)) (has_elements rights (sort_of y)) (ap (λ z. texts && z) (sym (text_kept rights o (sort_of x) (sort_of y) st))) (elements_kept o (sort_of x) (sort_of y) st)
      (unless_true ((texts && is_text rights (sort_of x)) || has_elements rights (sort_of x)) i j e))

  pub none_first : (a b : Option ℕ) → first_count a b ≡ None → (a ≡ None) × (b ≡ None)
  none_first None b e = (refl, e)
  none_first (Some n) b e = cc

  no_text : (v w : Option Const) → (w ≡ v) ⊎ (w ≡ None) → text_length v ≡ None → text_length w ≡ None
  no_text v w (inl e) f = ap text_length e ∙ f
  no_text v w (inr e) f = ap text_length e

  array_kept : (c d : Bool) (u v : Option ℕ) → d ≡ c → v ≡ u → array_count c u ≡ None → array_count d v ≡ None
  array_kept c d u v e f g = ap (λ z. array_count z v) e ∙ ap (array_count c) f ∙ g

  -- A length that isn't constant stays so, of what has its type.
  pub length_kept_open : (o : Option TypeTree) (x y : Part) → Stood rights o (sort_of x) (sort_of y) → (label_of y).calls ≡ (label_of x).calls → form_of_value rights (sort_of y) ≡ form_of_value rights (sort_of x) → constant_length rights x ≡ None → constant_length rights y ≡ None
  length_kept_open o x y st c f e =
      let both = none_first (text_length (constant_of (sort_of x))) (array_count (label_of x).calls (array_length (form_of_value rights (sort_of x)))) e in
      ap (λ z. first_count z (array_count (label_of y).calls (array_length (form_of_value rights (sort_of y))))) (no_text (constant_of (sort_of x)) (constant_of (sort_of y)) (constants rights o (sort_of x) (sort_of y) st) both.0)
      ∙ array_kept (label_of x).calls (label_of y).calls (array_length (form_of_value rights (sort_of x))) (array_length (form_of_value rights (sort_of y))) c (ap array_length f) both.1

  -- ---- `make`

  all_whole : (xs ys : List Part) → Operands rights int xs ys → list_all (λ n. is_whole rights (sort_of n)) xs ≡ true → list_all (λ n. is_whole rights (sort_of n)) ys ≡ true
  all_whole xs ys no_operand e = refl
  all_whole xs ys (an_operand x y us vs p rest) e =
      let both = and_true (is_whole rights (sort_of x)) (list_all (λ n. is_whole rights (sort_of n)) us) e in
      true_and (is_whole rights (sort_of y)) (list_all (λ n. is_whole rights (sort_of n)) vs) (whole_kept rights (Some int) (sort_of x) (sort_of y) p.stands ∙ both.0) (all_whole us vs rest both.1)

  bound_stays : (x y : Part) → Operand rights (Some int) x y → bound_failing rights None x ≡ [] → bound_failing rights None y ≡ []
  bound_stays x y p e = bound_kept rights None None x y (inl refl) p e

  sizes_kept : (xs ys : List Part) → Operands rights int xs ys → sizes_failing rights xs ≡ [] → sizes_failing rights ys ≡ []
  sizes_kept xs ys no_operand e = refl
  sizes_kept xs ys (an_operand x y us vs p no_operand) e = bound_stays x y p e
  sizes_kept xs ys (an_operand x y us vs p (an_operand a b cs ds q no_operand)) e =
      let outer = both_none (bound_failing rights None x ++ bound_failing rights None a) (disordered (Some x) (Some a)) e in
      let inner = both_none (bound_failing rights None x) (bound_failing rights None a) outer.0 in
      none_of_both (bound_failing rights None y ++ bound_failing rights None b) (disordered (Some y) (Some b))
      (none_of_both (bound_failing rights None y) (bound_failing rights None b) (bound_stays x y p inner.0) (bound_stays a b q inner.1)) (disordered_kept rights x a y b p q outer.1)
  sizes_kept xs ys (an_operand x y us vs p (an_operand a b cs ds q (an_operand c d es fs r rest))) e =
      let inner = both_none (bound_failing rights None x) (bound_failing rights None a) e in
      none_of_both (bound_failing rights None y) (bound_failing rights None b) (bound_stays x y p inner.0) (bound_stays a b q inner.1)

  same_length : (t : TypeTree) (xs ys : List Part) → Operands rights t xs ys → length ys ≡ length xs
  same_length t xs ys no_operand = refl
  same_length t xs ys (an_operand x y us vs p rest) = ap (λ n. suc n) (same_length t us vs rest)

  -- `make` of a type with these sizes
  pub make_row : (i j : ℕ) (x y : Part) (xs ys : List Part) → named_type (sort_of y) ≡ named_type (sort_of x) → Operands rights int xs ys → make_failing rights i j (x ∷ xs) ≡ [] → make_failing rights i j (y ∷ ys) ≡ []
  make_row i j x y xs ys same p e =
      let made_of = is_some (slice_element (underlying_in rights (named_type (sort_of x)))) in
      let made_now = is_some (slice_element (underlying_in rights (named_type (sort_of y)))) in
      let count_old = count_unless (nat_le 1 (length xs) && nat_le (length xs) 2) i j in
      let count_new = count_unless (nat_le 1 (length ys) && nat_le (length ys) 2) i j in
      let both = both_none count_old (if made_of && list_all (λ n. is_whole rights (sort_of n)) xs then sizes_failing rights xs else fault_at code.Operands i j) e in
      let ok = holds (made_of && list_all (λ n. is_whole rights (sort_of n)) xs) (sizes_failing rights xs) code.Operands i j both.1 in
      let tests = and_true made_of (list_all (λ n. is_whole rights (sort_of n)) xs) ok.0 in
      none_of_both count_new (if made_now && list_all (λ n. is_whole rights (sort_of n)) ys then sizes_failing rights ys else fault_at code.Operands i j)
      (ap (λ n. count_unless (nat_le 1 n && nat_le n 2) i j) (same_length int xs ys p) ∙ both.0)
      (held (made_now && list_all (λ n. is_whole rights (sort_of n)) ys) (sizes_failing rights ys) code.Operands i j
      (true_and made_now (list_all (λ n. is_whole rights (sort_of n)) ys) (ap (λ z. is_some (slice_element (underlying_in rights z))) same ∙ tests.0) (all_whole xs ys p tests.1)) (sizes_kept xs ys p ok.1))

  -- ---- `append`

  module _ (itself : (t : TypeTree) → is_identical t t ≡ true) where
    pub each_kept : (t : TypeTree) (xs ys : List Part) → Operands rights t xs ys → each_unassignable rights t xs ≡ [] → each_unassignable rights t ys ≡ []
    each_kept t xs ys no_operand e = refl
    each_kept t xs ys (an_operand x y us vs p rest) e =
        let both = both_none (unassignable rights t x) (each_unassignable rights t us) e in
        none_of_both (unassignable rights t y) (each_unassignable rights t vs) (unassignable_kept rights itself t x y p both.0) (each_kept t us vs rest both.1)

    pub append_row : (i j : ℕ) (x y : Part) (t : TypeTree) (xs ys : List Part) → form_of_value rights (sort_of y) ≡ form_of_value rights (sort_of x) → slice_element (form_of_value rights (sort_of x)) ≡ Some t → Operands rights t xs ys
        → append_failing rights i j (x ∷ xs) ≡ [] → append_failing rights i j (y ∷ ys) ≡ []
    append_row i j x y t xs ys same is p e =
        let old : each_unassignable rights t xs ≡ [] = sym (ap (λ u. append_failing_in rights i j u xs) is) ∙ e in
        ap (λ u. append_failing_in rights i j (slice_element u) ys) same ∙ ap (λ u. append_failing_in rights i j u ys) is ∙ each_kept t xs ys p old

  -- ---- `copy`

  copies_kept : (o : Option TypeTree) (t : Option TypeTree) (a b : Stands) → Stood rights o a b → copies rights t a ≡ true → copies rights t b ≡ true
  copies_kept o None a b st e = cc
  copies_kept o (Some t) a b st e = by_form (form_kept o a b st)
    where
      by_form : (form_of_value rights b ≡ form_of_value rights a) ⊎ (form_of_value rights a ≡ None) → copies rights (Some t) b ≡ true
      by_form (inl f) =
          ap (λ u. both_identical (Some t) (slice_element u) || (is_text rights b && is_byte (Some t))) f
          ∙ ap (λ z. both_identical (Some t) (slice_element (form_of_value rights a)) || (z && is_byte (Some t))) (text_kept rights o a b st) ∙ e
      by_form (inr f) =
          let second : (is_text rights a && is_byte (Some t)) ≡ true = sym (ap (λ u. both_identical (Some t) (slice_element u) || (is_text rights a && is_byte (Some t))) f) ∙ e in
          or_second (both_identical (Some t) (slice_element (form_of_value rights b))) (is_text rights b && is_byte (Some t)) (ap (λ z. z && is_byte (Some t)) (text_kept rights o a b st) ∙ second)
        where
          or_second : (c d : Bool) → d ≡ true → (c || d) ≡ true
          or_second true d e = refl
          or_second false d e = e

  pub copy_row : (i j : ℕ) (o q : Option TypeTree) (x y z v : Part) → Stood rights o (sort_of x) (sort_of z) → Stood rights q (sort_of y) (sort_of v) → copy_failing rights i j (x ∷ y ∷ []) ≡ [] → copy_failing rights i j (z ∷ v ∷ []) ≡ []
  copy_row i j o q x y z v st su e =
      let old = unless_true (copies rights (slice_element (form_of_value rights (sort_of x))) (sort_of y)) i j e in
      unless_is (copies rights (slice_element (form_of_value rights (sort_of z))) (sort_of v)) i j (by_form (form_kept o (sort_of x) (sort_of z) st) old)
    where
      by_form : (form_of_value rights (sort_of z) ≡ form_of_value rights (sort_of x)) ⊎ (form_of_value rights (sort_of x) ≡ None) → copies rights (slice_element (form_of_value rights (sort_of x))) (sort_of y) ≡ true
          → copies rights (slice_element (form_of_value rights (sort_of z))) (sort_of v) ≡ true
      by_form (inl f) g = ap (λ u. copies rights (slice_element u) (sort_of v)) f ∙ copies_kept q (slice_element (form_of_value rights (sort_of x))) (sort_of y) (sort_of v) su g
      by_form (inr f) g = let none : false ≡ true = sym (ap (λ u. copies rights (slice_element u) (sort_of y)) f) ∙ g in cc

  -- ---- what is printed

  undefaulted_kept : (o : Option TypeTree) (a b : Stands) (x y : Part) → Stood rights o a b → ((t : TypeTree) → unrepresented rights t x ≡ [] → unrepresented rights t y ≡ []) → undefaulted_by rights (open_kind a) x ≡ [] → undefaulted_by rights (open_kind b) y ≡ []
  undefaulted_kept o a b x y (as_before v c) range e = by_kind (open_kind c) e
    where
      by_kind : (k : Option OpenKind) → undefaulted_by rights k x ≡ [] → undefaulted_by rights k y ≡ []
      by_kind None e = refl
      by_kind (Some k) e = range (default_type k) e
  undefaulted_kept o a b x y (in_place v t c) range e = refl
  undefaulted_kept o a b x y (early t c k m n) range e = refl

  pub printed_row : (i j : ℕ) (o : Option TypeTree) (x y : Part) → Operand rights o x y → printed rights i j x ≡ [] → printed rights i j y ≡ []
  printed_row i j o x y p e =
      let ok = holds (is_some (family_of rights (sort_of x))) (undefaulted rights x) code.Operands i j e in
      held (is_some (family_of rights (sort_of y))) (undefaulted rights y) code.Operands i j (ap is_some (family_kept rights o (sort_of x) (sort_of y) p.stands) ∙ ok.0) (undefaulted_kept o (sort_of x) (sort_of y) x y p.stands p.range ok.1)
