-- Conversions, where a variable stands in place of a constant in the operand.
use Rattle.std.proofs.Common.{◌≡◌, ◌∙◌, ◌⊎◌, inl, inr, ℕ, Bool, true, false, [], Option, Some, None, refl, sym, ap}
use Rattle.std.specs.Prelude.{◌&&◌, ◌||◌, not, if◌then◌else◌}
use Rattle.go_base.specs.declared.fault.FaultCode.TheVariants as code
use Rattle.go_constants.specs.declared.values.Const.{Const}
use Rattle.go_constants.specs.declared.values.Const.TheVariants as const
use Rattle.go_types.specs.Trees.{TypeTree}
use Rattle.go_types.specs.Relations.{Rights}
use Rattle.go_types_relations.specs.Identity.{is_identical}
use Rattle.go_types_relations.specs.Tests.{underlying_of, both_identical, is_assignable}
use Rattle.go_typed.specs.declared.sort.Untyped.{Untyped}
use Rattle.go_typed.specs.declared.sort.Untyped.TheVariants as untyped
use Rattle.go_typed.specs.Trees.{Sort, typed, sort_of}
use Rattle.go_typed.specs.Trees as sort
use Rattle.go_exprs_rules.specs.declared.family.Family.TheVariants as family
use Rattle.go_exprs_rules.specs.declared.family.OpenKind.{OpenKind}
use Rattle.go_exprs_rules.specs.Calls.{keeps_value, becomes_text, is_integer_type, is_text_type, converts_number, converts_bytes, converts, operands_unless, open_conversion, value_conversion, kept_conversion, conversion_failing, conversion_sort, constant_or_value, conversion_take, text_of}
use Rattle.go_exprs_rules.specs.Settling.{Part, default, as_type, unrepresented, undefaulted}
use Rattle.go_exprs_rules.specs.Sorts.{Stands, constant_of, is_family, is_whole, is_nil, family_of_type, open_kind, suits, default_type, kind_of_const, kind_of_untyped}
use Rattle.go_exprs_variables.specs.Stood.{Stood, as_before, in_place, early, taken}
use Rattle.go_exprs_variables.proofs.Identical.{assignable_itself}
use Rattle.go_exprs_variables.proofs.Unary.{IsValue, truth_differs}
use Rattle.go_exprs_variables.proofs.Parts.{Operand, holds, held}

pub unless_true : (b : Bool) (i j : ℕ) → operands_unless b i j ≡ [] → b ≡ true
unless_true true i j e = refl
unless_true false i j e = cc

pub unless_is : (b : Bool) (i j : ℕ) → b ≡ true → operands_unless b i j ≡ []
unless_is b i j e = ap (λ z. operands_unless z i j) e

-- Without a constant no fewer values are converted.
wider_number : (a b : Bool) → (a && b && not true) ≡ true → (a && b && not false) ≡ true
wider_number true true e = cc
wider_number true false e = cc
wider_number false b e = cc

or_wider : (a b c d e : Bool) → (c ≡ true → d ≡ true) → (a || b || c || e) ≡ true → (a || b || d || e) ≡ true
or_wider true b c d e h f = refl
or_wider false true c d e h f = refl
or_wider false false true d e h f = ap (λ z. z || e) (h refl)
or_wider false false false true e h f = refl
or_wider false false false false e h f = f

module _ (rights : Rights) (itself : (t : TypeTree) → is_identical t t ≡ true) where
  wider : (t u : TypeTree) → converts rights t u true ≡ true → converts rights t u false ≡ true
  wider t u e =
      or_wider (is_assignable rights u t) (both_identical (underlying_of rights u) (underlying_of rights t)) (converts_number rights t u true) (converts_number rights t u false) (converts_bytes rights t u)
      (wider_number (is_integer_type rights u) (is_integer_type rights t || is_text_type rights t)) e

  to_itself : (t : TypeTree) → converts rights t t false ≡ true
  to_itself t = ap (λ b. b || both_identical (underlying_of rights t) (underlying_of rights t) || converts_number rights t t false || converts_bytes rights t t) (assignable_itself rights t (itself t))

  -- ---- a conversion that isn't constant

  -- neither is the constant's value kept, nor does it become a text
  pub record Plain (t : TypeTree) (a : Stands) : Type 0 where
    pub keeps : keeps_value rights t (constant_of a) ≡ false
    pub becomes : becomes_text rights t (constant_of a) ≡ false

  no_keeping : (t : TypeTree) (v : Option Const) → keeps_value rights t v ≡ true → IsValue (constant_or_value t v) → ⊥
  no_keeping t (Some c) e h = truth_differs h.constant
  no_keeping t None e h = truth_differs (sym e)

  plain_by : (t : TypeTree) (v : Option Const) (b c : Bool) → keeps_value rights t v ≡ b → becomes_text rights t v ≡ c
      → IsValue (if b then constant_or_value t v else (if c then sort.Constant t (const.Text (text_of v)) else sort.Value t)) → (b ≡ false) × (c ≡ false)
  plain_by t v true c e f h = absurd (no_keeping t v e h)
  plain_by t v false true e f h = absurd (truth_differs h.constant)
  plain_by t v false false e f h = (refl, refl)

  pub plain : (t : TypeTree) (a : Stands) → IsValue (conversion_sort rights t a) → Plain t a
  plain t a h =
      let p = plain_by t (constant_of a) (keeps_value rights t (constant_of a)) (becomes_text rights t (constant_of a)) refl refl h in
      record { keeps = p.0; becomes = p.1 }

  plain_sort : (t : TypeTree) (a : Stands) → Plain t a → conversion_sort rights t a ≡ sort.Value t
  plain_sort t a h =
      ap (λ b. if b then constant_or_value t (constant_of a) else (if becomes_text rights t (constant_of a) then sort.Constant t (const.Text (text_of (constant_of a))) else sort.Value t)) h.keeps
      ∙ ap (λ b. if b then sort.Constant t (const.Text (text_of (constant_of a))) else sort.Value t) h.becomes

  pub plain_rule : (i j : ℕ) (t : TypeTree) (x : Part) → Plain t (sort_of x) → conversion_failing rights i j t x ≡ value_conversion rights i j t x (sort_of x)
  plain_rule i j t x h =
      ap (λ b. if b then kept_conversion rights t x (constant_of (sort_of x)) else (if becomes_text rights t (constant_of (sort_of x)) then undefaulted rights x else value_conversion rights i j t x (sort_of x))) h.keeps
      ∙ ap (λ b. if b then undefaulted rights x else value_conversion rights i j t x (sort_of x)) h.becomes

  -- of what is no constant nothing is kept
  no_constant : (t : TypeTree) (u : TypeTree) → Plain t (sort.Value u)
  no_constant t u = record { keeps = refl; becomes = refl }

  -- ---- operands

  same_open : (i j : ℕ) (t : TypeTree) (k : Option OpenKind) (x y : Part) → (unrepresented rights t x ≡ [] → unrepresented rights t y ≡ []) → open_conversion rights i j t x k ≡ [] → open_conversion rights i j t y k ≡ []
  same_open i j t None x y h e = cc
  same_open i j t (Some k) x y h e =
      let p = holds (suits rights k t) (unrepresented rights t x) code.Operands i j e in
      held (suits rights k t) (unrepresented rights t y) code.Operands i j p.0 (h p.1)

  same_value : (i j : ℕ) (t : TypeTree) (a : Stands) (x y : Part) → (unrepresented rights t x ≡ [] → unrepresented rights t y ≡ []) → value_conversion rights i j t x a ≡ [] → value_conversion rights i j t y a ≡ []
  same_value i j t sort.Nil x y h e = e
  same_value i j t (sort.Open u) x y h e = same_open i j t (open_kind (sort.Open u)) x y h e
  same_value i j t a x y h e = e

  typed_value : (i j : ℕ) (t u : TypeTree) (y : Part) → converts rights t u false ≡ true → value_conversion rights i j t y (sort.Value u) ≡ []
  typed_value i j t u y e = unless_is (converts rights t u false) i j e

  -- an untyped value that is converted to a type of its kind takes that type
  takes_target : (t : TypeTree) (b c d : Bool) → ((b && c) || d) ≡ true → (if (b && c) || d || false then as_type t else default) ≡ as_type t
  takes_target t true true d e = refl
  takes_target t true false true e = refl
  takes_target t false c true e = refl
  takes_target t true false false e = cc
  takes_target t false c false e = cc

  integers_take : (t : TypeTree) (k : Untyped) → is_whole rights (sort.Open k) ≡ true → suits rights (kind_of_untyped k) t ≡ true → conversion_take rights t (sort.Open k) ≡ as_type t
  integers_take t untyped.Integer w e =
      takes_target t (is_integer_type rights t) true (is_family family.Booleans (family_of_type (underlying_of rights t))) (ap (λ b. (b && true) || is_family family.Booleans (family_of_type (underlying_of rights t))) e)
  integers_take t untyped.Rune w e =
      takes_target t (is_integer_type rights t) true (is_family family.Booleans (family_of_type (underlying_of rights t))) (ap (λ b. (b && true) || is_family family.Booleans (family_of_type (underlying_of rights t))) e)
  integers_take t untyped.Boolean w e = cc

  or_second : (a b : Bool) → b ≡ true → (a || b) ≡ true
  or_second true b e = refl
  or_second false b e = e

  pub open_take : (t : TypeTree) (k : Untyped) → suits rights (kind_of_untyped k) t ≡ true → conversion_take rights t (sort.Open k) ≡ as_type t
  open_take t untyped.Integer e = integers_take t untyped.Integer refl e
  open_take t untyped.Rune e = integers_take t untyped.Rune refl e
  open_take t untyped.Boolean e =
      takes_target t (is_integer_type rights t) false (is_family family.Booleans (family_of_type (underlying_of rights t))) (or_second (is_integer_type rights t && false) (is_family family.Booleans (family_of_type (underlying_of rights t))) e)

  -- a constant takes the target or its default type
  constant_taken : (t u : TypeTree) (c : Const) (b : Bool) → taken (if b then as_type t else default) None (sort.OpenConstant c) ≡ Some u → (u ≡ t) ⊎ (u ≡ default_type (kind_of_const c))
  constant_taken t u c true e = inl cc
  constant_taken t u c false e = inr cc

  constant_value : (i j : ℕ) (t u : TypeTree) (c : Const) (y : Part) → (u ≡ t) ⊎ (u ≡ default_type (kind_of_const c)) → operands_unless (converts rights t (default_type (kind_of_const c)) true) i j ≡ [] → value_conversion rights i j t y (sort.Value u) ≡ []
  constant_value i j t u c y (inl is) e = typed_value i j t u y (ap (λ z. converts rights t z false) is ∙ to_itself t)
  constant_value i j t u c y (inr is) e = typed_value i j t u y (ap (λ z. converts rights t z false) is ∙ wider t (default_type (kind_of_const c)) (unless_true (converts rights t (default_type (kind_of_const c)) true) i j e))

  early_value : (i j : ℕ) (t u : TypeTree) (a : Stands) (k : OpenKind) (x y : Part) → open_kind a ≡ Some k → taken (conversion_take rights t a) None a ≡ Some u → value_conversion rights i j t x a ≡ [] → value_conversion rights i j t y (sort.Value u) ≡ []
  early_value i j t u (sort.Open m) k x y e f g =
      let p = holds (suits rights (kind_of_untyped m) t) (unrepresented rights t x) code.Operands i j g in
      let two : Some t ≡ Some u = sym (ap (λ q. taken q None (sort.Open m)) (open_take t m p.0)) ∙ f in
      let same : u ≡ t = cc in
      typed_value i j t u y (ap (λ z. converts rights t z false) same ∙ to_itself t)
  early_value i j t u (sort.OpenConstant c) k x y e f g =
      constant_value i j t u c y
      (constant_taken t u c ((is_integer_type rights t && is_whole rights (sort.OpenConstant c)) || is_family family.Booleans (family_of_type (underlying_of rights t)) || is_nil (sort.OpenConstant c)) f) g
  early_value i j t u a k x y e f g = cc

  -- ---- the row

  pub record ConversionRow (i j : ℕ) (t : TypeTree) (x y : Part) : Type 0 where
    pub failing : conversion_failing rights i j t y ≡ []
    pub stands : conversion_sort rights t (sort_of y) ≡ conversion_sort rights t (sort_of x)

  row_by : (i j : ℕ) (t : TypeTree) (o : Option TypeTree) (a b : Stands) (x y : Part) → sort_of x ≡ a → sort_of y ≡ b → o ≡ taken (conversion_take rights t a) None a → Stood rights o a b
      → (unrepresented rights t x ≡ [] → unrepresented rights t y ≡ []) → Plain t a → value_conversion rights i j t x a ≡ [] → Plain t b × (value_conversion rights i j t y b ≡ [])
  row_by i j t o a b x y e f is (as_before v c) h p g = (p, same_value i j t a x y h g)
  row_by i j t o a b x y e f is (in_place v u c) h p g = (no_constant t u, typed_value i j t u y (wider t u (unless_true (converts rights t u true) i j g)))
  row_by i j t o a b x y e f is (early u c k m fits) h p g = (no_constant t u, early_value i j t u a k x y m (sym is) g)

  -- A conversion that isn't constant is judged and stands as before.
  pub conversion_row : (i j : ℕ) (t : TypeTree) (x y : Part) → Operand rights (taken (conversion_take rights t (sort_of x)) None (sort_of x)) x y → conversion_failing rights i j t x ≡ [] → IsValue (conversion_sort rights t (sort_of x))
      → ConversionRow i j t x y
  conversion_row i j t x y h f value =
      let p = plain t (sort_of x) value in
      let r = row_by i j t (taken (conversion_take rights t (sort_of x)) None (sort_of x)) (sort_of x) (sort_of y) x y refl refl refl h.stands (h.range t) p (sym (plain_rule i j t x p) ∙ f) in
      record { failing = plain_rule i j t y r.0 ∙ r.1; stands = plain_sort t (sort_of y) r.0 ∙ sym (plain_sort t (sort_of x) p) }
