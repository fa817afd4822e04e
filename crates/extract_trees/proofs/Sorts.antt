-- What two sorts that are alike have in common.
use Rattle.std.proofs.Common.{◌≡◌, ◌∙◌, Bool, true, refl, sym, ap, subst}
use Rattle.std.specs.Prelude.{◌&&◌, nat_eq, if◌then◌else◌}
use Rattle.std.proofs.lemmas.Bool.{eqb-true, and_parts}
use Rattle.go_constants.specs.declared.values.Const.{Const}
use Rattle.go_types.specs.Trees.{TypeTree}
use Rattle.go_typed.specs.declared.sort.Untyped.{Untyped}
use Rattle.go_typed.specs.declared.sort.Untyped.TheVariants as untyped
use Rattle.go_typed.specs.Trees.{Nothing, Unknown, Blank, IsType, Value, Constant, Open, OpenConstant}
use Rattle.go_exprs_rules.specs.Sorts.{Stands}
use Rattle.clone_window.specs.Sameness.{same_value, are_alike, standing, final, same_final, same_values, value_of, const_kind, untyped_kind}
use Rattle.extract_trees.specs.Standing.{known, blank_sort, type_sort}
use Rattle.extract_trees.specs.OneCopy.{AreOneSort, same, constant, untyped}
use Rattle.extract_trees.specs.OneCopy as one
use Rattle.extract_trees.specs.Windows.{IsExact}

-- both are variables, constants or types, and one; or neither is
pub data AreKnown : Stands → Stands → Type 0 where
  named : {s t : Stands} → AreOneSort s t → known s ≡ s → known t ≡ t → AreKnown s t
  unnamed : {s t : Stands} → standing s ≡ 0 → standing t ≡ 0 → AreKnown s t

one_untyped : (u v : Untyped) → nat_eq (untyped_kind u) (untyped_kind v) ≡ true → u ≡ v
one_untyped untyped.Boolean untyped.Boolean h = refl
one_untyped untyped.Boolean untyped.Integer h = cc
one_untyped untyped.Boolean untyped.Rune h = cc
one_untyped untyped.Integer untyped.Boolean h = cc
one_untyped untyped.Integer untyped.Integer h = refl
one_untyped untyped.Integer untyped.Rune h = cc
one_untyped untyped.Rune untyped.Boolean h = cc
one_untyped untyped.Rune untyped.Integer h = cc
one_untyped untyped.Rune untyped.Rune h = refl

-- three tests in a row
tests : (x y z : Bool) → (x && y && z) ≡ true → (x ≡ true) × (y ≡ true) × (z ≡ true)
tests x y z h =
    let p = and_parts (x && y) z h in
    let q = and_parts x y p.0 in
    (q.0, q.1, p.1)

module _ (identical : TypeTree → TypeTree → Bool) (exact : IsExact identical) where
  types_alike : (t u : TypeTree) → (true && identical t u && true) ≡ true → t ≡ u
  types_alike t u h = exact t u (tests true (identical t u) true h).1

  constants_alike : (t u : TypeTree) (v w : Const) → (true && identical t u && same_value v w) ≡ true → AreOneSort (Constant t v) (Constant u w)
  constants_alike t u v w h =
      let p = tests true (identical t u) (same_value v w) h in
      subst (λ x. AreOneSort (Constant t v) (Constant x w)) (exact t u p.1) (constant p.2)

  value_known : (t : TypeTree) (s : Stands) → are_alike identical (Value t) s ≡ true → AreKnown (Value t) s
  value_known t (Value u) h = named (subst (λ x. AreOneSort (Value t) (Value x)) (types_alike t u h) same) refl refl
  value_known t s h = cc

  type_known : (t : TypeTree) (s : Stands) → are_alike identical (IsType t) s ≡ true → AreKnown (IsType t) s
  type_known t (IsType u) h = named (subst (λ x. AreOneSort (IsType t) (IsType x)) (types_alike t u h) same) refl refl
  type_known t s h = cc

  constant_known : (t : TypeTree) (v : Const) (s : Stands) → are_alike identical (Constant t v) s ≡ true → AreKnown (Constant t v) s
  constant_known t v (Constant u w) h = named (constants_alike t u v w h) refl refl
  constant_known t v s h = cc

  open_known : (n : Untyped) (s : Stands) → are_alike identical (Open n) s ≡ true → AreKnown (Open n) s
  open_known n (Open u) h = named (subst (λ x. AreOneSort (Open n) (Open x)) (one_untyped n u (tests true (nat_eq (untyped_kind n) (untyped_kind u)) true h).1) same) refl refl
  open_known n s h = cc

  untyped_known : (v : Const) (s : Stands) → are_alike identical (OpenConstant v) s ≡ true → AreKnown (OpenConstant v) s
  untyped_known v (OpenConstant w) h = named (untyped (tests true (nat_eq (const_kind v) (const_kind w)) (same_value v w) h).2) refl refl
  untyped_known v s h = cc

  none_known : (s t : Stands) → standing s ≡ 0 → are_alike identical s t ≡ true → AreKnown s t
  none_known s t e h =
      let p = tests (nat_eq (standing s) (standing t)) (same_final identical (final s) (final t)) (same_values (value_of s) (value_of t)) h in
      unnamed e (sym (eqb-true (standing s) (standing t) p.0) ∙ e)

  pub alike_known : (s t : Stands) → are_alike identical s t ≡ true → AreKnown s t
  alike_known (IsType u) t h = type_known u t h
  alike_known (Value u) t h = value_known u t h
  alike_known (Constant u w) t h = constant_known u w t h
  alike_known (Open u) t h = open_known u t h
  alike_known (OpenConstant w) t h = untyped_known w t h
  alike_known s t h = none_known s t refl h

  unknown_by : (r : Stands) → standing r ≡ 0 → known r ≡ Unknown
  unknown_by r e = ap (λ k. if nat_eq k 0 then Unknown else r) e

  locals_by : (x y : Stands) → AreKnown x y → AreOneSort (known x) (known y)
  locals_by x y (named o e f) = subst (λ z. AreOneSort z (known y)) (sym e) (subst (λ z. AreOneSort x z) (sym f) o)
  locals_by x y (unnamed e f) = subst (λ z. AreOneSort z (known y)) (sym (unknown_by x e)) (subst (λ z. AreOneSort Unknown z) (sym (unknown_by y f)) same)

  -- of locals
  pub locals_alike : (s t : Stands) → are_alike identical s t ≡ true → AreOneSort (known s) (known t)
  locals_alike s t h = locals_by s t (alike_known s t h)

  named_one : (s t : Stands) → AreKnown s t → (standing s ≡ 0 → ⊥) → AreOneSort s t
  named_one s t (named o e f) h = o
  named_one s t (unnamed e f) h = absurd (h e)

  unknown_types : (t : Stands) → t ≡ type_sort t → are_alike identical Unknown t ≡ true → AreOneSort Unknown t
  unknown_types Unknown f h = same
  unknown_types t f h = cc

  -- of types
  pub types_one : (s t : Stands) → s ≡ type_sort s → t ≡ type_sort t → are_alike identical s t ≡ true → AreOneSort s t
  types_one Unknown t e f h = unknown_types t f h
  types_one (IsType u) t e f h = named_one (IsType u) t (type_known u t h) (λ z. cc)
  types_one s t e f h = cc

  nothing_blanks : (t : Stands) → t ≡ blank_sort t → are_alike identical Nothing t ≡ true → AreOneSort Nothing t
  nothing_blanks Nothing f h = same
  nothing_blanks Blank f h = one.no_target
  nothing_blanks t f h = cc

  blank_blanks : (t : Stands) → t ≡ blank_sort t → are_alike identical Blank t ≡ true → AreOneSort Blank t
  blank_blanks Nothing f h = one.target
  blank_blanks Blank f h = same
  blank_blanks t f h = cc

  -- of blank identifiers
  pub blanks_one : (s t : Stands) → s ≡ blank_sort s → t ≡ blank_sort t → are_alike identical s t ≡ true → AreOneSort s t
  blanks_one Nothing t e f h = nothing_blanks t f h
  blanks_one Blank t e f h = blank_blanks t f h
  blanks_one (Value u) t e f h = named_one (Value u) t (value_known u t h) (λ z. cc)
  blanks_one (Constant u w) t e f h = named_one (Constant u w) t (constant_known u w t h) (λ z. cc)
  blanks_one (OpenConstant w) t e f h = named_one (OpenConstant w) t (untyped_known w t h) (λ z. cc)
  blanks_one s t e f h = cc

  -- of constants, which have types
  pub constants_one : (s t : Stands) (u v : TypeTree) (a b : Const) → s ≡ Constant u a → t ≡ Constant v b → are_alike identical s t ≡ true → (u ≡ v) × (same_value a b ≡ true)
  constants_one s t u v a b e f h =
      let k : are_alike identical (Constant u a) (Constant v b) ≡ true = subst (λ x. are_alike identical x (Constant v b) ≡ true) e (subst (λ x. are_alike identical s x ≡ true) f h) in
      let p = tests true (identical u v) (same_value a b) k in
      (exact u v p.1, p.2)
