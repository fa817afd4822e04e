-- The rules on conversions with other numbers of declared types.
use Rattle.std.proofs.Common.{◌≡◌, ◌∙◌, ℕ, Bool, true, false, Option, Some, None, refl, ap, cond}
use Rattle.std.specs.Prelude.{◌&&◌, ◌||◌}
use Rattle.go_constants.specs.declared.values.Const.{Const}
use Rattle.go_constants.specs.declared.values.Const.TheVariants as const
use Rattle.go_types.specs.Trees.{TypeTree}
use Rattle.go_types.specs.Relations.{Rights}
use Rattle.go_types_relations.specs.Renaming.{renamed, IsOneToOne, AreRenamed}
use Rattle.go_types_relations.specs.Tests.{underlying_of, both_identical}
use Rattle.go_typed.specs.Trees.{typed, sort_of}
use Rattle.go_typed.specs.Trees as sort
use Rattle.go_exprs_rules.specs.declared.family.Family.TheVariants as family
use Rattle.go_exprs_rules.specs.declared.family.OpenKind.{OpenKind}
use Rattle.go_exprs_rules.specs.Calls.{keeps_value, becomes_text, is_integer_type, is_text_type, converts, converts_value, operands_unless, open_conversion, value_conversion, kept_conversion, conversion_failing, text_of, constant_or_value, conversion_sort, conversion_take}
use Rattle.go_exprs_rules.specs.Settling.{Part, default, as_type}
use Rattle.go_exprs_rules.specs.Sorts.{Stands, is_family, family_of_type, constant_of, open_kind, is_constant, is_nil, is_whole, value_type}
use Rattle.go_renumbering.specs.Renumbered.{stands_renamed, part_renamed}
use Rattle.go_renumbering.proofs.Parts.{branches}
use Rattle.go_renumbering.proofs.Sorts.{maybe, constant_same, value_same, nil_same, und, both_identical_same, assignable_same, whole_same, type_family_same, type_nil_same, suits_same, bytes_same, represents_same}
use Rattle.go_renumbering.proofs.Settling.{take_renamed, unrepresented_kept, undefaulted_kept}

module _ (name : ℕ → ℕ) (one : IsOneToOne name) (old new : Rights) (same : AreRenamed name old new) where
  abbrev now : Stands → Stands
  now x = stands_renamed name x

  of_family : (t : TypeTree) → family_of_type (underlying_of new (renamed name t)) ≡ family_of_type (underlying_of old t)
  of_family t = type_family_same name one old new same t

  keeps_same : (t : TypeTree) (o : Option Const) → keeps_value new (renamed name t) o ≡ keeps_value old t o
  keeps_same t None = refl
  keeps_same t (Some c) = let e = of_family t in cc

  becomes_same : (t : TypeTree) (o : Option Const) → becomes_text new (renamed name t) o ≡ becomes_text old t o
  becomes_same t (Some (const.Int z r)) = let e = of_family t in cc
  becomes_same t o = refl

  integer_type_same : (t : TypeTree) → is_integer_type new (renamed name t) ≡ is_integer_type old t
  integer_type_same t = let e = of_family t in cc

  text_type_same : (t : TypeTree) → is_text_type new (renamed name t) ≡ is_text_type old t
  text_type_same t = let e = of_family t in cc

  both_underlying : (t u : TypeTree) → both_identical (underlying_of new (renamed name u)) (underlying_of new (renamed name t)) ≡ both_identical (underlying_of old u) (underlying_of old t)
  both_underlying t u =
      ap (both_identical (underlying_of new (renamed name u))) (und name one old new same t) ∙ ap (λ o. both_identical o (maybe name (underlying_of old t))) (und name one old new same u)
      ∙ both_identical_same name one old new same (underlying_of old u) (underlying_of old t)

  converts_same : (t u : TypeTree) (b : Bool) → converts new (renamed name t) (renamed name u) b ≡ converts old t u b
  converts_same t u b =
      let a = assignable_same name one old new same u t in
      let i = both_underlying t u in
      let e = of_family t in
      let f = of_family u in
      let g = bytes_same name one old new same t in
      let k = bytes_same name one old new same u in
      cc

  converts_value_same : (t : TypeTree) (o : Option TypeTree) (b : Bool) → converts_value new (renamed name t) (maybe name o) b ≡ converts_value old t o b
  converts_value_same t None b = refl
  converts_value_same t (Some u) b = converts_same t u b

  open_kept : (i j : ℕ) (t : TypeTree) (x : Part) (o : Option OpenKind) → open_conversion new i j (renamed name t) (part_renamed name x) o ≡ open_conversion old i j t x o
  open_kept i j t x None = refl
  open_kept i j t x (Some k) = let e = suits_same name one old new same k t in let f = unrepresented_kept name one old new same t x in cc

  other_value : (i j : ℕ) (t : TypeTree) (s : Stands) → operands_unless (converts_value new (renamed name t) (value_type (now s)) (is_constant (now s))) i j ≡ operands_unless (converts_value old t (value_type s) (is_constant s)) i j
  other_value i j t s =
      let e = value_same name s in
      let f = constant_same name s in
      let g = converts_value_same t (value_type s) (is_constant s) in
      cc

  value_kept : (i j : ℕ) (t : TypeTree) (x : Part) (s : Stands) → value_conversion new i j (renamed name t) (part_renamed name x) (now s) ≡ value_conversion old i j t x s
  value_kept i j t x sort.Nil = ap (λ b. operands_unless b i j) (type_nil_same name one old new same t)
  value_kept i j t x (sort.Open u) = open_kept i j t x (open_kind (sort.Open u))
  value_kept i j t x s = other_value i j t s

  kept_kept : (t : TypeTree) (x : Part) (o : Option Const) → kept_conversion new (renamed name t) (part_renamed name x) o ≡ kept_conversion old t x o
  kept_kept t x None = refl
  kept_kept t (typed f i j l ps) (Some c) = let e = represents_same name one old new same t c in cc

  pub conversion_kept : (i j : ℕ) (t : TypeTree) (x : Part) → conversion_failing new i j (renamed name t) (part_renamed name x) ≡ conversion_failing old i j t x
  conversion_kept i j t (typed f a b l ps) =
      let x = typed f a b l ps in
      let c = constant_same name l.sort in
      let e = keeps_same t (constant_of l.sort) in
      let g = becomes_same t (constant_of l.sort) in
      let h = kept_kept t x (constant_of l.sort) in
      let u = undefaulted_kept name one old new same x in
      let v = value_kept i j t x l.sort in
      cc

  constant_or_same : (t : TypeTree) (o : Option Const) → constant_or_value (renamed name t) o ≡ now (constant_or_value t o)
  constant_or_same t None = refl
  constant_or_same t (Some c) = refl

  -- by a constant that is kept or not
  sorted : (t : TypeTree) (b d : Bool) (o : Option Const)
      → cond b (constant_or_value (renamed name t) o) (cond d (sort.Constant (renamed name t) (const.Text (text_of o))) (sort.Value (renamed name t)))
      ≡ now (cond b (constant_or_value t o) (cond d (sort.Constant t (const.Text (text_of o))) (sort.Value t)))
  sorted t true d o = constant_or_same t o
  sorted t false true o = refl
  sorted t false false o = refl

  by_constant : (t : TypeTree) (o q : Option Const) → q ≡ o
      → cond (keeps_value new (renamed name t) q) (constant_or_value (renamed name t) q) (cond (becomes_text new (renamed name t) q) (sort.Constant (renamed name t) (const.Text (text_of q))) (sort.Value (renamed name t)))
      ≡ now (cond (keeps_value old t o) (constant_or_value t o) (cond (becomes_text old t o) (sort.Constant t (const.Text (text_of o))) (sort.Value t)))
  by_constant t o q e =
      let k = keeps_same t o in
      let g = becomes_same t o in
      let s = sorted t (keeps_value old t o) (becomes_text old t o) o in
      cc

  pub conversion_sort_kept : (t : TypeTree) (x : Stands) → conversion_sort new (renamed name t) (now x) ≡ now (conversion_sort old t x)
  conversion_sort_kept t x = by_constant t (constant_of x) (constant_of (now x)) (constant_same name x)

  pub conversion_take_kept : (t : TypeTree) (x : Stands) → conversion_take new (renamed name t) (now x) ≡ take_renamed name (conversion_take old t x)
  conversion_take_kept t x =
      let e = of_family t in
      let w = whole_same name one old new same x in
      let n = nil_same name x in
      let b = branches (take_renamed name) ((is_integer_type old t && is_whole old x) || is_family family.Booleans (family_of_type (underlying_of old t)) || is_nil x) (as_type t) default in
      cc
