-- Conditions and tags with variables in them.
use Rattle.std.proofs.Common.{◌≡◌, ◌∙◌, Bool, true, false, [], Option, Some, None, refl, sym, ap, subst}
use Rattle.std.specs.Prelude.{if◌then◌else◌}
use Rattle.std.specs.Option.{option_map}
use Rattle.go_base.specs.declared.fault.FaultCode.TheVariants as code
use Rattle.go_types.specs.Trees.{TypeTree}
use Rattle.go_types.specs.Relations.{Rights}
use Rattle.go_typed.specs.Trees.{sort_of}
use Rattle.go_typed.specs.Trees as sort
use Rattle.go_exprs_rules.specs.declared.family.Family.TheVariants as family
use Rattle.go_exprs_rules.specs.declared.family.OpenKind.{OpenKind}
use Rattle.go_exprs_rules.specs.Settling.{Part, at_part, undefaulted_by, undefaulted}
use Rattle.go_exprs_rules.specs.Sorts.{Stands, is_nil, is_truth, is_family, open_kind, default_type, kind_of_untyped, kind_of_const}
use Rattle.go_stmts_defs.specs.Reading.{tag_in}
use Rattle.go_stmts_defs.specs.Rules.{tag_failing}
use Rattle.go_exprs_variables.specs.Operands.{Operand}
use Rattle.go_exprs_variables.specs.Stood.{Stood, as_before, in_place, early}
use Rattle.go_exprs_variables.proofs.Public.{family_kept, no_place, passed, passes}
use Rattle.go_stmts_variables.specs.Rules.{given_type, ConditionKept, TagKept}

pub condition_kept : ConditionKept
condition_kept rights o x y st e =
    passed (is_truth rights (sort_of y)) [] code.Operands y (ap (is_family family.Booleans) (family_kept rights o (sort_of x) (sort_of y) st) ∙ (passes (is_truth rights (sort_of x)) [] code.Operands x e).0) refl

module _ (rights : Rights) where
  pub nil_kept : (u : Option TypeTree) (a b : Stands) → Stood rights u a b → is_nil b ≡ is_nil a
  nil_kept u a b (as_before v c) = refl
  nil_kept u a b (in_place v t c) = refl
  nil_kept u a b (early t c k m n) = sym (no_nil c k m)
    where
      no_nil : (z : Stands) (k : OpenKind) → open_kind z ≡ Some k → is_nil z ≡ false
      no_nil sort.Nil k e = cc
      no_nil z k e = refl

  -- ---- values that take their default types

  still_undefaulted : (k : Option OpenKind) (x y : Part) → Operand rights (option_map default_type k) x y → undefaulted_by rights k x ≡ [] → undefaulted_by rights k y ≡ []
  still_undefaulted None x y o e = refl
  still_undefaulted (Some k) x y o e = o.range (default_type k) e

  by_stood : (u : Option TypeTree) (a b : Stands) (x y : Part) → Stood rights u a b → a ≡ sort_of x → Operand rights (given_type None x) x y → undefaulted_by rights (open_kind a) x ≡ [] → undefaulted_by rights (open_kind b) y ≡ []
  by_stood u a b x y (as_before v c) m o e = still_undefaulted (open_kind c) x y (subst (λ z. Operand rights (option_map default_type (open_kind z)) x y) (sym m) o) e
  by_stood u a b x y (in_place v t c) m o e = refl
  by_stood u a b x y (early t c k f g) m o e = refl

  pub undefaulted_kept : (x y : Part) → Operand rights (given_type None x) x y → undefaulted rights x ≡ [] → undefaulted rights y ≡ []
  undefaulted_kept x y o e = by_stood (given_type None x) (sort_of x) (sort_of y) x y o.stands refl o e

  -- what isn't `nil`, and takes its default type
  by_nil : (b : Bool) (x y : Part) → (undefaulted rights x ≡ [] → undefaulted rights y ≡ []) → (if b then at_part code.Operands x else undefaulted rights x) ≡ [] → (if b then at_part code.Operands y else undefaulted rights y) ≡ []
  by_nil true x y f e = absurd (no_place code.Operands x e)
  by_nil false x y f e = f e

  pub defaulted_kept : (x y : Part) → Operand rights (given_type None x) x y → tag_failing rights (Some x) ≡ [] → tag_failing rights (Some y) ≡ []
  defaulted_kept x y o e =
      ap (λ b. if b then at_part code.Operands y else undefaulted rights y) (nil_kept (given_type None x) (sort_of x) (sort_of y) o.stands)
      ∙ by_nil (is_nil (sort_of x)) x y (undefaulted_kept x y o) e

  -- ---- what a tag stands for

  untyped_tag : (z : Stands) (t : TypeTree) (k : OpenKind) → open_kind z ≡ Some k → Some t ≡ option_map default_type (open_kind z) → Stood rights None (tag_in z) (sort.Value t)
  untyped_tag (sort.Open u) t k m e =
      let same : t ≡ default_type (kind_of_untyped u) = cc in
      subst (λ q. Stood rights None (sort.Value (default_type (kind_of_untyped u))) (sort.Value q)) (sym same) (as_before None (sort.Value (default_type (kind_of_untyped u))))
  untyped_tag (sort.OpenConstant c) t k m e =
      let same : t ≡ default_type (kind_of_const c) = cc in
      subst (λ q. Stood rights None (sort.Constant (default_type (kind_of_const c)) c) (sort.Value q)) (sym same) (in_place None (default_type (kind_of_const c)) c)
  untyped_tag z t k m e = cc

  pub tag_stands : (u : Option TypeTree) (a b : Stands) → Stood rights u a b → u ≡ option_map default_type (open_kind a) → Stood rights None (tag_in a) (tag_in b)
  tag_stands u a b (as_before v c) e = as_before None (tag_in c)
  tag_stands u a b (in_place v t c) e = in_place None t c
  tag_stands u a b (early t c k m n) e = untyped_tag c t k m e

pub tag_kept : TagKept
tag_kept rights x y o e = (defaulted_kept rights x y o e, tag_stands rights (given_type None x) (sort_of x) (sort_of y) o.stands refl)
