-- Values that are given to variables, where variables stand in place of constants in them.
use Rattle.std.proofs.Common.{◌≡◌, ◌∙◌, Bool, true, false, List, [], Option, Some, None, refl, sym, ap}
use Rattle.std.specs.Prelude.{if◌then◌else◌}
use Rattle.go_base.specs.declared.fault.FaultCode.{FaultCode}
use Rattle.go_base.specs.declared.fault.FaultCode.TheVariants as code
use Rattle.go_types.specs.Trees.{TypeTree}
use Rattle.go_types.specs.Relations.{Rights}
use Rattle.go_types_relations.specs.Identity.{is_identical}
use Rattle.go_types_relations.specs.Tests.{underlying_of, is_assignable}
use Rattle.go_typed.specs.Trees.{Sort, typed, sort_of}
use Rattle.go_typed.specs.Trees as sort
use Rattle.go_exprs_rules.specs.declared.fault.TypeFault.{TypeFault}
use Rattle.go_exprs_rules.specs.declared.family.OpenKind.{OpenKind}
use Rattle.go_exprs_rules.specs.Settling.{Part, at_part, unrepresented, untyped_unassignable, unassignable_by, unassignable}
use Rattle.go_exprs_rules.specs.Sorts.{Stands, open_kind, suits, has_nil}
use Rattle.go_exprs_variables.specs.Stood.{Stood, as_before, in_place, early}
use Rattle.go_exprs_variables.proofs.Identical.{assignable_itself}
use Rattle.go_exprs_variables.proofs.Parts.{Operand}

pub passes : (b : Bool) (fs : List TypeFault) (c : FaultCode) (x : Part) → (if b then fs else at_part c x) ≡ [] → (b ≡ true) × (fs ≡ [])
passes true fs c x e = (refl, e)
passes false fs c (typed f i j l ps) e = cc

pub passed : (b : Bool) (fs : List TypeFault) (c : FaultCode) (y : Part) → b ≡ true → fs ≡ [] → (if b then fs else at_part c y) ≡ []
passed b fs c y e f = ap (λ z. if z then fs else at_part c y) e ∙ f

pub no_place : (c : FaultCode) (x : Part) → at_part c x ≡ [] → ⊥
no_place c (typed f i j l ps) e = cc

module _ (rights : Rights) (itself : (t : TypeTree) → is_identical t t ≡ true) where
  untyped_kept : (t : TypeTree) (k : Option OpenKind) (x y : Part) → (unrepresented rights t x ≡ [] → unrepresented rights t y ≡ []) → untyped_unassignable rights t k x ≡ [] → untyped_unassignable rights t k y ≡ []
  untyped_kept t None x y h e = absurd (no_place code.Assignable x e)
  untyped_kept t (Some k) x y h e =
      let p = passes (suits rights k t) (unrepresented rights t x) code.Assignable x e in
      passed (suits rights k t) (unrepresented rights t y) code.Assignable y p.0 (h p.1)

  unless_kept : (b : Bool) (x y : Part) → (if b then [] else at_part code.Assignable x) ≡ [] → (if b then [] else at_part code.Assignable y) ≡ []
  unless_kept b x y e = passed b [] code.Assignable y (passes b [] code.Assignable x e).0 refl

  same_kept : (t : TypeTree) (a : Stands) (x y : Part) → (unrepresented rights t x ≡ [] → unrepresented rights t y ≡ []) → unassignable_by rights t a x ≡ [] → unassignable_by rights t a y ≡ []
  same_kept t sort.Unknown x y h e = refl
  same_kept t (sort.Value u) x y h e = unless_kept (is_assignable rights u t) x y e
  same_kept t (sort.Constant u c) x y h e = unless_kept (is_assignable rights u t) x y e
  same_kept t sort.Nil x y h e = unless_kept (has_nil (underlying_of rights t)) x y e
  same_kept t a x y h e = untyped_kept t (open_kind a) x y h e

  by_stood : (t : TypeTree) (o : Option TypeTree) (a b : Stands) (x y : Part) → o ≡ Some t → Stood rights o a b → (unrepresented rights t x ≡ [] → unrepresented rights t y ≡ []) → unassignable_by rights t a x ≡ [] → unassignable_by rights t b y ≡ []
  by_stood t o a b x y is (as_before v c) h e = same_kept t a x y h e
  by_stood t o a b x y is (in_place v u c) h e = unless_kept (is_assignable rights u t) x y e
  by_stood t o a b x y is (early u c k f g) h e =
      let same : u ≡ t = cc in
      passed (is_assignable rights u t) [] code.Assignable y (ap (λ z. is_assignable rights u z) (sym same) ∙ assignable_itself rights u (itself u)) refl

  -- What could be given to a variable of the type t can be given to it still.
  pub unassignable_kept : (t : TypeTree) (x y : Part) → Operand rights (Some t) x y → unassignable rights t x ≡ [] → unassignable rights t y ≡ []
  unassignable_kept t x y h e = by_stood t (Some t) (sort_of x) (sort_of y) x y refl h.stands (h.range t) e
