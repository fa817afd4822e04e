-- What parts take of their places elsewhere, and what these refuse.
use Rattle.std.proofs.Common.{◌≡◌, ◌∙◌, ℕ, Bool, true, false, [], Option, Some, None, refl, ap}
use Rattle.std.specs.Prelude.{if◌then◌else◌}
use Rattle.go_base.specs.declared.fault.FaultCode.{FaultCode}
use Rattle.go_base.specs.declared.fault.FaultCode.TheVariants as code
use Rattle.go_constants.specs.declared.values.Const.{Const}
use Rattle.go_types.specs.Trees.{TypeTree}
use Rattle.go_types.specs.Relations.{Rights}
use Rattle.go_types_relations.specs.Tests.{underlying_of, is_assignable}
use Rattle.go_typed.specs.Trees.{typed, Typeds}
use Rattle.go_typed.specs.Trees as sort
use Rattle.go_exprs_rules.specs.declared.family.OpenKind.{OpenKind}
use Rattle.go_exprs_rules.specs.Faults.{fault_at}
use Rattle.go_exprs_rules.specs.Settling.{Part, at_part, settled, all_settled, unrepresented_constant, unrepresented, all_unrepresented, Take, stay, default, as_type, defaulted, given, undefaulted_by, undefaulted, untyped_unassignable, unassignable_by, unassignable}
use Rattle.go_exprs_rules.specs.Sorts.{Stands, is_open, takes_type, open_kind, is_constant, constant_of, retyped, represents, default_type, suits, has_nil}
use Rattle.go_exprs_elsewhere.specs.Elsewhere.{Moves, form_moved, placed, all_placed}
use Rattle.go_exprs_elsewhere.proofs.Parts.{fails, either, either_of, both}

module _ (m : Moves) where
  pub at_part_kept : (c : FaultCode) (x : Part) → at_part c (placed m x) ≡ fails m (at_part c x)
  at_part_kept c (typed f i j l ps) = refl

  pub at_part_unless : (b : Bool) (c : FaultCode) (x : Part) → (if b then [] else at_part c (placed m x)) ≡ fails m (if b then [] else at_part c x)
  at_part_unless b c x = either_of m b [] (at_part c (placed m x)) [] (at_part c x) refl (at_part_kept c x)

  mutual
    pub settled_kept : (t : TypeTree) (x : Part) → settled t (placed m x) ≡ placed m (settled t x)
    settled_kept t (typed f i j l ps) = by (takes_type l.sort) (all_settled_kept t ps)
      where
        by : (b : Bool) → all_settled t (all_placed m ps) ≡ all_placed m (all_settled t ps)
            → (if b then typed (form_moved m f) (m.token i) (m.token j) (record l { sort = retyped t l.sort }) (all_settled t (all_placed m ps)) else typed (form_moved m f) (m.token i) (m.token j) l (all_placed m ps))
            ≡ placed m (if b then typed f i j (record l { sort = retyped t l.sort }) (all_settled t ps) else typed f i j l ps)
        by true e = ap (typed (form_moved m f) (m.token i) (m.token j) (record l { sort = retyped t l.sort })) e
        by false e = refl

    all_settled_kept : (t : TypeTree) (ps : Typeds TypeTree) → all_settled t (all_placed m ps) ≡ all_placed m (all_settled t ps)
    all_settled_kept t sort.none = refl
    all_settled_kept t (sort.more x xs) = ap (λ y. sort.more y (all_settled t (all_placed m xs))) (settled_kept t x) ∙ ap (sort.more (placed m (settled t x))) (all_settled_kept t xs)
    all_settled_kept t (sort.skip xs) = ap sort.skip (all_settled_kept t xs)

  defaulted_kept : (o : Option OpenKind) (x : Part) → defaulted o (placed m x) ≡ placed m (defaulted o x)
  defaulted_kept None x = refl
  defaulted_kept (Some k) x = settled_kept (default_type k) x

  pub given_kept : (k : Take) (x : Part) → given k (placed m x) ≡ placed m (given k x)
  given_kept stay x = refl
  given_kept default (typed f i j l ps) = defaulted_kept (open_kind l.sort) (typed f i j l ps)
  given_kept (as_type t) x = settled_kept t x

  module _ (rights : Rights) where
    constant_kept : (t : TypeTree) (i j : ℕ) (o : Option Const) → unrepresented_constant rights t (m.token i) (m.token j) o ≡ fails m (unrepresented_constant rights t i j o)
    constant_kept t i j None = refl
    constant_kept t i j (Some c) = either m (represents rights t c) [] (fault_at code.Representable i j)

    mutual
      pub unrepresented_kept : (t : TypeTree) (x : Part) → unrepresented rights t (placed m x) ≡ fails m (unrepresented rights t x)
      unrepresented_kept t (typed f i j l ps) =
          either_of m (is_open l.sort) (if is_constant l.sort then unrepresented_constant rights t (m.token i) (m.token j) (constant_of l.sort) else all_unrepresented rights t (all_placed m ps)) []
          (if is_constant l.sort then unrepresented_constant rights t i j (constant_of l.sort) else all_unrepresented rights t ps) []
          (either_of m (is_constant l.sort) (unrepresented_constant rights t (m.token i) (m.token j) (constant_of l.sort)) (all_unrepresented rights t (all_placed m ps))
          (unrepresented_constant rights t i j (constant_of l.sort)) (all_unrepresented rights t ps) (constant_kept t i j (constant_of l.sort)) (all_unrepresented_kept t ps))
          refl

      all_unrepresented_kept : (t : TypeTree) (ps : Typeds TypeTree) → all_unrepresented rights t (all_placed m ps) ≡ fails m (all_unrepresented rights t ps)
      all_unrepresented_kept t sort.none = refl
      all_unrepresented_kept t (sort.more x xs) =
          both m (unrepresented rights t (placed m x)) (all_unrepresented rights t (all_placed m xs)) (unrepresented rights t x) (all_unrepresented rights t xs) (unrepresented_kept t x) (all_unrepresented_kept t xs)
      all_unrepresented_kept t (sort.skip xs) = all_unrepresented_kept t xs

    undefaulted_by_kept : (o : Option OpenKind) (x : Part) → undefaulted_by rights o (placed m x) ≡ fails m (undefaulted_by rights o x)
    undefaulted_by_kept None x = refl
    undefaulted_by_kept (Some k) x = unrepresented_kept (default_type k) x

    pub undefaulted_kept : (x : Part) → undefaulted rights (placed m x) ≡ fails m (undefaulted rights x)
    undefaulted_kept (typed f i j l ps) = undefaulted_by_kept (open_kind l.sort) (typed f i j l ps)

    untyped_kept : (t : TypeTree) (o : Option OpenKind) (x : Part) → untyped_unassignable rights t o (placed m x) ≡ fails m (untyped_unassignable rights t o x)
    untyped_kept t None x = at_part_kept code.Assignable x
    untyped_kept t (Some k) x = either_of m (suits rights k t) (unrepresented rights t (placed m x)) (at_part code.Assignable (placed m x)) (unrepresented rights t x) (at_part code.Assignable x) (unrepresented_kept t x) (at_part_kept code.Assignable x)

    unassignable_by_kept : (t : TypeTree) (s : Stands) (x : Part) → unassignable_by rights t s (placed m x) ≡ fails m (unassignable_by rights t s x)
    unassignable_by_kept t sort.Unknown x = refl
    unassignable_by_kept t (sort.Value u) x = at_part_unless (is_assignable rights u t) code.Assignable x
    unassignable_by_kept t (sort.Constant u c) x = at_part_unless (is_assignable rights u t) code.Assignable x
    unassignable_by_kept t sort.Nil x = at_part_unless (has_nil (underlying_of rights t)) code.Assignable x
    unassignable_by_kept t s x = untyped_kept t (open_kind s) x

    pub unassignable_kept : (t : TypeTree) (x : Part) → unassignable rights t (placed m x) ≡ fails m (unassignable rights t x)
    unassignable_kept t (typed f i j l ps) = unassignable_by_kept t l.sort (typed f i j l ps)
