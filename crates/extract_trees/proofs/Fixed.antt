-- Where the only constants outside of others are holes, windows that agree have no other constants to compare.
use Rattle.std.proofs.Common.{◌≡◌, Bool, true, false, refl}
use Rattle.std.specs.Prelude.{◌&&◌, ◌||◌, not}
use Rattle.std.proofs.lemmas.Bool.{and_parts, and_from}
use Rattle.go_types.specs.Trees.{TypeTree}
use Rattle.go_typed.specs.declared.form.Form.{Form}
use Rattle.go_typed.specs.Trees.{Typed, typed, Typeds, none, more, skip}
use Rattle.go_exprs_rules.specs.Sorts.{Stands}
use Rattle.clone_window.specs.Kinds.{outline}
use Rattle.clone_window.specs.Masses.{is_constant_expression, is_hole}
use Rattle.clone_window.specs.Sameness.{agree, all_agree, agree_at, agree_besides, compared, same_outline}
use Rattle.extract_trees.specs.Windows.{constant_or, constants_agree, all_constants_agree, has_holes_alone, have_holes_alone, HolesAloneAgree}

-- of two nodes, told whether they are holes and whether they are constant expressions
fixed_by : (identical : TypeTree → TypeTree → Bool) (x y p q : Bool) (f g : Form) (s t : Stands) (ps qs : Typeds TypeTree) →
    (all_agree identical false false ps qs ≡ true → have_holes_alone ps ≡ true → have_holes_alone qs ≡ true → all_constants_agree identical ps qs ≡ true) →
    agree_at identical x y f g s t (all_agree identical p q ps qs) ≡ true → (x || (not p && have_holes_alone ps)) ≡ true → (y || (not q && have_holes_alone qs)) ≡ true →
    constant_or identical x p q s t (all_constants_agree identical ps qs) ≡ true
fixed_by identical true y p q f g s t ps qs r h o o' = refl
fixed_by identical false true p q f g s t ps qs r h o o' = cc
fixed_by identical false false true q f g s t ps qs r h o o' = cc
fixed_by identical false false false true f g s t ps qs r h o o' = cc
fixed_by identical false false false false f g s t ps qs r h o o' =
    r (and_parts (same_outline (outline f) (outline g) && agree_besides identical (compared f) (compared g) s t) (all_agree identical false false ps qs) h).1 o o'

mutual
  fixed : (identical : TypeTree → TypeTree → Bool) (t u : Typed TypeTree) → agree identical false false t u ≡ true → has_holes_alone t ≡ true → has_holes_alone u ≡ true → constants_agree identical t u ≡ true
  fixed identical (typed f i j l ps) (typed g k m n qs) h o o' =
      fixed_by identical (is_hole false f l) (is_hole false g n) (is_constant_expression f l) (is_constant_expression g n) f g l.sort n.sort ps qs (λ a b c. all_fixed identical ps qs a b c) h o o'

  pub all_fixed : HolesAloneAgree
  all_fixed identical none none h o o' = refl
  all_fixed identical none (more q qs) h o o' = cc
  all_fixed identical none (skip qs) h o o' = cc
  all_fixed identical (more p ps) none h o o' = cc
  all_fixed identical (more p ps) (more q qs) h o o' =
      let x = and_parts (agree identical false false p q) (all_agree identical false false ps qs) h in
      let y = and_parts (has_holes_alone p) (have_holes_alone ps) o in
      let z = and_parts (has_holes_alone q) (have_holes_alone qs) o' in
      and_from (constants_agree identical p q) (all_constants_agree identical ps qs) (fixed identical p q x.0 y.0 z.0) (all_fixed identical ps qs x.1 y.1 z.1)
  all_fixed identical (more p ps) (skip qs) h o o' = cc
  all_fixed identical (skip ps) none h o o' = cc
  all_fixed identical (skip ps) (more q qs) h o o' = cc
  all_fixed identical (skip ps) (skip qs) h o o' = all_fixed identical ps qs h o o'
