-- What a further turn of a loop comes to.
use Rattle.std.proofs.Common.{◌≡◌, ◌<◌, ℕ, suc, List, refl, sym, ap, ◌∙◌, arith}
use Rattle.std.specs.Prelude.{true, false}
use Rattle.go_types.specs.Trees.{TypeTree}
use Rattle.go_types.specs.Relations.{Rights}
use Rattle.go_types.specs.Tables.{type_of}
use Rattle.go_typed.specs.declared.form.Form.{Form}
use Rattle.go_typed.specs.declared.form.Form.TheVariants as form
use Rattle.go_typed.specs.declared.node.TypedNode.{TypedNode}
use Rattle.go_typed.specs.declared.node.TypedNode.TheViews.{out-TypedNode}
use Rattle.go_typed.specs.Trees.{Label, Typed, typed, Typeds, none, more, skip, mapped, label_mapped}
use Rattle.go_typed.specs.Packages.{PackageView}
use Rattle.go_typed.specs.Views.{all_seen, label_at, seen}
use Rattle.go_meaning.specs.Values.{Value}
use Rattle.go_meaning.specs.Computations.{World, Comp, Outcome, end_by, then_do}
use Rattle.go_meaning.specs.Planning.{part_at, is_there}
use Rattle.go_meaning.specs.Meaning.{meaning, meanings, without_first, bounded}
use Rattle.go_meaning.proofs.Public.{bound_does_not_show}
use Rattle.go_eval_plans.specs.Views.{is_for}
use Rattle.go_eval_plans.proofs.Public.{opened}
use Rattle.go_eval_plans.specs.Programs.{program_of, calls, doing, doings, again, further}
use Rattle.go_eval_machine.specs.Rests.{Rest, go_by, before, behind, then_rest}
use Rattle.go_eval_machine.specs.Tasks.{parts_of, turn_at}

module _ (R : Rights) (C : ℕ → List Value → Comp) (later : Typed TypeTree → Comp) (i j : ℕ) (l : Label TypeTree) where
  loop_again : (ps : Typeds TypeTree) (d : ℕ) (f : List Value) (w : World) (t : ℕ) → (meaning R C later (typed form.For i j l (without_first ps))).value d f w t ≡ turn_at (is_there (part_at ps 1)) (meanings R C later ps) (later (typed form.For i j l (without_first ps))) d f w t
  unfolding then_do end_by
  loop_again none d f w t = refl
  loop_again (more q qs) d f w t = refl
  loop_again (skip qs) d f w t = refl

module _ (p : PackageView) (n : ℕ) (x : TypedNode) where
  -- the tree of the node
  tree_is : seen p.types x ≡ typed (out-TypedNode x).form (out-TypedNode x).first (out-TypedNode x).last (label_mapped (type_of p.types.shapes) (label_at (out-TypedNode x))) (all_seen p.types (out-TypedNode x).parts.items)
  tree_is = ap (mapped (type_of p.types.shapes)) (opened x)

  for_is : (g : Form) → is_for g ≡ true → g ≡ form.For
  for_is form.For e = refl
  for_is _ e = absurd cc

  other_is : (g : Form) (i j : ℕ) (l : Label TypeTree) (ps : Typeds TypeTree) → is_for g ≡ false → further (typed g i j l ps) ≡ typed g i j l ps
  other_is form.For i j l ps e = absurd cc
  other_is _ i j l ps e = refl

  pub turns_again : is_for (out-TypedNode x).form ≡ true → (d : ℕ) (f : List Value) (w : World) (t : ℕ) → t < n → again p n x d f w t ≡ turn_at (is_there (part_at (all_seen p.types (out-TypedNode x).parts.items) 1)) (parts_of p n x) (again p n x) d f w t
  unfolding again doings calls program_of
  turns_again e d f w t lt =
      let i = (out-TypedNode x).first in
      let j = (out-TypedNode x).last in
      let l = label_mapped (type_of p.types.shapes) (label_at (out-TypedNode x)) in
      let ps = all_seen p.types (out-TypedNode x).parts.items in
      let tree : seen p.types x ≡ typed form.For i j l ps = tree_is ∙ ap (λ (g : Form). typed g i j l ps) (for_is (out-TypedNode x).form e) in
      let P = program_of p 0 in
      ap (λ (u : Typed TypeTree). bounded P n (further u) d f w t) tree
      ∙ (bound_does_not_show P n (suc n) (further (typed form.For i j l ps)) d f w t lt (omega (arith, lt))
      ∙ (loop_again P.rights (λ g vs. calls p n g vs) (bounded P n) i j l ps d f w t
      ∙ ap (λ (u : Typed TypeTree). turn_at (is_there (part_at ps 1)) (meanings P.rights (λ g vs. calls p n g vs) (bounded P n) ps) (bounded P n (further u)) d f w t) (sym tree)))

  pub value_again : is_for (out-TypedNode x).form ≡ false → (d : ℕ) (f : List Value) (w : World) (t : ℕ) → t < n → again p n x d f w t ≡ (doing p n x).value d f w t
  unfolding again doing calls program_of
  value_again e d f w t lt =
      let i = (out-TypedNode x).first in
      let j = (out-TypedNode x).last in
      let l = label_mapped (type_of p.types.shapes) (label_at (out-TypedNode x)) in
      let ps = all_seen p.types (out-TypedNode x).parts.items in
      let P = program_of p 0 in
      ap (λ (u : Typed TypeTree). bounded P n u d f w t) (ap further tree_is ∙ (other_is (out-TypedNode x).form i j l ps e ∙ sym tree_is))
      ∙ bound_does_not_show P n (suc n) (seen p.types x) d f w t lt (omega (arith, lt))

-- computations that are the same in a state
pub same_before : (c c' : Comp) (r : Rest) (vs : List Value) (d : ℕ) (f : List Value) (w : World) (t : ℕ) → c d f w t ≡ c' d f w t → then_rest c r vs d f w t ≡ then_rest c' r vs d f w t
unfolding before
same_before c c' r vs d f w t e = ap (λ (o : Outcome). go_by o (λ e1 f1 w1 t1. behind r vs vs e1 d f1 w1 t1)) e
