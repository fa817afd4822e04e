-- What the next turn of a loop comes to, among tasks.
use Rattle.std.proofs.Common.{◌≡◌, ◌<◌, ℕ, List, take, refl, sym, ap, ◌∙◌}
use Rattle.std.specs.Prelude.{Bool, true, false}
use Rattle.go_typed.specs.declared.node.TypedNode.{TypedNode}
use Rattle.go_typed.specs.declared.node.TypedNode.TheViews.{out-TypedNode}
use Rattle.go_typed.specs.Packages.{PackageView}
use Rattle.go_typed.specs.Views.{all_seen}
use Rattle.go_meaning.specs.Values.{Value}
use Rattle.go_meaning.specs.Computations.{World}
use Rattle.go_meaning.specs.Planning.{part_at, is_there}
use Rattle.go_eval_plans.specs.Views.{is_for}
use Rattle.go_eval_plans.specs.Programs.{again, doing}
use Rattle.go_eval_machine.specs.declared.task.What.TheVariants as what
use Rattle.go_eval_machine.specs.Rests.{Rest, then_rest}
use Rattle.go_eval_machine.specs.Tasks.{parts_of, task_rest, turn_at}
use Rattle.go_eval_machine.specs.Engines.{asks, lays, works}
use Rattle.go_eval_machine.proofs.Rests.{Same, begins_plain}
use Rattle.go_eval_machine.proofs.Looping.{turns_again, value_again, same_before}

module _ (p : PackageView) (n : ℕ) (x : TypedNode) (b : ℕ) (r : Rest) (vs : List Value) where
  pub again_turns : (q : Bool) → q ≡ is_there (part_at (all_seen p.types (out-TypedNode x).parts.items) 1) → is_for (out-TypedNode x).form ≡ true → (d : ℕ) (f : List Value) (w : World) (t : ℕ) → t < n → works p x b what.Again n r vs d f w t ≡ lays p x (what.Turn q) n r (take b vs) d f w t
  unfolding task_rest
  again_turns q e h d f w t lt = same_before (again p n x) (turn_at (is_there (part_at (all_seen p.types (out-TypedNode x).parts.items) 1)) (parts_of p n x) (again p n x)) r (take b vs) d f w t (turns_again p n x h d f w t lt)
      ∙ (ap (λ (k : Bool). then_rest (turn_at k (parts_of p n x) (again p n x)) r (take b vs) d f w t) (sym e)
      ∙ begins_plain r (take b vs) (turn_at q (parts_of p n x) (again p n x)) d f w t)

  pub again_asks : is_for (out-TypedNode x).form ≡ false → (d : ℕ) (f : List Value) (w : World) (t : ℕ) → t < n → works p x b what.Again n r vs d f w t ≡ asks p x n r (take b vs) d f w t
  unfolding task_rest
  again_asks h d f w t lt = same_before (again p n x) (doing p n x).value r (take b vs) d f w t (value_again p n x h d f w t lt)

pub laid_value : (p : PackageView) (n : ℕ) (x : TypedNode) (r : Rest) (vs : List Value) → Same (asks p x n r vs) ((task_rest p n x 0 what.Value r).go vs)
unfolding task_rest
laid_value p n x r vs d f w t = refl
