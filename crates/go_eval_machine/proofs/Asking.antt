-- What asking a part comes to.
use Rattle.std.proofs.Common.{◌≡◌, ℕ, List, sym, ap, ◌∙◌, Option, Some, None}
use Rattle.go_types_relations.specs.Questions.{entry}
use Rattle.go_typed.specs.declared.node.TypedNode.{TypedNode}
use Rattle.go_typed.specs.declared.node.TypedNode.TheViews.{out-TypedNode}
use Rattle.go_typed.specs.Packages.{PackageView}
use Rattle.go_typed.specs.Views.{Known}
use Rattle.go_meaning.specs.Values.{Value}
use Rattle.go_meaning.specs.Computations.{World, Undecided, undecided}
use Rattle.go_meaning.specs.Doings.{Doing}
use Rattle.go_eval_plans.proofs.Public.{at_some, at_none, known_parts, known_entry}
use Rattle.go_eval_machine.specs.declared.task.What.TheVariants as what
use Rattle.go_eval_machine.specs.Rests.{Rest, before, then_rest}
use Rattle.go_eval_machine.specs.Tasks.{task_rest}
use Rattle.go_eval_machine.specs.Engines.{asks, asks_part, seeks_part}
use Rattle.go_eval_machine.proofs.Rests.{Same, gives_nothing}

module _ (x : TypedNode) (k : ℕ) (xs : List (Option TypedNode)) (e : xs ≡ (out-TypedNode x).parts.items) where
  pub known_part : (j : ℕ) (y : TypedNode) → entry xs k ≡ Some y → Known j x → Known j y
  known_part j y h a = known_entry j (out-TypedNode x).parts.items k y (known_parts j x a) (ap (λ (ys : List (Option TypedNode)). entry ys k) (sym e) ∙ h)

  module _ (p : PackageView) (n : ℕ) (s : Rest) (vs : List Value) where
    pub asks_some : (y : TypedNode) → entry xs k ≡ Some y → Same (asks_part p x k n s vs) ((task_rest p n y 0 what.Value s).go vs)
    unfolding task_rest
    asks_some y h d f w t = ap (λ (z : Doing). then_rest z.value s vs d f w t) (at_some p n (out-TypedNode x).parts.items k y (ap (λ (ys : List (Option TypedNode)). entry ys k) (sym e) ∙ h))

    pub begins_some : (y : TypedNode) → entry xs k ≡ Some y → Same (asks_part p x k n s vs) (asks p y n s vs)
    begins_some y h d f w t = ap (λ (z : Doing). then_rest z.value s vs d f w t) (at_some p n (out-TypedNode x).parts.items k y (ap (λ (ys : List (Option TypedNode)). entry ys k) (sym e) ∙ h))

    pub asks_none : entry xs k ≡ None → Same (asks_part p x k n s vs) (s.go vs)
    asks_none h d f w t = ap (λ (z : Doing). then_rest z.value s vs d f w t) (at_none p n (out-TypedNode x).parts.items k (ap (λ (ys : List (Option TypedNode)). entry ys k) (sym e) ∙ h)) ∙ gives_nothing s vs d f w t

    pub seeks_some : (y : TypedNode) → entry xs k ≡ Some y → Same (seeks_part p x k n s vs) ((task_rest p n y 0 what.Find s).go vs)
    unfolding task_rest
    seeks_some y h d f w t = ap (λ (z : Doing). then_rest z.find s vs d f w t) (at_some p n (out-TypedNode x).parts.items k y (ap (λ (ys : List (Option TypedNode)). entry ys k) (sym e) ∙ h))

    pub seeks_none : entry xs k ≡ None → (d : ℕ) (f : List Value) (w : World) (t : ℕ) → seeks_part p x k n s vs d f w t ≡ Undecided w.output
    unfolding before undecided
    seeks_none h d f w t = ap (λ (z : Doing). then_rest z.find s vs d f w t) (at_none p n (out-TypedNode x).parts.items k (ap (λ (ys : List (Option TypedNode)). entry ys k) (sym e) ∙ h))
