-- What finding places comes to.
use Rattle.std.proofs.Common.{◌≡◌, ℕ, List, [], ◌∷◌, ◌++◌, take, drop, length, refl, sym, ap, ◌∙◌}
use Rattle.go_typed.specs.declared.node.TypedNode.{TypedNode}
use Rattle.go_typed.specs.declared.node.TypedNode.TheViews.{out-TypedNode}
use Rattle.go_typed.specs.Packages.{PackageView}
use Rattle.go_meaning.specs.Values.{Value, nth}
use Rattle.go_meaning.specs.Computations.{World, Comp, Undecided, undecided, end_by, give, then_do, each}
use Rattle.go_meaning.specs.Doings.{at, values_of}
use Rattle.go_eval_plans.specs.Places.{place_doing, IsPlace}
use Rattle.go_eval_plans.specs.Programs.{doing, doings}
use Rattle.go_eval_plans.specs.declared.places.Place.TheVariants as the_place
use Rattle.go_eval_machine.specs.declared.task.What.TheVariants as what
use Rattle.go_eval_machine.specs.Rests.{Rest, before, behind, then_rest}
use Rattle.go_eval_machine.specs.Tasks.{parts_of, task_rest, between, indexed}
use Rattle.go_eval_machine.specs.Engines.{seeks, seeks_part, lays_find, asks_part, works}
use Rattle.go_eval_machine.proofs.Rests.{Same, begins_drop, gives_nothing, whole}
use Rattle.go_eval_machine.proofs.Begins.{each_two}
use Rattle.go_eval_machine.specs.Tests.{tests}
use Rattle.go_eval_machine.proofs.Between.{begins_both, between_is, above_is}

-- an undecided computation
pub is_undecided : (r : Rest) (vs : List Value) (c : Comp) → c ≡ undecided → (d : ℕ) (f : List Value) (w : World) (t : ℕ) → then_rest c r vs d f w t ≡ Undecided w.output
unfolding before undecided
is_undecided r vs c e d f w t = ap (λ (c1 : Comp). then_rest c1 r vs d f w t) e

pub is_nothing : (r : Rest) (vs : List Value) (c : Comp) → c ≡ give [] → Same (then_rest c r vs) (r.go vs)
is_nothing r vs c e d f w t = ap (λ (c1 : Comp). then_rest c1 r vs d f w t) e ∙ gives_nothing r vs d f w t

module _ (p : PackageView) (n : ℕ) (x : TypedNode) (r : Rest) (vs : List Value) where
  pub finds_part : (doing p n x).find ≡ (at (parts_of p n x) 0).find → Same (seeks p x n r vs) (seeks_part p x 0 n r vs)
  finds_part e d f w t = ap (λ (c : Comp). then_rest c r vs d f w t) e

  pub finds_element : (k : ℕ) → IsPlace (doing p n x) (place_doing (the_place.Element k) (doings p n (out-TypedNode x).parts.items)) → Same (seeks p x n r vs) (lays_find p x what.Index 0 n r vs)
  unfolding task_rest
  finds_element k h d f w t = ap (λ (c : Comp). then_rest c r vs d f w t) h.find
      ∙ begins_drop r vs _ (λ us. then_do ((at (parts_of p n x) 0).test us) (λ no. indexed (at (parts_of p n x) 1) us)) (λ us d1 f1 w1 t1. refl) (at (parts_of p n x) 0).find d f w t

  pub finds_cell : (b : ℕ) → b ≡ length vs → IsPlace (doing p n x) (place_doing the_place.Cell (doings p n (out-TypedNode x).parts.items)) → Same (seeks p x n r vs) ((task_rest p n x b (what.Values 0 2) r).go vs)
  unfolding task_rest
  finds_cell b e h d f w t = ap (λ (c : Comp). then_rest c r vs d f w t) h.find
      ∙ (each_two p n x r vs (parts_of p n x) give (behind r vs vs) d f w t
      ∙ ap (λ (ws : List Value). before (each (values_of (take 2 (parts_of p n x))) give) (behind r vs ws) d f w t) (sym (rw e (whole vs))))

  module _ (b : ℕ) where
    pub index_next : (k : ℕ) → k ≡ length vs → Same (works p x b what.Index n r vs) (tests p x 0 b n (task_rest p n x b (what.Tested k) r) vs)
    unfolding task_rest
    index_next k e = begins_both r vs b k ((at (parts_of p n x) 0).test (drop b vs)) (λ no. indexed (at (parts_of p n x) 1) (drop b vs)) (λ ws. indexed (at (parts_of p n x) 1) (between b k ws)) e
        (λ us d f w t. ap (λ (ws : List Value). indexed (at (parts_of p n x) 1) ws d f w t) (between_is vs us b k e))

    pub tested_next : (end k : ℕ) → k ≡ length (take end vs) → Same (works p x b (what.Tested end) n r vs) (asks_part p x 1 n (task_rest p n x b (what.Behind k) r) (take end vs))
    unfolding task_rest
    tested_next end k e = begins_both r (take end vs) b k (at (parts_of p n x) 1).value (λ us. give (nth us 0 ∷ drop b (take end vs))) (λ ws. give (nth (drop k ws) 0 ∷ between b k ws)) e
        (λ us d f w t. ap (λ (ws : List Value). give (nth ws 0 ∷ between b k (take end vs ++ us)) d f w t) (above_is (take end vs) us k e)
        ∙ ap (λ (ws : List Value). give (nth us 0 ∷ ws) d f w t) (between_is (take end vs) us b k e))

    pub behind_given : (k : ℕ) → Same (works p x b (what.Behind k) n r vs) (r.go (take b (take k vs) ++ nth (drop k vs) 0 ∷ drop b (take k vs)))
    unfolding task_rest before end_by
    behind_given k d f w t = refl
