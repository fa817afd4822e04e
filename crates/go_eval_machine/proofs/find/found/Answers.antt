use Rattle.std.proofs.Common.{◌≡◌, List, [], ◌∷◌, ◌++◌, take, drop, refl, ap, ◌∙◌}
use Rattle.go_values.specs.Views.{view, views}
use Rattle.go_values.proofs.Public.{views_append}
use Rattle.go_meaning.specs.Values.{Value, nth}
use Rattle.go_eval_machine.specs.declared.task.What.TheVariants as what
use Rattle.go_eval_machine.specs.Engines.{works, IsKept}
use Rattle.go_eval_machine.proofs.Going.{goes_given}
use Rattle.go_eval_machine.proofs.Rests.{joined}
use Rattle.go_eval_machine.proofs.GoingAssignments.{kept_on}
use Rattle.go_eval_machine.proofs.Finding.{behind_given}
use Rattle.go_eval_machine.proofs.find.found.Goals as goal

pub returns : goal.returns
returns c = λ p.
    let x = c.args.node.now in
    let b = c.args.base in
    let k = c.args.index in
    let m = c.args.engine.now in
    let vs = views m.values.items in
    let v = nth (drop k vs) 0 in
    let us = drop b (take k vs) in
    let m4 = record c.give.new.self { values = c.append.new.self } in
    let kept : IsKept m m4 = kept_on m c.take.new.self m4 c.in_ok-behind.ensures.kept (kept_on c.take.new.self c.take-2.new.self m4 c.in_ok-operands.ensures.kept (kept_on c.take-2.new.self c.give.new.self m4 c.in_ok-give.ensures.kept (record { tasks = refl; machine = refl; depth = refl }))) in
    let low : views c.take-2.new.self.values.items ≡ take b (take k vs) = c.in_ok-operands.ensures.values ∙ ap (take b) c.in_ok-behind.ensures.values in
    let first : view c.take_at-first.result ≡ v = c.take_at-first.ensures.taken ∙ ap (λ (ws : List Value). nth ws 0) c.in_ok-behind.ensures.taken in
    let given : views c.give.new.self.values.items ≡ take b (take k vs) ++ v ∷ [] = c.in_ok-give.ensures.values ∙ (ap (λ (ws : List Value). ws ++ view c.take_at-first.result ∷ []) low ∙ ap (λ (u : Value). take b (take k vs) ++ u ∷ []) first) in
    let others : views c.in_ok-operands.operands.items ≡ us = c.in_ok-operands.ensures.taken ∙ ap (drop b) c.in_ok-behind.ensures.values in
    goes_given p (works p x b (what.Behind k)) m m4 (tt {0}) (take b (take k vs) ++ v ∷ us) kept
    (ap views c.in_ok-append.ensures.items ∙ (views_append c.give.new.self.values.items c.in_ok-operands.operands.items ∙ (ap (λ (ws : List Value). ws ++ views c.in_ok-operands.operands.items) given ∙ (ap (λ (ws : List Value). (take b (take k vs) ++ v ∷ []) ++ ws) others ∙ joined (take b (take k vs)) (v ∷ []) us))))
    (λ n s. behind_given p n x s vs b k)
