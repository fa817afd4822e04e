use Rattle.std.proofs.Common.{◌≡◌, ℕ, List, [], ◌∷◌, ◌++◌, take, sym, ap, ◌∙◌}
use Rattle.std.specs.Prelude.{true, false}
use Rattle.go_meaning.specs.Values.{Value, Truth}
use Rattle.go_values.specs.declared.value.Value as code
use Rattle.go_values.specs.Views.{view, views}
use Rattle.go_eval_machine.specs.declared.task.What.TheVariants as what
use Rattle.go_eval_machine.specs.Engines.{works}
use Rattle.go_eval_machine.proofs.Public.{goes_same, goes_given, view_truth, kept_on}
use Rattle.go_eval.proofs.Switching.{match_true, match_false}
use Rattle.go_eval.proofs.switches.match_tag.Goals as goal

pub returns : goal.returns
returns c = λ p h.
    let x = c.args.node.now in
    let b = c.args.base in
    let m = c.args.engine.now in
    let j = c.in_ok-following.following in
    goes_same p (works p x b (what.Match c.args.next c.args.end c.args.tag)) (works p x b (what.Matches j c.args.end c.args.tag)) m c.matches.result c.matches.new.engine (c.matches.ensures p h)
    (λ n s. match_false p n x b s (views m.values.items) c.args.next c.args.end c.args.tag j c.in_ok-following.ensures (sym c.is_tag.ensures ∙ c.if-is_tag.false))

pub returns-then-is_tag : goal.returns-then-is_tag
returns-then-is_tag c = λ p h.
    let x = c.args.node.now in
    let b = c.args.base in
    let m = c.args.engine.now in
    let vs = views m.values.items in
    goes_given p (works p x b (what.Match c.args.next c.args.end c.args.tag)) m c.give.new.self (tt {0}) (take b vs ++ Truth true ∷ []) (kept_on m c.cut.new.self c.give.new.self c.cut.ensures.kept c.in_ok-give.ensures.kept)
    (c.in_ok-give.ensures.values ∙ (ap (λ (us : List Value). us ++ view (code.Truth true) ∷ []) c.cut.ensures.values ∙ ap (λ (u : Value). take b vs ++ u ∷ []) (view_truth true)))
    (λ n s. match_true p n x b s vs c.args.next c.args.end c.args.tag (sym c.is_tag.ensures ∙ c.if-is_tag.true))
