use Rattle.std.proofs.Common.{◌≡◌, ℕ, List, [], ◌∷◌, ◌++◌, take, length, sym, ap, ◌∙◌, arith}
use Rattle.std.specs.Prelude.{true, false}
use Rattle.go_typed.specs.declared.node.TypedNode.TheViews.{out-TypedNode}
use Rattle.go_meaning.specs.Values.{Value, Truth}
use Rattle.go_values.specs.declared.value.Value as code
use Rattle.go_values.specs.Views.{view, views}
use Rattle.go_eval_machine.specs.declared.task.What.TheVariants as what
use Rattle.go_eval_machine.specs.Tasks.{parts_of}
use Rattle.go_eval_machine.specs.Engines.{works, lays_value}
use Rattle.go_eval_machine.proofs.Public.{as_many, drop_short, drop_over, goes_kept, goes_given, view_truth, kept_on}
use Rattle.go_eval.proofs.Switching.{matches_none, matches_next}
use Rattle.go_eval.proofs.switches.matches.Goals as goal

pub returns : goal.returns
returns c = λ p h.
    let x = c.args.node.now in
    let b = c.args.base in
    let m = c.args.engine.now in
    let vs = views m.values.items in
    goes_kept p (works p x b (what.Matches c.args.next c.args.end c.args.tag)) (lays_value p x (what.Match c.args.next c.args.end c.args.tag) c.args.next) m c.cut.new.self c.lay_value.result c.lay_value.new.self (take b vs) c.cut.ensures.kept c.cut.ensures.values (c.lay_value.ensures p (h, tt))
    (λ n s. let e : length (parts_of p n x) ≡ length (out-TypedNode x).parts.items = as_many p n (out-TypedNode x).parts.items in matches_next p n x b s vs c.args.next c.args.end c.args.tag (omega (arith, c.if-next-end.false)) (omega (arith, e, c.count.ensures, c.if-next-count.false)))

pub returns-then-next-end : goal.returns-then-next-end
returns-then-next-end c = λ p h.
    let x = c.args.node.now in
    let b = c.args.base in
    let m = c.args.engine.now in
    let vs = views m.values.items in
    goes_given p (works p x b (what.Matches c.args.next c.args.end c.args.tag)) m c.give.new.self (tt {0}) (take b vs ++ Truth false ∷ []) (kept_on m c.cut.new.self c.give.new.self c.cut.ensures.kept c.in_ok-give.ensures.kept)
    (c.in_ok-give.ensures.values ∙ (ap (λ (us : List Value). us ++ view (code.Truth false) ∷ []) c.cut.ensures.values ∙ ap (λ (u : Value). take b vs ++ u ∷ []) (view_truth false)))
    (λ n s. matches_none p n x b s vs c.args.next c.args.end c.args.tag (drop_short (parts_of p n x) c.args.next c.args.end (omega (arith, c.if-next-end.true))))

pub returns-then-next-count : goal.returns-then-next-count
returns-then-next-count c = λ p h.
    let x = c.args.node.now in
    let b = c.args.base in
    let m = c.args.engine.now in
    let vs = views m.values.items in
    goes_given p (works p x b (what.Matches c.args.next c.args.end c.args.tag)) m c.give-then-next-count.new.self (tt {0}) (take b vs ++ Truth false ∷ []) (kept_on m c.cut.new.self c.give-then-next-count.new.self c.cut.ensures.kept c.in_ok-give-2.ensures.kept)
    (c.in_ok-give-2.ensures.values ∙ (ap (λ (us : List Value). us ++ view (code.Truth false) ∷ []) c.cut.ensures.values ∙ ap (λ (u : Value). take b vs ++ u ∷ []) (view_truth false)))
    (λ n s. let e : length (parts_of p n x) ≡ length (out-TypedNode x).parts.items = as_many p n (out-TypedNode x).parts.items in matches_none p n x b s vs c.args.next c.args.end c.args.tag (drop_over (parts_of p n x) c.args.next c.args.end (omega (arith, e, c.count.ensures, c.if-next-count.true))))
