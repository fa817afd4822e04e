use Rattle.std.proofs.Common.{◌≡◌, ℕ, List, [], ◌∷◌, ◌++◌, take, length, refl, sym, ap, ◌∙◌, arith}
use Rattle.go_typed.specs.declared.node.TypedNode.TheViews.{out-TypedNode}
use Rattle.go_meaning.specs.Values.{Value}
use Rattle.go_values.specs.Views.{view, views}
use Rattle.go_eval_machine.specs.declared.task.What.TheVariants as what
use Rattle.go_eval_machine.specs.Tasks.{parts_of, task_rest, first_above}
use Rattle.go_eval_machine.specs.Engines.{Work, works, falls}
use Rattle.go_eval_machine.proofs.Public.{as_many, goes_same, goes_kept, goes_pushed, kept_on}
use Rattle.go_eval_machine.specs.Tests.{tests}
use Rattle.go_eval.proofs.Switching.{clauses_done, clauses_next}
use Rattle.go_eval.proofs.switches.clauses.Goals as goal

pub returns-then-next-count : goal.returns-then-next-count
returns-then-next-count c =
    let p = c.args.checked.now in
    let x = c.args.node.now in
    let b = c.args.base in
    let m = c.args.engine.now in
    goes_same p (works p x b (what.Clauses c.args.next c.args.default)) (falls p x b c.args.default) m c.fall.result c.fall.new.self (c.fall.ensures p c.requires)
    (λ n s. let e : length (parts_of p n x) ≡ length (out-TypedNode x).parts.items = as_many p n (out-TypedNode x).parts.items in clauses_done p n x b s (views m.values.items) c.args.next c.args.default (omega (arith, e, c.count.ensures, c.if-next-count.true)))

pub returns : goal.returns
returns c =
    let p = c.args.checked.now in
    let x = c.args.node.now in
    let b = c.args.base in
    let next = c.args.next in
    let m = c.args.engine.now in
    let vs = views m.values.items in
    let m1 = c.take_first-tag.new.engine in
    let m2 = c.give.new.self in
    let low = c.top-low.result in
    let k = c.top-place.result in
    let tag = first_above b vs in
    let ws = take b vs ++ tag ∷ [] in
    let given : views m2.values.items ≡ ws = c.in_ok-give.ensures.values ∙ (ap (λ (us : List Value). us ++ view c.take_first-tag.result ∷ []) c.take_first-tag.ensures.values ∙ ap (λ (v : Value). take b vs ++ v ∷ []) c.take_first-tag.ensures.first) in
    let all : Work = λ n s us. tests p x next low n (task_rest p n x low (what.Clause next c.args.default k) s) us in
    goes_kept p (works p x b (what.Clauses next c.args.default)) all m m2 c.test.result c.test.new.engine ws (kept_on m m1 m2 c.take_first-tag.ensures.kept c.in_ok-give.ensures.kept) given
    (goes_pushed p all (tests p x next low) x low (what.Clause next c.args.default k) m2 c.push.new.self c.test.result c.test.new.engine (c.requires, tt) c.in_ok-push.ensures c.test.ensures (λ n s d f w t. refl))
    (λ n s. let e : length (parts_of p n x) ≡ length (out-TypedNode x).parts.items = as_many p n (out-TypedNode x).parts.items in
    clauses_next p n x b s vs next c.args.default low k (c.top-low.ensures ∙ ap (λ (us : List Value). length us) c.take_first-tag.ensures.values) (c.top-place.ensures ∙ ap (λ (us : List Value). length us) given) (omega (arith, e, c.count.ensures, c.if-next-count.false)))
