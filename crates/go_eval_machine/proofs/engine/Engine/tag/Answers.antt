use Rattle.std.proofs.Common.{take, sym, subst}
use Rattle.std.specs.Prelude.{Bool, true, false}
use Rattle.go_meaning.specs.Values as meant
use Rattle.go_values.specs.Views.{views}
use Rattle.go_eval_machine.specs.declared.task.What.TheVariants as what
use Rattle.go_eval_machine.specs.Engines.{Goes, works, lays_value, lays_given}
use Rattle.go_eval_machine.proofs.Values.{view_truth}
use Rattle.go_eval_machine.proofs.Going.{goes_kept}
use Rattle.go_eval_machine.proofs.Gathering.{tag_true, tag_false}
use Rattle.go_eval_machine.proofs.engine.Engine.tag.Goals as goal

pub returns-then-tag : goal.returns-then-tag
returns-then-tag c = λ p h.
    let x = c.args.node.now in
    let b = c.args.base in
    let old = c.args.self.now in
    let vs = views old.values.items in
    let k = c.args.default in
    subst (λ (q : Bool). Goes p (works p x b (what.Tag q k)) old c.lay_value.result c.lay_value.new.self) (sym c.if-tag.true)
    (goes_kept p (works p x b (what.Tag true k)) (lays_value p x (what.Clauses 2 k) 1) old c.cut.new.self c.lay_value.result c.lay_value.new.self (take b vs) c.cut.ensures.kept c.cut.ensures.values (c.lay_value.ensures p (h, tt)) (λ n s. tag_true p n x b s vs k))

pub returns-else-tag : goal.returns-else-tag
returns-else-tag c = λ p h.
    let x = c.args.node.now in
    let b = c.args.base in
    let old = c.args.self.now in
    let vs = views old.values.items in
    let k = c.args.default in
    subst (λ (q : Bool). Goes p (works p x b (what.Tag q k)) old c.lay_given.result c.lay_given.new.self) (sym c.if-tag.false)
    (goes_kept p (works p x b (what.Tag false k)) (lays_given p x (what.Clauses 2 k) (meant.Truth true)) old c.cut.new.self c.lay_given.result c.lay_given.new.self (take b vs) c.cut.ensures.kept c.cut.ensures.values
    (subst (λ (v : meant.Value). Goes p (lays_given p x (what.Clauses 2 k) v) c.cut.new.self c.lay_given.result c.lay_given.new.self) (view_truth true) (c.lay_given.ensures p (h, tt))) (λ n s. tag_false p n x b s vs k))
