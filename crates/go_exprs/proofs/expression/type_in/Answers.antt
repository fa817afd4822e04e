use Rattle.std.proofs.Common.{rules, Result, Ok, Some, None, refl, ap, sym, ◌∙◌}
use Rattle.go_tree.specs.Views.{view}
use Rattle.go_typed.specs.Views.{seen}
use Rattle.go_exprs_rules.specs.declared.fault.TypeFault.{TypeFault}
use Rattle.go_exprs_rules.specs.Settling.{Part, given}
use Rattle.go_exprs_types.specs.Naming.{names}
use Rattle.go_exprs_engine.proofs.Public.{basics_stay}
use Rattle.go_exprs.specs.Contexts.{context_seen}
use Rattle.go_exprs.proofs.Answers.{err_in, judged_there}
use Rattle.go_exprs.proofs.expression.type_in.Goals as goal

pub returns-in_err-typed-clause-exact : goal.returns-in_err-typed-clause-exact
returns-in_err-typed-clause-exact c =
    err_in (names c.args.types.now c.args.scope.now) (context_seen c.args.types.now c.args.context) (view c.args.node.now) (seen c.type_node.new.types) c.in_err-typed.field-0.0 c.from_residual.result c.in_err-typed.ensures.exact (search rules)

pub refused-requires-clause-basics : goal.refused-requires-clause-basics
refused-requires-clause-basics c = basics_stay c.args.types.now c.type_node.new.types c.count.ensures.table c.in_ok-typed.ensures.grows.extends c.args.scope.now.basics c.requires.basics

pub returns-in-Some-clause-exact : goal.returns-in-Some-clause-exact
returns-in-Some-clause-exact c =
    judged_there c.args.types.now c.type_node.new.types c.count.ensures.table c.in_ok-typed.ensures.grows (names c.args.types.now c.args.scope.now) refl c.args.context c.requires.context (view c.args.node.now) (seen c.type_node.new.types c.in_ok-typed.typed) (Some c.in-Some.fault) c.in_ok-typed.ensures.exact
    (sym c.in-Some.is ∙ c.refused.ensures)

pub taken-take-requires-clause-basics : goal.taken-take-requires-clause-basics
taken-take-requires-clause-basics c = basics_stay c.args.types.now c.type_node.new.types c.count.ensures.table c.in_ok-typed.ensures.grows.extends c.args.scope.now.basics c.requires.basics

pub give-requires-clause-basics : goal.give-requires-clause-basics
give-requires-clause-basics c = basics_stay c.args.types.now c.type_node.new.types c.count.ensures.table c.in_ok-typed.ensures.grows.extends c.args.scope.now.basics c.requires.basics

pub returns-clause-exact : goal.returns-clause-exact
returns-clause-exact c =
    let t = c.type_node.new.types in
    let x = seen t c.in_ok-typed.typed in
    judged_there c.args.types.now t c.count.ensures.table c.in_ok-typed.ensures.grows (names c.args.types.now c.args.scope.now) refl c.args.context c.requires.context (view c.args.node.now) x None c.in_ok-typed.ensures.exact (sym c.in_default.is ∙ c.refused.ensures)
    ∙ ap (λ y. let r : Result Part TypeFault = Ok y in r) (sym (c.in_ok-give.ensures.tree ∙ ap (λ k. given k x) c.taken-take.ensures.tree))
