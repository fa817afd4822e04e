use Rattle.std.proofs.Common.{sym}
use Rattle.go_tree.specs.Views.{view}
use Rattle.go_types_relations.proofs.Public.{grows_both}
use Rattle.go_typed.specs.Views.{seen}
use Rattle.go_exprs_types.specs.Naming.{names}
use Rattle.go_exprs_engine.proofs.Public.{node_stays}
use Rattle.go_exprs.specs.Contexts.{context_seen}
use Rattle.go_exprs.specs.Expressions.{scope_of}
use Rattle.go_exprs.proofs.Answers.{context_stays, placed_ok, placed_err}
use Rattle.go_exprs.proofs.Names.{scope_known_there, scope_is}
use Rattle.go_exprs.proofs.expression.type_expr.Goals as goal

pub type_in-requires-clause-scope : goal.type_in-requires-clause-scope
type_in-requires-clause-scope c =
    let s = c.of_body-scope.ensures in
    scope_known_there c.of_body-scope.result (record { told = s.told; needed = s.needed; limits = s.limits; base = s.base }) c.args.tokens.now c.args.uses.now c.args.env.now c.args.locals.now s.tokens s.uses s.env s.locals
    c.args.types.now c.basics.new.types c.count.ensures.table c.in_ok-basics.ensures.grows c.requires.names

pub returns-in-Ok-clause-grows : goal.returns-in-Ok-clause-grows
returns-in-Ok-clause-grows c = grows_both c.args.types.now c.basics.new.types c.type_in.new.types c.in_ok-basics.ensures.grows c.type_in.ensures.grows

pub returns-in-Ok-clause-exact : goal.returns-in-Ok-clause-exact
returns-in-Ok-clause-exact c t e =
    let old = c.args.types.now in
    let mid = c.basics.new.types in
    let new = c.type_in.new.types in
    let s = c.of_body-scope.ensures in
    let same = scope_is c.of_body-scope.result (record { told = s.told; needed = s.needed; limits = s.limits; base = s.base }) c.args.tokens.now c.args.uses.now c.args.env.now c.args.locals.now s.tokens s.uses s.env s.locals
    old mid c.count.ensures.table c.in_ok-basics.ensures.grows c.requires.names in
    placed_ok c.args.tokens.now (names mid c.of_body-scope.result) (scope_of old c.args.tokens.now c.args.uses.now c.args.env.now c.args.locals.now) same
    (context_seen mid c.args.context) (context_seen old c.args.context) (context_stays old mid c.count.ensures.table c.in_ok-basics.ensures.grows c.args.context c.requires.context)
    (view c.args.expression.now) (seen new c.in-Ok.typed) (seen t c.in-Ok.typed) c.in-Ok.ensures.exact (sym (node_stays new t c.type_in.ensures.grows.table e c.in-Ok.typed c.in-Ok.ensures.known))

pub returns-in-Err-clause-grows : goal.returns-in-Err-clause-grows
returns-in-Err-clause-grows c = grows_both c.args.types.now c.basics.new.types c.type_in.new.types c.in_ok-basics.ensures.grows c.type_in.ensures.grows

pub returns-in-Err-clause-exact : goal.returns-in-Err-clause-exact
returns-in-Err-clause-exact c t e =
    let old = c.args.types.now in
    let mid = c.basics.new.types in
    let s = c.of_body-scope.ensures in
    let same = scope_is c.of_body-scope.result (record { told = s.told; needed = s.needed; limits = s.limits; base = s.base }) c.args.tokens.now c.args.uses.now c.args.env.now c.args.locals.now s.tokens s.uses s.env s.locals
    old mid c.count.ensures.table c.in_ok-basics.ensures.grows c.requires.names in
    placed_err c.args.tokens.now (names mid c.of_body-scope.result) (scope_of old c.args.tokens.now c.args.uses.now c.args.env.now c.args.locals.now) same
    (context_seen mid c.args.context) (context_seen old c.args.context) (context_stays old mid c.count.ensures.table c.in_ok-basics.ensures.grows c.args.context c.requires.context)
    (view c.args.expression.now) (seen c.type_in.new.types) (seen t) c.in-Err.error c.placed.result c.in-Err.ensures.exact c.placed.ensures
