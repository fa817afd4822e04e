use Rattle.std.proofs.Common.{refl}
use Rattle.go_grammar.specs.Trees.{kind_of}
use Rattle.go_tree.specs.Views.{view}
use Rattle.go_exprs_rules.specs.Hints.{hint_seen}
use Rattle.go_stmts.proofs.Showing.{shows_stays, scope_shown}
use Rattle.go_stmts.proofs.WalkAnswers.{held_is}
use Rattle.go_stmts.proofs.Readings.{held_reading}
use Rattle.go_stmts.proofs.statements.hold_part.Goals as goal

pub returns-clause-exact : goal.returns-clause-exact
returns-clause-exact c = λ s has.
    let a = c.args.types.now in
    let b = c.hold.new.types in
    let o = c.args.surroundings.now in
    let k = c.args.state.now in
    let x = c.args.enclosing.tag.now in
    let rs = c.args.enclosing.results.now in
    let n = view c.args.node.now in
    let h = hint_seen a c.args.hint in
    held_is b o k x rs s h n c.hold.result (shows_stays a b c.count.ensures.table c.hold.ensures.grows.extends o k x rs c.hold.ensures.grows.rights c.requires.known s has)
    (c.hold.ensures.exact s (scope_shown a o k x rs s has c.scope_of-scope.result (c.scope_of-scope.ensures.names a) c.scope_of-scope.ensures.locals))
    (held_reading s h n (kind_of n) refl c.requires.kind)
