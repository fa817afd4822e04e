use Rattle.std.proofs.Common.{rules, map, sym, subst}
use Rattle.std.specs.Option.{option_map}
use Rattle.go_tree.specs.Views.{views}
use Rattle.go_typed.specs.Views.{seen}
use Rattle.go_stmts_defs.specs.Reading.{back}
use Rattle.go_stmts.specs.Signatures.{results_or}
use Rattle.go_stmts.specs.State.{Shows, KnownState}
use Rattle.go_stmts.proofs.Showing.{known_iota, shows_with_iota}
use Rattle.go_stmts.proofs.Closing.{own_failed, node_made, shows_back}
use Rattle.go_stmts.proofs.finish.finish_statement.Goals as goal

pub build-requires-clause-known : goal.build-requires-clause-known
build-requires-clause-known c = subst (KnownState c.args.types.now c.args.surroundings.now c.args.state.now c.args.row.tag) (sym c.results_or.ensures) c.requires.inside

pub leave-requires-clause-locals : goal.leave-requires-clause-locals
leave-requires-clause-locals c = (known_iota c.args.types.now c.args.surroundings.now c.args.state.now c.args.enclosing.tag.now c.args.enclosing.results.now c.args.iota c.set_iota.new.self c.set_iota.ensures c.requires.known).locals

pub returns-in_err-node-clause-exact : goal.returns-in_err-node-clause-exact
returns-in_err-node-clause-exact c = λ b s fs before has sound.
    let t = c.args.types.now in
    let o = c.args.surroundings.now in
    let k = c.args.state.now in
    own_failed b s c.args.kind c.args.place.first c.args.place.last (views c.args.written.now) (map (option_map (seen t)) c.args.row.parts.items) fs sound (seen t) t o k c.args.enclosing.tag.now c.args.enclosing.results.now c.in_err-node.field-0.0 c.from_residual.result
    (c.in_err-node.ensures.exact s (subst (λ r. Shows t o k c.args.row.tag r s) (sym c.results_or.ensures) has)) (search rules)

pub returns-clause-exact : goal.returns-clause-exact
returns-clause-exact c = λ b s fs before has sound.
    let t = c.args.types.now in
    let o = c.args.surroundings.now in
    let k = c.args.state.now in
    let x = c.args.enclosing.tag.now in
    let rs = c.args.enclosing.results.now in
    let i = c.args.place.first in
    let moved = shows_with_iota t o k x rs c.args.iota c.set_iota.new.self c.set_iota.ensures (back b s) (shows_back t o k x c.args.row.tag rs (results_or c.args.row.results rs) b s c.args.iota before has) in
    node_made b s c.args.kind i c.args.place.last (views c.args.written.now) (map (option_map (seen t)) c.args.row.parts.items) fs sound t o c.leave.new.state x rs c.in_ok-node.node
    (c.in_ok-node.ensures.exact s (subst (λ r. Shows t o k c.args.row.tag r s) (sym c.results_or.ensures) has)) (c.in_ok-leave.ensures.frame o x rs (back b s) i moved)

pub returns-clause-known : goal.returns-clause-known
returns-clause-known c =
    let o = c.args.surroundings.now in
    let x = c.args.enclosing.tag.now in
    let rs = c.args.enclosing.results.now in
    c.in_ok-leave.ensures.known o x rs c.requires.literals (known_iota c.args.types.now o c.args.state.now x rs c.args.iota c.set_iota.new.self c.set_iota.ensures c.requires.known)
