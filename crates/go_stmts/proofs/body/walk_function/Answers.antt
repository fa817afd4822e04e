use Rattle.std.proofs.Common.{rules, refl, []}
use Rattle.go_typed.specs.declared.sort.Sort.TheVariants as program
use Rattle.go_tree.specs.Views.{view}
use Rattle.go_exprs_rules.specs.Scopes.{free}
use Rattle.go_stmts_defs.specs.Bodies.{start}
use Rattle.go_stmts_defs.specs.Reading.{reading}
use Rattle.go_stmts.specs.Bodies.{scope_around}
use Rattle.go_stmts.proofs.Starts.{start_shown}
use Rattle.go_stmts.proofs.Answers.{walked_err, walked_ok}
use Rattle.go_stmts.proofs.body.walk_function.Goals as goal

pub returns-in_err-root-clause-exact : goal.returns-in_err-root-clause-exact
returns-in_err-root-clause-exact c own numbered =
    let t = c.args.types.now in
    let o = c.args.surroundings.now in
    let s = start (scope_around t o) c.args.count own in
    walked_err c.walk.new.types o c.walk.new.state program.Unknown [] (reading s free (view c.args.function.now)) c.in_err-root.field-0.0 c.from_residual-in_err-root.result
    (c.in_err-root.ensures.exact s (start_shown t o c.args.count _ c.in_ok-locals.ensures refl own numbered)) (search rules)

pub returns-clause-exact : goal.returns-clause-exact
returns-clause-exact c own numbered =
    let t = c.args.types.now in
    let o = c.args.surroundings.now in
    let s = start (scope_around t o) c.args.count own in
    walked_ok c.walk.new.types o c.walk.new.state program.Unknown [] (reading s free (view c.args.function.now)) c.in_ok-root.root
    (c.in_ok-root.ensures.exact s (start_shown t o c.args.count _ c.in_ok-locals.ensures refl own numbered))
