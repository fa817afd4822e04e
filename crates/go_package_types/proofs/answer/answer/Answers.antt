use Rattle.std.proofs.Common.{◌≡◌, Option, Result, None, Ok, ap, sym, ◌∙◌}
use Rattle.std.specs.Option.{option_map}
use Rattle.go_tree.specs.Failures.{Failure, least}
use Rattle.go_scopes.specs.Views.{failure_of}
use Rattle.go_package_defs.specs.Answer.{Environment, package_failures, environment_of, unless}
use Rattle.go_package_rounds.specs.World.{package_in, specifications_in, outlines_in}
use Rattle.go_package_types.proofs.Environments.{shows_more}
use Rattle.go_package_types.proofs.answer.answer.Goals as goal

pub returns-in_ok-environment-in-None-clause-exact : goal.returns-in_ok-environment-in-None-clause-exact
returns-in_ok-environment-in-None-clause-exact c = λ ss h.
    let w = c.args.world.now in
    let p = package_in w in
    let os = outlines_in w in
    let ds = specifications_in w in
    let none : None ≡ least (package_failures p os ss ds) = sym (ap (option_map failure_of) c.in-None.is) ∙ c.in_ok-fault.ensures.fault ss h in
    let later = shows_more c.args.types.now c.least_fault.new.types c.count.ensures.table c.least_fault.ensures.grows w c.args.all.now ss c.requires.held h in
    sym (ap (λ (o : Option Failure). unless o (environment_of p ss)) none) ∙ ap (λ e. let r : Result Environment Failure = Ok e in r) (sym (c.in_ok-environment-in-None.ensures.seen ss later))

pub returns-in_ok-environment-in-None-clause-defined : goal.returns-in_ok-environment-in-None-clause-defined
returns-in_ok-environment-in-None-clause-defined c = λ ss h.
    c.in_ok-environment-in-None.ensures.defined ss (shows_more c.args.types.now c.least_fault.new.types c.count.ensures.table c.least_fault.ensures.grows c.args.world.now c.args.all.now ss c.requires.held h)
