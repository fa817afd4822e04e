use Rattle.std.proofs.Common.{◌≡◌, sym, ◌∙◌}
use Rattle.std.specs.Option.{option_map}
use Rattle.std.proofs.lemmas.Result.{IfOk-weaker}
use Rattle.go_tree.specs.Failures.{least}
use Rattle.go_scopes.specs.Views.{failure_of}
use Rattle.go_package_defs.specs.Answer.{hidden_failures, package_failures}
use Rattle.go_package_rounds.specs.World.{package_in, outlines_in, specifications_in}
use Rattle.go_package_types.proofs.Unblocked.{mapped_there, told_there, hidden_there, nothing_there}
use Rattle.go_package_types.proofs.answer.unless_told.Goals as goal

pub returns-then-is_some-clause-fault : goal.returns-then-is_some-clause-fault
returns-then-is_some-clause-fault c = λ ss h e.
    let w = c.args.world.now in
    told_there (package_in w) (outlines_in w) ss (specifications_in w) (option_map failure_of c.args.told) (mapped_there failure_of c.args.told ∙ sym c.is_some.ensures ∙ c.if-is_some.true) e

pub returns-then-is_failing-clause-fault : goal.returns-then-is_failing-clause-fault
returns-then-is_failing-clause-fault c = λ ss h e.
    let w = c.args.world.now in
    let p = package_in w in
    let os = outlines_in w in
    let ds = specifications_in w in
    let none = mapped_there failure_of c.args.told ∙ sym c.is_some.ensures ∙ c.if-is_some.false in
    IfOk-weaker c.hidden_fault.result (λ f. option_map failure_of f ≡ least (hidden_failures p os ss ds)) (λ f. option_map failure_of f ≡ least (package_failures p os ss ds))
    (λ f q. q ∙ sym (hidden_there p os ss ds (option_map failure_of c.args.told) none e)) (c.hidden_fault.ensures.fault ss h)

pub returns-else-is_failing-clause-fault : goal.returns-else-is_failing-clause-fault
returns-else-is_failing-clause-fault c = λ ss h e.
    let w = c.args.world.now in
    let none = mapped_there failure_of c.args.told ∙ sym c.is_some.ensures ∙ c.if-is_some.false in
    nothing_there (package_in w) (outlines_in w) ss (specifications_in w) (option_map failure_of c.args.told) none e (sym (c.is_failing.ensures ss h.faulty h.assigning) ∙ c.if-is_failing.false)
