use Rattle.std.proofs.Common.{◌≡◌, List, None, Some, drop, sym, subst}
use Rattle.std.specs.Option.{option_map}
use Rattle.go_values.specs.Views.{views}
use Rattle.go_values.specs.Worlds.{world_view}
use Rattle.go_eval_machine.proofs.Public.{goes_undecided}
use Rattle.go_eval.specs.Called.{IsKnownBody, calls_it}
use Rattle.go_eval.proofs.Calling.{no_function, there_or_not}
use Rattle.go_eval.proofs.apply.call.Goals as goal

pub returns-in-Some-clause-goes : goal.returns-in-Some-clause-goes
returns-in-Some-clause-goes c = λ p h. rw c.in-Some.is (c.call_function.ensures.goes p (subst (λ o. IsKnownBody p (option_map (λ f. f.now) o)) c.in-Some.is h))

pub returns-in-None-clause-goes : goal.returns-in-None-clause-goes
returns-in-None-clause-goes c = λ p h.
    let m = c.args.engine.now in
    let us = drop 1 (views c.args.operands.items) in
    rw c.in-None.is (goes_undecided p (calls_it p None us) m (λ n s. no_function p n s (views m.values.items) us m.depth (views m.machine.frame.items) (world_view m.machine.world) m.machine.turns))

pub returns-in-Some-clause-none : goal.returns-in-Some-clause-none
returns-in-Some-clause-none c = λ h. absurd (there_or_not _ _ c.in-Some.is h)

pub returns-in-Some-clause-deep : goal.returns-in-Some-clause-deep
returns-in-Some-clause-deep c = λ z. rw c.in-Some.is (λ t h. c.call_function.ensures.deep t h z)

pub returns-in-None-clause-deep : goal.returns-in-None-clause-deep
returns-in-None-clause-deep c = λ z. rw c.in-None.is tt
