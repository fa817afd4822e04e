use Rattle.std.proofs.Common.{List, drop, sym, ap, ◌∙◌}
use Rattle.std.specs.Option.{option_map}
use Rattle.go_values.specs.declared.value.Value.{Value}
use Rattle.go_values.specs.Views.{views}
use Rattle.go_eval.proofs.Calling.{known_body}
use Rattle.go_eval.specs.Runs.{main_run}
use Rattle.go_eval.proofs.Running.{Rested, main_fits, main_ran, ran_wanting}
use Rattle.go_eval.proofs.steps.run_main.Goals as goal

pub run_tasks-requires-clause-fit : goal.run_tasks-requires-clause-fit
run_tasks-requires-clause-fit c =
    let p = c.args.checked.now in
    let old = c.args.engine.now.machine in
    let m = c.reset.new.engine in
    let z : Rested old m = record { tasks = c.reset.ensures.tasks; values = c.reset.ensures.values; machine = c.reset.ensures.machine; depth = c.reset.ensures.depth } in
    let F = option_map (λ f. f.now) c.function_at-function.result in
    let us = drop 1 (views c.new-operands.result.items) in
    main_fits p old m z c.args.main F c.function_at-function.ensures us (ap (λ (vs : List Value). drop 1 (views vs)) c.new-operands.ensures.items) c.call-answer.result c.call-answer.new.engine
    (c.call-answer.ensures.goes p (known_body p c.args.main F c.types-types.ensures.stands c.function_at-function.ensures)) (sym c.wants_memory.ensures ∙ c.if-wants_memory.false)

pub returns : goal.returns
returns c =
    let p = c.args.checked.now in
    let old = c.args.engine.now.machine in
    let m = c.reset.new.engine in
    let z : Rested old m = record { tasks = c.reset.ensures.tasks; values = c.reset.ensures.values; machine = c.reset.ensures.machine; depth = c.reset.ensures.depth } in
    let F = option_map (λ f. f.now) c.function_at-function.result in
    let us = drop 1 (views c.new-operands.result.items) in
    main_ran p old m z c.args.main F c.function_at-function.ensures us (ap (λ (vs : List Value). drop 1 (views vs)) c.new-operands.ensures.items) c.call-answer.result c.run_tasks.result c.call-answer.new.engine c.run_tasks.new.engine
    (c.call-answer.ensures.goes p (known_body p c.args.main F c.types-types.ensures.stands c.function_at-function.ensures)) (sym c.wants_memory.ensures ∙ c.if-wants_memory.false) c.run_tasks.ensures

pub returns-then-wants_memory : goal.returns-then-wants_memory
returns-then-wants_memory c = ran_wanting (main_run c.args.checked.now c.args.main) c.args.engine.now.machine c.call-answer.result c.call-answer.new.engine.machine (sym c.wants_memory.ensures ∙ c.if-wants_memory.true)
