use Rattle.std.proofs.Common.{refl, sym, ◌∙◌, arith}
use Rattle.go_eval.proofs.Carrying.{carries_none, carries_on, task_fits, all_done, none_left}
use Rattle.go_eval.proofs.tasks.run_tasks.Goals as goal

pub loop-step-init : goal.loop-step-init
loop-step-init c = carries_none c.args.checked.now c.args.engine.now c.args.answer c.requires.fit c.requires.memory

pub next-answer-requires : goal.next-answer-requires
next-answer-requires c =
    let l = c.loop-step in
    let m1 = record l.engine { tasks = c.pop.new.self } in
    task_fits c.args.checked.now c.args.engine.now l.engine m1 m1 c.args.answer l.answer l.answer c.in-Some.task c.in-Some.ensures.items refl refl refl l.invariant

pub loop-step-preserved : goal.loop-step-preserved
loop-step-preserved c =
    let l = c.loop-step in
    let m1 = record l.engine { tasks = c.pop.new.self } in
    carries_on c.args.checked.now c.args.engine.now l.engine m1 c.next-answer.new.engine c.args.answer l.answer c.next-answer.result c.in-Some.task c.in-Some.ensures.items refl refl refl l.invariant c.next-answer.ensures (sym c.wants_memory.ensures ∙ c.if-wants_memory.false)

pub returns-in_default : goal.returns-in_default
returns-in_default c =
    let l = c.loop-step in
    let m1 = record l.engine { tasks = c.pop.new.self } in
    all_done c.args.checked.now c.args.engine.now c.args.answer l.answer l.engine m1 (none_left l.engine.tasks.items (omega (arith, l.engine.tasks.ok.0, c.in_default.ensures.cases.0))) refl l.invariant
