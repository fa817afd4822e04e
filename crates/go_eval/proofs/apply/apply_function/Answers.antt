use Rattle.std.proofs.Common.{take}
use Rattle.std.specs.Option.{option_map}
use Rattle.go_values.specs.Views.{views}
use Rattle.go_eval_machine.specs.declared.task.What.TheVariants as what
use Rattle.go_eval_machine.specs.Engines.{works}
use Rattle.go_eval_machine.proofs.Public.{goes_kept}
use Rattle.std.proofs.Common.{drop}
use Rattle.go_eval.specs.Called.{calls_it}
use Rattle.go_eval.proofs.Calling.{applies, known_body}
use Rattle.go_eval.proofs.apply.apply_function.Goals as goal

pub returns : goal.returns
returns c = λ x e.
    let p = c.args.checked.now in
    let b = c.args.base in
    let m = c.args.engine.now in
    let vs = views m.values.items in
    let us = views c.in_ok-operands.operands.items in
    let F = option_map (λ f. f.now) c.function.result in
    goes_kept p (works p x b what.Apply) (calls_it p F (drop 1 us)) m c.take.new.self c.call.result c.call.new.engine (take b vs) c.in_ok-operands.ensures.kept c.in_ok-operands.ensures.values
    (c.call.ensures.goes p (known_body p c.args.number F c.types-types.ensures.stands c.function.ensures))
    (λ n s. applies p n s vs x b c.args.number F us e c.function.ensures c.in_ok-operands.ensures.taken)
