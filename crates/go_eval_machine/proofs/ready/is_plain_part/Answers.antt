use Rattle.go_eval_machine.proofs.Giving.{part_plain}
use Rattle.go_eval_machine.proofs.ready.is_plain_part.Goals as goal

pub returns-in-Some : goal.returns-in-Some
returns-in-Some c = λ t p n. part_plain p n c.args.node.now c.args.number c.deref.result.now c.deref.ensures.value c.in-Some.place.now c.in-Some.ensures (c.is_plain_place.ensures t p n)
