use Rattle.std.proofs.Common.{◌∙◌}
use Rattle.go_eval_operations.proofs.RunePlaces.{not_utf8, utf8_told}
use Rattle.go_eval_operations.proofs.runes.rune_of.Goals as goal

pub returns-in-Ok : goal.returns-in-Ok
returns-in-Ok c = utf8_told c.args.bytes.now _ c.next.result c.next.ensures.steps.2 (c.chars.ensures.rest ∙ c.in-Ok.ensures.cases.0) c.in-Ok.ensures.cases.1

pub returns-in-Err : goal.returns-in-Err
returns-in-Err c = not_utf8 c.args.bytes.now c.in-Err.ensures.cases.0
