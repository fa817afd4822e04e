use Rattle.go_stmts_calls.proofs.Declared.{call_read}
use Rattle.go_stmts_calls.proofs.Itself.{itself}
use Rattle.go_stmts_calls.proofs.laws.calls_are_typed.Goals as goal

pub returns : goal.returns
returns c g i ys ts ns xs number gs ps rs w =
    call_read c.lists_are_read_alone.ensures (λ t. (c.functions_are_the_relations.ensures.identical t t).1 (itself t)) c.literals_read_back.ensures c.types_read_back.ensures g i ys ts ns xs number gs ps rs w
