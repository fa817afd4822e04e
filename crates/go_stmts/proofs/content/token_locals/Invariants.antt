use Rattle.std.proofs.Common.{◌≡◌, map}
use Rattle.go_stmts_defs.specs.Bodies.{numbers_from}
use Rattle.go_stmts_defs.specs.Laying.{local_named}
use Rattle.go_stmts.specs.State.{object_at}
use Rattle.go_stmts.proofs.content.token_locals.Given as goal

abbrev pub invariant-loop-token : goal.invariant-loop-token
invariant-loop-token l = l.named.items ≡ map (λ i. local_named (object_at l.surroundings i)) (numbers_from 0 l.token)
