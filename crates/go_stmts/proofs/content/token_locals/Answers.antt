use Rattle.std.proofs.Common.{◌∙◌}
use Rattle.go_stmts_defs.specs.Laying.{local_named}
use Rattle.go_stmts.specs.State.{object_at}
use Rattle.go_stmts.proofs.Contents.{numbers_more}
use Rattle.go_stmts.proofs.content.token_locals.Goals as goal

pub loop-token-preserved : goal.loop-token-preserved
loop-token-preserved c =
    numbers_more (λ i. local_named (object_at c.args.surroundings.now i)) c.loop-token.named.items c.push.new.self.items c.loop-token.token c.in_ok-local.local c.loop-token.invariant (c.in_ok-local.ensures.value ∙ c.local_named.ensures) c.in_ok-push.ensures.items
