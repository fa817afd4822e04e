use Rattle.std.proofs.Common.{Some, None}
use Rattle.go_scopes_named.proofs.Cut.{said_begun_last}
use Rattle.go_scopes_named.proofs.segments.said.Goals as goal

pub returns-in-None : goal.returns-in-None
returns-in-None c rising = said_begun_last c.args.token c.begun.result c.args.segments.now None (c.begun.ensures.begun rising) (c.begun.ensures.later rising) c.in-None.ensures.value

pub returns-in-Some : goal.returns-in-Some
returns-in-Some c rising = said_begun_last c.args.token c.begun.result c.args.segments.now (Some c.in-Some.segment.now) (c.begun.ensures.begun rising) (c.begun.ensures.later rising) c.in-Some.ensures.value
