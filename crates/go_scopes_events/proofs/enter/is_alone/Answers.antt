use Rattle.std.proofs.Common.{sym, ap}
use Rattle.std.specs.Prelude.{nat_eq}
use Rattle.go_tree.proofs.Public.{count-views}
use Rattle.go_scopes_events.proofs.enter.is_alone.Goals as goal

pub returns : goal.returns
returns c = ap (λ n. nat_eq n 1) (sym (count-views c.args.parts.now))
