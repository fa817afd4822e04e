use Rattle.go_scopes_bodies.proofs.FunctionNumbers as numbers
use Rattle.go_scopes_bodies.proofs.laws.tokens_mean_by_themselves.Goals as goal

pub returns : goal.returns
returns c fs h p k f e = numbers.tokens_mean_by_themselves fs h p k f e
