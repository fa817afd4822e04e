use Rattle.go_package_alike.proofs.Reading.{statement_same}
use Rattle.go_package_alike.proofs.laws.statements_follow_from_their_tokens.Goals as goal

pub returns : goal.returns
returns c p f g h x a w = statement_same p f g h x a w
