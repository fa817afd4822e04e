use Rattle.go_package_alike.proofs.Typing.{expression_same}
use Rattle.go_package_alike.proofs.laws.expressions_follow_from_their_tokens.Goals as goal

pub returns : goal.returns
returns c p s t h x a w = expression_same p s t h x a w
