use Rattle.go_package_alike.proofs.Files.{declarations_have}
use Rattle.go_package_alike.proofs.laws.declarations_have_their_tokens.Goals as goal

pub returns : goal.returns
returns c n ss e h = declarations_have n ss e h
