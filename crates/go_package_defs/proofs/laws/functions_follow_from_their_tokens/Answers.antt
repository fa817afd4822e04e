use Rattle.go_package_defs.proofs.Portions.{portions}
use Rattle.go_package_defs.proofs.laws.functions_follow_from_their_tokens.Goals as goal

pub returns : goal.returns
returns c = portions
