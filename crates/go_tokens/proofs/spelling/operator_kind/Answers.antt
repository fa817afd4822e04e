use Rattle.std.proofs.Common.{rules, arith}
use Rattle.std.proofs.lemmas.Grind.{common_steps}
use Rattle.go_tokens.specs.Spellings.{punctuation}
use Rattle.go_tokens.proofs.spelling.operator_kind.Goals as goal

pub returns : goal.returns
unfolding punctuation
returns c = first_of (search rules, grind (arith, common_steps))
