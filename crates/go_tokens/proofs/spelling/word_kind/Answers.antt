use Rattle.std.proofs.Common.{rules, arith}
use Rattle.std.proofs.lemmas.Grind.{common_steps}
use Rattle.go_tokens.specs.Spellings.{keywords}
use Rattle.go_tokens.proofs.Short.{one_letter}
use Rattle.go_tokens.proofs.spelling.word_kind.Goals as goal

pub returns-in-len1 : goal.returns-in-len1
returns-in-len1 c = one_letter c.args.word.now c.in-len1.len_at_least c.in-len1.len_below

pub returns-in_default : goal.returns-in_default
unfolding keywords
returns-in_default c = first_of (search rules, grind (arith, common_steps))
