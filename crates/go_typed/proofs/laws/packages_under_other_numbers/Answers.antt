use Rattle.go_typed.proofs.Renamings.{renamed_itself, renamed_both}
use Rattle.go_typed.proofs.laws.packages_under_other_numbers.Goals as goal

pub returns-clause-itself : goal.returns-clause-itself
returns-clause-itself k = λ c. (λ n. n, renamed_itself c)

pub returns-clause-both : goal.returns-clause-both
returns-clause-both k = λ c d e h i. (λ n. i.0 (h.0 n), renamed_both h.0 i.0 c d e h.1 i.1)
