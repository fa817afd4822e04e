use Rattle.std.proofs.Common.{subst}
use Rattle.go_meaning.specs.Laws.{GoesOn}
use Rattle.go_meaning.specs.Meaning.{run}
use Rattle.go_meaning.proofs.Clock.{run_goes_on}
use Rattle.go_meaning.proofs.laws.more_turns_go_on.Goals as goal

pub returns-clause-ended : goal.returns-clause-ended
returns-clause-ended c = λ P input turns turns' depth depth' o le deeper h. subst (λ r. GoesOn r (run P input turns' depth')) h (run_goes_on P input turns turns' depth depth' le deeper)

pub returns-clause-panicked : goal.returns-clause-panicked
returns-clause-panicked c = λ P input turns turns' depth depth' p o le deeper h. subst (λ r. GoesOn r (run P input turns' depth')) h (run_goes_on P input turns turns' depth depth' le deeper)

pub returns-clause-unfinished : goal.returns-clause-unfinished
returns-clause-unfinished c = λ P input turns turns' depth depth' o le deeper h. subst (λ r. GoesOn r (run P input turns' depth')) h (run_goes_on P input turns turns' depth depth' le deeper)
