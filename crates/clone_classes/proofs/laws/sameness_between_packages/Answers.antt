use Rattle.clone_classes.proofs.Sameness.{between-sym, between-trans}
use Rattle.clone_classes.proofs.laws.sameness_between_packages.Goals as goal

pub returns-clause-symmetric : goal.returns-clause-symmetric
returns-clause-symmetric c = λ there back turn n m here others w v h. between-sym there back turn n m here others w v h

pub returns-clause-transitive : goal.returns-clause-transitive
returns-clause-transitive c = λ first second both join n m o one two three w v x h g. between-trans first second both join n m o one two three w v x h g
