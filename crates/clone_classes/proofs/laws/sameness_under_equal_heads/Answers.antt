use Rattle.clone_classes.proofs.Heads.{window-refl, window-sym, window-trans}
use Rattle.clone_classes.proofs.laws.sameness_under_equal_heads.Goals as goal

pub returns-clause-reflexive : goal.returns-clause-reflexive
returns-clause-reflexive c = λ p w. window-refl p w

pub returns-clause-symmetric : goal.returns-clause-symmetric
returns-clause-symmetric c = λ p q w v h. window-sym p q w v h

pub returns-clause-transitive : goal.returns-clause-transitive
returns-clause-transitive c = λ p q r w v x h g. window-trans p q r w v x h g
