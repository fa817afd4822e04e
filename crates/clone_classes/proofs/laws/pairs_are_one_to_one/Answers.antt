use Rattle.clone_classes.proofs.Pairs.{one-to-one-agrees, agreeing-one-to-one}
use Rattle.clone_classes.proofs.laws.pairs_are_one_to_one.Goals as goal

pub returns-clause-agree : goal.returns-clause-agree
returns-clause-agree c = λ pairs h p q a b. one-to-one-agrees pairs h p q a b

pub returns-clause-only : goal.returns-clause-only
returns-clause-only c = λ pairs h. agreeing-one-to-one pairs h
