use Rattle.go_types.proofs.TreeIdentity.{identical_self, identical_sym, identical_trans}
use Rattle.go_types.proofs.laws.identity_is_an_equivalence.Goals as goal

pub returns : goal.returns
returns c = record { reflexive = identical_self; symmetric = identical_sym; transitive = identical_trans }
