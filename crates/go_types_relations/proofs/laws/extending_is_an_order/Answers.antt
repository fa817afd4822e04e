use Rattle.go_types_relations.proofs.Extending.{extends_self, extends_both, extends_same, grows_self, grows_both}
use Rattle.go_types_relations.proofs.laws.extending_is_an_order.Goals as goal

pub returns-clause-itself : goal.returns-clause-itself
returns-clause-itself c = extends_self

pub returns-clause-both : goal.returns-clause-both
returns-clause-both c = extends_both

pub returns-clause-same : goal.returns-clause-same
returns-clause-same c = extends_same

pub returns-clause-grows_itself : goal.returns-clause-grows_itself
returns-clause-grows_itself c = grows_self

pub returns-clause-grows_both : goal.returns-clause-grows_both
returns-clause-grows_both c = grows_both
