use Rattle.go_types_relations.proofs.Extending.{declared_extends, defined_extends}
use Rattle.go_types_relations.proofs.Interning.{declared_rights, defined_rights}
use Rattle.go_types_relations.proofs.laws.declarations_extend.Goals as goal

pub returns-clause-declared : goal.returns-clause-declared
returns-clause-declared c = declared_extends

pub returns-clause-defined : goal.returns-clause-defined
returns-clause-defined c = defined_extends

pub returns-clause-declared_rights : goal.returns-clause-declared_rights
returns-clause-declared_rights c = declared_rights

pub returns-clause-defined_rights : goal.returns-clause-defined_rights
returns-clause-defined_rights c = defined_rights
