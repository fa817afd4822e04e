use Rattle.std.proofs.Common.{refl}
use Rattle.go_tree.specs.Predeclared.{known_names}
use Rattle.examples.proofs.worked.worked_packages.Goals as goal

pub returns-clause-variable_in_its_own_value : goal.returns-clause-variable_in_its_own_value
unfolding known_names
returns-clause-variable_in_its_own_value c = refl

pub returns-clause-constant_in_its_own_value : goal.returns-clause-constant_in_its_own_value
unfolding known_names
returns-clause-constant_in_its_own_value c = refl

pub returns-clause-type_in_itself : goal.returns-clause-type_in_itself
unfolding known_names
returns-clause-type_in_itself c = refl

pub returns-clause-names_of_a_range : goal.returns-clause-names_of_a_range
unfolding known_names
returns-clause-names_of_a_range c = refl

pub returns-clause-parameter_named_again : goal.returns-clause-parameter_named_again
unfolding known_names
returns-clause-parameter_named_again c = refl

pub returns-clause-header_of_an_if : goal.returns-clause-header_of_an_if
unfolding known_names
returns-clause-header_of_an_if c = refl

pub returns-clause-fields_and_keys : goal.returns-clause-fields_and_keys
unfolding known_names
returns-clause-fields_and_keys c = refl

pub returns-clause-package_of_two_files : goal.returns-clause-package_of_two_files
unfolding known_names
returns-clause-package_of_two_files c = refl

pub returns-clause-hidden_predeclared_name : goal.returns-clause-hidden_predeclared_name
unfolding known_names
returns-clause-hidden_predeclared_name c = refl

pub returns-clause-import_and_a_local_of_its_name : goal.returns-clause-import_and_a_local_of_its_name
unfolding known_names lib.Utf8.encode
returns-clause-import_and_a_local_of_its_name c = refl

pub returns-clause-clauses_of_a_switch : goal.returns-clause-clauses_of_a_switch
unfolding known_names
returns-clause-clauses_of_a_switch c = refl

pub returns-clause-loop_and_its_body : goal.returns-clause-loop_and_its_body
unfolding known_names
returns-clause-loop_and_its_body c = refl
