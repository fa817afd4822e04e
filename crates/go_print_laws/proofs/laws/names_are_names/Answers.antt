use Rattle.go_print_laws.proofs.Named.{names_are_names}
use Rattle.go_print_laws.proofs.laws.names_are_names.Goals as goal

pub returns : goal.returns
returns c = names_are_names
