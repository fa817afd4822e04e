use Rattle.go_package_added.proofs.KeepingFault.{same_reported}
use Rattle.go_package_added.proofs.laws.appended_functions_keep_the_fault_of_names.Goals as goal

pub returns : goal.returns
returns c k ss us h trees bytes none fits shared = same_reported k ss us h trees none c.appended_functions_keep_the_reported_fault.ensures bytes fits shared
