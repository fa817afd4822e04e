use Rattle.go_package_added.proofs.Keeping.{no_fault}
use Rattle.go_package_added.proofs.laws.names_stay_free_of_faults.Goals as goal

pub returns : goal.returns
returns c k ss us h faultless none fits = no_fault k ss us h faultless none c.signatures_mean_what_is_declared_elsewhere.ensures c.appended_functions_fail_no_rule.ensures fits
