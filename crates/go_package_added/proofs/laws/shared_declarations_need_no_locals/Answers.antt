use Rattle.go_package_added.proofs.Staying.{needs_stay_shared}
use Rattle.go_package_added.proofs.laws.shared_declarations_need_no_locals.Goals as goal

pub returns : goal.returns
returns c ss faultless = needs_stay_shared ss faultless
