use Rattle.go_package_laws.proofs.Through.{before}
use Rattle.go_package_laws.proofs.laws.needs_come_before.Goals as goal

pub returns : goal.returns
returns c p f g k x falls bound h = before p f g k falls bound x h
