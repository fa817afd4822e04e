use Rattle.go_package_added.proofs.Closing.{all_closed, closed_at}
use Rattle.go_package_added.proofs.laws.shared_needs_are_closed.Goals as goal

pub returns : goal.returns
returns c = record { token = λ ss stay m t h. closed_at ss stay m t h; all = λ ss faultless. all_closed ss (c.shared_declarations_need_no_locals.ensures ss faultless) (c.objects_are_declared_once.ensures ss faultless) }
