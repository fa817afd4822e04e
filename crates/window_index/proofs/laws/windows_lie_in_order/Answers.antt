use Rattle.window_index.proofs.Packages.{in-order}
use Rattle.window_index.proofs.laws.windows_lie_in_order.Goals as goal

pub returns : goal.returns
returns c = in-order
