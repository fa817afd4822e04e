use Rattle.window_holes_apart.proofs.Windows.{window_holes}
use Rattle.window_holes_apart.proofs.laws.holes_of_ordered_windows_lie_apart.Goals as goal

pub returns : goal.returns
returns g t a b w r h e = window_holes t a b w r h e
