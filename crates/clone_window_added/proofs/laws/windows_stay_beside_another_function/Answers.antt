use Rattle.clone_window_added.proofs.Kept.{keeps_windows}
use Rattle.clone_window_added.proofs.laws.windows_stay_beside_another_function.Goals as goal

pub returns : goal.returns
returns c g f front rest place = keeps_windows g f front rest place
