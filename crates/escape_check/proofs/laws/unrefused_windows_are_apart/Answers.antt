use Rattle.escape_check.proofs.Sharing.{unrefused_apart}
use Rattle.escape_check.proofs.laws.unrefused_windows_are_apart.Goals as goal

pub returns : goal.returns
returns c = unrefused_apart
