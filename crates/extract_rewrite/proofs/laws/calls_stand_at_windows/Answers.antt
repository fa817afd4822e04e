use Rattle.extract_rewrite.proofs.Calling.{calls_stand_at_windows}
use Rattle.extract_rewrite.proofs.laws.calls_stand_at_windows.Goals as goal

pub returns : goal.returns
returns c = calls_stand_at_windows c.calls_stand.ensures
