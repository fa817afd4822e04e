use Rattle.extract_names_derived.proofs.CallEvents.{asked}
use Rattle.extract_names_derived.proofs.laws.calls_are_asked_for.Goals as goal

pub returns : goal.returns
returns c = λ us v g old news x a new call. asked a v g old new news x us call
