use Rattle.extract_call.proofs.Tails.{tail_calls_later}
use Rattle.extract_call.proofs.laws.tails_call_one_turn_later.Goals as goal

pub returns : goal.returns
returns c = tail_calls_later
