use Rattle.extract_call.proofs.Likewise.{calls_later, stops_at_once}
use Rattle.extract_call.proofs.laws.gaps_call_one_turn_later.Goals as goal

pub returns-clause-runs : goal.returns-clause-runs
returns-clause-runs c = calls_later

pub returns-clause-stops : goal.returns-clause-stops
returns-clause-stops c = stops_at_once
