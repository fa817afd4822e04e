use Rattle.clone_script.proofs.Outcomes.{three_ways, ways_apart}
use Rattle.clone_script.proofs.laws.three_ways.Goals as goal

pub returns : goal.returns
returns c = record { some = three_ways; apart = ways_apart }
