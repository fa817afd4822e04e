use Rattle.std.proofs.Common.{◌≡◌, ◌++◌, drop}
use Rattle.std.specs.List.{filter_map}
use Rattle.clone_session.specs.Extracting.{numbered}
use Rattle.clone_session.proofs.extract.members_by.Given as goal

abbrev pub invariant-loop-number : goal.invariant-loop-number
invariant-loop-number l = l.windows.items ++ filter_map (numbered l.members) (drop l.number-index l.numbers) ≡ filter_map (numbered l.members) l.numbers
