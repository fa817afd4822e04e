use Rattle.std.proofs.Common.{◌≡◌, drop}
use Rattle.std.specs.HashMap.{get}
use Rattle.std.specs.List.{list_all}
use Rattle.clone_report.specs.Keys.{is_in, same_run}
use Rattle.clone_report.proofs.subsumption.are_in.Given as goal

abbrev pub invariant-loop-member : goal.invariant-loop-member
invariant-loop-member l =
    list_all (is_in (get same_run l.numbers) l.side l.number) l.members ≡ list_all (is_in (get same_run l.numbers) l.side l.number) (drop l.member-index l.members)
