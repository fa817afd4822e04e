use Rattle.std.proofs.Common.{◌≡◌, take}
use Rattle.clone_classes.specs.Listing.{members_of}
use Rattle.clone_report.specs.Maximal.{maximal_from}
use Rattle.clone_report.proofs.subsumption.maximal_of.Given as goal

abbrev pub invariant-loop-index : goal.invariant-loop-index
invariant-loop-index l = l.maximal.items ≡ maximal_from (members_of l.classes) 1 (take l.index (members_of l.classes))
