use Rattle.std.proofs.Common.{take}
use Rattle.std.specs.HashMap.{get}
use Rattle.clone_classes.specs.Listing.{members_of}
use Rattle.clone_report.specs.Keys.{numbered, same_run, Tells}
use Rattle.clone_report.proofs.numbers.numbers_of.Given as goal

abbrev pub invariant-loop-index : goal.invariant-loop-index
invariant-loop-index l = Tells (get same_run l.numbers) (numbered 0 (take l.index (members_of l.classes)))
