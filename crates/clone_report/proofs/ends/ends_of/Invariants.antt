use Rattle.std.proofs.Common.{take}
use Rattle.std.specs.HashMap.{get}
use Rattle.std.specs.List.{flat_map}
use Rattle.clone_classes.specs.Listing.{members_of}
use Rattle.clone_report.specs.Ends.{same_start, Reaches}
use Rattle.clone_report.proofs.ends.ends_of.Given as goal

abbrev pub invariant-loop-class : goal.invariant-loop-class
invariant-loop-class l = Reaches (get same_start l.ends) (flat_map (λ c. c) (take l.class-index (members_of l.classes)))
