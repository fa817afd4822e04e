use Rattle.std.proofs.Common.{◌≡◌, drop}
use Rattle.std.specs.List.{list_any}
use Rattle.clone_classes.specs.Choices.{meets}
use Rattle.clone_classes.proofs.place.Place.meets_any.Given as goal

abbrev pub invariant-loop-other : goal.invariant-loop-other
invariant-loop-other l = list_any (meets l.self) l.others ≡ list_any (meets l.self) (drop l.other-index l.others)
