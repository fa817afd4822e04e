use Rattle.std.proofs.Common.{◌≡◌, map, take}
use Rattle.clone_classes.specs.Listing.{members_of}
use Rattle.clone_replies.specs.Classes.{listed_package}
use Rattle.clone_replies.specs.Maximal.{class_at, numbered}
use Rattle.clone_replies.proofs.maximal.all_numbered.Given as goal

abbrev pub invariant-loop-number : goal.invariant-loop-number
invariant-loop-number l = map numbered l.numbered.items ≡ map (class_at (listed_package l.checked) (members_of l.classes)) (take l.number-index l.numbers)
