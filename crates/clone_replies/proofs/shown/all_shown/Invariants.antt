use Rattle.std.proofs.Common.{◌≡◌, map, take}
use Rattle.clone_classes.specs.Listing.{members_of}
use Rattle.clone_replies.specs.Classes.{listed_package, shown_class}
use Rattle.clone_replies.specs.Listing.{shown}
use Rattle.clone_replies.proofs.shown.all_shown.Given as goal

abbrev pub invariant-loop-class : goal.invariant-loop-class
invariant-loop-class l = map shown l.listed.items ≡ map (shown_class (listed_package l.checked)) (members_of (take l.class-index l.classes))
