use Rattle.std.proofs.Common.{◌≡◌, ◌++◌, filter, drop}
use Rattle.clone_classes.specs.Listing.{members_of}
use Rattle.window_index.specs.Buckets.{is_two}
use Rattle.window_index.specs.Groups.{rows}
use Rattle.window_index.proofs.groups.Groups.push_classes.Given as goal

abbrev pub invariant-loop-group : goal.invariant-loop-group
invariant-loop-group l =
    members_of l.fn.classes.items ++ filter is_two (rows l.group-items) ≡ members_of l.classes.items ++ filter is_two (rows (drop l.group-index l.group-items))
