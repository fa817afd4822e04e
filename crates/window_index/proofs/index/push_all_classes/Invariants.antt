use Rattle.std.proofs.Common.{◌≡◌, ◌++◌, filter, drop}
use Rattle.clone_classes.specs.Listing.{members_of}
use Rattle.window_index.specs.Buckets.{groups_in, is_two}
use Rattle.window_index.proofs.index.push_all_classes.Given as goal

abbrev pub invariant-loop-index : goal.invariant-loop-index
invariant-loop-index l =
    members_of l.fn.classes.items ++ filter is_two (groups_in l.buckets.entries) ≡ members_of l.classes.items ++ filter is_two (groups_in (drop l.index l.buckets.entries))
