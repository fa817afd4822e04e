use Rattle.std.proofs.Common.{◌≡◌, ◌++◌, map, drop}
use Rattle.std.specs.List.{flat_map}
use Rattle.clone_script.specs.Listing.{member_line}
use Rattle.clone_script.proofs.listing.push_members.Given as goal

abbrev pub invariant-loop-span : goal.invariant-loop-span
invariant-loop-span l =
    l.out.items ++ flat_map (member_line (map (λ name. name.now) l.names)) (drop l.span-index l.members)
    ≡ l.fn.out.items ++ flat_map (member_line (map (λ name. name.now) l.names)) l.members
