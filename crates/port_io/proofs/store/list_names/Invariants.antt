use Rattle.std.proofs.Common.{drop}
use Rattle.std.specs.List.Sorted.{IsPermutation}
use Rattle.std.specs.FinMap as map
use Rattle.port_io.specs.Stored.{held_by}
use Rattle.port_io.proofs.store.list_names.Given as goal

-- the names are those of the files that were seen
abbrev pub invariant-loop-i : goal.invariant-loop-i
invariant-loop-i l = IsPermutation (map.keys (held_by (drop l.i l.files) l.folder)) l.names.items
