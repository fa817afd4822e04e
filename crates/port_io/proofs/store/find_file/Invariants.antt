use Rattle.std.proofs.Common.{◌≡◌, drop}
use Rattle.std.specs.Ordering.{nat_cmp}
use Rattle.std.specs.Cmp.Lexicographic.{slice_cmp}
use Rattle.std.specs.FinMap as map
use Rattle.port_io.specs.Stored.{stored_under}
use Rattle.port_io.proofs.store.find_file.Given as goal

-- what the files that are left say of the name, all files say
abbrev pub invariant-loop-file : goal.invariant-loop-file
invariant-loop-file l = map.find (slice_cmp nat_cmp) l.name (stored_under l.folder (drop l.file-index l.files)) ≡ map.find (slice_cmp nat_cmp) l.name (stored_under l.folder l.files)
