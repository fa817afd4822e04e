use Rattle.std.proofs.Common.{◌≡◌, Some}
use Rattle.port_io.specs.Listing.{names_told}
use Rattle.port_io.proofs.folder.names_among.Given as goal

-- the names so far are those that the entries so far told
abbrev pub invariant-loop-entry : goal.invariant-loop-entry
invariant-loop-entry g l = names_told l.yielded ≡ Some l.names.items
