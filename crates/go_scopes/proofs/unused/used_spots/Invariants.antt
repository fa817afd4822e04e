use Rattle.std.proofs.Common.{◌≡◌, ◌||◌, drop, map}
use Rattle.std.specs.HashSet as set
use Rattle.go_tree.specs.Declarations.{Found}
use Rattle.go_tree.specs.Lookups.{is_used}
use Rattle.go_scopes_lookup.specs.Tables.{same_spot}
use Rattle.go_scopes_lookup.specs.Views.{asked_view}
use Rattle.go_scopes.proofs.unused.used_spots.Given as goal

abbrev pub invariant-loop-a : goal.invariant-loop-a
invariant-loop-a l = (d : Found) → (set.contains same_spot l.spots (d.file, d.it.name) || is_used d (map asked_view (drop l.a-index l.lookups))) ≡ is_used d (map asked_view l.lookups)
