use Rattle.std.proofs.Common.{◌≡◌, ℕ, ◌||◌, nat_eq, drop, map}
use Rattle.std.specs.HashSet as set
use Rattle.go_tree.specs.Lookups.{uses_import}
use Rattle.go_scopes_lookup.specs.Views.{asked_view}
use Rattle.go_scopes.proofs.unused.files_with_uses.Given as goal

abbrev pub invariant-loop-a : goal.invariant-loop-a
invariant-loop-a l = (n : ℕ) → (set.contains nat_eq l.files n || uses_import n (map asked_view (drop l.a-index l.lookups))) ≡ uses_import n (map asked_view l.lookups)
