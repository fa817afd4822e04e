use Rattle.std.proofs.Common.{◌≡◌, ℕ, ◌||◌, drop}
use Rattle.std.specs.HashSet as set
use Rattle.std.specs.List.{list_any}
use Rattle.go_scopes_lookup.specs.Tables.{same_spot}
use Rattle.escape_check.specs.Shown.{covers_token}
use Rattle.escape_check.proofs.imports.tokens_of.Given as goal

abbrev pub invariant-loop-member : goal.invariant-loop-member
invariant-loop-member l =
    (file token : ℕ) → (set.contains same_spot l.tokens (file, token) || list_any (covers_token file token) (drop l.member-index l.members)) ≡ list_any (covers_token file token) l.members
