-- Sets of tokens.
use Rattle.std.specs.Prelude.{◌≡◌, ℕ, Bool, ◌&&◌, nat_eq, nat_le, nat_lt, List}
use Rattle.std.specs.HashSet.{HashSet}
use Rattle.std.specs.HashSet as set
use Rattle.std.specs.List.{list_any}
use Rattle.go_scopes_lookup.specs.Tables.{same_spot}
use Rattle.param_choose.specs.Members.{Member}

-- a member of the function has the token
abbrev pub has_token : {T : Type 0} → ℕ → ℕ → Member T → Bool
has_token func token m = nat_eq func m.window.func && nat_le m.from token && nat_lt token m.upto

-- The set has the tokens of members, each with the number of its function.
abbrev pub Covered : {T S : Type 0} → HashSet (ℕ × ℕ) S → List (Member T) → Type 0
Covered tokens ms = (func token : ℕ) → set.contains same_spot tokens (func, token) ≡ list_any (has_token func token) ms
