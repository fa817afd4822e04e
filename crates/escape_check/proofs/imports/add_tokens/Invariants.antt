use Rattle.std.proofs.Common.{◌≡◌, ◌<◌, ℕ, ◌+◌, ◌||◌, ◌&&◌, nat_eq}
use Rattle.std.specs.Prelude.{nat_le, nat_lt}
use Rattle.std.specs.HashSet as set
use Rattle.go_scopes_lookup.specs.Tables.{same_spot}
use Rattle.escape_check.proofs.imports.add_tokens.Given as goal

-- where there is no token the loop stays at the first
abbrev pub invariant-loop-token : goal.invariant-loop-token
invariant-loop-token l =
    ((file token : ℕ) → set.contains same_spot l.tokens (file, token)
    ≡ (set.contains same_spot l.fn.tokens (file, token) || ((nat_eq file l.member.file && nat_le (l.member.first + l.member.from) token) && nat_lt token (l.member.first + l.token))))
    × (l.member.upto < l.token → l.token ≡ l.member.from)
