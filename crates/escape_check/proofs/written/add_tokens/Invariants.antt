use Rattle.std.proofs.Common.{◌≡◌, ◌<◌, ℕ, ◌||◌, ◌&&◌, nat_eq}
use Rattle.std.specs.Prelude.{nat_le, nat_lt}
use Rattle.std.specs.HashSet as set
use Rattle.escape_check.proofs.written.add_tokens.Given as goal

-- where there is no token the loop stays at the first
abbrev pub invariant-loop-token : goal.invariant-loop-token
invariant-loop-token l = ((t : ℕ) → set.contains nat_eq l.tokens t ≡ (set.contains nat_eq l.fn.tokens t || (nat_le l.from t && nat_lt t l.token))) × (l.upto < l.token → l.token ≡ l.from)
