use Rattle.std.proofs.Common.{◌≡◌, ℕ, ◌<◌, ◌≤◌, ◌&&◌, ◌||◌, false}
use Rattle.std.specs.Prelude.{nat_eq, nat_le, nat_lt}
use Rattle.std.specs.HashSet as set
use Rattle.go_scopes_lookup.specs.Tables.{same_spot}
use Rattle.escape_check.proofs.overlap.take.Given as goal

abbrev pub invariant-loop-token : goal.invariant-loop-token
invariant-loop-token l = record {
  taken : (func u : ℕ) → set.contains same_spot l.taken (func, u) ≡ (set.contains same_spot l.fn.taken (func, u) || (nat_eq func l.member.window.func && nat_le l.member.from u && nat_lt u l.token));
  new : (u : ℕ) → l.member.from ≤ u → u < l.token → set.contains same_spot l.fn.taken (l.member.window.func, u) ≡ false;
  low : l.member.from ≤ l.token;
  within : (u : ℕ) → l.member.from ≤ u → u < l.token → u < l.member.upto;
}
