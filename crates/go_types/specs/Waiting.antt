-- What types wait for of which nothing is known.
use Rattle.std.specs.Prelude.{◌≡◌, ℕ, ◌<◌, Bool, true, false, nat_eq, List, Option, Some, None, length, slice_get, count_by}
use Rattle.go_types.specs.declared.verdict.Verdict.{Verdict}
use Rattle.go_types.specs.Tables.{Table, Holds}
use Rattle.go_types.specs.Changes.{IsOpen}

-- whether a type waits for this one
abbrev pub is_for : ℕ → Option ℕ → Bool
is_for p None = false
is_for p (Some q) = nat_eq q p

-- The counts are those of the types that wait for each one, and they wait for types that are there.
pub record AreCounted (awaited : List (Option ℕ)) (counts : List ℕ) : Type 0 where
  pub as_many : length counts ≡ length awaited
  pub counts_are : (p : ℕ) → p < length awaited → slice_get counts p ≡ Some (count_by (is_for p) awaited)
  pub within : (i p : ℕ) → slice_get awaited i ≡ Some (Some p) → p < length awaited

-- whether something is known of a type
abbrev pub is_known : Option (Option Verdict) → Bool
is_known (Some (Some v)) = true
is_known _ = false

-- whether a type waits for one of which something is known
abbrev pub is_stale : List (Option Verdict) → Option ℕ → Bool
is_stale verdicts None = false
is_stale verdicts (Some p) = is_known (slice_get verdicts p)

-- A type of which nothing is known waits for one that it holds, or has no right side.
pub record AreWaiting (t : Table) (verdicts : List (Option Verdict)) (awaited : List (Option ℕ)) : Type 0 where
  pub places : length awaited ≡ length verdicts
  pub idle : (i : ℕ) → slice_get verdicts i ≡ Some None → slice_get awaited i ≡ Some None → IsOpen t i
  pub held : (i p : ℕ) → slice_get awaited i ≡ Some (Some p) → Holds t i p

-- So does each, and it waits for one of which nothing is known.
pub record AreWatched (t : Table) (verdicts : List (Option Verdict)) (awaited : List (Option ℕ)) : Type 0 where
  pub waiting : AreWaiting t verdicts awaited
  pub unknown : (i p : ℕ) → slice_get awaited i ≡ Some (Some p) → slice_get verdicts p ≡ Some None
