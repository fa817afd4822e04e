-- What is found out about a type by what is known of its parts.
use Rattle.std.specs.Prelude.{◌≡◌, ℕ, ◌+◌, ◌*◌, ◌^◌, ◌<◌, ◌≤◌, Bool, true, false, List, Option, Some, None, slice_get, count_by}
use Rattle.go_types.specs.declared.shape.Field.{Field}
use Rattle.go_types.specs.declared.shape.Shape.{Shape}
use Rattle.go_types.specs.declared.shape.Shape.TheVariants as shape
use Rattle.go_types.specs.declared.verdict.Verdict.{Verdict}
use Rattle.go_types.specs.declared.finding.Finding.{Finding}
use Rattle.go_types.specs.declared.finding.Finding.TheVariants as finding
use Rattle.go_types.specs.Tables.{Table, held}
use Rattle.go_types.specs.Verdicts.{IsShapeVerdict}
use Rattle.go_types.specs.Waiting.{is_known, is_stale, AreWaiting}

-- A type of this shape holds the part, of which nothing is known.
pub record Awaits (t : Table) (verdicts : List (Option Verdict)) (s : Shape) (part : ℕ) : Type 0 where
  pub place : ℕ
  pub held_is : slice_get (held t s) place ≡ Some part
  pub unknown : slice_get verdicts part ≡ Some None

abbrev pub IsFinding : Table → List (Option Verdict) → Shape → Finding → Type 0
IsFinding t verdicts s (finding.Known v) = IsShapeVerdict t s v
IsFinding t verdicts s (finding.Waits part place) = Awaits t verdicts s part
IsFinding t verdicts s finding.Open = (n : ℕ) × (s ≡ shape.Named n) × (slice_get t.rights n ≡ Some None)

-- what is to be said of the type, and what it waits for
abbrev pub verdict_of : Finding → Option Verdict
verdict_of (finding.Known v) = Some v
verdict_of (finding.Waits part place) = None
verdict_of finding.Open = None

abbrev pub awaited_by : Finding → Option ℕ
awaited_by (finding.Known v) = None
awaited_by (finding.Waits part place) = Some part
awaited_by finding.Open = None

-- the place of a field of whose type nothing is known
pub record IsUnknownField (verdicts : List (Option Verdict)) (fs : List Field) (place : ℕ) : Type 0 where
  pub field : Field
  pub field_is : slice_get fs place ≡ Some field
  pub unknown : slice_get verdicts field.ty ≡ Some None

-- a type that waits for one of which something is known
abbrev pub IsStaleAt : List (Option Verdict) → List (Option ℕ) → ℕ → Type 0
IsStaleAt verdicts awaited a = (p : ℕ) × (slice_get awaited a ≡ Some (Some p)) × (is_known (slice_get verdicts p) ≡ true)

abbrev pub is_blank : Option Verdict → Bool
is_blank None = true
is_blank (Some v) = false

-- a bound for the visits that are left
abbrev pub visits : List (Option Verdict) → ℕ → ℕ
visits verdicts stale = count_by is_blank verdicts * 2 ^ 64 + stale

-- what a visit leaves
pub record IsVisited (t : Table) (verdicts after : List (Option Verdict)) (awaited : List (Option ℕ)) (stale left : ℕ) : Type 0 where
  pub waiting : AreWaiting t after awaited
  pub few : count_by (is_stale after) awaited ≤ left
  pub less : visits after left < visits verdicts stale
