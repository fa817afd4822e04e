-- Counts of faults. A count stands still at its last value.
use Rattle.std.specs.Prelude.{◌≡◌, ℕ, ◌+◌, ◌-◌, ◌^◌, ◌≤◌, min, Result, Ok, Err}
use Rattle.port_io.specs.declared.source.Failed.{Failed}
use Rattle.port_io.specs.declared.sink.SinkError.{SinkError}
use Rattle.port_io.specs.declared.sink.SinkError.TheVariants as sink

-- The count rose by one, up to its last value.
pub record Rose (old new : ℕ) : Type 0 where
  pub never_falls : old ≤ new
  pub by_one : new ≡ min (old + 1) (2 ^ 64 - 1)

-- A call of a source raised the count exactly where it failed.
abbrev pub CountsRead : {X : Type 0} → Result X Failed → ℕ → ℕ → Type 0
CountsRead (Ok x) old new = new ≡ old
CountsRead (Err e) old new = Rose old new

-- A call of a sink raised the count exactly where it failed, and not where memory ran out.
abbrev pub CountsWrite : {X : Type 0} → Result X SinkError → ℕ → ℕ → Type 0
CountsWrite (Ok x) old new = new ≡ old
CountsWrite (Err sink.Failed) old new = Rose old new
CountsWrite (Err sink.Memory) old new = new ≡ old
