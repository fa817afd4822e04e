-- Which calls of an object in memory fail.
use Rattle.std.specs.Prelude.{◌≡◌, ◌==◌, ℕ, ◌+◌, ◌-◌, ◌^◌, min, Bool, true, false, List, Result, Ok, Err}
use Rattle.std.specs.List.{list_any}
use Rattle.port_io.specs.declared.calls.Calls.{Calls}
use Rattle.port_io.specs.declared.folder.FolderError.{FolderError}
use Rattle.port_io.specs.declared.folder.FolderError.TheVariants as errors
use Rattle.port_io.specs.declared.sink.SinkError.{SinkError}
use Rattle.port_io.specs.declared.sink.SinkError.TheVariants as sink

-- The numbers of the calls that fail, where the first call has the number 1, and how many calls were made.
pub record Plan : Type 0 where
  pub failing : List ℕ
  pub made : ℕ

-- before the first call
abbrev pub planned : List ℕ → Plan
planned failing = record { failing = failing; made = 0 }

-- the number of the next call, up to the last one
abbrev pub next_number : Plan → ℕ
next_number plan = min (plan.made + 1) (2 ^ 64 - 1)

abbrev pub plan_of : Calls → Plan
plan_of calls = record { failing = calls.failing.items; made = calls.made }

-- One more call was made, and it failed exactly if its number is listed.
pub record FollowsPlan (old new : Plan) (failed : Bool) : Type 0 where
  pub listed : failed ≡ list_any (λ n. n == next_number old) old.failing
  pub made : new.made ≡ next_number old
  pub failing : new.failing ≡ old.failing

-- whether a write failed for another cause than memory
abbrev pub is_failed_write : Result ℕ SinkError → Bool
is_failed_write (Ok n) = false
is_failed_write (Err sink.Failed) = true
is_failed_write (Err sink.Memory) = false

-- whether a call of a folder failed for another cause than memory
abbrev pub is_failed_call : {X : Type 0} → Result X FolderError → Bool
is_failed_call (Ok x) = false
is_failed_call (Err errors.Failed) = true
is_failed_call (Err errors.Memory) = false
