use Rattle.std.proofs.Common.{◌≡◌, ℕ, ◌<◌, ◌≤◌, Option, Some, None, length, take}
use Rattle.std.specs.Prelude.{slice_get}
use Rattle.go_types.specs.Waiting.{AreCounted}
use Rattle.go_types.proofs.waits.leave_from.Given as goal

-- the types passed so far wait no longer
abbrev pub invariant-loop-a : goal.invariant-loop-a
invariant-loop-a l = record {
  counted : AreCounted l.awaited l.counts;
  long : length l.awaited ≡ length l.initial.awaited;
  front : take l.count l.awaited ≡ take l.count l.initial.awaited;
  free : (i : ℕ) (o : Option ℕ) → l.count ≤ i → i < l.a → slice_get l.awaited i ≡ Some o → o ≡ None;
}
