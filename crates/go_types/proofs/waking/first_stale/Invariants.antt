use Rattle.std.proofs.Common.{◌≡◌, ◌<◌, ℕ, Option, Some, false}
use Rattle.std.specs.Prelude.{slice_get}
use Rattle.go_types.specs.Waiting.{is_stale}
use Rattle.go_types.proofs.waking.first_stale.Given as goal

-- none of the types passed so far
abbrev pub invariant-loop-a : goal.invariant-loop-a
invariant-loop-a l = (i : ℕ) (o : Option ℕ) → i < l.a → slice_get l.waits i ≡ Some o → is_stale l.verdicts o ≡ false
