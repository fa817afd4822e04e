use Rattle.std.proofs.Common.{◌≡◌, ◌≤◌, take, length}
use Rattle.go_tokens.proofs.value.fill.Given as goal

abbrev pub invariant-loop-c : goal.invariant-loop-c
invariant-loop-c l = record { counted : l.count ≡ length l.yielded; within : l.count ≤ length l.buffer; filled : take l.count l.buffer ≡ l.yielded }
