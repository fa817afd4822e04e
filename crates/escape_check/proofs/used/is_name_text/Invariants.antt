use Rattle.escape_check.proofs.Words.{Read}
use Rattle.escape_check.proofs.used.is_name_text.Given as goal

abbrev pub invariant-loop-c : goal.invariant-loop-c
invariant-loop-c l = Read l.is_first l.yielded
