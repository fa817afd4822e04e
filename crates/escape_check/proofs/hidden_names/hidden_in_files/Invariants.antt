use Rattle.escape_check.specs.Stretches.{KnowsHidden}
use Rattle.escape_check.proofs.hidden_names.hidden_in_files.Given as goal

abbrev pub invariant-loop-member : goal.invariant-loop-member
invariant-loop-member l = KnowsHidden l.checked l.known
