use Rattle.escape_check.specs.Stretches.{KnowsHidden}
use Rattle.escape_check.proofs.hidden_names.add_file.Given as goal

abbrev pub invariant-loop-of : goal.invariant-loop-of
invariant-loop-of l = KnowsHidden l.checked l.known
