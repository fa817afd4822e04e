use Rattle.extract_rewrite.proofs.FilesRead.{Continues}
use Rattle.extract_rewrite.proofs.reading.all_statements.Given as goal

abbrev pub invariant-loop-number : goal.invariant-loop-number
invariant-loop-number l = Continues l.after l.number l.total
