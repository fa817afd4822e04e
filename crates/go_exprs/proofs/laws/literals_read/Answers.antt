use Rattle.go_exprs.proofs.Literals.{file_reads, part_reads}
use Rattle.go_exprs.proofs.laws.literals_read.Goals as goal

pub returns : goal.returns
returns c = record { file = λ file l t lexed. file_reads file l lexed t; part = part_reads }
