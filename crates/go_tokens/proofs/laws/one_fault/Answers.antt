use Rattle.go_tokens.proofs.Files.{one_file_fault, no_file_fault}
use Rattle.go_tokens.proofs.laws.one_fault.Goals as goal

pub returns : goal.returns
returns c = record { same = one_file_fault; none = no_file_fault }
