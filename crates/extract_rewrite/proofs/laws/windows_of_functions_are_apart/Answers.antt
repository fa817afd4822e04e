use Rattle.extract_rewrite.proofs.Runs.{windows_apart}
use Rattle.extract_rewrite.proofs.laws.windows_of_functions_are_apart.Goals as goal

pub returns : goal.returns
returns l = λ c name ws t there none. windows_apart c name ws l.unrefused_windows_are_apart.ensures t there none
