use Rattle.go_function_holes_windows.proofs.Windows.{window-holes}
use Rattle.go_function_holes_windows.proofs.laws.holes_of_windows_stand.Goals as goal

pub returns : goal.returns
returns l c w f r s over known calls n h there =
    window-holes (λ ts d t u path v e. l.subtrees_stand.ensures ts d t u path v e) (λ ts d b t v. l.derivations_are_shaped.ensures.based ts d b t v) c w f r s over known calls n h there
