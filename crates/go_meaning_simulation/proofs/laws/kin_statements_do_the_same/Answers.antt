use Rattle.go_meaning_simulation.proofs.Matched.{statements_do_the_same, windows_do_the_same}
use Rattle.go_meaning_simulation.proofs.laws.kin_statements_do_the_same.Goals as goal

pub returns-clause-body : goal.returns-clause-body
returns-clause-body c = λ P Q m I W n t t' h. statements_do_the_same P Q m I W n t t' h

pub returns-clause-window : goal.returns-clause-window
returns-clause-window c = λ P Q m I f0 s s' n t t' h. windows_do_the_same P Q m I f0 s' s n t t' h
