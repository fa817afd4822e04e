use Rattle.go_exprs_variables.proofs.Stills.{still_typed, constant_tests}
use Rattle.go_exprs_variables.proofs.Constants.{constant_still}
use Rattle.go_grammar.specs.Trees.{node}
use Rattle.go_typed.specs.Trees.{sort_of}
use Rattle.go_exprs_rules.specs.Typing.{typing}
use Rattle.go_exprs_variables.proofs.laws.constants_are_typed.Goals as goal

pub returns : goal.returns
returns c w s t h d k i j ps e x st p a m f fits = still_typed w s t h d (node k i j ps) e st (constant_still w s h d k i j ps e x p a (constant_tests (sort_of (typing s h (node k i j ps))) m) fits) f
