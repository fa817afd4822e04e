use Rattle.go_package_defs.specs.Bodies.{function_in}
use Rattle.go_stmts_elsewhere.proofs.Numbered.{functions_numbered}
use Rattle.go_stmts_elsewhere.proofs.laws.unchanged_functions_are_numbered_anew.Goals as goal

pub returns : goal.returns
returns c constants types_of variables functions name s t count types others old number x e =
    functions_numbered constants types_of variables functions s e.between count types e.objects e.locals old number x name (function_in t number count others x)
    (c.renumbered_functions_are_typed_the_same.ensures name e.between t number count types others x e.renamed)
