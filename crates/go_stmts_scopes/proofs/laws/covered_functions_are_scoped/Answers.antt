use Rattle.go_stmts_scopes.specs.Scoped.{tested}
use Rattle.go_stmts_scopes.proofs.CoveredBodies.{function_covered, window_covered}
use Rattle.go_stmts_scopes.proofs.laws.covered_functions_are_scoped.Goals as goal

pub returns : goal.returns
returns c = λ named written declared returns rights x gone local s. (
  λ t g h. function_covered (tested named written declared returns) rights x gone local s t g h,
  λ r a b ps g h. window_covered (tested named written declared returns) rights x gone local r a b s ps g h,
)
