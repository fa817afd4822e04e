-- A body that meets all that the law on ordered bodies asks: that of the example of the law on bodies, whose clause declares a type.
use Rattle.go_exprs_rules.specs.Scopes.{value}
use Rattle.go_stmts_defs.specs.Laying.{type_number}
use Rattle.go_stmts_variables.specs.Asked.{AskedIsMet, body, before, after, standing}
use Rattle.go_stmts_variables.specs.Law.{IsBodyReadWithVariables}
use Rattle.go_stmts_steady.specs.Ordered.{Ordered, KnowsBelow}

-- The five types around it are known in front of it, and it declares the next one.
pub record OrderIsMet : Type 0 where
  pub asked : AskedIsMet
  pub known : KnowsBelow 5 before
  pub ordered : Ordered (type_number before) 5 body
  pub read : IsBodyReadWithVariables standing before after value body
