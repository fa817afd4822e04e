-- The law on expressions: variables stand in place of constants.
use Rattle.go_exprs_variables.specs.Variables.{Standins, ExpressionsTyped}
use Rattle.go_exprs_variables.proofs.Dispatch.{descends, step}
use Rattle.go_exprs_variables.proofs.Holders.{holder_step, same_scope}
use Rattle.go_exprs_variables.proofs.Induction.{Rest, variables_for_constants}
use Rattle.go_exprs_variables.proofs.Told.{same_told}

rest : (w : Standins) → Rest w
rest w = record {
  descends = descends w;
  same_scope = λ s t k xs st e. same_scope s.rights w s t k xs st e;
  same_told = same_told w;
  step = step w;
  holder = λ s t h c k i j ps st shape held follow f. holder_step w s t h c k i j ps st shape held follow;
}

-- With variables in place of constants an expression is typed the same, with that change alone, and no rule fails.
pub expressions_are_typed : ExpressionsTyped
expressions_are_typed w s t h c x shape e n st proper f fits = variables_for_constants w (rest w) s t h c x shape e n st proper f fits
