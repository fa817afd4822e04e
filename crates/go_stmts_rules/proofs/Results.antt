-- Results of calls, and faults of what was made.
use Rattle.std.proofs.Common.{◌≡◌, List, [], ◌∷◌, Option, Some, None, Ok, refl, ap}
use Rattle.go_types.specs.Trees.{TypeTree, row}
use Rattle.go_exprs_rules.specs.declared.fault.TypeFault.{TypeFault}
use Rattle.go_exprs_rules.specs.Faults.{judged}
use Rattle.go_stmts_defs.specs.Assigning.{types_in}

pub types_in_row : (ts : List TypeTree) → types_in (row ts) ≡ ts
types_in_row [] = refl
types_in_row (t ∷ ts) = ap (λ us. t ∷ us) (types_in_row ts)

-- where something was made, no rule fails
pub none_fails : {A : Type 0} (o : Option TypeFault) (x y : A) → judged o x ≡ Ok y → None ≡ o
none_fails None x y e = refl
none_fails (Some f) x y e = cc
