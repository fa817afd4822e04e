-- The worked call.
use Rattle.std.proofs.Common.{[], ◌∷◌, refl, arith}
use Rattle.go_tree.specs.Predeclared.{known_names}
use Rattle.std.specs.Fmt.{digits}
use Rattle.go_stmts_calls.specs.Calls.{given, CallReads, CallsAreTyped}
use Rattle.go_stmts_calls.specs.Worked.{frame, b_name, arguments, parameters, results, WorkedCall}

reads : CallReads frame 0 (b_name ∷ []) results (1 ∷ []) (b_name ∷ []) 0 arguments parameters results
unfolding known_names digits
reads = (
  record { means = (0, refl); reads = refl; within = tt },
  (
    given (record { number = 1; means = (0, refl); stands = refl }),
    tt,
    record { means = refl; stands = λ n. refl },
    (record { number = 0; means = (0, refl); stands = refl }, (record { read = omega arith; reads = refl; kind = refl; range = refl }, tt)),
  ),
)

pub worked_call : CallsAreTyped → WorkedCall
worked_call typed = record { reads = reads; read = typed frame 0 (b_name ∷ []) results (1 ∷ []) (b_name ∷ []) 0 arguments parameters results reads; declared = refl }
