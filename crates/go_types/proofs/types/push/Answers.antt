use Rattle.std.proofs.Common.{◌++◌, ◌∷◌, [], None, Some, length, sym, ap, ◌∙◌, arith}
use Rattle.std.specs.Prelude.{slice_set}
use Rattle.go_types.specs.Findings.{awaited_by}
use Rattle.go_types.proofs.Countings.{length_longer}
use Rattle.go_types.proofs.Waiters.{set_last}
use Rattle.go_types.proofs.types.push.Goals as goal

pub wait-requires-clause-part : goal.wait-requires-clause-part
wait-requires-clause-part c =
    let low = c.requires.part c.in-Waits.part (ap awaited_by c.in-Waits.is) in
    let long = ap length c.in-Ok.ensures.ok ∙ length_longer c.args.waits.now None in
    omega arith

pub returns-in-Waits-clause-waits : goal.returns-in-Waits-clause-waits
returns-in-Waits-clause-waits c =
    let part = c.in-Waits.part in
    c.wait.ensures
    ∙ ((λ j. slice_set (c.in-Ok.ensures.ok j) (c.len-last.ensures j) (Some part))
    ∙ (set_last c.args.waits.now None (Some part) ∙ ap (λ o. c.args.waits.now ++ o ∷ []) (sym (ap awaited_by c.in-Waits.is))))
