use Rattle.std.proofs.Common.{◌≡◌, subst, refl, Result}
use Rattle.go_values.specs.declared.value.Value.{Value}
use Rattle.go_values.specs.declared.panic.Panic.{Panic}
use Rattle.go_values.specs.Deeds.{deed}
use Rattle.go_eval_machine.proofs.operate.done.Goals as goal

pub returns-in-Ok : goal.returns-in-Ok
returns-in-Ok c = λ d w h. subst (λ (r : Result Value Panic). d ≡ deed w r) c.in-Ok.is h

pub returns-in-Err : goal.returns-in-Err
returns-in-Err c = λ d w h. (subst (λ (r : Result Value Panic). d ≡ deed w r) c.in-Err.is h, refl)
