use Rattle.std.proofs.Common.{◌≡◌, IfOk, List, sym, subst}
use Rattle.go_meaning.specs.Values as meant
use Rattle.go_values.specs.Views.{views}
use Rattle.go_values.proofs.Views.{parts_are}
use Rattle.go_values.proofs.value.Value.into_parts.Goals as goal

pub returns-in-Parts : goal.returns-in-Parts
returns-in-Parts c = subst (λ (us : List meant.Value). IfOk c.sole.result (λ vs. views vs.items ≡ us)) (sym (parts_are c.args.self c.in-Parts.parts c.in-Parts.is)) c.sole.ensures
