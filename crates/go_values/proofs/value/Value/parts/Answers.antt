use Rattle.std.proofs.Common.{Vec, Global, sym, ap, ◌∙◌}
use Rattle.go_values.specs.Views.{views}
use Rattle.go_values.specs.declared.value.Value.{Value}
use Rattle.go_values.proofs.Views.{parts_are}
use Rattle.go_values.proofs.value.Value.parts.Goals as goal

pub returns-in-Parts : goal.returns-in-Parts
returns-in-Parts c = ap views c.as_slice.ensures.value ∙ ap (λ (v : Vec Value Global). views v.items) c.as_ref.ensures ∙ sym (parts_are c.args.self.now c.in-Parts.parts c.in-Parts.is)
