use Rattle.std.proofs.Common.{◌∙◌, sym, ap}
use Rattle.std.specs.Prelude.{slice_get}
use Rattle.go_needs.proofs.Knowing.{declared_by}
use Rattle.go_needs.proofs.Maps.{if_there}
use Rattle.go_needs.proofs.needs.Needs.declaring.Goals as goal

pub returns-clause-specification : goal.returns-clause-specification
returns-clause-specification c = if_there c.declaring_at.result _ (λ x e p ds o t h.
    (declared_by c.args.self.now p ds t c.args.number x o (sym (ap (λ l. slice_get l c.args.number) c.deref.ensures.value) ∙ (sym c.declaring_at.ensures ∙ e)) h).specification)

pub returns-clause-column : goal.returns-clause-column
returns-clause-column c = if_there c.declaring_at.result _ (λ x e p ds o t h.
    (declared_by c.args.self.now p ds t c.args.number x o (sym (ap (λ l. slice_get l c.args.number) c.deref.ensures.value) ∙ (sym c.declaring_at.ensures ∙ e)) h).column)
