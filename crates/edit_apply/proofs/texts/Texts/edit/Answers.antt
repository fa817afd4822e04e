use Rattle.std.proofs.Common.{Ok, sym, ap, subst, ◌∙◌}
use Rattle.go_base.specs.Package.{IsPackage}
use Rattle.edit_apply.specs.Answers.{edit_answer}
use Rattle.edit_apply.proofs.Lists.{with_bytes_named}
use Rattle.edit_apply.proofs.texts.Texts.edit.Goals as goal

pub invariant_of-self : goal.invariant_of-self
invariant_of-self c =
    subst IsPackage (with_bytes_named c.deref.result.now c.self.inside.items.items c.in_ok-place.place c.index_mut-file.result.now c.in_ok-place.bytes c.deref.ensures.value c.in_ok-place.ensures.place c.index_mut-file.ensures.value) c.in_ok-place.ensures.package

pub returns-clause-answer : goal.returns-clause-answer
returns-clause-answer c =
    ap (λ fs. edit_answer fs c.args.name.now c.args.start c.args.end c.args.new.now) (sym (c.deref.ensures.value ∙ c.self.view_is))
    ∙ c.in_ok-place.ensures.answer
    ∙ ap Ok (with_bytes_named c.deref.result.now c.self.inside.items.items c.in_ok-place.place c.index_mut-file.result.now c.in_ok-place.bytes c.deref.ensures.value c.in_ok-place.ensures.place c.index_mut-file.ensures.value)
