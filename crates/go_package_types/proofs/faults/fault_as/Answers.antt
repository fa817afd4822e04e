use Rattle.std.proofs.Common.{length, refl, ap, sym, subst, ◌∙◌}
use Rattle.std.proofs.lemmas.Result.{IfOk-weaker}
use Rattle.go_typed.specs.Scopes.{LocalsView}
use Rattle.go_exprs_rules.specs.Seen.{AreBasics}
use Rattle.go_exprs_rules.specs.Faults.{least}
use Rattle.go_package_defs.specs.Knowledge as knowledge
use Rattle.go_declarations.specs.Reads.{SpecificationRead}
use Rattle.go_declarations.specs.Views.{specification_view}
use Rattle.go_package_types.specs.Whole.{failing_as_whole}
use Rattle.go_package_types.proofs.faults.fault_as.Goals as goal

pub specification_fault-requires-clause-scope : goal.specification_fault-requires-clause-scope
specification_fault-requires-clause-scope c =
    c.scope_in-scope.ensures.known c.args.types.now (length c.args.types.now.shapes) c.requires.fits (ap (λ (l : LocalsView). l.sorts) c.in_ok-locals.ensures) c.requires.known

pub specification_fault-requires-clause-basics : goal.specification_fault-requires-clause-basics
specification_fault-requires-clause-basics c = subst (AreBasics c.args.types.now) (sym c.scope_in-scope.ensures.basics) c.requires.fits.basics

pub specification_fault-requires-clause-literals : goal.specification_fault-requires-clause-literals
specification_fault-requires-clause-literals c =
    let d = specification_view c.args.specification.now in
    subst (λ texts. SpecificationRead texts d) (sym (c.scope_in-scope.ensures.texts d.file c.in-Some.ensures.tokens)) c.requires.literals

pub returns-clause-fault : goal.returns-clause-fault
returns-clause-fault c = λ ss h.
    let a = c.args.types.now in
    let d = specification_view c.args.specification.now in
    let same = c.scope_in-scope.ensures.is a knowledge.is_sound ss d c.requires.fits h.stands h.rights c.in-Some.ensures.tokens c.in-Some.ensures.number c.in_ok-locals.ensures refl in
    IfOk-weaker c.specification_fault.result _ _ (λ o e. e ∙ ap (λ s. least (failing_as_whole c.args.blocked s d)) same) c.specification_fault.ensures.fault
