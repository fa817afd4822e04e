use Rattle.std.proofs.Common.{◌∙◌, ap, sym}
use Rattle.std.specs.HashMap.{get}
use Rattle.clone_report.specs.Keys.{number_of, same_run}
use Rattle.clone_report.proofs.Subsumed.{of-absent, of-empty, of-present}
use Rattle.clone_report.proofs.subsumption.has_extensions.Goals as goal

pub returns-in-empty : goal.returns-in-empty
returns-in-empty c = λ cs h apart t. of-empty c.args.side c.args.members.now cs c.in-empty.len_below h

pub returns-in-Some : goal.returns-in-Some
returns-in-Some c = λ cs h apart t.
    let g = get same_run c.args.numbers.now in
    c.are_in.ensures
    ∙ of-present g cs apart t c.args.side c.args.members.now c.in-Some.number c.in-len1-up.len_at_least (ap (number_of g) (sym c.extension.ensures) ∙ sym c.class_of.ensures ∙ c.in-Some.is)

pub returns-in-None : goal.returns-in-None
returns-in-None c = λ cs h apart t.
    let g = get same_run c.args.numbers.now in
    of-absent g cs apart t c.args.side c.args.members.now c.in-len1-up.len_at_least (ap (number_of g) (sym c.extension.ensures) ∙ sym c.class_of.ensures ∙ c.in-None.is)
