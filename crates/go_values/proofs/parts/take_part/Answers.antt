use Rattle.std.proofs.Common.{slice_set, sym, ap, ◌∙◌}
use Rattle.go_meaning.specs.Values as meant
use Rattle.go_meaning.specs.Values.{nth, valued}
use Rattle.go_values.proofs.Views.{view_parts, parts_are}
use Rattle.go_values.proofs.parts.take_part.Goals as goal

pub returns-in-Parts-clause-rest : goal.returns-in-Parts-clause-rest
returns-in-Parts-clause-rest c =
    view_parts c.take_shared.new.parts
    ∙ ap (λ vs. meant.Parts (valued vs)) (c.in_ok-part-in-Parts.ensures.left ∙ ap (λ vs. slice_set vs c.args.place meant.NilFunction) (sym (parts_are c.args.value c.in-Parts.parts c.in-Parts.is)))

pub returns-in-Parts-clause-taken : goal.returns-in-Parts-clause-taken
returns-in-Parts-clause-taken c = c.in_ok-part-in-Parts.ensures.taken ∙ ap (λ vs. nth vs c.args.place) (sym (parts_are c.args.value c.in-Parts.parts c.in-Parts.is))
