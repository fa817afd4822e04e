use Rattle.std.proofs.Common.{sym, ap, ◌∙◌, slice_set}
use Rattle.go_meaning.specs.Values as meant
use Rattle.go_meaning.specs.Values.{valued}
use Rattle.go_values.specs.Views.{view}
use Rattle.go_values.proofs.Views.{view_parts, parts_are}
use Rattle.go_values.proofs.parts.with_part.Goals as goal

pub returns-in-Parts : goal.returns-in-Parts
returns-in-Parts c =
    view_parts c.put_shared.new.parts
    ∙ ap (λ vs. meant.Parts (valued vs)) (c.in_ok-put_shared-in-Parts.ensures ∙ ap (λ vs. slice_set vs c.args.place (view c.args.part)) (sym (parts_are c.args.value c.in-Parts.parts c.in-Parts.is)))
