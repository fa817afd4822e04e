use Rattle.std.proofs.Common.{sym, ap, ◌∙◌, option_map}
use Rattle.go_meaning.specs.Values.{parts_of}
use Rattle.go_values.specs.Views.{view}
use Rattle.go_values.proofs.Views.{view_nil, nth_none}
use Rattle.go_values.proofs.parts.copy_part.Goals as goal

pub returns-in-None : goal.returns-in-None
returns-in-None c = view_nil ∙ sym (nth_none (parts_of (view c.args.value.now)) c.args.place (sym c.part.ensures ∙ ap (option_map (λ v. view v.now)) c.in-None.is))
