use Rattle.std.proofs.Common.{◌∙◌, ap, sym}
use Rattle.std.specs.Prelude.{◌||◌}
use Rattle.std.specs.List.{list_any}
use Rattle.clone_report.specs.declared.side.Side.TheVariants as side
use Rattle.clone_report.specs.Maximal.{is_subsumed_on}
use Rattle.clone_report.proofs.Subsumed.{on-either}
use Rattle.clone_report.proofs.subsumption.is_subsumed.Goals as goal

pub returns-then-has_extensions : goal.returns-then-has_extensions
returns-then-has_extensions c = λ cs h apart t.
    let ms = c.args.members.now in
    c.if-has_extensions.true
    ∙ sym (on-either ms cs ∙ ap (λ b. b || list_any (is_subsumed_on side.After ms) cs) (sym (c.has_extensions.ensures cs h apart t) ∙ c.if-has_extensions.true))

pub returns-else-has_extensions : goal.returns-else-has_extensions
returns-else-has_extensions c = λ cs h apart t.
    let ms = c.args.members.now in
    c.has_extensions-else-has_extensions.ensures cs h apart t
    ∙ sym (on-either ms cs ∙ ap (λ b. b || list_any (is_subsumed_on side.After ms) cs) (sym (c.has_extensions.ensures cs h apart t) ∙ c.if-has_extensions.false))
