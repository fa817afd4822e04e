use Rattle.std.proofs.Common.{◌∙◌, sym, ap}
use Rattle.go_stmts_defs.specs.Ending.{is_fallthrough}
use Rattle.escape_check.proofs.Sparing.{falls_kept}
use Rattle.escape_check.proofs.keeping.falls_last.Goals as goal

pub returns-clause-falls : goal.returns-clause-falls
returns-clause-falls c = λ e g s.
    falls_kept c.args.types.now g c.args.parts.now c.in-Some.last.now (c.in-Some.ensures.part g (c.in_ok-note.ensures.spared g s)) (ap is_fallthrough (sym c.form_of.ensures) ∙ sym c.is_fallthrough.ensures ∙ e)
