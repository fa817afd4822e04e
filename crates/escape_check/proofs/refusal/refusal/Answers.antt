use Rattle.std.proofs.Common.{◌∙◌, Some, ap, sym}
use Rattle.std.specs.Option.{option_map}
use Rattle.go_typed.specs.declared.window.Window.{Window}
use Rattle.escape_check.specs.Places.{reported, sources_in}
use Rattle.escape_check.specs.Shown.{refused_view}
use Rattle.escape_check.proofs.MappedRefusals.{first_seen}
use Rattle.escape_check.proofs.refusal.refusal.Goals as goal

abbrev no_window : Window
no_window = record { func = 0; list = 0; first = 0; count = 0 }

pub returns-in-Some-2 : goal.returns-in-Some-2
returns-in-Some-2 c =
    let p = c.args.checked.now in
    ap Some c.reported.ensures
    ∙ ap (option_map (reported (sources_in p))) (sym (ap (option_map refused_view) c.in-Some-2.is) ∙ c.in_ok-refused.ensures)
    ∙ sym (first_seen p c.args.name.now c.args.members.now no_window c.in-Some.func.now c.in-len1-up.len_at_least c.in-Some.ensures)

pub returns-in-None : goal.returns-in-None
returns-in-None c =
    let p = c.args.checked.now in
    ap (option_map (reported (sources_in p))) (sym (ap (option_map refused_view) c.in-None.is) ∙ c.in_ok-refused.ensures)
    ∙ sym (first_seen p c.args.name.now c.args.members.now no_window c.in-Some.func.now c.in-len1-up.len_at_least c.in-Some.ensures)
