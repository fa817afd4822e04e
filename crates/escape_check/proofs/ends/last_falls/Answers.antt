use Rattle.std.proofs.Common.{◌∙◌, map, sym, ap}
use Rattle.std.specs.Borrow.{Bor}
use Rattle.std.specs.Option.{option_map}
use Rattle.go_typed.specs.declared.node.TypedNode.{TypedNode}
use Rattle.go_typed.specs.Views.{seen}
use Rattle.go_stmts_defs.specs.Ending.{is_fallthrough, is_fallthrough_part}
use Rattle.escape_check.specs.Called.{staying}
use Rattle.escape_check.proofs.Called.{falls_last}
use Rattle.escape_check.proofs.ends.last_falls.Goals as goal

pub returns-in-Some : goal.returns-in-Some
returns-in-Some c =
    let g = c.args.gap in
    let table = c.args.types.now in
    c.is_fallthrough.ensures
    ∙ ap is_fallthrough c.form_of.ensures
    ∙ sym (falls_last g (staying g 0 (map (option_map (seen table)) c.args.parts.now))
    ∙ ap is_fallthrough_part (sym c.last_part.ensures.part ∙ ap (option_map (λ (n : Bor TypedNode). seen table n.now)) c.in-Some.is))

pub returns-in-None : goal.returns-in-None
returns-in-None c =
    let g = c.args.gap in
    let table = c.args.types.now in
    sym (falls_last g (staying g 0 (map (option_map (seen table)) c.args.parts.now))
    ∙ ap is_fallthrough_part (sym c.last_part.ensures.part ∙ ap (option_map (λ (n : Bor TypedNode). seen table n.now)) c.in-None.is))
