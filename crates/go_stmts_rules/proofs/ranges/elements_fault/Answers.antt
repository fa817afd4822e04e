use Rattle.std.proofs.Common.{ap, ◌∙◌}
use Rattle.go_types.specs.Tables.{type_of, rights_of}
use Rattle.go_typed.specs.Views.{seen}
use Rattle.go_exprs_rules.specs.Faults.{earlier, least}
use Rattle.go_stmts_defs.specs.Rules.{element_unassigned, target_type}
use Rattle.go_stmts_rules.proofs.Steps.{two_elements}
use Rattle.go_stmts_rules.proofs.ranges.elements_fault.Goals as goal

pub returns-in-len2-up : goal.returns-in-len2-up
returns-in-len2-up c =
    let t = c.args.types.now in
    let rights = rights_of t in
    let x = seen t c.args.operand.now in
    let s = type_of t.shapes c.args.pair.second in
    c.earlier.ensures
    ∙ ap (earlier c.element_fault-in-len2-up.result) c.element_fault-in-len2-up-2.ensures
    ∙ ap (λ o. earlier o (least (element_unassigned rights x (target_type (seen t c.other-item.result.now)) s))) c.element_fault-in-len2-up.ensures
    ∙ two_elements rights x (type_of t.shapes c.args.pair.first) s t c.args.targets.now c.one-item-2.result c.other-item.result c.in-len2-up.len_at_least c.one-item-2.is c.other-item.is
