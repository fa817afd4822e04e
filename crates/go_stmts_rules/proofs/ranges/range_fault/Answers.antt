use Rattle.std.proofs.Common.{ap, ◌∙◌}
use Rattle.go_types.specs.Tables.{rights_of}
use Rattle.go_typed.specs.Views.{seen}
use Rattle.go_exprs_rules.specs.Faults.{earlier, least}
use Rattle.go_stmts_defs.specs.Rules.{range_assigned, range_types}
use Rattle.go_exprs_calls.specs.Shown.{shown}
use Rattle.go_stmts_rules.proofs.Steps.{range_over}
use Rattle.go_stmts_rules.proofs.ranges.range_fault.Goals as goal

pub returns-in-len1-up : goal.returns-in-len1-up
returns-in-len1-up c =
    let t = c.args.types.now in
    let rights = rights_of t in
    let i = c.args.place.first in
    let j = c.args.place.last in
    let ts = shown t c.args.left.now in
    let x = seen t c.operand-item.result.now in
    c.earlier.ensures
    ∙ ap (earlier c.targets.result) c.range_assigned.ensures
    ∙ ap (λ o. earlier o (least (range_assigned rights i j ts x (range_types rights x)))) c.targets.ensures
    ∙ range_over rights i j c.args.defines ts t c.args.others.now c.operand-item.result c.in-len1-up.len_at_least c.operand-item.is
