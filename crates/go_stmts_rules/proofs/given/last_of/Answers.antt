use Rattle.std.proofs.Common.{length, ap, sym, subst, ◌∙◌}
use Rattle.go_stmts_defs.specs.Rules.{last_part}
use Rattle.go_exprs_calls.specs.Shown.{shown, AllShownKnown}
use Rattle.go_stmts_rules.proofs.Fronts.{last_shown, last_shown_known}
use Rattle.go_stmts_rules.proofs.given.last_of.Goals as goal

pub returns-in-Some-clause-node : goal.returns-in-Some-clause-node
returns-in-Some-clause-node c =
    let t = c.args.types.now in
    sym (ap (λ ns. last_part (shown t ns)) c.in-Some.ensures.cases.0 ∙ last_shown t c.in-Some.field-0-1.now c.in-Some.last.now)

pub returns-in-Some-clause-known : goal.returns-in-Some-clause-known
returns-in-Some-clause-known c =
    let k = length c.args.types.now.shapes in
    last_shown_known k c.in-Some.field-0-1.now c.in-Some.last.now (subst (AllShownKnown k) c.in-Some.ensures.cases.0 c.requires)
