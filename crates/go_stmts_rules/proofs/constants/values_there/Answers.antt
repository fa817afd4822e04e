use Rattle.std.proofs.Common.{◌≡◌, subst}
use Rattle.std.specs.Prelude.{IfOk}
use Rattle.std.specs.Option.{option_map}
use Rattle.go_typed.specs.Views.{seen}
use Rattle.go_exprs_calls.specs.Shown.{shown}
use Rattle.go_stmts_rules.proofs.Fronts.{values_behind}
use Rattle.go_stmts_rules.proofs.constants.values_there.Goals as goal

pub returns-clause-nodes : goal.returns-clause-nodes
returns-clause-nodes c =
    let t = c.args.types.now in
    subst (λ xs. IfOk c.present.result (λ ns. shown t ns.items ≡ xs)) (values_behind (option_map (seen t)) c.args.count c.args.parts.now c.parts_behind.result.now c.parts_behind.ensures.parts) c.present.ensures.nodes
