use Rattle.std.proofs.Common.{◌≡◌, subst}
use Rattle.std.specs.Prelude.{IfOk}
use Rattle.std.specs.Option.{option_map}
use Rattle.go_types.specs.Tables.{type_of, rights_of}
use Rattle.go_exprs_rules.specs.Faults.{least}
use Rattle.go_stmts_rules.proofs.Steps.{variables_over}
use Rattle.go_stmts_rules.proofs.constants.variables_fault.Goals as goal

pub returns-in-len1-up : goal.returns-in-len1-up
returns-in-len1-up c =
    let t = c.args.types.now in
    subst (λ fs. IfOk c.given_fault.result (λ o. o ≡ least fs)) (variables_over (rights_of t) c.args.place.first c.args.place.last c.args.count (option_map (type_of t.shapes) c.args.of) t c.args.values.now c.in-len1-up.len_at_least) c.given_fault.ensures
