use Rattle.std.proofs.Common.{◌≡◌, Bool, true, [], cond, map, sym, ◌∙◌, subst}
use Rattle.std.specs.Prelude.{IfOk}
use Rattle.std.specs.Option.{option_map}
use Rattle.go_typed.specs.Views.{seen}
use Rattle.go_exprs_rules.specs.Faults.{least}
use Rattle.go_stmts_defs.specs.Rules.{judges}
use Rattle.go_stmts_rules.specs.Told.{statement_failing}
use Rattle.go_stmts.proofs.node.own_fault.Goals as goal

pub returns-then-judges : goal.returns-then-judges
returns-then-judges c s h =
    let ys = map (option_map (seen c.args.types.now)) c.args.parts.now in
    let judged : judges c.args.kind ys ≡ true = sym c.judges.ensures ∙ c.if-judges.true in
    subst (λ (b : Bool). IfOk c.fault.result (λ o. o ≡ least (cond b (statement_failing s c.args.kind c.args.form c.args.place.first c.args.place.last ys) []))) (sym judged) (c.fault.ensures s h)
