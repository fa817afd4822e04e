use Rattle.std.proofs.Common.{◌≡◌, ℕ, map, take, sym, subst}
use Rattle.std.specs.Prelude.{IfOk}
use Rattle.std.specs.Option.{option_map}
use Rattle.go_typed.specs.Views.{seen}
use Rattle.go_grammar.specs.declared.kind.Kind.{Kind}
use Rattle.go_exprs_rules.specs.Faults.{least}
use Rattle.go_exprs_rules.specs.Tables.{present}
use Rattle.go_stmts_defs.specs.Rules.{split_at, define_failing, each, case_failing}
use Rattle.go_stmts_rules.specs.Told.{statement_failing}
use Rattle.go_stmts_rules.proofs.failing.fault.Goals as goal

pub returns-in-OperatorAssignment : goal.returns-in-OperatorAssignment
returns-in-OperatorAssignment c s h =
    let ys = map (option_map (seen c.args.types.now)) c.args.parts.now in
    subst (λ (k : Kind). IfOk c.operated.result (λ o. o ≡ least (statement_failing s k c.args.form c.args.place.first c.args.place.last ys))) (sym c.in-OperatorAssignment.is) (c.operated.ensures s h.rights)

pub returns-in-Define : goal.returns-in-Define
returns-in-Define c s h =
    let ys = map (option_map (seen c.args.types.now)) c.args.parts.now in
    let i = c.args.place.first in
    let j = c.args.place.last in
    let here = subst (λ (n : ℕ). IfOk c.defined.result (λ o. o ≡ least (split_at n (define_failing s i j) ys))) c.names_in-in-Define.ensures (c.defined.ensures s h) in
    subst (λ (k : Kind). IfOk c.defined.result (λ o. o ≡ least (statement_failing s k c.args.form i j ys))) (sym c.in-Define.is) here

pub returns-in-Return : goal.returns-in-Return
returns-in-Return c s h =
    let ys = map (option_map (seen c.args.types.now)) c.args.parts.now in
    subst (λ (k : Kind). IfOk c.returned.result (λ o. o ≡ least (statement_failing s k c.args.form c.args.place.first c.args.place.last ys))) (sym c.in-Return.is) (c.returned.ensures s h)

pub returns-in-Case : goal.returns-in-Case
returns-in-Case c s h =
    let ys = map (option_map (seen c.args.types.now)) c.args.parts.now in
    let here = subst (λ (n : ℕ). IfOk c.case.result (λ o. o ≡ least (each (case_failing s.around.rights s.tag) (take n (present ys))))) c.names_in-in-Case.ensures (c.case.ensures s h) in
    subst (λ (k : Kind). IfOk c.case.result (λ o. o ≡ least (statement_failing s k c.args.form c.args.place.first c.args.place.last ys))) (sym c.in-Case.is) here
