use Rattle.std.proofs.Common.{◌≡◌, ◌++◌, ℕ, map, replicate, sym, subst}
use Rattle.std.specs.Prelude.{OnOk}
use Rattle.std.specs.Option.{option_map}
use Rattle.go_typed.specs.Views.{seen}
use Rattle.go_grammar.specs.declared.kind.Kind.{Kind}
use Rattle.go_exprs_rules.specs.Sorts.{own_type}
use Rattle.go_stmts_defs.specs.Assigning.{type_or_default}
use Rattle.go_stmts_defs.specs.Rules.{taking, split_at, define_takes}
use Rattle.go_stmts_rules.specs.Seen.{taking_seen}
use Rattle.go_stmts_rules.proofs.given.push_takings.Goals as goal

pub returns-in-OperatorAssignment-clause-tree : goal.returns-in-OperatorAssignment-clause-tree
returns-in-OperatorAssignment-clause-tree c s h =
    let f = taking_seen c.args.types.now in
    let ys = map (option_map (seen c.args.types.now)) c.args.parts.now in
    subst (λ (k : Kind). OnOk c.operated.result (map f c.operated.new.takings.items ≡ map f c.args.takings.now.items ++ taking s k c.args.form ys)) (sym c.in-OperatorAssignment.is) (c.operated.ensures.tree s h.rights)

pub returns-in-Define-clause-tree : goal.returns-in-Define-clause-tree
returns-in-Define-clause-tree c s h =
    let f = taking_seen c.args.types.now in
    let ys = map (option_map (seen c.args.types.now)) c.args.parts.now in
    let here = subst (λ (n : ℕ). OnOk c.defined.result (map f c.defined.new.takings.items ≡ map f c.args.takings.now.items ++ split_at n (define_takes s) ys)) c.names_in-in-Define.ensures (c.defined.ensures.tree s h) in
    subst (λ (k : Kind). OnOk c.defined.result (map f c.defined.new.takings.items ≡ map f c.args.takings.now.items ++ taking s k c.args.form ys)) (sym c.in-Define.is) here

pub returns-in-Return-clause-tree : goal.returns-in-Return-clause-tree
returns-in-Return-clause-tree c s h =
    let f = taking_seen c.args.types.now in
    let ys = map (option_map (seen c.args.types.now)) c.args.parts.now in
    subst (λ (k : Kind). OnOk c.returned.result (map f c.returned.new.takings.items ≡ map f c.args.takings.now.items ++ taking s k c.args.form ys)) (sym c.in-Return.is) (c.returned.ensures.tree s h)

pub returns-in-Case-clause-tree : goal.returns-in-Case-clause-tree
returns-in-Case-clause-tree c s h =
    let f = taking_seen c.args.types.now in
    let ys = map (option_map (seen c.args.types.now)) c.args.parts.now in
    let here = subst (λ (n : ℕ). OnOk c.compared.result (map f c.compared.new.takings.items ≡ map f c.args.takings.now.items ++ replicate n (type_or_default (own_type s.tag)))) c.names_in-in-Case.ensures (c.compared.ensures.tree s h) in
    subst (λ (k : Kind). OnOk c.compared.result (map f c.compared.new.takings.items ≡ map f c.args.takings.now.items ++ taking s k c.args.form ys)) (sym c.in-Case.is) here
