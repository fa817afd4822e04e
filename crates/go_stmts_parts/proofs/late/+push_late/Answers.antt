use Rattle.std.proofs.Common.{◌≡◌, ◌++◌, ◌≤◌, length, map, ap, sym, ◌∙◌, append-nil, append_assoc, arith}
use Rattle.std.proofs.lemmas.List.{drop_all}
use Rattle.go_types.specs.Tables.{rights_of}
use Rattle.go_typed.specs.declared.node.TypedNode.TheViews.{out-TypedNode}
use Rattle.go_typed.specs.Views.{all_seen, sort_seen}
use Rattle.go_exprs_rules.proofs.Public.{seen_out}
use Rattle.go_stmts_parts.specs.Late.{waiting, late_arrays, all_late_arrays, late_seen}
use Rattle.go_stmts_parts.proofs.late.+push_late.Goals as goal

pub returns-clause-found : goal.returns-clause-found
returns-clause-found t c =
    let table = c.args.types.now in
    let rights = rights_of table in
    let f = late_seen table in
    let n = c.args.node.now in
    let ps = c.deref-part-items.result.now in
    let i = c.loop-part.part-index in
    let own = waiting rights (out-TypedNode n).first (out-TypedNode n).last (sort_seen table (out-TypedNode n).sort) in
    let ended : length ps ≤ i = omega (arith, c.loop-part-test.false) in
    let before : map f c.loop-part.found.items ≡ map f c.args.found.now.items ++ all_late_arrays rights (all_seen table ps) =
    sym (append-nil (map f c.loop-part.found.items)) ∙ sym (ap (λ qs. map f c.loop-part.found.items ++ all_late_arrays rights (all_seen table qs)) (drop_all i ps ended)) ∙ c.loop-part.invariant.found in
    c.in_ok-push_waiting.ensures.found
    ∙ ap (λ es. es ++ own) before
    ∙ append_assoc (map f c.args.found.now.items) (all_late_arrays rights (all_seen table ps)) own
    ∙ ap (λ qs. map f c.args.found.now.items ++ (all_late_arrays rights (all_seen table qs) ++ own)) c.deref-part-items.ensures.value
    ∙ ap (λ es. map f c.args.found.now.items ++ es) (sym (ap (late_arrays rights) (seen_out table n)))
