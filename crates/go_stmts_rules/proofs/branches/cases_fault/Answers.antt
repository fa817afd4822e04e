use Rattle.std.proofs.Common.{◌<◌, length, refl, arith}
use Rattle.go_types.specs.Tables.{rights_of}
use Rattle.go_typed.specs.Views.{sort_seen}
use Rattle.go_stmts_defs.specs.Rules.{each, case_failing}
use Rattle.go_exprs_calls.proofs.Public.{known_step, fault_step}
use Rattle.go_stmts_rules.proofs.branches.cases_fault.Goals as goal

pub loop-value-preserved : goal.loop-value-preserved
loop-value-preserved c =
    let t = c.args.types.now in
    let ns = c.args.values.now in
    let i = c.loop-value.value-index in
    let n = c.value-item.result in
    let lt : i < length ns = omega arith in
    let rule = case_failing (rights_of t) (sort_seen t c.args.tag.now) in
    record {
      known = (known_step t ns i n lt c.value-item.is (length t.shapes) c.loop-value.invariant.known).1;
      found = fault_step rule (each rule) (λ x xs. refl) t ns i n c.loop-value.first c.in_ok-case.field-0 c.earlier-first.result _ lt c.value-item.is c.loop-value.invariant.found c.in_ok-case.ensures c.earlier-first.ensures;
    }
