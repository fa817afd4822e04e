use Rattle.std.proofs.Common.{◌<◌, length, refl, arith}
use Rattle.go_types.specs.Tables.{rights_of}
use Rattle.go_stmts_defs.specs.Rules.{each, not_a_target}
use Rattle.go_exprs_calls.proofs.Public.{known_step, fault_step}
use Rattle.go_stmts_rules.proofs.targets.targets_fault.Goals as goal

pub loop-target-preserved : goal.loop-target-preserved
loop-target-preserved c =
    let t = c.args.types.now in
    let ns = c.args.targets.now in
    let i = c.loop-target.target-index in
    let n = c.target-item.result in
    let lt : i < length ns = omega arith in
    record {
      known = (known_step t ns i n lt c.target-item.is (length t.shapes) c.loop-target.invariant.known).1;
      found = fault_step (not_a_target (rights_of t)) (each (not_a_target (rights_of t))) (λ x xs. refl) t ns i n c.loop-target.first c.not_a_target.result c.earlier-first.result _ lt c.target-item.is c.loop-target.invariant.found c.not_a_target.ensures c.earlier-first.ensures;
    }
