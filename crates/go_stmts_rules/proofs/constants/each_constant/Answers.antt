use Rattle.std.proofs.Common.{◌<◌, length, refl, arith}
use Rattle.std.specs.Option.{option_map}
use Rattle.go_types.specs.Tables.{type_of, rights_of}
use Rattle.go_stmts_defs.specs.Assigning.{constant_failing, constants_failing}
use Rattle.go_exprs_calls.proofs.Public.{known_step, fault_step}
use Rattle.go_stmts_rules.proofs.constants.each_constant.Goals as goal

pub loop-value-preserved : goal.loop-value-preserved
loop-value-preserved c =
    let t = c.args.types.now in
    let ns = c.args.values.now in
    let i = c.loop-value.value-index in
    let n = c.value-item.result in
    let lt : i < length ns = omega arith in
    record {
      known = (known_step t ns i n lt c.value-item.is (length t.shapes) c.loop-value.invariant.known).1;
      found = fault_step (constant_failing (rights_of t) (option_map (type_of t.shapes) c.args.of)) (constants_failing (rights_of t) (option_map (type_of t.shapes) c.args.of)) (λ x xs. refl) t ns i n c.loop-value.first c.constant_fault.result c.earlier-first.result _ lt c.value-item.is c.loop-value.invariant.found c.constant_fault.ensures c.earlier-first.ensures;
    }
