use Rattle.std.proofs.Common.{ℕ, ◌+◌, ◌<◌, length, drop, get_or, map, arith}
use Rattle.go_types.specs.Trees.{TypeTree}
use Rattle.go_types.specs.Tables.{type_of, rights_of}
use Rattle.go_exprs_calls.proofs.Lists.{mapped_step}
use Rattle.go_exprs_calls.proofs.Steps.{known_step, zip_step}
use Rattle.go_exprs_calls.proofs.values.all_unassignable.Goals as goal

pub loop-number-preserved : goal.loop-number-preserved
loop-number-preserved c =
    let t = c.args.types.now in
    let ns = c.args.nodes.now in
    let i = c.loop-number.number in
    let n = c.index-nodes-number.result in
    let ids = c.args.to.now in
    let f : ℕ → TypeTree = type_of t.shapes in
    let lt : i < length ns = omega arith in
    let within : i < length ids = omega arith in
    record {
      known = (known_step t ns i n lt c.index-nodes-number.is (length t.shapes) c.loop-number.invariant.known).1;
      found = zip_step (rights_of t) t ns i n lt c.index-nodes-number.is (map f (drop i ids)) (map f (drop (i + 1) ids)) (f (get_or ids i 0)) c.loop-number.first c.unassignable.result c.earlier-first.result _ (mapped_step f ids i 0 within) c.loop-number.invariant.found c.unassignable.ensures c.earlier-first.ensures;
    }
