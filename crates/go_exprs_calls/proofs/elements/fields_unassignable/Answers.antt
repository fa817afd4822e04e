use Rattle.std.proofs.Common.{ℕ, ◌+◌, ◌<◌, length, drop, get_or, map, arith}
use Rattle.go_types.specs.declared.shape.Field.{Field}
use Rattle.go_types.specs.Trees.{TypeTree}
use Rattle.go_types.specs.Tables.{type_of, rights_of}
use Rattle.go_exprs_calls.proofs.Lists.{mapped_step, known_within}
use Rattle.go_exprs_calls.proofs.Steps.{known_step, zip_step}
use Rattle.go_exprs_calls.proofs.elements.fields_unassignable.Goals as goal

pub unassignable-requires-clause-to : goal.unassignable-requires-clause-to
unassignable-requires-clause-to c =
    let k = length c.args.types.now.shapes in
    let within : c.loop-number.number < length c.args.fields.now = omega arith in
    known_within (λ (n : ℕ). n < k) (λ (x : Field). x.ty) c.args.fields.now c.loop-number.number c.index-fields-number.result within c.requires.fields

pub loop-number-preserved : goal.loop-number-preserved
loop-number-preserved c =
    let t = c.args.types.now in
    let ns = c.args.nodes.now in
    let i = c.loop-number.number in
    let n = c.index-nodes-number.result in
    let fs = c.args.fields.now in
    let d = c.index-fields-number.result in
    let f : Field → TypeTree = λ x. type_of t.shapes x.ty in
    let lt : i < length ns = omega arith in
    let within : i < length fs = omega arith in
    record {
      known = (known_step t ns i n lt c.index-nodes-number.is (length t.shapes) c.loop-number.invariant.known).1;
      found = zip_step (rights_of t) t ns i n lt c.index-nodes-number.is (map f (drop i fs)) (map f (drop (i + 1) fs)) (f (get_or fs i d)) c.loop-number.first c.unassignable.result c.earlier-first.result _ (mapped_step f fs i d within) c.loop-number.invariant.found c.unassignable.ensures c.earlier-first.ensures;
    }
