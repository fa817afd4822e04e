use Rattle.std.proofs.Common.{◌+◌, ◌<◌, ◌≤◌, min, None, length, drop, get_or, refl, subst, ◌∙◌, length-drop, arith}
use Rattle.std.proofs.lemmas.List.{drop_more, length-map}
use Rattle.std.specs.List.{AllByRecursion}
use Rattle.std.specs.Option.{option_map}
use Rattle.go_types.specs.Tables.{type_of, rights_of}
use Rattle.go_typed.specs.Views.{seen}
use Rattle.go_stmts_defs.specs.Assigning.{unassigned, all_unassigned}
use Rattle.go_exprs_calls.specs.Shown.{shown}
use Rattle.go_exprs_calls.proofs.Public.{length-shown, mapped_step, known_step, shown_step}
use Rattle.go_stmts_rules.specs.Seen.{wanted_seen, KnownWanted}
use Rattle.go_stmts_rules.proofs.Loops.{both_step, both_end, rows_ended}
use Rattle.go_stmts_rules.proofs.assign.all_unassigned.Goals as goal

pub loop-number-preserved : goal.loop-number-preserved
loop-number-preserved c =
    let t = c.args.types.now in
    let k = length t.shapes in
    let rights = rights_of t in
    let ns = c.args.values.now in
    let ws = c.args.wanted.now in
    let i = c.loop-number.number in
    let n = c.index-values-number.result in
    let lt : i < length ns = omega arith in
    let within : i < length ws = omega arith in
    record {
      wanted = (subst (AllByRecursion (KnownWanted k)) (drop_more ws i None within) c.loop-number.invariant.wanted).1;
      values = (known_step t ns i n lt c.index-values-number.is k c.loop-number.invariant.values).1;
      found = both_step (unassigned rights) (all_unassigned rights) (λ x y xs ys. refl) (wanted_seen t (drop i ws)) (wanted_seen t (drop (i + 1) ws)) (shown t (drop i ns)) (shown t (drop (i + 1) ns)) (option_map (type_of t.shapes) (get_or ws i None)) (seen t n.now) c.loop-number.first c.unassigned.result c.earlier-first.result _
          (mapped_step (option_map (type_of t.shapes)) ws i None within) (shown_step t ns i n lt c.index-values-number.is) c.loop-number.invariant.found c.unassigned.ensures c.earlier-first.ensures;
    }

pub returns : goal.returns
returns c =
    let t = c.args.types.now in
    let rights = rights_of t in
    let ns = c.args.values.now in
    let ws = c.args.wanted.now in
    let i = c.loop-number.number in
    let out : min (length ws) (length ns) ≤ i = omega arith in
    let a = length-map (drop i ws) (option_map (type_of t.shapes)) ∙ length-drop i ws in
    let b = length-shown t (drop i ns) ∙ length-drop i ns in
    both_end (all_unassigned rights (wanted_seen t (drop i ws)) (shown t (drop i ns))) c.loop-number.first _ (rows_ended (all_unassigned rights) (λ ys. refl) (λ x xs. refl) (wanted_seen t (drop i ws)) (shown t (drop i ns)) (omega (arith, a, b, out))) c.loop-number.invariant.found
