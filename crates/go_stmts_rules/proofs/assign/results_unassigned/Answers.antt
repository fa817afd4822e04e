use Rattle.std.proofs.Common.{◌+◌, ◌<◌, ◌≤◌, min, None, length, drop, get_or, refl, subst, ◌∙◌, length-drop, arith}
use Rattle.std.proofs.lemmas.List.{drop_more, length-map}
use Rattle.std.specs.List.{AllByRecursion}
use Rattle.std.specs.Option.{option_map}
use Rattle.go_types.specs.Tables.{type_of, rights_of}
use Rattle.go_typed.specs.Views.{seen}
use Rattle.go_stmts_defs.specs.Assigning.{result_unassigned, results_unassigned}
use Rattle.go_exprs_calls.proofs.Public.{mapped_step}
use Rattle.go_stmts_rules.specs.Seen.{wanted_seen, KnownWanted, types_seen}
use Rattle.go_stmts_rules.proofs.Loops.{both_step, both_end, rows_ended}
use Rattle.go_stmts_rules.proofs.assign.results_unassigned.Goals as goal

pub loop-number-preserved : goal.loop-number-preserved
loop-number-preserved c =
    let t = c.args.types.now in
    let k = length t.shapes in
    let rights = rights_of t in
    let x = seen t c.args.call.now in
    let rs = c.args.results.now in
    let ws = c.args.wanted.now in
    let i = c.loop-number.number in
    let lt : i < length rs = omega arith in
    let within : i < length ws = omega arith in
    record {
      wanted = (subst (AllByRecursion (KnownWanted k)) (drop_more ws i None within) c.loop-number.invariant.wanted).1;
      results = (subst (AllByRecursion (λ j. j < k)) (drop_more rs i 0 lt) c.loop-number.invariant.results).1;
      found = both_step (result_unassigned rights x) (results_unassigned rights x) (λ y z ys zs. refl) (wanted_seen t (drop i ws)) (wanted_seen t (drop (i + 1) ws)) (types_seen t (drop i rs)) (types_seen t (drop (i + 1) rs)) (option_map (type_of t.shapes) (get_or ws i None)) (type_of t.shapes (get_or rs i 0)) c.loop-number.first c.result_unassigned.result c.earlier-first.result _
          (mapped_step (option_map (type_of t.shapes)) ws i None within) (mapped_step (type_of t.shapes) rs i 0 lt) c.loop-number.invariant.found c.result_unassigned.ensures c.earlier-first.ensures;
    }

pub returns : goal.returns
returns c =
    let t = c.args.types.now in
    let rights = rights_of t in
    let x = seen t c.args.call.now in
    let rs = c.args.results.now in
    let ws = c.args.wanted.now in
    let i = c.loop-number.number in
    let out : min (length ws) (length rs) ≤ i = omega arith in
    let a = length-map (drop i ws) (option_map (type_of t.shapes)) ∙ length-drop i ws in
    let b = length-map (drop i rs) (type_of t.shapes) ∙ length-drop i rs in
    both_end (results_unassigned rights x (wanted_seen t (drop i ws)) (types_seen t (drop i rs))) c.loop-number.first _ (rows_ended (results_unassigned rights x) (λ ys. refl) (λ y ys. refl) (wanted_seen t (drop i ws)) (types_seen t (drop i rs)) (omega (arith, a, b, out))) c.loop-number.invariant.found
