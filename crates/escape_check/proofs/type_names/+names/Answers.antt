use Rattle.std.proofs.Common.{map, rules, ap, sym}
use Rattle.std.proofs.lemmas.Result.{on_ok_weaker}
use Rattle.std.specs.List.{list_any}
use Rattle.escape_check.specs.Collecting.{names_collected, names_of_type, names_of_types}
use Rattle.escape_check.proofs.Collecting.{any_of_function, names_of_struct, one_added, second_below, two_added}
use Rattle.escape_check.proofs.type_names.+names.Goals as goal

pub push_shape-push_types-requires-in-Func : goal.push_shape-push_types-requires-in-Func
push_shape-push_types-requires-in-Func t c =
    (search rules, (search rules, (second_below c.args.of c.as_slice-in-Func.result.now c.as_slice-in-Func-2.result.now (search rules), search rules)))

pub push_shape-returns-in-Struct-clause-names : goal.push_shape-returns-in-Struct-clause-names
push_shape-returns-in-Struct-clause-names t c test =
    let p = c.args.checked.now in
    let fs = c.as_slice.result.now in
    on_ok_weaker c.push_fields.result
    (λ e. one_added (list_any test (names_collected c.args.collected.now)) (list_any test (names_collected c.push_fields.new.collected))
    (list_any test (names_of_types p (map (λ f. f.ty) fs))) (list_any test (names_of_type p c.args.of)) e
    (sym (ap (list_any test) (names_of_struct p c.args.of fs (search rules)))))
    (c.push_fields.ensures.names test)

pub push_shape-returns-in_ok-push_types-in-Func-clause-names : goal.push_shape-returns-in_ok-push_types-in-Func-clause-names
push_shape-returns-in_ok-push_types-in-Func-clause-names t c test =
    let p = c.args.checked.now in
    let ps = c.as_slice-in-Func.result.now in
    let rs = c.as_slice-in-Func-2.result.now in
    let own = list_any test (names_of_type p c.args.of) in
    let x = list_any test (names_of_types p ps) in
    let y = list_any test (names_of_types p rs) in
    on_ok_weaker c.push_types-in-Func.result
    (λ e. two_added (list_any test (names_collected c.args.collected.now)) (list_any test (names_collected c.push_types.new.collected))
    (list_any test (names_collected c.push_types-in-Func.new.collected)) x y own (c.in_ok-push_types-in-Func.ensures.names test) e
    (any_of_function p c.args.of ps rs test (search rules)))
    (c.push_types-in-Func.ensures.names test)
