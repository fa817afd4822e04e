use Rattle.std.proofs.Common.{length, map, nat_eq, ap, sym, ◌∙◌}
use Rattle.std.specs.Option.{option_map}
use Rattle.go_types.specs.Tables.{type_of}
use Rattle.go_exprs_calls.proofs.Public.{length-mapped}
use Rattle.go_stmts_rules.proofs.assign.are_as_many_results.Goals as goal

pub returns : goal.returns
returns c =
    let t = c.args.types.now in
    let ws = c.args.wanted.now in
    let rs = c.args.results.now in
    sym (ap (λ n. nat_eq n (length (map (type_of t.shapes) rs))) (length-mapped (option_map (type_of t.shapes)) ws) ∙ ap (λ m. nat_eq (length ws) m) (length-mapped (type_of t.shapes) rs))
