use Rattle.std.proofs.Common.{length, nat_eq, ap, sym, ◌∙◌}
use Rattle.go_types.specs.Tables.{type_of}
use Rattle.go_exprs_calls.specs.Shown.{shown}
use Rattle.go_exprs_calls.proofs.Public.{length-shown, length-mapped}
use Rattle.go_stmts_rules.proofs.values.are_as_many.Goals as goal

pub returns : goal.returns
returns c =
    let t = c.args.types.now in
    let rs = c.args.results.now in
    let ns = c.args.values.now in
    sym (ap (λ n. nat_eq n (length (shown t ns))) (length-mapped (type_of t.shapes) rs) ∙ ap (λ m. nat_eq (length rs) m) (length-shown t ns))
