use Rattle.std.proofs.Common.{ℕ, ◌<◌, length, sym, subst}
use Rattle.std.specs.List.{AllByRecursion}
use Rattle.go_types.specs.Tables.{HasPartsBelow}
use Rattle.go_exprs_calls.proofs.Public.{back_known}
use Rattle.go_declarations.proofs.assigning.result_row.Goals as goal

pub returns-in-Some-Func-clause-known : goal.returns-in-Some-Func-clause-known
returns-in-Some-Func-clause-known c =
    let k = length c.args.types.now.shapes in
    let P : ℕ → Type 0 = λ n. n < k in
    subst (AllByRecursion P) (sym c.as_slice.ensures) (back_known P c.in-Some-Func.field-0-0 c.in-Some-Func.results (subst (HasPartsBelow k) c.in-Some-Func.field-0-is c.in-Some-Func.ensures.parts))
