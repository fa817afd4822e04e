use Rattle.std.proofs.Common.{◌∙◌, ◌≢◌, ◌-◌, length, sym, arith}
use Rattle.std.proofs.lemmas.Bool.{eqb-false}
use Rattle.escape_check.proofs.Sparing.{last_ordered}
use Rattle.escape_check.proofs.keeping.last_in_order.Goals as goal

pub returns-clause-part : goal.returns-clause-part
returns-clause-part c = λ g leaves.
    let ns = c.args.parts.now in
    let some : length ns ≢ 0 = eqb-false (length ns) 0 (sym c.is_empty.ensures ∙ c.if-is_empty.false) in
    last_ordered c.args.types.now g ns (length ns - 1) c.in-Some.last c.index-parts-end.result (omega (arith, some)) c.index-parts-end.is c.in-Some.is (sym c.none_behind.ensures ∙ c.if-not-none_behind.false) leaves
