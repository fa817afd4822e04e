use Rattle.std.proofs.Common.{◌∙◌, Option, map, sym, ap, arith}
use Rattle.std.specs.Borrow.{Bor}
use Rattle.std.specs.Option.{option_map}
use Rattle.go_types.specs.Trees.{TypeTree}
use Rattle.go_typed.specs.declared.node.TypedNode.{TypedNode}
use Rattle.go_typed.specs.Trees.{Typed}
use Rattle.go_typed.specs.Views.{seen}
use Rattle.go_stmts_defs.specs.Rows.{part_ends}
use Rattle.escape_check.specs.Called.{called, staying}
use Rattle.escape_check.proofs.Called.{ends_last}
use Rattle.escape_check.proofs.Parts.{one_within}
use Rattle.escape_check.proofs.ends.+endings.Goals as goal

pub all_end-part_ends-requires : goal.all_end-part_ends-requires
all_end-part_ends-requires t c =
    let ns = c.args.clauses.now in
    let i = c.loop-clause.clause-index in
    let x = c.clause-item.result in
    let low = one_within ns i x x c.loop-clause-test.true c.clause-item.is in
    (omega (arith, low, c.decreases), tt)

pub last_ends-returns-in-Some : goal.last_ends-returns-in-Some
last_ends-returns-in-Some t c =
    let g = c.args.gap in
    let table = c.args.types.now in
    c.terminates.ensures
    ∙ sym (ends_last g (staying g 0 (map (option_map (seen table)) c.args.parts.now))
    ∙ ap (λ (o : Option (Typed TypeTree)). part_ends (option_map (called g) o)) (sym c.last_part.ensures.part ∙ ap (option_map (λ (n : Bor TypedNode). seen table n.now)) c.in-Some.is))

pub last_ends-returns-in-None : goal.last_ends-returns-in-None
last_ends-returns-in-None t c =
    let g = c.args.gap in
    let table = c.args.types.now in
    sym (ends_last g (staying g 0 (map (option_map (seen table)) c.args.parts.now))
    ∙ ap (λ (o : Option (Typed TypeTree)). part_ends (option_map (called g) o)) (sym c.last_part.ensures.part ∙ ap (option_map (λ (n : Bor TypedNode). seen table n.now)) c.in-None.is))
