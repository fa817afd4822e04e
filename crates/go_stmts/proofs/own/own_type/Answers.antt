use Rattle.std.proofs.Common.{Some, sym, subst}
use Rattle.go_package_defs.specs.Knowledge.{is_type}
use Rattle.go_stmts.specs.Bodies.{IsOwn}
use Rattle.go_stmts.proofs.OwnTypes.{next_type}
use Rattle.go_stmts.proofs.own.own_type.Goals as goal

pub returns-in_ok-of-in-Type-clause-own : goal.returns-in_ok-of-in-Type-clause-own
returns-in_ok-of-in-Type-clause-own c =
    let old = c.args.types.now in
    let new = c.declare.new.self in
    subst (λ e. IsOwn old new (is_type e) (Some c.in_ok-of-in-Type.of)) (sym c.in-Type.is) (next_type old new c.in_ok-of-in-Type.of c.count.ensures.table c.count-in-Type.ensures.table c.in_ok-of-in-Type.ensures.answer)
