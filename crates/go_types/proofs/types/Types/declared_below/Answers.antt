use Rattle.std.proofs.Common.{◌∙◌, sym, arith}
use Rattle.go_types.proofs.Countings.{undeclared_passed}
use Rattle.go_types.proofs.types.Types.declared_below.Goals as goal

pub loop-i-preserved : goal.loop-i-preserved
loop-i-preserved c =
    let size = c.count-i-end.ensures.count in
    undeclared_passed c.args.self.now.shapes c.loop-i.i (omega arith) (sym c.in_default.ensures) ∙ c.loop-i.invariant
