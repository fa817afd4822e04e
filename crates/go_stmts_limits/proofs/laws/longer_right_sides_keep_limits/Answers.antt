use Rattle.go_stmts_limits.proofs.Arrays.{AreTold}
use Rattle.go_stmts_limits.proofs.Longer.{stays_within}
use Rattle.go_stmts_limits.proofs.laws.longer_right_sides_keep_limits.Goals as goal

pub returns : goal.returns
returns c limit s t judged front counted w =
    let tells : AreTold = λ rights u n h. (c.functions_are_the_relations.ensures.scalars rights u n).1 h in stays_within tells limit s judged front t counted w
