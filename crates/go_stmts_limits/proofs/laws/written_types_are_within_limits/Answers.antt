use Rattle.go_stmts_limits.proofs.Arrays.{AreTold, counts_stay}
use Rattle.go_stmts_limits.proofs.Frames.{front_has}
use Rattle.go_stmts_limits.proofs.Written.{written_within}
use Rattle.go_stmts_limits.proofs.laws.written_types_are_within_limits.Goals as goal

pub returns : goal.returns
returns c limit s h t a w =
    let tells : AreTold = λ rights u n g. (c.functions_are_the_relations.ensures.scalars rights u n).1 g in
    written_within limit s a.judged (counts_stay tells limit.rights s.rights (front_has limit.rights s.rights a.front)) a.objects h t w
