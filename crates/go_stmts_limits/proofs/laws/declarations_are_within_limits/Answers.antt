use Rattle.std.proofs.Common.{subst}
use Rattle.go_stmts_limits.proofs.Within.{MaybeWithin}
use Rattle.go_stmts_limits.proofs.Arrays.{AreTold}
use Rattle.go_stmts_limits.proofs.Functions.{judges}
use Rattle.go_stmts_limits.proofs.Declared.{type_within, declared_within}
use Rattle.go_stmts_limits.proofs.laws.declarations_are_within_limits.Goals as goal

pub returns : goal.returns
returns c =
    let tells : AreTold = λ rights u n h. (c.functions_are_the_relations.ensures.scalars rights u n).1 h in
    record {
      own_type = λ limit s d t a e. subst (MaybeWithin limit) e (type_within limit s (judges limit tells s a) d);
      stands = λ limit s d column fs a. declared_within limit s (judges limit tells s a) d column fs;
    }
