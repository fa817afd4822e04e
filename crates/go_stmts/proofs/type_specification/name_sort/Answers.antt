use Rattle.std.proofs.Common.{subst}
use Rattle.go_stmts.specs.Types.{AreNamed}
use Rattle.go_stmts.proofs.Named.{sort_of_named, sort_of_blank}
use Rattle.go_stmts.proofs.type_specification.name_sort.Goals as goal

pub returns-in-Some-clause-tree : goal.returns-in-Some-clause-tree
returns-in-Some-clause-tree c = λ m h. sort_of_named c.args.types.now c.in-Some.of m (subst (λ i. AreNamed c.args.types.now i m) c.in-Some.is h)

pub returns-in-None-clause-tree : goal.returns-in-None-clause-tree
returns-in-None-clause-tree c = λ m h. sort_of_blank c.args.types.now m (subst (λ i. AreNamed c.args.types.now i m) c.in-None.is h)
