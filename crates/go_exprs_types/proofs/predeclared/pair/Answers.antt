use Rattle.go_exprs_types.specs.Types.{basic_tree}
use Rattle.go_exprs_types.proofs.Growing.{kept}
use Rattle.go_exprs_types.proofs.predeclared.pair.Goals as goal

pub returns-clause-are : goal.returns-clause-are
returns-clause-are c = (kept c.basic.new.types c.basic-2.new.types c.in_ok-first.ensures.grows.table c.in_ok-second.ensures.grows c.in_ok-first.first (basic_tree c.args.one) c.in_ok-first.ensures.is, c.in_ok-second.ensures.is)
