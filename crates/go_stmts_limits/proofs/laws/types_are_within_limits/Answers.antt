use Rattle.go_stmts_limits.proofs.Functions.{function_within}
use Rattle.go_stmts_limits.proofs.laws.types_are_within_limits.Goals as goal

pub returns : goal.returns
returns c limit s number locals types t f a b e = function_within limit (λ rights u n h. (c.functions_are_the_relations.ensures.scalars rights u n).1 h) s a number locals types t f b e
