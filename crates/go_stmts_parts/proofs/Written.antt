-- What lists of expressions are told.
use Rattle.std.proofs.Common.{◌≡◌, suc, List, [], ◌∷◌, Option, Some, None, length, cond, refl, ap}
use Rattle.std.specs.Prelude.{nat_lt}
use Rattle.go_grammar.specs.Grammar.{count}
use Rattle.go_tree.specs.declared.node.Node.{Node}
use Rattle.go_tree.specs.Views.{views}

pub count_views : (ns : List (Option Node)) → count (views ns) ≡ length ns
count_views [] = refl
count_views (None ∷ ns) = ap suc (count_views ns)
count_views (Some n ∷ ns) = ap suc (count_views ns)
