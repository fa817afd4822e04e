use Rattle.std.proofs.Common.{◌≡◌, ◌++◌, drop}
use Rattle.go_tree.specs.Lists.{functions, seen}
use Rattle.go_tree.specs.Views.{views}
use Rattle.go_tree.proofs.functions.Functions.among.Given as goal

abbrev pub invariant-loop-declaration : goal.invariant-loop-declaration
invariant-loop-declaration l = functions (views l.declarations) ≡ seen l.nodes.items ++ functions (views (drop l.declaration-index l.declarations))
