use Rattle.std.proofs.Common.{◌≡◌, drop, map}
use Rattle.go_grammar.specs.Trees.{first}
use Rattle.go_tree.specs.Lists.{functions}
use Rattle.go_tree.specs.Views.{views}
use Rattle.clone_window.specs.Spans.{sought}
use Rattle.clone_window.proofs.span.nth_function.Given as goal

-- what is sought among all is sought among the rest
abbrev pub invariant-loop-declaration : goal.invariant-loop-declaration
invariant-loop-declaration l =
    sought (map first (functions (views l.declarations))) l.number ≡ sought (map first (functions (views (drop l.declaration-index l.declarations)))) l.left
