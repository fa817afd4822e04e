use Rattle.std.proofs.Common.{◌≡◌, ◌++◌, drop, map}
use Rattle.go_grammar.specs.Trees.{first}
use Rattle.go_tree.specs.Lists.{functions}
use Rattle.go_tree.specs.Views.{views}
use Rattle.clone_window.specs.Spans.{place_at}
use Rattle.clone_window.proofs.span.push_places.Given as goal

-- the places so far and those of the rest
abbrev pub invariant-loop-declaration : goal.invariant-loop-declaration
invariant-loop-declaration l =
    l.fn.places.items ++ map (place_at l.file) (map first (functions (views l.declarations)))
    ≡ l.places.items ++ map (place_at l.file) (map first (functions (views (drop l.declaration-index l.declarations))))
