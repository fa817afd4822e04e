-- What a function tells of names by itself.
use Rattle.std.specs.Prelude.{◌≡◌, ℕ, List, map}
use Rattle.go_grammar.specs.Trees.{first}
use Rattle.go_tree.specs.declared.event.Event.{Event}
use Rattle.go_tree.specs.Contexts.{file_context}
use Rattle.go_tree.specs.Events as trees
use Rattle.go_scopes_events.specs.Moved.{moved_event}
use Rattle.go_heads.specs.Functions.{Function, Alone, function_alone}

-- what the tree of a function has to do with names, with its tokens counted from the first one
abbrev pub function_events : Alone → List Event
function_events a = trees.events (file_context 0) a.tree

-- In a file, wherever that ends, the function has to do with names what it has by itself, so many tokens further on.
pub record TellsByItself (f : Function) : Type 0 where
  pub events : (end : ℕ) → trees.events (file_context end) f.tree ≡ map (moved_event (first f.tree)) (function_events (function_alone f))
