-- What the tree of a typed function meets.
use Rattle.std.specs.Prelude.{◌≡◌, ℕ, ◌^◌, ◌<◌, true, List, length, Option}
use Rattle.go_typed.specs.declared.node.TypedNode.{TypedNode}
use Rattle.go_typed.specs.Forms.{is_function}
use Rattle.go_typed.specs.Funcs.{is_tiled, is_whole, size}
use Rattle.go_typed.specs.Trees.{form_of, first_of, last_of}
use Rattle.go_typed.specs.Views.{view}

-- It is a function's over all these tokens.
pub record StandsOver (tokens : List (Option ℕ)) (tree : TypedNode) : Type 0 where
  pub root : is_function (form_of (view tree)) ≡ true
  pub first : first_of (view tree) ≡ 0
  pub last : last_of (view tree) ≡ length tokens
  pub tiles : is_tiled (view tree) ≡ true
  pub whole : is_whole tokens (view tree) ≡ true
  pub nodes : size (view tree) < 2 ^ 32
