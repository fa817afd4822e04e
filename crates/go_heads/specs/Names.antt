-- The names that a function declares by itself (Go specification: Declarations and scope, Short variable declarations).
use Rattle.std.specs.Prelude.{◌≡◌, ℕ, ◌+◌, List, [], ◌∷◌, map, Option, Some, None, slice_get}
use Rattle.go_grammar.specs.Trees.{Tree, first, last}
use Rattle.go_tokens.specs.Tokens.{TokenList}
use Rattle.go_tree.specs.declared.event.Event.{Event}
use Rattle.go_tree.specs.declared.event.Event.TheVariants as event
use Rattle.go_tree.specs.Contexts.{file_context}
use Rattle.go_tree.specs.Declarations.{Found, found, found_in, new_among}
use Rattle.go_tree.specs.Events.{events}
use Rattle.go_tree.specs.Units.{Place, bytes_at}
use Rattle.go_scopes_events.specs.Moved.{moved_declaration}
use Rattle.go_heads.specs.Functions.{Alone, alone}
use Rattle.go_heads.specs.Heads.{File}
use Rattle.go_heads.specs.Objects.{units_of}
use Rattle.go_heads.specs.Bodies.{function_events}

abbrev pub text_there : Option (List ℕ) → List ℕ
text_there None = []
text_there (Some w) = w

-- the text of a token of a function by itself
abbrev pub own_text : Alone → ℕ → List ℕ
own_text a t = text_there (slice_get a.texts t)

abbrev pub no_place : Place
no_place = record { file = 0; start = 0; end = 0 }

-- the names that are declared, where tokens have these texts
abbrev pub found_by : (ℕ → List ℕ) → List Event → List Found
found_by w [] = []
found_by w (event.Declaration d ∷ es) = record { file = 0; name = w d.name; place = no_place; it = d } ∷ found_by w es
found_by w (e ∷ es) = found_by w es

-- the names of a function, with those before each `:=`
abbrev pub own_names : Alone → List Found
own_names a = found_by (own_text a) (function_events a)

-- what it declares by itself: its own name, and its locals in order
abbrev pub own_declarations : Alone → List Found
own_declarations a = new_among (own_names a) (own_names a)

-- a declaration in a file, so many tokens further on
abbrev pub in_file : ℕ → TokenList → ℕ → Found → Found
in_file n l b d = record { file = n; name = d.name; place = bytes_at n l (b + d.it.name); it = moved_declaration b d.it }

-- Of the names of a function of the file n, those that the package declares are what the function declares by itself.
pub record DeclaresByItself (fs : List File) (n : ℕ) (f : File) (t : Tree) : Type 0 where
  pub declared : new_among (found (units_of fs)) (found_in n f.tokens (events (file_context (last f.tree)) t)) ≡ map (in_file n f.tokens (first t)) (own_declarations (alone f.tokens t))
