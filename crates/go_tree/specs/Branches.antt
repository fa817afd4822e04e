-- Statements that may not stand where they do, and those that are too many.
use Rattle.std.specs.Prelude.{ℕ, List, [], ◌∷◌, drop}
use Rattle.go_tokens.specs.Tokens.{TokenList}
use Rattle.go_tree.specs.declared.event.Event.{Event}
use Rattle.go_tree.specs.declared.event.Event.TheVariants as event
use Rattle.go_tree.specs.Units.{Unit, Place, bytes_of}
use Rattle.go_tree.specs.Failures.{of_files}

-- Break, Continue and Fallthrough statements
abbrev pub misplaced : ℕ → TokenList → List Event → List Place
misplaced n ts [] = []
misplaced n ts (event.Misplaced i j ∷ es) = bytes_of n ts i j ∷ misplaced n ts es
misplaced n ts (e ∷ es) = misplaced n ts es

abbrev pub branches : List Unit → List Place
branches us = of_files misplaced 0 us

-- the statements of all statement lists of a file, in order
abbrev pub statements : ℕ → TokenList → List Event → List Place
statements n ts [] = []
statements n ts (event.Statement i j ∷ es) = bytes_of n ts i j ∷ statements n ts es
statements n ts (e ∷ es) = statements n ts es

abbrev pub first_place : List Place → List Place
first_place [] = []
first_place (s ∷ ss) = s ∷ []

-- The package has at most 65,536: the next one is too many.
abbrev pub limit : List Unit → List Place
limit us = first_place (drop 65536 (of_files statements 0 us))
