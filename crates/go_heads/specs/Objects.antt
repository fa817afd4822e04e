-- The objects of packages with equal heads.
use Rattle.std.specs.Prelude.{◌≡◌, ℕ, List, [], length, map, Option, Some, None, slice_get}
use Rattle.go_grammar.specs.declared.kind.Kind.TheVariants as kind
use Rattle.go_grammar.specs.Trees.{node, none, parts}
use Rattle.go_tree.specs.declared.object.Declared.{Declared}
use Rattle.go_tree.specs.Units as names
use Rattle.go_tree.specs.Units.{word}
use Rattle.go_tree.specs.Uses.{uses}
use Rattle.go_typed.specs.Packages.{referents}
use Rattle.go_heads.specs.Heads.{File, in_bodies, place_outside}
use Rattle.go_heads.specs.Told.{file_events}

-- the files as names see them
abbrev pub unit_of : File → names.Unit
unit_of f = record { tokens = f.tokens; events = file_events f }

abbrev pub units_of : List File → List names.Unit
units_of fs = map unit_of fs

-- the objects of a package by their numbers (Go specification: Blocks, Declarations and scope)
abbrev pub package_objects : List File → List Declared
package_objects fs = (uses (units_of fs)).package_level

-- the file of a number
abbrev pub no_file : File
no_file = record { name = []; tokens = record { file = 0; text = []; tokens = []; comments = [] }; tree = node kind.File 0 0 none }

abbrev pub file_there : Option File → File
file_there None = no_file
file_there (Some f) = f

abbrev pub file_in : List File → ℕ → File
file_in fs n = file_there (slice_get fs n)

-- the text of a token of a file, and its place in the head of the file
abbrev pub text_at : List File → ℕ → ℕ → List ℕ
text_at fs n t = word (file_in fs n).tokens t

abbrev pub head_place : List File → ℕ → ℕ → ℕ
head_place fs n t = place_outside (in_bodies (parts (file_in fs n).tree)) t

-- Objects of two packages are declared at one place of the heads: as the same, by names with the same text.
pub record SameObject (old new : List File) (x y : Declared) : Type 0 where
  pub file : y.file ≡ x.file
  pub place : head_place new y.file y.name ≡ head_place old x.file x.name
  pub text : text_at new y.file y.name ≡ text_at old x.file x.name
  pub entity : y.entity ≡ x.entity

-- The objects are as many, those of one number are the same, and they have the same numbers by sort.
pub record KeepsObjects (old new : List File) : Type 0 where
  pub count : length (package_objects new) ≡ length (package_objects old)
  pub objects : (n : ℕ) (x y : Declared) → slice_get (package_objects old) n ≡ Some x → slice_get (package_objects new) n ≡ Some y → SameObject old new x y
  pub referents : referents (package_objects new) ≡ referents (package_objects old)
