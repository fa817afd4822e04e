-- A package as its declarations and bodies are judged: its files with their trees, and what its names mean.
use Rattle.std.specs.Prelude.{ℕ, ◌+◌, Bool, ◌&&◌, if◌then◌else◌, nat_eq, List, [], ◌∷◌, length, map, Option, Some, None, slice_get}
use Rattle.std.specs.Str.{chars}
use Rattle.go_grammar.specs.Trees.{Tree, last}
use Rattle.go_tokens.specs.Tokens.{TokenList}
use Rattle.go_tree.specs.declared.object.Object.{Object}
use Rattle.go_tree.specs.declared.object.Object.TheVariants as object
use Rattle.go_tree.specs.Contexts.{file_context}
use Rattle.go_tree.specs.Declarations.{Found, found}
use Rattle.go_tree.specs.Events.{events}
use Rattle.go_tree.specs.File.{FileTree}
use Rattle.go_tree.specs.Lookups.{Asked, asked_from}
use Rattle.go_tree.specs.Meanings.{meanings}
use Rattle.go_tree.specs.Needs.{Needed, needs, with_all, all_needed}
use Rattle.go_tree.specs.Units as names
use Rattle.go_tree.specs.Units.{word}
use Rattle.go_tree.specs.Uses.{UsesView, object_of}
use Rattle.go_tree.specs.Views.{view}

-- a file: its tokens, and the tree over them
pub record Source : Type 0 where
  pub tokens : TokenList
  pub tree : Tree

abbrev pub source_of : FileTree → Source
source_of f = record { tokens = f.tokens; tree = view f.root }

-- the file as names see it
abbrev pub unit_of : Source → names.Unit
unit_of s = record { tokens = s.tokens; events = events (file_context (last s.tree)) s.tree }

-- The files, what their names mean, the names that they declare, with those before each `:=`, and those that are looked up
pub record Package : Type 0 where
  pub sources : List Source
  pub uses : UsesView
  pub declared : List Found
  pub asked : List Asked

abbrev pub package_by : List Source → UsesView → List names.Unit → Package
package_by ss u us = record { sources = ss; uses = u; declared = found us; asked = asked_from (meanings us) 0 us }

abbrev pub package_of : List Source → UsesView → Package
package_of ss u = package_by ss u (map unit_of ss)

-- ---- tokens

abbrev pub no_tokens : TokenList
no_tokens = record { file = 0; text = []; tokens = []; comments = [] }

abbrev pub tokens_there : Option Source → TokenList
tokens_there None = no_tokens
tokens_there (Some s) = s.tokens

abbrev pub tokens_in : Package → ℕ → TokenList
tokens_in p n = tokens_there (slice_get p.sources n)

-- the bytes of a token of a file, and the characters that these are
abbrev pub text_at : Package → ℕ → ℕ → List ℕ
text_at p n t = word (tokens_in p n) t

abbrev pub characters_at : Package → ℕ → ℕ → List ℕ
characters_at p n t = chars (text_at p n t)

-- ---- objects of the package

abbrev pub number_in : Option Object → Option ℕ
number_in (Some (object.Package n)) = Some n
number_in o = None

-- the number of the object of the package that a token of a file names, if it does
abbrev pub number_at : Package → ℕ → ℕ → Option ℕ
number_at p n t = number_in (object_of p.uses n t)

abbrev pub number_before : Option ℕ → List ℕ → List ℕ
number_before (Some n) ns = n ∷ ns
number_before None ns = ns

abbrev pub needed_numbers : Package → List Needed → List ℕ
needed_numbers p [] = []
needed_numbers p (x ∷ xs) = number_before (number_at p x.it.file x.it.it.name) (needed_numbers p xs)

-- Each object is needed in one of two ways, so no way from one to another is longer.
abbrev pub rounds : Package → ℕ
rounds p = length p.uses.package_level + length p.uses.package_level

-- the objects that a declaration needs, at once or through others
abbrev pub needed_by : Package → Needed → List ℕ
needed_by p x = needed_numbers p (all_needed p.asked (rounds p) (with_all (needs p.asked x) []))

abbrev pub is_at : ℕ → ℕ → Found → Bool
is_at n t d = nat_eq d.file n && nat_eq d.it.name t

-- the declaration of the name at a token
abbrev pub declared_at : ℕ → ℕ → List Found → Option Found
declared_at n t [] = None
declared_at n t (d ∷ ds) = if is_at n t d then Some d else declared_at n t ds

abbrev pub needed_from : Package → ℕ → Bool → Option Found → List ℕ
needed_from p column full None = []
needed_from p column full (Some d) = needed_by p (record { it = record d { it = record (d.it) { column = column } }; full = full })

-- what the name at a token needs where its specification's value of this number is its own
abbrev pub needed_at : Package → ℕ → ℕ → ℕ → Bool → List ℕ
needed_at p n t column full = needed_from p column full (declared_at n t p.declared)
