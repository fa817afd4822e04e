-- Names that are declared more than once (Go specification: Declarations and scope, Short variable declarations).
use Rattle.std.specs.Prelude.{ℕ, Bool, true, false, ◌&&◌, ◌||◌, not, nat_eq, List, [], ◌∷◌, ◌++◌}
use Rattle.go_tokens.specs.Tokens.{TokenList}
use Rattle.go_tokens.specs.Spellings.{same_text}
use Rattle.go_tree.specs.declared.context.Entity.{Entity}
use Rattle.go_tree.specs.declared.context.Entity.TheVariants as entity
use Rattle.go_tree.specs.declared.context.Manner.{Manner}
use Rattle.go_tree.specs.declared.context.Manner.TheVariants as manner
use Rattle.go_tree.specs.declared.event.Event.{Event}
use Rattle.go_tree.specs.declared.event.Event.TheVariants as event
use Rattle.go_tree.specs.Contexts.{is_package}
use Rattle.go_tree.specs.Units.{Unit, Place, is_fmt, bytes_at}
use Rattle.go_tree.specs.Declarations.{Found, found, same_block}
use Rattle.go_tree.specs.Imports.{is_fmt_path, imports_fmt}
use Rattle.go_tree.specs.Failures.{place_if, of_files}

-- No name is declared twice in a block. Parameters are told from one another by another rule.
abbrev pub are_parameters : Entity → Entity → Bool
are_parameters entity.Parameter entity.Parameter = true
are_parameters e f = false

abbrev pub clashes : Found → Found → Bool
clashes d x = same_text d.name x.name && same_block d x && not (are_parameters d.it.entity x.it.entity)

abbrev pub has_clash : Found → List Found → Bool
has_clash d [] = false
has_clash d (x ∷ xs) = clashes d x || has_clash d xs

-- the argument `before` has what is declared before the declarations
abbrev pub second_declarations : List Found → List Found → List Place
second_declarations before [] = []
second_declarations before (d ∷ ds) = place_if (has_clash d before) d.place (second_declarations (before ++ d ∷ []) ds)

-- whether a file imports fmt
abbrev pub has_import : List Unit → Bool
has_import [] = false
has_import (u ∷ us) = imports_fmt u.tokens u.events || has_import us

-- No name stands in a file's block and in that of the package.
abbrev pub hidden_imports : Bool → List Found → List Place
hidden_imports imported [] = []
hidden_imports imported (d ∷ ds) = place_if (imported && is_package d.it.block && is_fmt d.name) d.place (hidden_imports imported ds)

-- A file imports fmt once; b says whether it is imported already.
abbrev pub second_imports : Bool → ℕ → TokenList → List Event → List Place
second_imports b n ts [] = []
second_imports b n ts (event.Import p ∷ es) = place_if (b && is_fmt_path ts p) (bytes_at n ts p) (second_imports (b || is_fmt_path ts p) n ts es)
second_imports b n ts (e ∷ es) = second_imports b n ts es

-- One name at least before `:=` is new.
abbrev pub is_by_define : Manner → Bool
is_by_define manner.Declared = false
is_by_define m = true

abbrev pub same_statement : Found → Found → Bool
same_statement d x = nat_eq d.file x.file && nat_eq d.it.statement x.it.statement && is_by_define x.it.manner

abbrev pub has_new : Found → List Found → Bool
has_new d [] = false
has_new d (x ∷ xs) = same_statement d x || has_new d xs

-- the arguments are the declarations, and the names to look at
abbrev pub none_new : List Found → List Found → List Place
none_new ds [] = []
none_new ds (x ∷ xs) = place_if (is_by_define x.it.manner && nat_eq x.it.column 0 && not (has_new x ds)) x.place (none_new ds xs)

-- the places of all these; ds are the declarations of the package
abbrev pub redeclared : List Unit → List Found → List Place
redeclared us ds = second_declarations [] ds ++ hidden_imports (has_import us) ds ++ of_files (second_imports false) 0 us ++ none_new ds (found us)
