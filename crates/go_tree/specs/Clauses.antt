-- Rules on the clauses of a package: names of packages, imports, and declarations outside the profile.
use Rattle.std.specs.Prelude.{ℕ, suc, ◌+◌, Bool, true, false, ◌&&◌, ◌||◌, not, nat_eq, List, [], ◌∷◌, codes}
use Rattle.go_tokens.specs.Tokens.{TokenList}
use Rattle.go_tokens.specs.Spellings.{same_text}
use Rattle.go_tree.specs.declared.context.Entity.{Entity}
use Rattle.go_tree.specs.declared.context.Entity.TheVariants as entity
use Rattle.go_tree.specs.declared.context.Block.{Block}
use Rattle.go_tree.specs.declared.event.Event.{Event}
use Rattle.go_tree.specs.declared.event.Event.TheVariants as event
use Rattle.go_tree.specs.Contexts.{is_package}
use Rattle.go_tree.specs.Units.{Unit, Place, word, is_blank, bytes_at}
use Rattle.go_tree.specs.Declarations.{Found}
use Rattle.go_tree.specs.Imports.{is_fmt_path}
use Rattle.go_tree.specs.Failures.{place_if, of_files}

-- Package clause: the name isn't blank, and that of the first file.
abbrev pub first_name : List Unit → List ℕ
first_name [] = []
first_name (u ∷ us) = word u.tokens 1

abbrev pub other_names : List ℕ → ℕ → List Unit → List Place
other_names w n [] = []
other_names w n (u ∷ us) = place_if (is_blank (word u.tokens 1) || not (same_text (word u.tokens 1) w)) (bytes_at n u.tokens 1) (other_names w (suc n) us)

abbrev pub package_names : List Unit → List Place
package_names us = other_names (first_name us) 0 us

-- Import declarations: no path but that of fmt.
abbrev pub other_imports : ℕ → TokenList → List Event → List Place
other_imports n ts [] = []
other_imports n ts (event.Import p ∷ es) = place_if (not (is_fmt_path ts p)) (bytes_at n ts p) (other_imports n ts es)
other_imports n ts (e ∷ es) = other_imports n ts es

abbrev pub imports : List Unit → List Place
imports us = of_files other_imports 0 us

-- No name `init` of the package, and no function `_`.
abbrev pub is_outside : Entity → Block → List ℕ → Bool
is_outside entity.Function b w = is_blank w || (is_package b && same_text w (codes "init"))
is_outside e b w = is_package b && same_text w (codes "init")

abbrev pub outside_declarations : List Found → List Place
outside_declarations [] = []
outside_declarations (d ∷ ds) = place_if (is_outside d.it.entity d.it.block d.name) d.place (outside_declarations ds)

-- whether the package declares the name in its block
abbrev pub declares : List ℕ → List Found → Bool
declares w [] = false
declares w (d ∷ ds) = (is_package d.it.block && same_text d.name w) || declares w ds

-- Function declarations: the one function without a body is `func readByte() int`, where `int` is the predeclared one.
abbrev pub is_spelled : TokenList → ℕ → List (List ℕ) → Bool
is_spelled ts i [] = true
is_spelled ts i (w ∷ ws) = same_text (word ts i) w && is_spelled ts (suc i) ws

abbrev pub read_byte : List (List ℕ)
read_byte = codes "func" ∷ codes "readByte" ∷ codes "(" ∷ codes ")" ∷ codes "int" ∷ []

-- `hidden` says whether the package declares `int`
abbrev pub is_read_byte : Bool → TokenList → ℕ → ℕ → Bool
is_read_byte hidden ts i j = nat_eq j (i + 5) && is_spelled ts i read_byte && not hidden

-- the others
abbrev pub bodiless : Bool → ℕ → TokenList → List Event → List Place
bodiless hidden n ts [] = []
bodiless hidden n ts (event.Bodiless i j ∷ es) = place_if (not (is_read_byte hidden ts i j)) (bytes_at n ts (suc i)) (bodiless hidden n ts es)
bodiless hidden n ts (e ∷ es) = bodiless hidden n ts es

-- the argument ds has the declarations of the package
abbrev pub missing_bodies : List Found → List Unit → List Place
missing_bodies ds us = of_files (bodiless (declares (codes "int") ds)) 0 us
