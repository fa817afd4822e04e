-- The function `main` of the package `main` (Go specification, "Program execution").
use Rattle.std.specs.Prelude.{ℕ, suc, Bool, if◌then◌else◌, List, [], ◌∷◌, Option, Some, None, slice_get, codes}
use Rattle.go_tokens.specs.Spellings.{same_text}
use Rattle.go_tree.specs.declared.object.Declared.{Declared}
use Rattle.go_tree.specs.File.{FileTree}
use Rattle.go_tree.specs.Units.{word}
use Rattle.go_tree.specs.Uses.{functions_among}
use Rattle.go_typed.specs.Packages.{PackageView}

-- the bytes of a token; none where there is no such token
abbrev pub text_in : FileTree → ℕ → List ℕ
text_in f t = word f.tokens t

abbrev pub text_there : Option FileTree → ℕ → List ℕ
text_there None t = []
text_there (Some f) t = text_in f t

abbrev pub text_at : PackageView → ℕ → ℕ → List ℕ
text_at p n t = text_there (slice_get p.files n) t

abbrev pub is_main_name : List ℕ → Bool
is_main_name name = same_text name (codes "main")

abbrev pub is_main : PackageView → Declared → Bool
is_main p d = is_main_name (text_at p d.file d.name)

-- the package's name is that of its first file
abbrev pub is_main_package : PackageView → Bool
is_main_package p = is_main_name (text_at p 0 1)

-- the number of the first of these functions that is named so, where they are numbered from n on
abbrev pub main_among : PackageView → ℕ → List Declared → Option ℕ
main_among p n [] = None
main_among p n (d ∷ ds) = if is_main p d then Some n else main_among p (suc n) ds

-- the number of the function `main` of a package named `main`, if there is one
abbrev pub main_number : PackageView → Option ℕ
main_number p = if is_main_package p then main_among p 0 (functions_among p.uses.package_level) else None
