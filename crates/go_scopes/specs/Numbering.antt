-- The functions of the files of a package, in the order in which they are numbered.
use Rattle.std.specs.Prelude.{ℕ, suc, List, [], ◌∷◌, ◌++◌, map}
use Rattle.go_tree.specs.declared.object.Declared.{Declared}
use Rattle.go_tree.specs.File.{FileTree, IsFileTree}
use Rattle.go_tree.specs.Views.{view}
use Rattle.go_scopes_events.specs.Functions.{function_names}

-- the number of a file, and that of the token of a name
abbrev pub spot_of : Declared → ℕ × ℕ
spot_of d = (d.file, d.name)

-- the functions of the files, which are numbered from n on, each by its file and the token of its name
abbrev pub function_spots : ℕ → List FileTree → List (ℕ × ℕ)
function_spots n [] = []
function_spots n (f ∷ fs) = map (λ t. (n, t)) (function_names (view f.root)) ++ function_spots (suc n) fs

-- each is a file as every File holds one
abbrev pub AreFiles : List FileTree → Type 0
AreFiles [] = Unit {0}
AreFiles (f ∷ fs) = IsFileTree f × AreFiles fs
