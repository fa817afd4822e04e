-- What the tokens of functions mean, in packages with equal heads.
use Rattle.std.specs.Prelude.{◌≡◌, ℕ, suc, ◌+◌, ◌-◌, ◌<◌, List, [], ◌∷◌, ◌++◌, map, Some, slice_get}
use Rattle.go_grammar.specs.Trees.{first, last, parts}
use Rattle.go_tree.specs.Lists.{functions}
use Rattle.go_tree.specs.Uses.{uses, object_of}
use Rattle.go_heads.specs.Functions.{Function}
use Rattle.go_heads.specs.Heads.{File}
use Rattle.go_heads.specs.Objects.{units_of}

-- of each function the number of its file; the files are numbered from n on
abbrev pub function_files : ℕ → List File → List ℕ
function_files n [] = []
function_files n (f ∷ fs) = map (λ t. n) (functions (parts f.tree)) ++ function_files (suc n) fs

-- The functions of the number k of two packages stand in files of one number, have as many tokens, and each token means the same,
-- counted from the functions' first tokens.
pub record KeepsTokens (old new : List File) (k : ℕ) (f g : Function) : Type 0 where
  pub file : ℕ
  pub before : slice_get (function_files 0 old) k ≡ Some file
  pub after : slice_get (function_files 0 new) k ≡ Some file
  pub count : last g.tree - first g.tree ≡ last f.tree - first f.tree
  pub objects : (x : ℕ) → x < last f.tree - first f.tree → object_of (uses (units_of new)) file (first g.tree + x) ≡ object_of (uses (units_of old)) file (first f.tree + x)
