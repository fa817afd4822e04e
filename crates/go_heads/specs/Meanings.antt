-- What names outside the bodies of functions mean, in packages with equal heads.
use Rattle.std.specs.Prelude.{◌≡◌, ℕ, false, List, Option}
use Rattle.go_grammar.specs.Trees.{parts}
use Rattle.go_tree.specs.declared.object.Object.{Object}
use Rattle.go_tree.specs.Meanings.{meanings}
use Rattle.go_tree.specs.Objects.{object_at}
use Rattle.go_heads.specs.Heads.{File, in_bodies}
use Rattle.go_heads.specs.Objects.{units_of, file_in, text_at, head_place}

-- The token of a file is in no body.
abbrev pub StandsOutside : List File → ℕ → ℕ → Type 0
StandsOutside fs n t = in_bodies (parts (file_in fs n).tree) t ≡ false

-- what the text of a token means as a name at its place
abbrev pub meant_at : List File → ℕ → ℕ → Option Object
meant_at fs n t = object_at (meanings (units_of fs)) n t (text_at fs n t)

-- Two tokens outside of bodies, at one place of the heads, mean the same: the same predeclared name, fmt, or the object of the package
-- of the same number; or both mean nothing.
pub record KeepsMeanings (old new : List File) : Type 0 where
  pub text : (n t u : ℕ) → StandsOutside old n t → StandsOutside new n u → head_place new n u ≡ head_place old n t → text_at new n u ≡ text_at old n t
  pub meaning : (n t u : ℕ) → StandsOutside old n t → StandsOutside new n u → head_place new n u ≡ head_place old n t → meant_at new n u ≡ meant_at old n t
