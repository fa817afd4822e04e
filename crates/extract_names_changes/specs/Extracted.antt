-- Packages where statements are taken out into a function.
--
-- The old package has the new function with an empty body in its place, so that the heads are equal.
use Rattle.std.specs.Prelude.{◌≡◌, ℕ, ◌≤◌, ◌⊎◌, true, List, Some, is_some, slice_get}
use Rattle.go_heads.specs.Functions.{Function, all_functions, function_alone}
use Rattle.go_heads.specs.Heads.{File, body_of}
use Rattle.go_heads.specs.Tokens.{function_files}
use Rattle.go_scopes_bodies.specs.Faults.{outer_in, statements_of}
use Rattle.extract_names.specs.Copies.{Copy, IsCopy}
use Rattle.extract_names.specs.Gaps.{Gap}
use Rattle.extract_names.specs.Sites.{IsSite}

-- The function g is the old function f of the file n with runs of statements replaced.
pub record HasGaps (old : List File) (n : ℕ) (f g : Function) : Type 0 where
  pub gaps : List Gap
  pub site : IsSite (function_alone f) (outer_in old n) gaps (function_alone g)

-- The function g has a body, which begins with a copy of a run of an old function of the file n.
pub record HasCopy (old : List File) (n : ℕ) (g : Function) : Type 0 where
  pub number : ℕ
  pub function : Function
  pub there : slice_get (all_functions old) number ≡ Some function
  pub file : slice_get (function_files 0 old) number ≡ Some n
  pub copy : Copy
  pub body : is_some (body_of g.tree) ≡ true
  pub copied : IsCopy (function_alone function) (outer_in old n) copy (function_alone g)

-- Each function is the old one of its number by itself, or that one with runs replaced, or begins with a copy; and there are not too many
-- statements.
pub record IsExtracted (old new : List File) : Type 0 where
  pub each : (k n : ℕ) (f g : Function) → slice_get (all_functions old) k ≡ Some f → slice_get (all_functions new) k ≡ Some g → slice_get (function_files 0 new) k ≡ Some n
      → (function_alone g ≡ function_alone f) ⊎ HasGaps old n f g ⊎ HasCopy old n g
  pub statements : statements_of (all_functions new) ≤ 65536
