-- Packages that differ in the bodies of functions alone.
use Rattle.std.specs.Prelude.{◌≡◌, ℕ, ◌≤◌, ◌⊎◌, true, List, [], Some, is_some, slice_get}
use Rattle.go_tree.specs.Lookups.{uses_import}
use Rattle.go_heads.specs.Functions.{Function, all_functions, function_alone}
use Rattle.go_heads.specs.Heads.{File, body_of}
use Rattle.go_heads.specs.Tokens.{function_files}
use Rattle.go_scopes_bodies.specs.Faults.{outside_asked, outer_in, own_asked, own_faults, statements_of}

-- Each function that had a body has one: heads don't tell which functions have bodies.
pub record KeepsBodies (old new : List File) : Type 0 where
  pub bodies : (k : ℕ) (f g : Function) → slice_get (all_functions old) k ≡ Some f → slice_get (all_functions new) k ≡ Some g → is_some (body_of f.tree) ≡ true → is_some (body_of g.tree) ≡ true

-- What is asked of the functions of the new package, where names mean what they mean outside of functions in the old one: no function fails
-- a rule by itself, and there are not too many statements.
pub record FunctionsAreSound (old new : List File) : Type 0 where
  pub functions : (k n : ℕ) (g : Function) → slice_get (all_functions new) k ≡ Some g → slice_get (function_files 0 new) k ≡ Some n → own_faults (function_alone g) (outer_in old n) ≡ []
  pub statements : statements_of (all_functions new) ≤ 65536

-- A function of this file of the new package names the file's import, where names mean what they mean outside of functions in the old
-- one.
pub record NamesImport (old new : List File) (n : ℕ) : Type 0 where
  pub number : ℕ
  pub function : Function
  pub there : slice_get (all_functions new) number ≡ Some function
  pub file : slice_get (function_files 0 new) number ≡ Some n
  pub names : uses_import 0 (own_asked (function_alone function) (outer_in old n)) ≡ true

-- Where a function of the old package names the import of its file, that import is named outside of functions, or a function of that file
-- names it in the new package: this one, or another.
pub record KeepsImports (old new : List File) : Type 0 where
  pub named : (n k : ℕ) (f : Function) → slice_get (all_functions old) k ≡ Some f → slice_get (function_files 0 old) k ≡ Some n → uses_import 0 (own_asked (function_alone f) (outer_in old n)) ≡ true
      → uses_import n (outside_asked old) ≡ true ⊎ NamesImport old new n
