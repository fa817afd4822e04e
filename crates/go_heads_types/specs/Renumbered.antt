-- Functions of two packages that are one, but for the numbers of their own declared types.
use Rattle.std.specs.Prelude.{◌≡◌, ℕ, Option, Some}
use Rattle.go_typed.specs.Contents.{FuncContent, func_renamed}
use Rattle.go_renumbering.specs.Functions.{shifted}

-- Both are the same function, with the numbers of declared types from the number k on moved.
pub record AreOne (k : ℕ) (f g : Option FuncContent) : Type 0 where
  pub function : FuncContent
  pub before : ℕ
  pub after : ℕ
  pub old : f ≡ Some (func_renamed (shifted k before) function)
  pub new : g ≡ Some (func_renamed (shifted k after) function)
