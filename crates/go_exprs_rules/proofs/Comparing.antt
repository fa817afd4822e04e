-- A comparison of constants is never out of range.
use Rattle.std.proofs.Common.{◌≡◌, ℕ, List, [], Option, Some, None, refl}
use Rattle.go_constants.specs.declared.values.Const.{Const}
use Rattle.go_constants.specs.declared.values.Const.TheVariants.{Bool, Int, Text}
use Rattle.go_constants.specs.Folding.{folded}
use Rattle.go_grammar.specs.declared.kind.Comparison.{Comparison}
use Rattle.go_grammar.specs.declared.kind.Comparison.TheVariants.{Equal, NotEqual, Less, LessEqual, Greater, GreaterEqual}
use Rattle.go_types.specs.Relations.{Rights}
use Rattle.go_exprs_rules.specs.declared.family.OpenKind.TheVariants.{Boolean}
use Rattle.go_exprs_rules.specs.Operators.{in_kind, out_of_range, folded_both, comparing}

module _ (rights : Rights) (i j : ℕ) where
  constants_in_range : (o : Comparison) (a b : Const) → out_of_range rights i j (in_kind Boolean) (Some (folded (comparing o) a b)) ≡ []
  constants_in_range Equal (Bool a) (Bool b) = refl
  constants_in_range NotEqual (Bool a) (Bool b) = refl
  constants_in_range Less (Bool a) (Bool b) = refl
  constants_in_range LessEqual (Bool a) (Bool b) = refl
  constants_in_range Greater (Bool a) (Bool b) = refl
  constants_in_range GreaterEqual (Bool a) (Bool b) = refl
  constants_in_range Equal (Int a r) (Int b s) = refl
  constants_in_range NotEqual (Int a r) (Int b s) = refl
  constants_in_range Less (Int a r) (Int b s) = refl
  constants_in_range LessEqual (Int a r) (Int b s) = refl
  constants_in_range Greater (Int a r) (Int b s) = refl
  constants_in_range GreaterEqual (Int a r) (Int b s) = refl
  constants_in_range Equal (Text a) (Text b) = refl
  constants_in_range NotEqual (Text a) (Text b) = refl
  constants_in_range Less (Text a) (Text b) = refl
  constants_in_range LessEqual (Text a) (Text b) = refl
  constants_in_range Greater (Text a) (Text b) = refl
  constants_in_range GreaterEqual (Text a) (Text b) = refl
  constants_in_range o (Bool a) (Int b s) = refl
  constants_in_range o (Bool a) (Text b) = refl
  constants_in_range o (Int a r) (Bool b) = refl
  constants_in_range o (Int a r) (Text b) = refl
  constants_in_range o (Text a) (Bool b) = refl
  constants_in_range o (Text a) (Int b s) = refl

  pub compared_in_range : (o : Comparison) (a b : Option Const) → out_of_range rights i j (in_kind Boolean) (folded_both (comparing o) a b) ≡ []
  compared_in_range o (Some a) (Some b) = constants_in_range o a b
  compared_in_range o (Some a) None = refl
  compared_in_range o None b = refl
