-- Values of operations on constants, worked out by hand from the Go specification.
use Rattle.std.specs.Prelude.{◌≡◌, ◌^◌, true, false, Ok, Err, pos, neg_ℤ, codes}
use Rattle.go_ints.specs.declared.operators.Op.TheVariants.{Add, Sub, Div, Xor, Shl, Shr, Min, Max}
use Rattle.go_constants.specs.declared.values.Const.TheVariants.{Bool, Int, Text}
use Rattle.go_constants.specs.declared.values.ConstOp.TheVariants.{Arith, Eq, Lt}
use Rattle.go_constants.specs.declared.values.ConstFault.TheVariants.{TooWide, DivideZero, Operands}
use Rattle.go_constants.specs.declared.representing.Basic.TheVariants as basic
use Rattle.go_ints.specs.declared.kinds.Kind.TheVariants.{Uint8}
use Rattle.go_constants.specs.Folding.{folded}
use Rattle.go_constants.specs.Representing.{is_represented}

pub record Examples : Type 0 where
  -- numbers from -2 ^ 127 to 2 ^ 127 - 1
  pub power : folded (Arith Shl) (Int (pos 1) false) (Int (pos 126) false) ≡ Ok (Int (pos (2 ^ 126)) false)
  pub power_too_wide : folded (Arith Shl) (Int (pos 1) false) (Int (pos 127) false) ≡ Err TooWide
  pub least : folded (Arith Shl) (Int (neg_ℤ (pos 1)) false) (Int (pos 127) false) ≡ Ok (Int (neg_ℤ (pos (2 ^ 127))) false)
  pub opposite_of_least : folded (Arith Div) (Int (neg_ℤ (pos (2 ^ 127))) false) (Int (neg_ℤ (pos 1)) false) ≡ Err TooWide
  -- any count
  pub zero_shifted : folded (Arith Shl) (Int (pos 0) false) (Int (pos 100000) false) ≡ Ok (Int (pos 0) false)
  pub shifted_away : folded (Arith Shr) (Int (pos 1) false) (Int (pos 1000) false) ≡ Ok (Int (pos 0) false)
  -- refusals
  pub divide_zero : folded (Arith Div) (Int (pos 1) false) (Int (pos 0) false) ≡ Err DivideZero
  pub other_sorts : folded (Arith Add) (Int (pos 1) false) (Text (codes "a")) ≡ Err Operands
  pub negative_count : folded (Arith Shl) (Int (pos 1) false) (Int (neg_ℤ (pos 1)) false) ≡ Err Operands
  pub ordered_booleans : folded Lt (Bool false) (Bool true) ≡ Err Operands
  -- runes
  pub rune : folded (Arith Add) (Int (pos 97) true) (Int (pos 1) false) ≡ Ok (Int (pos 98) true)
  pub count_is_rune : folded (Arith Shl) (Int (pos 1) false) (Int (pos 1) true) ≡ Ok (Int (pos 2) false)
  -- -x, ^x and !x
  pub negated : folded (Arith Sub) (Int (pos 0) false) (Int (pos 5) false) ≡ Ok (Int (neg_ℤ (pos 5)) false)
  pub complemented : folded (Arith Xor) (Int (neg_ℤ (pos 1)) false) (Int (pos 5) false) ≡ Ok (Int (neg_ℤ (pos 6)) false)
  pub not_true : folded Eq (Bool true) (Bool false) ≡ Ok (Bool false)
  -- texts
  pub joined : folded (Arith Add) (Text (codes "ab")) (Text (codes "c")) ≡ Ok (Text (codes "abc"))
  pub by_bytes : folded Lt (Text (codes "b")) (Text (codes "ab")) ≡ Ok (Bool false)
  pub front_first : folded Lt (Text (codes "a")) (Text (codes "ab")) ≡ Ok (Bool true)
  pub least_by_bytes : folded (Arith Min) (Text (codes "b")) (Text (codes "ab")) ≡ Ok (Text (codes "ab"))
  pub greatest_by_bytes : folded (Arith Max) (Text (codes "b")) (Text (codes "ab")) ≡ Ok (Text (codes "b"))
  pub greatest_rune : folded (Arith Max) (Int (pos 97) true) (Int (pos 300) false) ≡ Ok (Int (pos 300) true)
  -- what a type has
  pub byte_has_255 : is_represented (Int (pos 255) false) (basic.Int Uint8) ≡ true
  pub byte_lacks_300 : is_represented (Int (pos 300) false) (basic.Int Uint8) ≡ false
  pub booleans_have_true : is_represented (Bool true) basic.Bool ≡ true
  pub texts_lack_numbers : is_represented (Int (pos 1) false) basic.Text ≡ false
