-- Worked examples of shifts, from the Go specification.
use Rattle.std.specs.Prelude.{◌≡◌, true, false, [], ◌∷◌, codes, Ok, pos, neg_ℤ}
use Rattle.go_base.specs.declared.fault.FaultCode.TheVariants as code
use Rattle.go_ints.specs.declared.kinds.Kind.TheVariants as integer_kind
use Rattle.go_constants.specs.declared.values.Const.TheVariants as const
use Rattle.go_grammar.specs.declared.kind.Arithmetic.TheVariants as arithmetic
use Rattle.go_grammar.specs.declared.kind.Comparison.TheVariants as comparison
use Rattle.go_grammar.specs.declared.kind.Operator.TheVariants as operator
use Rattle.go_grammar.specs.declared.kind.Kind.TheVariants as kind
use Rattle.go_grammar.specs.declared.kind.Sign.TheVariants as sign
use Rattle.go_grammar.specs.Trees.{node, none, more, skip}
use Rattle.go_tree.specs.declared.object.Predeclared.TheVariants as predeclared
use Rattle.go_types.specs.Trees.{boolean, text, integer, array, slice, structure, function, declared, row}
use Rattle.go_typed.specs.declared.sort.Untyped.TheVariants as untyped
use Rattle.go_typed.specs.Trees as sort
use Rattle.go_exprs_rules.specs.Calls.{no_results}
use Rattle.go_exprs_rules.specs.Scopes.{several, type_place, statement}
use Rattle.go_exprs_rules.specs.Sentences.{character, fault, infix_of, mark, n_word, name, number, parens, predeclared_word, prefix_of, sentence, string, typed_value, word, x8_word}

pub record ShiftExamples : Type 0 where
  -- 1 << 3
  pub constant_shift :
      typed_value (sentence (word (codes "1") ∷ mark ∷ word (codes "3") ∷ [])
      (infix_of (operator.Compute arithmetic.ShiftLeft) (number 0) (number 2)))
      ≡ Ok (sort.OpenConstant (const.Int (pos 8) false))
  -- 1 << n
  pub open_shift :
      typed_value (sentence (word (codes "1") ∷ mark ∷ n_word ∷ [])
      (infix_of (operator.Compute arithmetic.ShiftLeft) (number 0) (name 2)))
      ≡ Ok (sort.Open untyped.Integer)
  -- 'a' << n
  pub open_rune :
      typed_value (sentence (word (codes "'a'") ∷ mark ∷ n_word ∷ [])
      (infix_of (operator.Compute arithmetic.ShiftLeft) (character 0) (name 2)))
      ≡ Ok (sort.Open untyped.Rune)
  -- 'a' << 1
  pub rune_shift :
      typed_value (sentence (word (codes "'a'") ∷ mark ∷ word (codes "1") ∷ [])
      (infix_of (operator.Compute arithmetic.ShiftLeft) (character 0) (number 2)))
      ≡ Ok (sort.OpenConstant (const.Int (pos 194) true))
  -- x8 << n
  pub typed_shift :
      typed_value (sentence (x8_word ∷ mark ∷ n_word ∷ [])
      (infix_of (operator.Compute arithmetic.ShiftLeft) (name 0) (name 2)))
      ≡ Ok (sort.Value (integer integer_kind.Int8))
  -- n << -1
  pub negative_count :
      typed_value (sentence (n_word ∷ mark ∷ mark ∷ word (codes "1") ∷ [])
      (infix_of (operator.Compute arithmetic.ShiftLeft) (name 0) (prefix_of sign.Minus (number 3))))
      ≡ fault code.Representable 2 4
  -- n << int8(-1)
  pub typed_negative_count :
      typed_value (sentence (n_word ∷ mark ∷ predeclared_word predeclared.Int8 ∷ mark ∷ mark ∷ word (codes "1") ∷ mark ∷ [])
      (infix_of (operator.Compute arithmetic.ShiftLeft) (name 0) (node kind.Call 2 7 (more (name 2) (more (prefix_of sign.Minus (number 5)) none)))))
      ≡ fault code.Operands 0 7
  -- 1 << (1 << n)
  pub open_count :
      typed_value (sentence (word (codes "1") ∷ mark ∷ mark ∷ word (codes "1") ∷ mark ∷ n_word ∷ mark ∷ [])
      (infix_of (operator.Compute arithmetic.ShiftLeft) (number 0) (parens (infix_of (operator.Compute arithmetic.ShiftLeft) (number 3) (name 5)))))
      ≡ fault code.Operands 0 7
  -- 1 << "a"
  pub text_count :
      typed_value (sentence (word (codes "1") ∷ mark ∷ word (codes "\"a\"") ∷ [])
      (infix_of (operator.Compute arithmetic.ShiftLeft) (number 0) (string 2)))
      ≡ fault code.Operands 0 3
  -- 1 >> 1000000
  pub no_overflow :
      typed_value (sentence (word (codes "1") ∷ mark ∷ word (codes "1000000") ∷ [])
      (infix_of (operator.Compute arithmetic.ShiftRight) (number 0) (number 2)))
      ≡ Ok (sort.OpenConstant (const.Int (pos 0) false))
  -- 0 << 1000
  pub zero_far :
      typed_value (sentence (word (codes "0") ∷ mark ∷ word (codes "1000") ∷ [])
      (infix_of (operator.Compute arithmetic.ShiftLeft) (number 0) (number 2)))
      ≡ Ok (sort.OpenConstant (const.Int (pos 0) false))
  -- 1 << 127
  pub shift_too_wide :
      typed_value (sentence (word (codes "1") ∷ mark ∷ word (codes "127") ∷ [])
      (infix_of (operator.Compute arithmetic.ShiftLeft) (number 0) (number 2)))
      ≡ fault code.Representable 0 3
  -- -1 << 3
  pub negative_shifted :
      typed_value (sentence (mark ∷ word (codes "1") ∷ mark ∷ word (codes "3") ∷ [])
      (infix_of (operator.Compute arithmetic.ShiftLeft) (prefix_of sign.Minus (number 1)) (number 3)))
      ≡ Ok (sort.OpenConstant (const.Int (neg_ℤ (pos 8)) false))
  -- 1 << n + 1
  pub sum_with_open_shift :
      typed_value (sentence (word (codes "1") ∷ mark ∷ n_word ∷ mark ∷ word (codes "1") ∷ [])
      (infix_of (operator.Compute arithmetic.Add) (infix_of (operator.Compute arithmetic.ShiftLeft) (number 0) (name 2)) (number 4)))
      ≡ Ok (sort.Open untyped.Integer)
  -- x8 + 1 << n
  pub shift_takes_type :
      typed_value (sentence (x8_word ∷ mark ∷ word (codes "1") ∷ mark ∷ n_word ∷ [])
      (infix_of (operator.Compute arithmetic.Add) (name 0) (infix_of (operator.Compute arithmetic.ShiftLeft) (number 2) (name 4))))
      ≡ Ok (sort.Value (integer integer_kind.Int8))
  -- x8 == 300 << n
  pub delayed_range :
      typed_value (sentence (x8_word ∷ mark ∷ word (codes "300") ∷ mark ∷ n_word ∷ [])
      (infix_of (operator.Compare comparison.Equal) (name 0) (infix_of (operator.Compute arithmetic.ShiftLeft) (number 2) (name 4))))
      ≡ fault code.Representable 2 3
  -- 1 << n == 1 << n
  pub shifts_compared :
      typed_value (sentence (word (codes "1") ∷ mark ∷ n_word ∷ mark ∷ word (codes "1") ∷ mark ∷ n_word ∷ [])
      (infix_of (operator.Compare comparison.Equal) (infix_of (operator.Compute arithmetic.ShiftLeft) (number 0) (name 2)) (infix_of (operator.Compute arithmetic.ShiftLeft) (number 4) (name 6))))
      ≡ Ok (sort.Open untyped.Boolean)
  -- 1 << n + 'a'
  pub untyped_rune_sum :
      typed_value (sentence (word (codes "1") ∷ mark ∷ n_word ∷ mark ∷ word (codes "'a'") ∷ [])
      (infix_of (operator.Compute arithmetic.Add) (infix_of (operator.Compute arithmetic.ShiftLeft) (number 0) (name 2)) (character 4)))
      ≡ Ok (sort.Open untyped.Rune)
