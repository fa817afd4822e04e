-- Worked examples of operators, from the Go specification.
use Rattle.std.specs.Prelude.{◌≡◌, true, false, [], ◌∷◌, codes, Ok, pos, neg_ℤ}
use Rattle.go_base.specs.declared.fault.FaultCode.TheVariants as code
use Rattle.go_ints.specs.declared.kinds.Kind.TheVariants as integer_kind
use Rattle.go_constants.specs.declared.values.Const.TheVariants as const
use Rattle.go_grammar.specs.declared.kind.Arithmetic.TheVariants as arithmetic
use Rattle.go_grammar.specs.declared.kind.Comparison.TheVariants as comparison
use Rattle.go_grammar.specs.declared.kind.Operator.TheVariants as operator
use Rattle.go_grammar.specs.declared.kind.Kind.TheVariants as kind
use Rattle.go_grammar.specs.declared.kind.Sign.TheVariants as sign
use Rattle.go_grammar.specs.Trees.{node, none, more, skip}
use Rattle.go_tree.specs.declared.object.Predeclared.TheVariants as predeclared
use Rattle.go_types.specs.Trees.{boolean, text, integer, array, slice, structure, function, declared, row}
use Rattle.go_typed.specs.declared.sort.Untyped.TheVariants as untyped
use Rattle.go_typed.specs.Trees as sort
use Rattle.go_exprs_rules.specs.Calls.{no_results}
use Rattle.go_exprs_rules.specs.Scopes.{several, type_place, statement}
use Rattle.go_exprs_rules.specs.Sentences.{b_word, character, d_word, fault, infix_of, mark, n_word, name, number, parens, predeclared_word, prefix_of, sentence, string, typed_value, word, x8_word}

pub record OperatorExamples : Type 0 where
  -- -n
  pub negated :
      typed_value (sentence (mark ∷ n_word ∷ [])
      (prefix_of sign.Minus (name 1)))
      ≡ Ok (sort.Value (integer integer_kind.Int))
  -- !b
  pub denied : typed_value (sentence (mark ∷ b_word ∷ []) (prefix_of sign.Not (name 1))) ≡ Ok (sort.Value boolean)
  -- ^x8
  pub complemented :
      typed_value (sentence (mark ∷ x8_word ∷ [])
      (prefix_of sign.Complement (name 1)))
      ≡ Ok (sort.Value (integer integer_kind.Int8))
  -- -"a"
  pub negated_text :
      typed_value (sentence (mark ∷ word (codes "\"a\"") ∷ [])
      (prefix_of sign.Minus (string 1)))
      ≡ fault code.Operands 0 2
  -- !n
  pub denied_number :
      typed_value (sentence (mark ∷ n_word ∷ [])
      (prefix_of sign.Not (name 1)))
      ≡ fault code.Operands 0 2
  -- ^uint8(1)
  pub all_bits :
      typed_value (sentence (mark ∷ predeclared_word predeclared.Uint8 ∷ mark ∷ word (codes "1") ∷ mark ∷ [])
      (prefix_of sign.Complement (node kind.Call 1 5 (more (name 1) (more (number 3) none)))))
      ≡ Ok (sort.Constant (integer integer_kind.Uint8) (const.Int (pos 254) false))
  -- -int8(-128)
  pub least_negated :
      typed_value (sentence (mark ∷ predeclared_word predeclared.Int8 ∷ mark ∷ mark ∷ word (codes "128") ∷ mark ∷ [])
      (prefix_of sign.Minus (node kind.Call 1 6 (more (name 1) (more (prefix_of sign.Minus (number 4)) none)))))
      ≡ fault code.Representable 0 6
  -- ^5
  pub untyped_complement :
      typed_value (sentence (mark ∷ word (codes "5") ∷ [])
      (prefix_of sign.Complement (number 1)))
      ≡ Ok (sort.OpenConstant (const.Int (neg_ℤ (pos 6)) false))
  -- n + 1
  pub sum :
      typed_value (sentence (n_word ∷ mark ∷ word (codes "1") ∷ [])
      (infix_of (operator.Compute arithmetic.Add) (name 0) (number 2)))
      ≡ Ok (sort.Value (integer integer_kind.Int))
  -- 1 + 'a'
  pub rune_and_integer :
      typed_value (sentence (word (codes "1") ∷ mark ∷ word (codes "'a'") ∷ [])
      (infix_of (operator.Compute arithmetic.Add) (number 0) (character 2)))
      ≡ Ok (sort.OpenConstant (const.Int (pos 98) true))
  -- "a" + "b"
  pub joined :
      typed_value (sentence (word (codes "\"a\"") ∷ mark ∷ word (codes "\"b\"") ∷ [])
      (infix_of (operator.Compute arithmetic.Add) (string 0) (string 2)))
      ≡ Ok (sort.OpenConstant (const.Text (97 ∷ 98 ∷ [])))
  -- b && true
  pub both :
      typed_value (sentence (b_word ∷ mark ∷ predeclared_word predeclared.True ∷ [])
      (infix_of operator.Both (name 0) (name 2)))
      ≡ Ok (sort.Value boolean)
  -- n + x8
  pub other_types :
      typed_value (sentence (n_word ∷ mark ∷ x8_word ∷ [])
      (infix_of (operator.Compute arithmetic.Add) (name 0) (name 2)))
      ≡ fault code.Operands 0 3
  -- "a" - "b"
  pub texts_subtracted :
      typed_value (sentence (word (codes "\"a\"") ∷ mark ∷ word (codes "\"b\"") ∷ [])
      (infix_of (operator.Compute arithmetic.Subtract) (string 0) (string 2)))
      ≡ fault code.Operands 0 3
  -- n / 0
  pub constant_divisor :
      typed_value (sentence (n_word ∷ mark ∷ word (codes "0") ∷ [])
      (infix_of (operator.Compute arithmetic.Divide) (name 0) (number 2)))
      ≡ fault code.ZeroDivisor 2 3
  -- int8(127) + 1
  pub typed_overflow :
      typed_value (sentence (predeclared_word predeclared.Int8 ∷ mark ∷ word (codes "127") ∷ mark ∷ mark ∷ word (codes "1") ∷ [])
      (infix_of (operator.Compute arithmetic.Add) (node kind.Call 0 4 (more (name 0) (more (number 2) none))) (number 5)))
      ≡ fault code.Representable 0 6
  -- 300 && "abc"[1]
  pub operand_out_of_range :
      typed_value (sentence (word (codes "300") ∷ mark ∷ word (codes "\"abc\"") ∷ mark ∷ word (codes "1") ∷ mark ∷ [])
      (infix_of operator.Both (number 0) (node kind.Bracketed 2 6 (more (string 2) (more (number 4) none)))))
      ≡ fault code.Representable 0 1
  -- "abc"[1] && 300
  pub operand_in_range :
      typed_value (sentence (word (codes "\"abc\"") ∷ mark ∷ word (codes "1") ∷ mark ∷ mark ∷ word (codes "300") ∷ [])
      (infix_of operator.Both (node kind.Bracketed 0 4 (more (string 0) (more (number 2) none))) (number 5)))
      ≡ fault code.Operands 0 6
  -- x8 + 300
  pub untyped_range :
      typed_value (sentence (x8_word ∷ mark ∷ word (codes "300") ∷ [])
      (infix_of (operator.Compute arithmetic.Add) (name 0) (number 2)))
      ≡ fault code.Representable 2 3
  -- 7 / -2
  pub divided :
      typed_value (sentence (word (codes "7") ∷ mark ∷ mark ∷ word (codes "2") ∷ [])
      (infix_of (operator.Compute arithmetic.Divide) (number 0) (prefix_of sign.Minus (number 3))))
      ≡ Ok (sort.OpenConstant (const.Int (neg_ℤ (pos 3)) false))
  -- (1 << 126) * 2
  pub wide_product :
      typed_value (sentence (mark ∷ word (codes "1") ∷ mark ∷ word (codes "126") ∷ mark ∷ mark ∷ word (codes "2") ∷ [])
      (infix_of (operator.Compute arithmetic.Multiply) (parens (infix_of (operator.Compute arithmetic.ShiftLeft) (number 1) (number 3))) (number 6)))
      ≡ fault code.Representable 0 7
  -- d + n
  pub declared_and_its_right_side :
      typed_value (sentence (d_word ∷ mark ∷ n_word ∷ [])
      (infix_of (operator.Compute arithmetic.Add) (name 0) (name 2)))
      ≡ fault code.Operands 0 3
  -- nil + 1
  pub nil_sum :
      typed_value (sentence (predeclared_word predeclared.Nil ∷ mark ∷ word (codes "1") ∷ [])
      (infix_of (operator.Compute arithmetic.Add) (name 0) (number 2)))
      ≡ fault code.Operands 0 3
