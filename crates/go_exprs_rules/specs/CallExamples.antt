-- Worked examples of calls, conversions and predeclared functions, from the Go specification.
use Rattle.std.specs.Prelude.{◌≡◌, true, false, [], ◌∷◌, codes, Some, Ok, pos, neg_ℤ}
use Rattle.go_base.specs.declared.fault.FaultCode.TheVariants as code
use Rattle.go_ints.specs.declared.kinds.Kind.TheVariants as integer_kind
use Rattle.go_constants.specs.declared.values.Const.TheVariants as const
use Rattle.go_grammar.specs.declared.kind.Arithmetic.TheVariants as arithmetic
use Rattle.go_grammar.specs.declared.kind.Comparison.TheVariants as comparison
use Rattle.go_grammar.specs.declared.kind.Operator.TheVariants as operator
use Rattle.go_grammar.specs.declared.kind.Kind.TheVariants as kind
use Rattle.go_grammar.specs.declared.kind.Sign.TheVariants as sign
use Rattle.go_grammar.specs.Trees.{node, none, more, skip}
use Rattle.go_tree.specs.declared.object.Predeclared.TheVariants as predeclared
use Rattle.go_types.specs.Trees.{boolean, text, integer, array, slice, structure, function, declared, row}
use Rattle.go_typed.specs.declared.sort.Untyped.TheVariants as untyped
use Rattle.go_typed.specs.Trees as sort
use Rattle.go_exprs_rules.specs.Calls.{no_results}
use Rattle.go_exprs_rules.specs.Scopes.{several, type_place, statement}
use Rattle.go_exprs_rules.specs.Sentences.{D_word, a3_word, b_word, bs_word, character, cs_word, d_word, do_word, f_word, fault, fmt, infix_of, mark, n_word, name, number, parens, part_sorts, predeclared_word, prefix_of, s_word, sentence, ss_word, string, t_word, told, two_word, x8_word, typed_value, word}

pub record CallExamples : Type 0 where
  -- f(1, "a")
  pub called :
      typed_value (sentence (f_word ∷ mark ∷ word (codes "1") ∷ mark ∷ word (codes "\"a\"") ∷ mark ∷ [])
      (node kind.Call 0 6 (more (name 0) (more (number 2) (more (string 4) none)))))
      ≡ Ok (sort.Value boolean)
  -- f(1)
  pub too_few :
      typed_value (sentence (f_word ∷ mark ∷ word (codes "1") ∷ mark ∷ [])
      (node kind.Call 0 4 (more (name 0) (more (number 2) none))))
      ≡ fault code.Count 0 4
  -- f(1, 2)
  pub wrong_argument :
      typed_value (sentence (f_word ∷ mark ∷ word (codes "1") ∷ mark ∷ word (codes "2") ∷ mark ∷ [])
      (node kind.Call 0 6 (more (name 0) (more (number 2) (more (number 4) none)))))
      ≡ fault code.Assignable 4 5
  -- f(1 << 70, t)
  pub wide_argument :
      typed_value (sentence (f_word ∷ mark ∷ word (codes "1") ∷ mark ∷ word (codes "70") ∷ mark ∷ t_word ∷ mark ∷ [])
      (node kind.Call 0 8 (more (name 0) (more (infix_of (operator.Compute arithmetic.ShiftLeft) (number 2) (number 4)) (more (name 6) none)))))
      ≡ fault code.Representable 2 5
  -- n()
  pub number_called :
      typed_value (sentence (n_word ∷ mark ∷ mark ∷ [])
      (node kind.Call 0 3 (more (name 0) none)))
      ≡ fault code.Operands 0 3
  -- two()
  pub several_results :
      told several (sentence (two_word ∷ mark ∷ mark ∷ [])
      (node kind.Call 0 3 (more (name 0) none)))
      ≡ Ok (sort.Results (function (row ([])) (row ((integer integer_kind.Int) ∷ text ∷ []))))
  -- two()
  pub several_as_one :
      typed_value (sentence (two_word ∷ mark ∷ mark ∷ [])
      (node kind.Call 0 3 (more (name 0) none)))
      ≡ fault code.Count 0 3
  -- do()
  pub no_result :
      typed_value (sentence (do_word ∷ mark ∷ mark ∷ [])
      (node kind.Call 0 3 (more (name 0) none)))
      ≡ fault code.NotAValue 0 3
  -- do()
  pub no_result_stated :
      told statement (sentence (do_word ∷ mark ∷ mark ∷ [])
      (node kind.Call 0 3 (more (name 0) none)))
      ≡ Ok no_results
  -- f(1 << n, t)
  pub shifted_argument :
      typed_value (sentence (f_word ∷ mark ∷ word (codes "1") ∷ mark ∷ n_word ∷ mark ∷ t_word ∷ mark ∷ [])
      (node kind.Call 0 8 (more (name 0) (more (infix_of (operator.Compute arithmetic.ShiftLeft) (number 2) (name 4)) (more (name 6) none)))))
      ≡ Ok (sort.Value boolean)
  -- f("a", 1)
  pub both_wrong :
      typed_value (sentence (f_word ∷ mark ∷ word (codes "\"a\"") ∷ mark ∷ word (codes "1") ∷ mark ∷ [])
      (node kind.Call 0 6 (more (name 0) (more (string 2) (more (number 4) none)))))
      ≡ fault code.Assignable 2 3
  -- int8(1)
  pub kept :
      typed_value (sentence (predeclared_word predeclared.Int8 ∷ mark ∷ word (codes "1") ∷ mark ∷ [])
      (node kind.Call 0 4 (more (name 0) (more (number 2) none))))
      ≡ Ok (sort.Constant (integer integer_kind.Int8) (const.Int (pos 1) false))
  -- int8(300)
  pub not_represented :
      typed_value (sentence (predeclared_word predeclared.Int8 ∷ mark ∷ word (codes "300") ∷ mark ∷ [])
      (node kind.Call 0 4 (more (name 0) (more (number 2) none))))
      ≡ fault code.Representable 2 3
  -- string(97)
  pub text_of_character :
      typed_value (sentence (predeclared_word predeclared.String ∷ mark ∷ word (codes "97") ∷ mark ∷ [])
      (node kind.Call 0 4 (more (name 0) (more (number 2) none))))
      ≡ Ok (sort.Constant text (const.Text (97 ∷ [])))
  -- string(-1)
  pub no_character :
      typed_value (sentence (predeclared_word predeclared.String ∷ mark ∷ mark ∷ word (codes "1") ∷ mark ∷ [])
      (node kind.Call 0 5 (more (name 0) (more (prefix_of sign.Minus (number 3)) none))))
      ≡ Ok (sort.Constant text (const.Text (239 ∷ 191 ∷ 189 ∷ [])))
  -- string(1 << 70)
  pub wide_character :
      typed_value (sentence (predeclared_word predeclared.String ∷ mark ∷ word (codes "1") ∷ mark ∷ word (codes "70") ∷ mark ∷ [])
      (node kind.Call 0 6 (more (name 0) (more (infix_of (operator.Compute arithmetic.ShiftLeft) (number 2) (number 4)) none))))
      ≡ fault code.Representable 2 5
  -- []int(nil)
  pub nil_converted :
      typed_value (sentence (mark ∷ mark ∷ predeclared_word predeclared.Int ∷ mark ∷ predeclared_word predeclared.Nil ∷ mark ∷ [])
      (node kind.Call 0 6 (more (node kind.SequenceType 0 3 (skip (more (name 2) none))) (more (name 4) none))))
      ≡ Ok (sort.Value (slice (integer integer_kind.Int)))
  -- the type and the operand of []int((nil))
  pub nil_takes_converted :
      part_sorts (sentence (mark ∷ mark ∷ predeclared_word predeclared.Int ∷ mark ∷ mark ∷ predeclared_word predeclared.Nil ∷ mark ∷ mark ∷ [])
      (node kind.Call 0 8 (more (node kind.SequenceType 0 3 (skip (more (name 2) none))) (more (parens (name 5)) none))))
      ≡ Some (sort.IsType (slice (integer integer_kind.Int))) ∷ Some (sort.Value (slice (integer integer_kind.Int))) ∷ []
  -- int(nil)
  pub nil_to_number :
      typed_value (sentence (predeclared_word predeclared.Int ∷ mark ∷ predeclared_word predeclared.Nil ∷ mark ∷ [])
      (node kind.Call 0 4 (more (name 0) (more (name 2) none))))
      ≡ fault code.Operands 0 4
  -- D(n)
  pub to_right_side :
      typed_value (sentence (D_word ∷ mark ∷ n_word ∷ mark ∷ [])
      (node kind.Call 0 4 (more (name 0) (more (name 2) none))))
      ≡ Ok (sort.Value (declared 2))
  -- []int(ss)
  pub same_elements :
      typed_value (sentence (mark ∷ mark ∷ predeclared_word predeclared.Int ∷ mark ∷ ss_word ∷ mark ∷ [])
      (node kind.Call 0 6 (more (node kind.SequenceType 0 3 (skip (more (name 2) none))) (more (name 4) none))))
      ≡ Ok (sort.Value (slice (integer integer_kind.Int)))
  -- int8(n)
  pub wrapped :
      typed_value (sentence (predeclared_word predeclared.Int8 ∷ mark ∷ n_word ∷ mark ∷ [])
      (node kind.Call 0 4 (more (name 0) (more (name 2) none))))
      ≡ Ok (sort.Value (integer integer_kind.Int8))
  -- string(n)
  pub number_to_text :
      typed_value (sentence (predeclared_word predeclared.String ∷ mark ∷ n_word ∷ mark ∷ [])
      (node kind.Call 0 4 (more (name 0) (more (name 2) none))))
      ≡ Ok (sort.Value text)
  -- []byte("a")
  pub bytes_of_text :
      typed_value (sentence (mark ∷ mark ∷ predeclared_word predeclared.Byte ∷ mark ∷ word (codes "\"a\"") ∷ mark ∷ [])
      (node kind.Call 0 6 (more (node kind.SequenceType 0 3 (skip (more (name 2) none))) (more (string 4) none))))
      ≡ Ok (sort.Value (slice (integer integer_kind.Uint8)))
  -- string(bs)
  pub text_of_bytes :
      typed_value (sentence (predeclared_word predeclared.String ∷ mark ∷ bs_word ∷ mark ∷ [])
      (node kind.Call 0 4 (more (name 0) (more (name 2) none))))
      ≡ Ok (sort.Value text)
  -- bool(1)
  pub boolean_of_number :
      typed_value (sentence (predeclared_word predeclared.Bool ∷ mark ∷ word (codes "1") ∷ mark ∷ [])
      (node kind.Call 0 4 (more (name 0) (more (number 2) none))))
      ≡ fault code.Operands 0 4
  -- int64(1 << n)
  pub open_shift_converted :
      typed_value (sentence (predeclared_word predeclared.Int64 ∷ mark ∷ word (codes "1") ∷ mark ∷ n_word ∷ mark ∷ [])
      (node kind.Call 0 6 (more (name 0) (more (infix_of (operator.Compute arithmetic.ShiftLeft) (number 2) (name 4)) none))))
      ≡ Ok (sort.Value (integer integer_kind.Int64))
  -- string(1 << n)
  pub open_shift_to_text :
      typed_value (sentence (predeclared_word predeclared.String ∷ mark ∷ word (codes "1") ∷ mark ∷ n_word ∷ mark ∷ [])
      (node kind.Call 0 6 (more (name 0) (more (infix_of (operator.Compute arithmetic.ShiftLeft) (number 2) (name 4)) none))))
      ≡ fault code.Operands 0 6
  -- int(1, 2)
  pub two_converted :
      typed_value (sentence (predeclared_word predeclared.Int ∷ mark ∷ word (codes "1") ∷ mark ∷ word (codes "2") ∷ mark ∷ [])
      (node kind.Call 0 6 (more (name 0) (more (number 2) (more (number 4) none)))))
      ≡ fault code.Count 0 6
  -- bool(n < 1)
  pub comparison_converted :
      typed_value (sentence (predeclared_word predeclared.Bool ∷ mark ∷ n_word ∷ mark ∷ word (codes "1") ∷ mark ∷ [])
      (node kind.Call 0 6 (more (name 0) (more (infix_of (operator.Compare comparison.Less) (name 2) (number 4)) none))))
      ≡ Ok (sort.Value boolean)
  -- int(cs)
  pub constant_text_converted :
      typed_value (sentence (predeclared_word predeclared.Int ∷ mark ∷ cs_word ∷ mark ∷ [])
      (node kind.Call 0 4 (more (name 0) (more (name 2) none))))
      ≡ fault code.Operands 0 4
  -- int8('a')
  pub rune_kept :
      typed_value (sentence (predeclared_word predeclared.Int8 ∷ mark ∷ word (codes "'a'") ∷ mark ∷ [])
      (node kind.Call 0 4 (more (name 0) (more (character 2) none))))
      ≡ Ok (sort.Constant (integer integer_kind.Int8) (const.Int (pos 97) true))
  -- ([]int)(nil)
  pub in_parentheses :
      typed_value (sentence (mark ∷ mark ∷ mark ∷ predeclared_word predeclared.Int ∷ mark ∷ mark ∷ predeclared_word predeclared.Nil ∷ mark ∷ [])
      (node kind.Call 0 8 (more (parens (node kind.SequenceType 1 4 (skip (more (name 3) none)))) (more (name 6) none))))
      ≡ Ok (sort.Value (slice (integer integer_kind.Int)))
  -- len(s)
  pub length :
      typed_value (sentence (predeclared_word predeclared.Len ∷ mark ∷ s_word ∷ mark ∷ [])
      (node kind.Call 0 4 (more (name 0) (more (name 2) none))))
      ≡ Ok (sort.Value (integer integer_kind.Int))
  -- len("abc")
  pub constant_length :
      typed_value (sentence (predeclared_word predeclared.Len ∷ mark ∷ word (codes "\"abc\"") ∷ mark ∷ [])
      (node kind.Call 0 4 (more (name 0) (more (string 2) none))))
      ≡ Ok (sort.Constant (integer integer_kind.Int) (const.Int (pos 3) false))
  -- len(a3)
  pub array_length :
      typed_value (sentence (predeclared_word predeclared.Len ∷ mark ∷ a3_word ∷ mark ∷ [])
      (node kind.Call 0 4 (more (name 0) (more (name 2) none))))
      ≡ Ok (sort.Constant (integer integer_kind.Int) (const.Int (pos 3) false))
  -- len([2]int{n, len(s)})
  pub array_with_call :
      typed_value (sentence (predeclared_word predeclared.Len ∷ mark ∷ mark ∷ word (codes "2") ∷ mark ∷
      predeclared_word predeclared.Int ∷ mark ∷ n_word ∷ mark ∷ predeclared_word predeclared.Len ∷ mark ∷ s_word ∷ mark ∷ mark ∷ mark ∷ [])
      (node kind.Call 0 15 (more (name 0) (more (node kind.Composite 2 14 (more (node kind.SequenceType 2 6 (more (number 3)
      (more (name 5) none))) (more (name 7) (more (node kind.Call 9 13 (more (name 9) (more (name 11) none))) none)))) none))))
      ≡ Ok (sort.Value (integer integer_kind.Int))
  -- len([2]int{n, 1})
  pub array_without_call :
      typed_value (sentence (predeclared_word predeclared.Len ∷ mark ∷ mark ∷ word (codes "2") ∷ mark ∷ predeclared_word predeclared.Int ∷ mark ∷ n_word ∷ mark ∷ word (codes "1") ∷ mark ∷ mark ∷ [])
      (node kind.Call 0 12 (more (name 0) (more (node kind.Composite 2 11 (more (node kind.SequenceType 2 6 (more (number 3) (more (name 5) none))) (more (name 7) (more (number 9) none)))) none))))
      ≡ Ok (sort.Constant (integer integer_kind.Int) (const.Int (pos 2) false))
  -- cap(t)
  pub capacity_of_text :
      typed_value (sentence (predeclared_word predeclared.Cap ∷ mark ∷ t_word ∷ mark ∷ [])
      (node kind.Call 0 4 (more (name 0) (more (name 2) none))))
      ≡ fault code.Operands 0 4
  -- len(n)
  pub length_of_number :
      typed_value (sentence (predeclared_word predeclared.Len ∷ mark ∷ n_word ∷ mark ∷ [])
      (node kind.Call 0 4 (more (name 0) (more (name 2) none))))
      ≡ fault code.Operands 0 4
  -- len()
  pub no_argument :
      typed_value (sentence (predeclared_word predeclared.Len ∷ mark ∷ mark ∷ [])
      (node kind.Call 0 3 (more (name 0) none)))
      ≡ fault code.Count 0 3
  -- make([]int, n)
  pub made :
      typed_value (sentence (predeclared_word predeclared.Make ∷ mark ∷ mark ∷ mark ∷ predeclared_word predeclared.Int ∷ mark ∷ n_word ∷ mark ∷ [])
      (node kind.Call 0 8 (more (name 0) (more (node kind.SequenceType 2 5 (skip (more (name 4) none))) (more (name 6) none)))))
      ≡ Ok (sort.Value (slice (integer integer_kind.Int)))
  -- make([]int, 2, 1)
  pub disordered_sizes :
      typed_value (sentence (predeclared_word predeclared.Make ∷ mark ∷ mark ∷ mark ∷ predeclared_word predeclared.Int ∷ mark ∷ word (codes "2") ∷ mark ∷ word (codes "1") ∷ mark ∷ [])
      (node kind.Call 0 10 (more (name 0) (more (node kind.SequenceType 2 5 (skip (more (name 4) none))) (more (number 6) (more (number 8) none))))))
      ≡ fault code.ConstIndex 6 7
  -- make([]int, "a", "b", "c")
  pub texts_as_sizes :
      typed_value (sentence (predeclared_word predeclared.Make ∷ mark ∷ mark ∷ mark ∷ predeclared_word predeclared.Int ∷
      mark ∷ word (codes "\"a\"") ∷ mark ∷ word (codes "\"b\"") ∷ mark ∷ word (codes "\"c\"") ∷ mark ∷ [])
      (node kind.Call 0 12 (more (name 0) (more (node kind.SequenceType 2 5 (skip (more (name 4) none))) (more (string 6) (more (string 8) (more (string 10) none)))))))
      ≡ fault code.Operands 0 12
  -- make([]int)
  pub no_size :
      typed_value (sentence (predeclared_word predeclared.Make ∷ mark ∷ mark ∷ mark ∷ predeclared_word predeclared.Int ∷ mark ∷ [])
      (node kind.Call 0 6 (more (name 0) (more (node kind.SequenceType 2 5 (skip (more (name 4) none))) none))))
      ≡ fault code.Count 0 6
  -- make(n, 1)
  pub value_made :
      typed_value (sentence (predeclared_word predeclared.Make ∷ mark ∷ n_word ∷ mark ∷ word (codes "1") ∷ mark ∷ [])
      (node kind.Call 0 6 (more (name 0) (more (name 2) (more (number 4) none)))))
      ≡ fault code.NotAValue 2 3
  -- make([3]int, 1)
  pub array_made :
      typed_value (sentence (predeclared_word predeclared.Make ∷ mark ∷ mark ∷ word (codes "3") ∷ mark ∷ predeclared_word predeclared.Int ∷ mark ∷ word (codes "1") ∷ mark ∷ [])
      (node kind.Call 0 9 (more (name 0) (more (node kind.SequenceType 2 6 (more (number 3) (more (name 5) none))) (more (number 7) none)))))
      ≡ fault code.Operands 0 9
  -- make([]int, -1)
  pub negative_size :
      typed_value (sentence (predeclared_word predeclared.Make ∷ mark ∷ mark ∷ mark ∷ predeclared_word predeclared.Int ∷ mark ∷ mark ∷ word (codes "1") ∷ mark ∷ [])
      (node kind.Call 0 9 (more (name 0) (more (node kind.SequenceType 2 5 (skip (more (name 4) none))) (more (prefix_of sign.Minus (number 7)) none)))))
      ≡ fault code.ConstIndex 6 8
  -- make([]int, -1, 1, 2)
  pub many_sizes :
      typed_value (sentence (predeclared_word predeclared.Make ∷ mark ∷ mark ∷ mark ∷
      predeclared_word predeclared.Int ∷ mark ∷ mark ∷ word (codes "1") ∷ mark ∷ word (codes "1") ∷ mark ∷ word (codes "2") ∷ mark ∷ [])
      (node kind.Call 0 13 (more (name 0) (more (node kind.SequenceType 2 5 (skip (more (name 4) none))) (more (prefix_of sign.Minus (number 7)) (more (number 9) (more (number 11) none)))))))
      ≡ fault code.Count 0 13
  -- append(s, 1)
  pub appended :
      typed_value (sentence (predeclared_word predeclared.Append ∷ mark ∷ s_word ∷ mark ∷ word (codes "1") ∷ mark ∷ [])
      (node kind.Call 0 6 (more (name 0) (more (name 2) (more (number 4) none)))))
      ≡ Ok (sort.Value (slice (integer integer_kind.Int)))
  -- append(bs, 300)
  pub wide_appended :
      typed_value (sentence (predeclared_word predeclared.Append ∷ mark ∷ bs_word ∷ mark ∷ word (codes "300") ∷ mark ∷ [])
      (node kind.Call 0 6 (more (name 0) (more (name 2) (more (number 4) none)))))
      ≡ fault code.Representable 4 5
  -- append(nil, 1)
  pub appended_to_nil :
      typed_value (sentence (predeclared_word predeclared.Append ∷ mark ∷ predeclared_word predeclared.Nil ∷ mark ∷ word (codes "1") ∷ mark ∷ [])
      (node kind.Call 0 6 (more (name 0) (more (name 2) (more (number 4) none)))))
      ≡ fault code.Operands 0 6
  -- append(ss)
  pub nothing_appended :
      typed_value (sentence (predeclared_word predeclared.Append ∷ mark ∷ ss_word ∷ mark ∷ [])
      (node kind.Call 0 4 (more (name 0) (more (name 2) none))))
      ≡ Ok (sort.Value (declared 3))
  -- copy(bs, t)
  pub copied :
      typed_value (sentence (predeclared_word predeclared.Copy ∷ mark ∷ bs_word ∷ mark ∷ t_word ∷ mark ∷ [])
      (node kind.Call 0 6 (more (name 0) (more (name 2) (more (name 4) none)))))
      ≡ Ok (sort.Value (integer integer_kind.Int))
  -- copy(s, bs)
  pub other_elements :
      typed_value (sentence (predeclared_word predeclared.Copy ∷ mark ∷ s_word ∷ mark ∷ bs_word ∷ mark ∷ [])
      (node kind.Call 0 6 (more (name 0) (more (name 2) (more (name 4) none)))))
      ≡ fault code.Operands 0 6
  -- copy(s)
  pub one_copied :
      typed_value (sentence (predeclared_word predeclared.Copy ∷ mark ∷ s_word ∷ mark ∷ [])
      (node kind.Call 0 4 (more (name 0) (more (name 2) none))))
      ≡ fault code.Count 0 4
  -- copy(s, t)
  pub text_into_numbers :
      typed_value (sentence (predeclared_word predeclared.Copy ∷ mark ∷ s_word ∷ mark ∷ t_word ∷ mark ∷ [])
      (node kind.Call 0 6 (more (name 0) (more (name 2) (more (name 4) none)))))
      ≡ fault code.Operands 0 6
  -- panic(1)
  pub stopped :
      told statement (sentence (predeclared_word predeclared.Panic ∷ mark ∷ word (codes "1") ∷ mark ∷ [])
      (node kind.Call 0 4 (more (name 0) (more (number 2) none))))
      ≡ Ok no_results
  -- panic(s)
  pub stopped_with_slice :
      told statement (sentence (predeclared_word predeclared.Panic ∷ mark ∷ s_word ∷ mark ∷ [])
      (node kind.Call 0 4 (more (name 0) (more (name 2) none))))
      ≡ fault code.Operands 0 4
  -- fmt.Println(1, t, b)
  pub printed :
      told statement (sentence (fmt ∷ mark ∷ word (codes "Println") ∷ mark ∷ word (codes "1") ∷ mark ∷ t_word ∷ mark ∷ b_word ∷ mark ∷ [])
      (node kind.Call 0 10 (more (node kind.Selector 0 3 (more (name 0) none)) (more (number 4) (more (name 6) (more (name 8) none))))))
      ≡ Ok no_results
  -- fmt.Println(1 << 70)
  pub wide_printed :
      told statement (sentence (fmt ∷ mark ∷ word (codes "Println") ∷ mark ∷ word (codes "1") ∷ mark ∷ word (codes "70") ∷ mark ∷ [])
      (node kind.Call 0 8 (more (node kind.Selector 0 3 (more (name 0) none)) (more (infix_of (operator.Compute arithmetic.ShiftLeft) (number 4) (number 6)) none))))
      ≡ fault code.Representable 4 7
  -- fmt.Println(nil)
  pub nil_printed :
      told statement (sentence (fmt ∷ mark ∷ word (codes "Println") ∷ mark ∷ predeclared_word predeclared.Nil ∷ mark ∷ [])
      (node kind.Call 0 6 (more (node kind.Selector 0 3 (more (name 0) none)) (more (name 4) none))))
      ≡ fault code.Operands 0 6
  -- len
  pub predeclared_alone :
      typed_value (sentence (predeclared_word predeclared.Len ∷ [])
      (name 0))
      ≡ fault code.NotAValue 0 1
  -- panic(1)
  pub panic_as_value :
      typed_value (sentence (predeclared_word predeclared.Panic ∷ mark ∷ word (codes "1") ∷ mark ∷ [])
      (node kind.Call 0 4 (more (name 0) (more (number 2) none))))
      ≡ fault code.NotAValue 0 4
  -- min(2, 1)
  pub least :
      typed_value (sentence (predeclared_word predeclared.Min ∷ mark ∷ word (codes "2") ∷ mark ∷ word (codes "1") ∷ mark ∷ [])
      (node kind.Call 0 6 (more (name 0) (more (number 2) (more (number 4) none)))))
      ≡ Ok (sort.OpenConstant (const.Int (pos 1) false))
  -- min('a', 1)
  pub least_with_rune :
      typed_value (sentence (predeclared_word predeclared.Min ∷ mark ∷ word (codes "'a'") ∷ mark ∷ word (codes "1") ∷ mark ∷ [])
      (node kind.Call 0 6 (more (name 0) (more (character 2) (more (number 4) none)))))
      ≡ Ok (sort.OpenConstant (const.Int (pos 1) true))
  -- what is called and the arguments of min('a', 1)
  pub own_defaults :
      part_sorts (sentence (predeclared_word predeclared.Min ∷ mark ∷ word (codes "'a'") ∷ mark ∷ word (codes "1") ∷ mark ∷ [])
      (node kind.Call 0 6 (more (name 0) (more (character 2) (more (number 4) none)))))
      ≡ Some (sort.Builtin predeclared.Min) ∷ Some (sort.Constant (integer integer_kind.Int32) (const.Int (pos 97) true)) ∷ Some (sort.Constant (integer integer_kind.Int) (const.Int (pos 1) false)) ∷ []
  -- max("a", "b")
  pub greatest_text :
      typed_value (sentence (predeclared_word predeclared.Max ∷ mark ∷ word (codes "\"a\"") ∷ mark ∷ word (codes "\"b\"") ∷ mark ∷ [])
      (node kind.Call 0 6 (more (name 0) (more (string 2) (more (string 4) none)))))
      ≡ Ok (sort.OpenConstant (const.Text (98 ∷ [])))
  -- int8(max(1, 300))
  pub wide_greatest :
      typed_value (sentence (predeclared_word predeclared.Int8 ∷ mark ∷ predeclared_word predeclared.Max ∷ mark ∷ word (codes "1") ∷ mark ∷ word (codes "300") ∷ mark ∷ mark ∷ [])
      (node kind.Call 0 9 (more (name 0) (more (node kind.Call 2 8 (more (name 2) (more (number 4) (more (number 6) none)))) none))))
      ≡ fault code.Representable 2 8
  -- min()
  pub least_of_none :
      typed_value (sentence (predeclared_word predeclared.Min ∷ mark ∷ mark ∷ [])
      (node kind.Call 0 3 (more (name 0) none)))
      ≡ fault code.Count 0 3
  -- min(1, "a")
  pub number_and_text :
      typed_value (sentence (predeclared_word predeclared.Min ∷ mark ∷ word (codes "1") ∷ mark ∷ word (codes "\"a\"") ∷ mark ∷ [])
      (node kind.Call 0 6 (more (name 0) (more (number 2) (more (string 4) none)))))
      ≡ fault code.Operands 0 6
  -- min(b)
  pub least_boolean :
      typed_value (sentence (predeclared_word predeclared.Min ∷ mark ∷ b_word ∷ mark ∷ [])
      (node kind.Call 0 4 (more (name 0) (more (name 2) none))))
      ≡ fault code.Operands 0 4
  -- max(n, nil)
  pub number_and_nil :
      typed_value (sentence (predeclared_word predeclared.Max ∷ mark ∷ n_word ∷ mark ∷ predeclared_word predeclared.Nil ∷ mark ∷ [])
      (node kind.Call 0 6 (more (name 0) (more (name 2) (more (name 4) none)))))
      ≡ fault code.Operands 0 6
  -- min(x8, n)
  pub two_types :
      typed_value (sentence (predeclared_word predeclared.Min ∷ mark ∷ x8_word ∷ mark ∷ n_word ∷ mark ∷ [])
      (node kind.Call 0 6 (more (name 0) (more (name 2) (more (name 4) none)))))
      ≡ fault code.Operands 0 6
  -- min(x8, 300)
  pub wide_argument_of_least :
      typed_value (sentence (predeclared_word predeclared.Min ∷ mark ∷ x8_word ∷ mark ∷ word (codes "300") ∷ mark ∷ [])
      (node kind.Call 0 6 (more (name 0) (more (name 2) (more (number 4) none)))))
      ≡ fault code.Representable 4 5
  -- min(300, d, 'a')
  pub named_least :
      typed_value (sentence (predeclared_word predeclared.Min ∷ mark ∷ word (codes "300") ∷ mark ∷ d_word ∷ mark ∷ word (codes "'a'") ∷ mark ∷ [])
      (node kind.Call 0 8 (more (name 0) (more (number 2) (more (name 4) (more (character 6) none))))))
      ≡ Ok (sort.Value (declared 2))
  -- what is called and the arguments of min(300, d, 'a')
  pub untyped_take_named :
      part_sorts (sentence (predeclared_word predeclared.Min ∷ mark ∷ word (codes "300") ∷ mark ∷ d_word ∷ mark ∷ word (codes "'a'") ∷ mark ∷ [])
      (node kind.Call 0 8 (more (name 0) (more (number 2) (more (name 4) (more (character 6) none))))))
      ≡ Some (sort.Builtin predeclared.Min) ∷ Some (sort.Constant (declared 2) (const.Int (pos 300) false)) ∷ Some (sort.Value (declared 2)) ∷ Some (sort.Constant (declared 2) (const.Int (pos 97) true)) ∷ []
  -- max(int8(5), 9)
  pub typed_constants :
      typed_value (sentence (predeclared_word predeclared.Max ∷ mark ∷ predeclared_word predeclared.Int8 ∷ mark ∷ word (codes "5") ∷ mark ∷ mark ∷ word (codes "9") ∷ mark ∷ [])
      (node kind.Call 0 9 (more (name 0) (more (node kind.Call 2 6 (more (name 2) (more (number 4) none))) (more (number 7) none)))))
      ≡ Ok (sort.Constant (integer integer_kind.Int8) (const.Int (pos 9) false))
  -- min(1 << n, 'a')
  pub open_shift_least :
      typed_value (sentence (predeclared_word predeclared.Min ∷ mark ∷ word (codes "1") ∷ mark ∷ n_word ∷ mark ∷ word (codes "'a'") ∷ mark ∷ [])
      (node kind.Call 0 8 (more (name 0) (more (infix_of (operator.Compute arithmetic.ShiftLeft) (number 2) (name 4)) (more (character 6) none)))))
      ≡ Ok (sort.Value (integer integer_kind.Int32))
  -- what is called and the arguments of min(1 << n, 2)
  pub take_the_default :
      part_sorts (sentence (predeclared_word predeclared.Min ∷ mark ∷ word (codes "1") ∷ mark ∷ n_word ∷ mark ∷ word (codes "2") ∷ mark ∷ [])
      (node kind.Call 0 8 (more (name 0) (more (infix_of (operator.Compute arithmetic.ShiftLeft) (number 2) (name 4)) (more (number 6) none)))))
      ≡ Some (sort.Builtin predeclared.Min) ∷ Some (sort.Value (integer integer_kind.Int)) ∷ Some (sort.Constant (integer integer_kind.Int) (const.Int (pos 2) false)) ∷ []
  -- max(1 << n, 1 << 70)
  pub wide_beside_shift :
      typed_value (sentence (predeclared_word predeclared.Max ∷ mark ∷ word (codes "1") ∷ mark ∷ n_word ∷ mark ∷ word (codes "1") ∷ mark ∷ word (codes "70") ∷ mark ∷ [])
      (node kind.Call 0 10 (more (name 0) (more (infix_of (operator.Compute arithmetic.ShiftLeft) (number 2) (name 4)) (more (infix_of (operator.Compute arithmetic.ShiftLeft) (number 6) (number 8)) none)))))
      ≡ fault code.Representable 6 9
  -- 1 + ((two()))
  pub several_in_parentheses :
      typed_value (sentence (word (codes "1") ∷ mark ∷ mark ∷ mark ∷ two_word ∷ mark ∷ mark ∷ mark ∷ mark ∷ [])
      (infix_of (operator.Compute arithmetic.Add) (number 0) (parens (parens (node kind.Call 4 7 (more (name 4) none))))))
      ≡ fault code.Count 4 7
  -- 1 + (do())
  pub none_in_parentheses :
      typed_value (sentence (word (codes "1") ∷ mark ∷ mark ∷ do_word ∷ mark ∷ mark ∷ mark ∷ [])
      (infix_of (operator.Compute arithmetic.Add) (number 0) (parens (node kind.Call 3 6 (more (name 3) none)))))
      ≡ fault code.NotAValue 2 7
  -- (two())
  pub right_side_in_parentheses :
      told several (sentence (mark ∷ two_word ∷ mark ∷ mark ∷ mark ∷ [])
      (parens (node kind.Call 1 4 (more (name 1) none))))
      ≡ Ok (sort.Results (function (row ([])) (row ((integer integer_kind.Int) ∷ text ∷ []))))
