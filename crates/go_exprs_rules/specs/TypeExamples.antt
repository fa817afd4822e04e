-- Worked examples of types and places, from the Go specification.
use Rattle.std.specs.Prelude.{◌≡◌, true, false, [], ◌∷◌, codes, Ok, pos, neg_ℤ}
use Rattle.go_base.specs.declared.fault.FaultCode.TheVariants as code
use Rattle.go_ints.specs.declared.kinds.Kind.TheVariants as integer_kind
use Rattle.go_constants.specs.declared.values.Const.TheVariants as const
use Rattle.go_grammar.specs.declared.kind.Arithmetic.TheVariants as arithmetic
use Rattle.go_grammar.specs.declared.kind.Comparison.TheVariants as comparison
use Rattle.go_grammar.specs.declared.kind.Operator.TheVariants as operator
use Rattle.go_grammar.specs.declared.kind.Kind.TheVariants as kind
use Rattle.go_grammar.specs.declared.kind.Sign.TheVariants as sign
use Rattle.go_grammar.specs.Trees.{node, none, more, skip}
use Rattle.go_tree.specs.declared.object.Predeclared.TheVariants as predeclared
use Rattle.go_types.specs.Trees.{boolean, text, integer, array, slice, structure, function, declared, row}
use Rattle.go_typed.specs.declared.sort.Untyped.TheVariants as untyped
use Rattle.go_typed.specs.Trees as sort
use Rattle.go_exprs_rules.specs.Calls.{no_results}
use Rattle.go_exprs_rules.specs.Scopes.{several, type_place, statement}
use Rattle.go_exprs_rules.specs.Sentences.{T_word, b_word, fault, infix_of, lost_word, mark, n_word, name, number, parens, predeclared_word, prefix_of, s_word, sentence, string, t_word, told, typed_value, u_word, word}

pub record TypeExamples : Type 0 where
  -- [3]int
  pub array_type :
      told type_place (sentence (mark ∷ word (codes "3") ∷ mark ∷ predeclared_word predeclared.Int ∷ [])
      (node kind.SequenceType 0 4 (more (number 1) (more (name 3) none))))
      ≡ Ok (sort.IsType (array 3 (integer integer_kind.Int)))
  -- []T
  pub slice_type :
      told type_place (sentence (mark ∷ mark ∷ T_word ∷ [])
      (node kind.SequenceType 0 3 (skip (more (name 2) none))))
      ≡ Ok (sort.IsType (slice (declared 1)))
  -- [n]int
  pub length_no_constant :
      told type_place (sentence (mark ∷ n_word ∷ mark ∷ predeclared_word predeclared.Int ∷ [])
      (node kind.SequenceType 0 4 (more (name 1) (more (name 3) none))))
      ≡ fault code.Operands 1 2
  -- ["a"]int
  pub length_no_integer :
      told type_place (sentence (mark ∷ word (codes "\"a\"") ∷ mark ∷ predeclared_word predeclared.Int ∷ [])
      (node kind.SequenceType 0 4 (more (string 1) (more (name 3) none))))
      ≡ fault code.Operands 1 2
  -- [-1]int
  pub negative_length :
      told type_place (sentence (mark ∷ mark ∷ word (codes "1") ∷ mark ∷ predeclared_word predeclared.Int ∷ [])
      (node kind.SequenceType 0 5 (more (prefix_of sign.Minus (number 2)) (more (name 4) none))))
      ≡ fault code.ConstIndex 1 3
  -- [1 << 20]int
  pub at_limit :
      told type_place (sentence (mark ∷ word (codes "1") ∷ mark ∷ word (codes "20") ∷ mark ∷ predeclared_word predeclared.Int ∷ [])
      (node kind.SequenceType 0 6 (more (infix_of (operator.Compute arithmetic.ShiftLeft) (number 1) (number 3)) (more (name 5) none))))
      ≡ Ok (sort.IsType (array 1048576 (integer integer_kind.Int)))
  -- [1 << 20 + 1]int
  pub above_limit :
      told type_place (sentence (mark ∷ word (codes "1") ∷ mark ∷ word (codes "20") ∷ mark ∷ word (codes "1") ∷ mark ∷ predeclared_word predeclared.Int ∷ [])
      (node kind.SequenceType 0 8 (more (infix_of (operator.Compute arithmetic.Add) (infix_of (operator.Compute arithmetic.ShiftLeft) (number 1) (number 3)) (number 5)) (more (name 7) none))))
      ≡ fault code.Limit 0 8
  -- [1 << 11][1 << 10]int
  pub two_dimensions :
      told type_place (sentence (mark ∷ word (codes "1") ∷ mark ∷ word (codes "11") ∷ mark ∷ mark ∷ word (codes "1") ∷ mark ∷ word (codes "10") ∷ mark ∷ predeclared_word predeclared.Int ∷ [])
      (node kind.SequenceType 0 11 (more (infix_of (operator.Compute arithmetic.ShiftLeft) (number 1) (number 3))
      (more (node kind.SequenceType 5 11 (more (infix_of (operator.Compute arithmetic.ShiftLeft) (number 6) (number 8)) (more (name 10) none))) none))))
      ≡ fault code.Limit 0 11
  -- [1 << 70]int
  pub wide_length :
      told type_place (sentence (mark ∷ word (codes "1") ∷ mark ∷ word (codes "70") ∷ mark ∷ predeclared_word predeclared.Int ∷ [])
      (node kind.SequenceType 0 6 (more (infix_of (operator.Compute arithmetic.ShiftLeft) (number 1) (number 3)) (more (name 5) none))))
      ≡ fault code.Limit 0 6
  -- [len("abc")]int
  pub constant_length :
      told type_place (sentence (mark ∷ predeclared_word predeclared.Len ∷ mark ∷ word (codes "\"abc\"") ∷ mark ∷ mark ∷ predeclared_word predeclared.Int ∷ [])
      (node kind.SequenceType 0 7 (more (node kind.Call 1 5 (more (name 1) (more (string 3) none))) (more (name 6) none))))
      ≡ Ok (sort.IsType (array 3 (integer integer_kind.Int)))
  -- [1 << n]int
  pub open_length :
      told type_place (sentence (mark ∷ word (codes "1") ∷ mark ∷ n_word ∷ mark ∷ predeclared_word predeclared.Int ∷ [])
      (node kind.SequenceType 0 6 (more (infix_of (operator.Compute arithmetic.ShiftLeft) (number 1) (name 3)) (more (name 5) none))))
      ≡ fault code.Operands 1 4
  -- []([3]n)
  pub variable_in_parentheses :
      told type_place (sentence (mark ∷ mark ∷ mark ∷ mark ∷ word (codes "3") ∷ mark ∷ n_word ∷ mark ∷ [])
      (node kind.SequenceType 0 8 (skip (more (node kind.ParenthesizedType 2 8 (more (node kind.SequenceType 3 7 (more (number 4) (more (name 6) none))) none)) none))))
      ≡ fault code.NotAValue 6 7
  -- struct { a, b int; c []T }
  pub struct_type :
      told type_place (sentence (mark ∷ mark ∷ word (codes "a") ∷ mark ∷ b_word ∷ predeclared_word predeclared.Int ∷ mark ∷ word (codes "c") ∷ mark ∷ mark ∷ T_word ∷ mark ∷ [])
      (node kind.StructType 0 12 (more (node kind.Fields 2 6 (more (node kind.NameList 2 5 (more (node kind.DeclaredName 2 3 none)
      (more (node kind.DeclaredName 4 5 none) none))) (more (name 5) none))) (more (node kind.Fields 7 11 (more (node kind.NameList 7 8
      (more (node kind.DeclaredName 7 8 none) none)) (more (node kind.SequenceType 8 11 (skip (more (name 10) none))) none))) none))))
      ≡ Ok (sort.IsType (structure (codes "a" ∷ codes "b" ∷ codes "c" ∷ []) (row ((integer integer_kind.Int) ∷ (integer integer_kind.Int) ∷ (slice (declared 1)) ∷ []))))
  -- func(n, u int, t string) (bool, T)
  pub function_type :
      told type_place (sentence (mark ∷ mark ∷ n_word ∷ mark ∷ u_word ∷ predeclared_word predeclared.Int ∷ mark ∷ t_word ∷
      predeclared_word predeclared.String ∷ mark ∷ mark ∷ predeclared_word predeclared.Bool ∷ mark ∷ T_word ∷ mark ∷ [])
      (node kind.FunctionType 0 15 (more (node kind.Signature 1 15 (more (node kind.Parameters 1 10 (more (name 2)
      (more (node kind.Parameter 4 6 (more (name 4) (more (name 5) none))) (more (node kind.Parameter 7 9 (more (name 7)
      (more (name 8) none))) none)))) (more (node kind.Results 10 15 (more (name 11) (more (name 13) none))) none))) none)))
      ≡ Ok (sort.IsType (function (row ((integer integer_kind.Int) ∷ (integer integer_kind.Int) ∷ text ∷ [])) (row (boolean ∷ (declared 1) ∷ []))))
  -- func(int, []T) T
  pub unnamed_parameters :
      told type_place (sentence (mark ∷ mark ∷ predeclared_word predeclared.Int ∷ mark ∷ mark ∷ mark ∷ T_word ∷ mark ∷ T_word ∷ [])
      (node kind.FunctionType 0 9 (more (node kind.Signature 1 9 (more (node kind.Parameters 1 8 (more (name 2) (more (node kind.SequenceType 4 7 (skip (more (name 6) none))) none))) (more (name 8) none))) none)))
      ≡ Ok (sort.IsType (function (row ((integer integer_kind.Int) ∷ (slice (declared 1)) ∷ [])) (row ((declared 1) ∷ []))))
  -- ([]int)(s)
  pub parenthesized_type :
      typed_value (sentence (mark ∷ mark ∷ mark ∷ predeclared_word predeclared.Int ∷ mark ∷ mark ∷ s_word ∷ mark ∷ [])
      (node kind.Call 0 8 (more (parens (node kind.SequenceType 1 4 (skip (more (name 3) none)))) (more (name 6) none))))
      ≡ Ok (sort.Value (slice (integer integer_kind.Int)))
  -- []n
  pub value_as_type :
      told type_place (sentence (mark ∷ mark ∷ n_word ∷ [])
      (node kind.SequenceType 0 3 (skip (more (name 2) none))))
      ≡ fault code.NotAValue 2 3
  -- []n{}
  pub elements_no_type :
      typed_value (sentence (mark ∷ mark ∷ n_word ∷ mark ∷ mark ∷ [])
      (node kind.Composite 0 5 (more (node kind.SequenceType 0 3 (skip (more (name 2) none))) none)))
      ≡ fault code.NotAValue 2 3
  -- int
  pub type_as_value :
      typed_value (sentence (predeclared_word predeclared.Int ∷ [])
      (name 0))
      ≡ fault code.NotAValue 0 1
  -- -int
  pub type_as_operand :
      typed_value (sentence (mark ∷ predeclared_word predeclared.Int ∷ [])
      (prefix_of sign.Minus (name 1)))
      ≡ fault code.NotAValue 1 2
  -- (int)
  pub type_in_parentheses :
      typed_value (sentence (mark ∷ predeclared_word predeclared.Int ∷ mark ∷ [])
      (parens (name 1)))
      ≡ fault code.NotAValue 0 3
  -- _
  pub blank_as_value : typed_value (sentence (word (codes "_") ∷ []) (name 0)) ≡ fault code.NotAValue 0 1
  -- -lost
  pub unknown_part : typed_value (sentence (mark ∷ lost_word ∷ []) (prefix_of sign.Minus (name 1))) ≡ Ok sort.Unknown
  -- _
  pub nothing_stated : told statement (sentence (word (codes "_") ∷ []) (name 0)) ≡ fault code.NotAValue 0 1
  -- 1 / 0 + -"a"
  pub first_of_two :
      typed_value (sentence (word (codes "1") ∷ mark ∷ word (codes "0") ∷ mark ∷ mark ∷ word (codes "\"a\"") ∷ [])
      (infix_of (operator.Compute arithmetic.Add) (infix_of (operator.Compute arithmetic.Divide) (number 0) (number 2)) (prefix_of sign.Minus (string 5))))
      ≡ fault code.ZeroDivisor 2 3
