-- Worked examples of comparisons, from the Go specification.
use Rattle.std.specs.Prelude.{◌≡◌, true, false, [], ◌∷◌, codes, Some, Ok, pos, neg_ℤ}
use Rattle.go_base.specs.declared.fault.FaultCode.TheVariants as code
use Rattle.go_ints.specs.declared.kinds.Kind.TheVariants as integer_kind
use Rattle.go_constants.specs.declared.values.Const.TheVariants as const
use Rattle.go_grammar.specs.declared.kind.Arithmetic.TheVariants as arithmetic
use Rattle.go_grammar.specs.declared.kind.Comparison.TheVariants as comparison
use Rattle.go_grammar.specs.declared.kind.Operator.TheVariants as operator
use Rattle.go_grammar.specs.declared.kind.Kind.TheVariants as kind
use Rattle.go_grammar.specs.declared.kind.Sign.TheVariants as sign
use Rattle.go_grammar.specs.Trees.{node, none, more, skip}
use Rattle.go_tree.specs.declared.object.Predeclared.TheVariants as predeclared
use Rattle.go_types.specs.Trees.{boolean, text, integer, array, slice, structure, function, declared, row}
use Rattle.go_typed.specs.declared.sort.Untyped.TheVariants as untyped
use Rattle.go_typed.specs.Trees as sort
use Rattle.go_exprs_rules.specs.Calls.{no_results}
use Rattle.go_exprs_rules.specs.Scopes.{several, type_place, statement}
use Rattle.go_exprs_rules.specs.Sentences.{a3_word, f_word, fault, infix_of, mark, n_word, name, number, parens, part_sorts, predeclared_word, s_word, sentence, ss_word, string, typed_value, word, x8_word}

pub record ComparisonExamples : Type 0 where
  -- n < 1
  pub compared :
      typed_value (sentence (n_word ∷ mark ∷ word (codes "1") ∷ [])
      (infix_of (operator.Compare comparison.Less) (name 0) (number 2)))
      ≡ Ok (sort.Open untyped.Boolean)
  -- 1 == 1
  pub constants_compared :
      typed_value (sentence (word (codes "1") ∷ mark ∷ word (codes "1") ∷ [])
      (infix_of (operator.Compare comparison.Equal) (number 0) (number 2)))
      ≡ Ok (sort.OpenConstant (const.Bool true))
  -- s == nil
  pub slice_and_nil :
      typed_value (sentence (s_word ∷ mark ∷ predeclared_word predeclared.Nil ∷ [])
      (infix_of (operator.Compare comparison.Equal) (name 0) (name 2)))
      ≡ Ok (sort.Open untyped.Boolean)
  -- nil != f
  pub function_and_nil :
      typed_value (sentence (predeclared_word predeclared.Nil ∷ mark ∷ f_word ∷ [])
      (infix_of (operator.Compare comparison.NotEqual) (name 0) (name 2)))
      ≡ Ok (sort.Open untyped.Boolean)
  -- s == nil
  pub nil_takes_slice :
      part_sorts (sentence (s_word ∷ mark ∷ predeclared_word predeclared.Nil ∷ [])
      (infix_of (operator.Compare comparison.Equal) (name 0) (name 2)))
      ≡ Some (sort.Value (slice (integer integer_kind.Int))) ∷ Some (sort.Value (slice (integer integer_kind.Int))) ∷ []
  -- (nil) != ss
  pub nil_takes_declared :
      part_sorts (sentence (mark ∷ predeclared_word predeclared.Nil ∷ mark ∷ mark ∷ ss_word ∷ [])
      (infix_of (operator.Compare comparison.NotEqual) (parens (name 1)) (name 4)))
      ≡ Some (sort.Value (declared 3)) ∷ Some (sort.Value (declared 3)) ∷ []
  -- s == s
  pub slices_compared :
      typed_value (sentence (s_word ∷ mark ∷ s_word ∷ [])
      (infix_of (operator.Compare comparison.Equal) (name 0) (name 2)))
      ≡ fault code.NotComparable 0 3
  -- nil == nil
  pub nil_and_nil :
      typed_value (sentence (predeclared_word predeclared.Nil ∷ mark ∷ predeclared_word predeclared.Nil ∷ [])
      (infix_of (operator.Compare comparison.Equal) (name 0) (name 2)))
      ≡ fault code.Operands 0 3
  -- s < nil
  pub nil_ordered :
      typed_value (sentence (s_word ∷ mark ∷ predeclared_word predeclared.Nil ∷ [])
      (infix_of (operator.Compare comparison.Less) (name 0) (name 2)))
      ≡ fault code.Operands 0 3
  -- true < false
  pub booleans_ordered :
      typed_value (sentence (predeclared_word predeclared.True ∷ mark ∷ predeclared_word predeclared.False ∷ [])
      (infix_of (operator.Compare comparison.Less) (name 0) (name 2)))
      ≡ fault code.Operands 0 3
  -- a3 == a3
  pub arrays_compared :
      typed_value (sentence (a3_word ∷ mark ∷ a3_word ∷ [])
      (infix_of (operator.Compare comparison.Equal) (name 0) (name 2)))
      ≡ Ok (sort.Open untyped.Boolean)
  -- f == f
  pub functions_compared :
      typed_value (sentence (f_word ∷ mark ∷ f_word ∷ [])
      (infix_of (operator.Compare comparison.Equal) (name 0) (name 2)))
      ≡ fault code.NotComparable 0 3
  -- n == "a"
  pub number_and_text :
      typed_value (sentence (n_word ∷ mark ∷ word (codes "\"a\"") ∷ [])
      (infix_of (operator.Compare comparison.Equal) (name 0) (string 2)))
      ≡ fault code.Operands 0 3
  -- true == 1
  pub untyped_kinds :
      typed_value (sentence (predeclared_word predeclared.True ∷ mark ∷ word (codes "1") ∷ [])
      (infix_of (operator.Compare comparison.Equal) (name 0) (number 2)))
      ≡ fault code.Operands 0 3
  -- x8 == 300
  pub compared_range :
      typed_value (sentence (x8_word ∷ mark ∷ word (codes "300") ∷ [])
      (infix_of (operator.Compare comparison.Equal) (name 0) (number 2)))
      ≡ fault code.Representable 2 3
  -- ss == s
  pub named_and_literal :
      typed_value (sentence (ss_word ∷ mark ∷ s_word ∷ [])
      (infix_of (operator.Compare comparison.Equal) (name 0) (name 2)))
      ≡ fault code.NotComparable 0 3
