-- Worked examples of composite literals, from the Go specification.
use Rattle.std.specs.Prelude.{◌≡◌, true, false, [], ◌∷◌, codes, Ok, pos, neg_ℤ}
use Rattle.go_base.specs.declared.fault.FaultCode.TheVariants as code
use Rattle.go_ints.specs.declared.kinds.Kind.TheVariants as integer_kind
use Rattle.go_constants.specs.declared.values.Const.TheVariants as const
use Rattle.go_grammar.specs.declared.kind.Arithmetic.TheVariants as arithmetic
use Rattle.go_grammar.specs.declared.kind.Comparison.TheVariants as comparison
use Rattle.go_grammar.specs.declared.kind.Operator.TheVariants as operator
use Rattle.go_grammar.specs.declared.kind.Kind.TheVariants as kind
use Rattle.go_grammar.specs.declared.kind.Sign.TheVariants as sign
use Rattle.go_grammar.specs.Trees.{node, none, more, skip}
use Rattle.go_tree.specs.declared.object.Predeclared.TheVariants as predeclared
use Rattle.go_types.specs.Trees.{boolean, text, integer, array, slice, structure, function, declared, row}
use Rattle.go_typed.specs.declared.sort.Untyped.TheVariants as untyped
use Rattle.go_typed.specs.Trees as sort
use Rattle.go_exprs_rules.specs.Calls.{no_results}
use Rattle.go_exprs_rules.specs.Scopes.{several, type_place, statement}
use Rattle.go_exprs_rules.specs.Sentences.{A_word, D_word, S_word, T_word, b_word, fault, infix_of, mark, n_word, name, number, predeclared_word, sentence, string, typed_value, word}

pub record LiteralExamples : Type 0 where
  -- T{}
  pub empty :
      typed_value (sentence (T_word ∷ mark ∷ mark ∷ [])
      (node kind.Composite 0 3 (more (name 0) none)))
      ≡ Ok (sort.Value (declared 1))
  -- T{1, "a"}
  pub in_order :
      typed_value (sentence (T_word ∷ mark ∷ word (codes "1") ∷ mark ∷ word (codes "\"a\"") ∷ mark ∷ [])
      (node kind.Composite 0 6 (more (name 0) (more (number 2) (more (string 4) none)))))
      ≡ Ok (sort.Value (declared 1))
  -- T{b: "a"}
  pub by_key :
      typed_value (sentence (T_word ∷ mark ∷ b_word ∷ mark ∷ word (codes "\"a\"") ∷ mark ∷ [])
      (node kind.Composite 0 6 (more (name 0) (more (node kind.Keyed 2 5 (more (name 2) (more (string 4) none))) none))))
      ≡ Ok (sort.Value (declared 1))
  -- T{1}
  pub too_few_fields :
      typed_value (sentence (T_word ∷ mark ∷ word (codes "1") ∷ mark ∷ [])
      (node kind.Composite 0 4 (more (name 0) (more (number 2) none))))
      ≡ fault code.Count 0 4
  -- T{c: 1}
  pub unknown_key :
      typed_value (sentence (T_word ∷ mark ∷ word (codes "c") ∷ mark ∷ word (codes "1") ∷ mark ∷ [])
      (node kind.Composite 0 6 (more (name 0) (more (node kind.Keyed 2 5 (more (name 2) (more (number 4) none))) none))))
      ≡ fault code.Operands 0 6
  -- T{a: 1, "b"}
  pub mixture :
      typed_value (sentence (T_word ∷ mark ∷ word (codes "a") ∷ mark ∷ word (codes "1") ∷ mark ∷ word (codes "\"b\"") ∷ mark ∷ [])
      (node kind.Composite 0 8 (more (name 0) (more (node kind.Keyed 2 5 (more (name 2) (more (number 4) none))) (more (string 6) none)))))
      ≡ fault code.Operands 0 8
  -- T{b: 1}
  pub wrong_field :
      typed_value (sentence (T_word ∷ mark ∷ b_word ∷ mark ∷ word (codes "1") ∷ mark ∷ [])
      (node kind.Composite 0 6 (more (name 0) (more (node kind.Keyed 2 5 (more (name 2) (more (number 4) none))) none))))
      ≡ fault code.Assignable 4 5
  -- T{"a", 1}
  pub wrong_place :
      typed_value (sentence (T_word ∷ mark ∷ word (codes "\"a\"") ∷ mark ∷ word (codes "1") ∷ mark ∷ [])
      (node kind.Composite 0 6 (more (name 0) (more (string 2) (more (number 4) none)))))
      ≡ fault code.Assignable 2 3
  -- A{1, 2}
  pub array_elements :
      typed_value (sentence (A_word ∷ mark ∷ word (codes "1") ∷ mark ∷ word (codes "2") ∷ mark ∷ [])
      (node kind.Composite 0 6 (more (name 0) (more (number 2) (more (number 4) none)))))
      ≡ Ok (sort.Value (declared 0))
  -- A{300}
  pub wide_element :
      typed_value (sentence (A_word ∷ mark ∷ word (codes "300") ∷ mark ∷ [])
      (node kind.Composite 0 4 (more (name 0) (more (number 2) none))))
      ≡ fault code.Representable 2 3
  -- A{1, 2, 3, "a"}
  pub wrong_fourth :
      typed_value (sentence (A_word ∷ mark ∷ word (codes "1") ∷ mark ∷ word (codes "2") ∷ mark ∷ word (codes "3") ∷ mark ∷ word (codes "\"a\"") ∷ mark ∷ [])
      (node kind.Composite 0 10 (more (name 0) (more (number 2) (more (number 4) (more (number 6) (more (string 8) none)))))))
      ≡ fault code.Assignable 8 9
  -- A{1, 2, 3, 4}
  pub fourth :
      typed_value (sentence (A_word ∷ mark ∷ word (codes "1") ∷ mark ∷ word (codes "2") ∷ mark ∷ word (codes "3") ∷ mark ∷ word (codes "4") ∷ mark ∷ [])
      (node kind.Composite 0 10 (more (name 0) (more (number 2) (more (number 4) (more (number 6) (more (number 8) none)))))))
      ≡ fault code.ConstIndex 8 9
  -- A{a: 1}
  pub keyed_array :
      typed_value (sentence (A_word ∷ mark ∷ word (codes "a") ∷ mark ∷ word (codes "1") ∷ mark ∷ [])
      (node kind.Composite 0 6 (more (name 0) (more (node kind.Keyed 2 5 (more (name 2) (more (number 4) none))) none))))
      ≡ fault code.Operands 0 6
  -- []T{{1, "a"}, {}}
  pub elided :
      typed_value (sentence (mark ∷ mark ∷ T_word ∷ mark ∷ mark ∷ word (codes "1") ∷ mark ∷ word (codes "\"a\"") ∷ mark ∷ mark ∷ mark ∷ mark ∷ mark ∷ [])
      (node kind.Composite 0 13 (more (node kind.SequenceType 0 3 (skip (more (name 2) none))) (more (node kind.LiteralValue 4 9 (more (number 5) (more (string 7) none))) (more (node kind.LiteralValue 10 12 none) none)))))
      ≡ Ok (sort.Value (slice (declared 1)))
  -- []T{{{}, "a"}}
  pub elided_in_struct :
      typed_value (sentence (mark ∷ mark ∷ T_word ∷ mark ∷ mark ∷ mark ∷ mark ∷ mark ∷ word (codes "\"a\"") ∷ mark ∷ mark ∷ [])
      (node kind.Composite 0 11 (more (node kind.SequenceType 0 3 (skip (more (name 2) none))) (more (node kind.LiteralValue 4 10 (more (node kind.LiteralValue 5 7 none) (more (string 8) none))) none))))
      ≡ fault code.Operands 5 7
  -- S{{}}
  pub elided_number :
      typed_value (sentence (S_word ∷ mark ∷ mark ∷ mark ∷ mark ∷ [])
      (node kind.Composite 0 5 (more (name 0) (more (node kind.LiteralValue 2 4 none) none))))
      ≡ fault code.Operands 2 4
  -- D{}
  pub no_literal :
      typed_value (sentence (D_word ∷ mark ∷ mark ∷ [])
      (node kind.Composite 0 3 (more (name 0) none)))
      ≡ fault code.Operands 0 3
  -- []int{1 << n}
  pub open_elements :
      typed_value (sentence (mark ∷ mark ∷ predeclared_word predeclared.Int ∷ mark ∷ word (codes "1") ∷ mark ∷ n_word ∷ mark ∷ [])
      (node kind.Composite 0 8 (more (node kind.SequenceType 0 3 (skip (more (name 2) none))) (more (infix_of (operator.Compute arithmetic.ShiftLeft) (number 4) (name 6)) none))))
      ≡ Ok (sort.Value (slice (integer integer_kind.Int)))
  -- [2][]int{{1}, {2, n}}
  pub nested :
      typed_value (sentence (mark ∷ word (codes "2") ∷ mark ∷ mark ∷ mark ∷ predeclared_word predeclared.Int ∷ mark ∷
      mark ∷ word (codes "1") ∷ mark ∷ mark ∷ mark ∷ word (codes "2") ∷ mark ∷ n_word ∷ mark ∷ mark ∷ [])
      (node kind.Composite 0 17 (more (node kind.SequenceType 0 6 (more (number 1) (more (node kind.SequenceType 3 6 (skip
      (more (name 5) none))) none))) (more (node kind.LiteralValue 7 10 (more (number 8) none)) (more (node kind.LiteralValue 11 16
      (more (number 12) (more (name 14) none))) none)))))
      ≡ Ok (sort.Value (array 2 (slice (integer integer_kind.Int))))
  -- []T{{1}}
  pub wrong_elided :
      typed_value (sentence (mark ∷ mark ∷ T_word ∷ mark ∷ mark ∷ word (codes "1") ∷ mark ∷ mark ∷ [])
      (node kind.Composite 0 8 (more (node kind.SequenceType 0 3 (skip (more (name 2) none))) (more (node kind.LiteralValue 4 7 (more (number 5) none)) none))))
      ≡ fault code.Count 4 7
  -- []bool{n < 1}
  pub comparison_element :
      typed_value (sentence (mark ∷ mark ∷ predeclared_word predeclared.Bool ∷ mark ∷ n_word ∷ mark ∷ word (codes "1") ∷ mark ∷ [])
      (node kind.Composite 0 8 (more (node kind.SequenceType 0 3 (skip (more (name 2) none))) (more (infix_of (operator.Compare comparison.Less) (name 4) (number 6)) none))))
      ≡ Ok (sort.Value (slice boolean))
