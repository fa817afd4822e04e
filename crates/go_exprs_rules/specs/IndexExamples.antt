-- Worked examples of selectors, index expressions and slice expressions, from the Go specification.
use Rattle.std.specs.Prelude.{◌≡◌, true, false, [], ◌∷◌, codes, Ok, pos, neg_ℤ}
use Rattle.go_base.specs.declared.fault.FaultCode.TheVariants as code
use Rattle.go_ints.specs.declared.kinds.Kind.TheVariants as integer_kind
use Rattle.go_constants.specs.declared.values.Const.TheVariants as const
use Rattle.go_grammar.specs.declared.kind.Arithmetic.TheVariants as arithmetic
use Rattle.go_grammar.specs.declared.kind.Comparison.TheVariants as comparison
use Rattle.go_grammar.specs.declared.kind.Operator.TheVariants as operator
use Rattle.go_grammar.specs.declared.kind.Kind.TheVariants as kind
use Rattle.go_grammar.specs.declared.kind.Sign.TheVariants as sign
use Rattle.go_grammar.specs.Trees.{node, none, more, skip}
use Rattle.go_tree.specs.declared.object.Predeclared.TheVariants as predeclared
use Rattle.go_types.specs.Trees.{boolean, text, integer, array, slice, structure, function, declared, row}
use Rattle.go_typed.specs.declared.sort.Untyped.TheVariants as untyped
use Rattle.go_typed.specs.Trees as sort
use Rattle.go_exprs_rules.specs.Calls.{no_results}
use Rattle.go_exprs_rules.specs.Scopes.{several, type_place, statement}
use Rattle.go_exprs_rules.specs.Sentences.{a3_word, b_word, character, fault, infix_of, mark, n_word, name, number, prefix_of, s_word, sentence, ss_word, string, t_word, typed_value, v_word, word}

pub record IndexExamples : Type 0 where
  -- v.b
  pub field :
      typed_value (sentence (v_word ∷ mark ∷ b_word ∷ [])
      (node kind.Selector 0 3 (more (name 0) none)))
      ≡ Ok (sort.Value text)
  -- v.c
  pub no_field :
      typed_value (sentence (v_word ∷ mark ∷ word (codes "c") ∷ [])
      (node kind.Selector 0 3 (more (name 0) none)))
      ≡ fault code.Operands 0 3
  -- n.a
  pub no_struct :
      typed_value (sentence (n_word ∷ mark ∷ word (codes "a") ∷ [])
      (node kind.Selector 0 3 (more (name 0) none)))
      ≡ fault code.Operands 0 3
  -- s[1]
  pub element :
      typed_value (sentence (s_word ∷ mark ∷ word (codes "1") ∷ mark ∷ [])
      (node kind.Bracketed 0 4 (more (name 0) (more (number 2) none))))
      ≡ Ok (sort.Value (integer integer_kind.Int))
  -- t[n]
  pub byte_of_text :
      typed_value (sentence (t_word ∷ mark ∷ n_word ∷ mark ∷ [])
      (node kind.Bracketed 0 4 (more (name 0) (more (name 2) none))))
      ≡ Ok (sort.Value (integer integer_kind.Uint8))
  -- "abc"[2]
  pub byte_of_constant :
      typed_value (sentence (word (codes "\"abc\"") ∷ mark ∷ word (codes "2") ∷ mark ∷ [])
      (node kind.Bracketed 0 4 (more (string 0) (more (number 2) none))))
      ≡ Ok (sort.Value (integer integer_kind.Uint8))
  -- "abc"[3]
  pub behind_constant :
      typed_value (sentence (word (codes "\"abc\"") ∷ mark ∷ word (codes "3") ∷ mark ∷ [])
      (node kind.Bracketed 0 4 (more (string 0) (more (number 2) none))))
      ≡ fault code.ConstIndex 2 3
  -- a3[3]
  pub behind_array :
      typed_value (sentence (a3_word ∷ mark ∷ word (codes "3") ∷ mark ∷ [])
      (node kind.Bracketed 0 4 (more (name 0) (more (number 2) none))))
      ≡ fault code.ConstIndex 2 3
  -- a3[2]
  pub last_of_array :
      typed_value (sentence (a3_word ∷ mark ∷ word (codes "2") ∷ mark ∷ [])
      (node kind.Bracketed 0 4 (more (name 0) (more (number 2) none))))
      ≡ Ok (sort.Value (integer integer_kind.Int))
  -- s[-1]
  pub negative_index :
      typed_value (sentence (s_word ∷ mark ∷ mark ∷ word (codes "1") ∷ mark ∷ [])
      (node kind.Bracketed 0 5 (more (name 0) (more (prefix_of sign.Minus (number 3)) none))))
      ≡ fault code.ConstIndex 2 4
  -- s[t]
  pub text_index :
      typed_value (sentence (s_word ∷ mark ∷ t_word ∷ mark ∷ [])
      (node kind.Bracketed 0 4 (more (name 0) (more (name 2) none))))
      ≡ fault code.Operands 0 4
  -- a3[1 << 70]
  pub wide_index :
      typed_value (sentence (a3_word ∷ mark ∷ word (codes "1") ∷ mark ∷ word (codes "70") ∷ mark ∷ [])
      (node kind.Bracketed 0 6 (more (name 0) (more (infix_of (operator.Compute arithmetic.ShiftLeft) (number 2) (number 4)) none))))
      ≡ fault code.Representable 2 5
  -- s[1 << n]
  pub open_index :
      typed_value (sentence (s_word ∷ mark ∷ word (codes "1") ∷ mark ∷ n_word ∷ mark ∷ [])
      (node kind.Bracketed 0 6 (more (name 0) (more (infix_of (operator.Compute arithmetic.ShiftLeft) (number 2) (name 4)) none))))
      ≡ Ok (sort.Value (integer integer_kind.Int))
  -- n[0]
  pub number_indexed :
      typed_value (sentence (n_word ∷ mark ∷ word (codes "0") ∷ mark ∷ [])
      (node kind.Bracketed 0 4 (more (name 0) (more (number 2) none))))
      ≡ fault code.Operands 0 4
  -- s[1 << 62]
  pub far_in_slice :
      typed_value (sentence (s_word ∷ mark ∷ word (codes "1") ∷ mark ∷ word (codes "62") ∷ mark ∷ [])
      (node kind.Bracketed 0 6 (more (name 0) (more (infix_of (operator.Compute arithmetic.ShiftLeft) (number 2) (number 4)) none))))
      ≡ Ok (sort.Value (integer integer_kind.Int))
  -- s['a']
  pub rune_index :
      typed_value (sentence (s_word ∷ mark ∷ word (codes "'a'") ∷ mark ∷ [])
      (node kind.Bracketed 0 4 (more (name 0) (more (character 2) none))))
      ≡ Ok (sort.Value (integer integer_kind.Int))
  -- s[1:n]
  pub part :
      typed_value (sentence (s_word ∷ mark ∷ word (codes "1") ∷ mark ∷ n_word ∷ mark ∷ [])
      (node kind.Bracketed 0 6 (more (name 0) (more (node kind.BoundsFrom 2 5 (more (number 2) (more (name 4) none))) none))))
      ≡ Ok (sort.Value (slice (integer integer_kind.Int)))
  -- t[:]
  pub part_of_text :
      typed_value (sentence (t_word ∷ mark ∷ mark ∷ mark ∷ [])
      (node kind.Bracketed 0 4 (more (name 0) (more (node kind.Bounds 2 3 (skip none)) none))))
      ≡ Ok (sort.Value text)
  -- "abc"[1:3]
  pub part_of_constant :
      typed_value (sentence (word (codes "\"abc\"") ∷ mark ∷ word (codes "1") ∷ mark ∷ word (codes "3") ∷ mark ∷ [])
      (node kind.Bracketed 0 6 (more (string 0) (more (node kind.BoundsFrom 2 5 (more (number 2) (more (number 4) none))) none))))
      ≡ Ok (sort.Value text)
  -- "abc"[2:1]
  pub disordered_bounds :
      typed_value (sentence (word (codes "\"abc\"") ∷ mark ∷ word (codes "2") ∷ mark ∷ word (codes "1") ∷ mark ∷ [])
      (node kind.Bracketed 0 6 (more (string 0) (more (node kind.BoundsFrom 2 5 (more (number 2) (more (number 4) none))) none))))
      ≡ fault code.ConstIndex 2 3
  -- a3[:]
  pub array_sliced :
      typed_value (sentence (a3_word ∷ mark ∷ mark ∷ mark ∷ [])
      (node kind.Bracketed 0 4 (more (name 0) (more (node kind.Bounds 2 3 (skip none)) none))))
      ≡ fault code.Operands 0 4
  -- "abc"[:4]
  pub bound_behind :
      typed_value (sentence (word (codes "\"abc\"") ∷ mark ∷ mark ∷ word (codes "4") ∷ mark ∷ [])
      (node kind.Bracketed 0 5 (more (string 0) (more (node kind.Bounds 2 4 (more (number 3) none)) none))))
      ≡ fault code.ConstIndex 3 4
  -- "abc"[3:]
  pub bound_at_end :
      typed_value (sentence (word (codes "\"abc\"") ∷ mark ∷ word (codes "3") ∷ mark ∷ mark ∷ [])
      (node kind.Bracketed 0 5 (more (string 0) (more (node kind.BoundsFrom 2 4 (more (number 2) (skip none))) none))))
      ≡ Ok (sort.Value text)
  -- ss[:1]
  pub slice_keeps_name :
      typed_value (sentence (ss_word ∷ mark ∷ mark ∷ word (codes "1") ∷ mark ∷ [])
      (node kind.Bracketed 0 5 (more (name 0) (more (node kind.Bounds 2 4 (more (number 3) none)) none))))
      ≡ Ok (sort.Value (declared 3))
