-- Worked examples of statements, from the Go specification.
use Rattle.std.specs.Prelude.{◌≡◌, [], ◌∷◌, codes, pos, Ok, false}
use Rattle.go_base.specs.declared.fault.FaultCode.TheVariants as code
use Rattle.go_ints.specs.declared.kinds.Kind.TheVariants as integer_kind
use Rattle.go_constants.specs.declared.values.Const.TheVariants as const
use Rattle.go_grammar.specs.declared.kind.Arithmetic.TheVariants as arithmetic
use Rattle.go_grammar.specs.declared.kind.Kind.TheVariants as kind
use Rattle.go_grammar.specs.declared.kind.Operator.TheVariants as operator
use Rattle.go_grammar.specs.declared.kind.Sort.TheVariants as declaring
use Rattle.go_grammar.specs.declared.kind.Step.TheVariants as step
use Rattle.go_grammar.specs.Trees.{node, none, more, skip}
use Rattle.go_tree.specs.declared.object.Predeclared.TheVariants as predeclared
use Rattle.go_types.specs.Trees.{boolean, text, integer, declared}
use Rattle.go_typed.specs.Trees as sort
use Rattle.go_exprs_rules.specs.Sorts.{int}
use Rattle.go_exprs_rules.specs.Sentences.{word, mark, predeclared_word, name, number, string, character, infix_of, n_word, u_word, x8_word, b_word, t_word, s_word, k_word, two_word, do_word}
use Rattle.go_stmts_defs.specs.Sentences.{stated, stated_in, refused, good, one_declared, two_declared, one, two, assignment, definition, statement, block, declared_name, values, p_word, q_word, r_word}

-- Assignment statements
pub record AssignmentExamples : Type 0 where
  -- _ = 300 && "abc"[1]
  pub wide_operand :
      stated (mark ∷ mark ∷ word (codes "300") ∷ mark ∷ word (codes "\"abc\"") ∷ mark ∷ word (codes "1") ∷ mark ∷ [])
      (assignment 0 2 8 (one (name 0)) (one (infix_of operator.Both (number 2) (node kind.Bracketed 4 8 (two (string 4) (number 6))))))
      ≡ refused code.Representable 2 3
  -- _ = "abc"[1] && 300
  pub wide_second :
      stated (mark ∷ mark ∷ word (codes "\"abc\"") ∷ mark ∷ word (codes "1") ∷ mark ∷ mark ∷ word (codes "300") ∷ [])
      (assignment 0 2 8 (one (name 0)) (one (infix_of operator.Both (node kind.Bracketed 2 6 (two (string 2) (number 4))) (number 7))))
      ≡ refused code.Operands 2 8
  -- t, n = two(), 1
  pub call_among_values :
      stated (t_word ∷ mark ∷ n_word ∷ mark ∷ two_word ∷ mark ∷ mark ∷ mark ∷ word (codes "1") ∷ [])
      (assignment 0 4 9 (two (name 0) (name 2)) (two (node kind.Call 4 7 (one (name 4))) (number 8)))
      ≡ refused code.Count 4 7
  -- n, t = two()
  pub results :
      stated (n_word ∷ mark ∷ t_word ∷ mark ∷ two_word ∷ mark ∷ mark ∷ [])
      (assignment 0 4 7 (two (name 0) (name 2)) (one (node kind.Call 4 7 (one (name 4)))))
      ≡ good
  -- t, n = two()
  pub other_results :
      stated (t_word ∷ mark ∷ n_word ∷ mark ∷ two_word ∷ mark ∷ mark ∷ [])
      (assignment 0 4 7 (two (name 0) (name 2)) (one (node kind.Call 4 7 (one (name 4)))))
      ≡ refused code.Assignable 4 7
  -- k = 1
  pub constant_target :
      stated (k_word ∷ mark ∷ word (codes "1") ∷ [])
      (assignment 0 2 3 (one (name 0)) (one (number 2)))
      ≡ refused code.LeftSide 0 1
  -- int = 1
  pub type_target :
      stated (predeclared_word predeclared.Int ∷ mark ∷ word (codes "1") ∷ [])
      (assignment 0 2 3 (one (name 0)) (one (number 2)))
      ≡ refused code.NotAValue 0 1
  -- _ = nil
  pub nil_dropped :
      stated (mark ∷ mark ∷ predeclared_word predeclared.Nil ∷ [])
      (assignment 0 2 3 (one (name 0)) (one (name 2)))
      ≡ refused code.Operands 2 3
  -- s[0] = 1
  pub element :
      stated (s_word ∷ mark ∷ word (codes "0") ∷ mark ∷ mark ∷ word (codes "1") ∷ [])
      (assignment 0 5 6 (one (node kind.Bracketed 0 4 (two (name 0) (number 2)))) (one (number 5)))
      ≡ good
  -- n++
  pub stepped : stated (n_word ∷ mark ∷ []) (node (kind.StepStatement step.Increment) 0 2 (one (name 0))) ≡ good
  -- k++
  pub constant_stepped : stated (k_word ∷ mark ∷ []) (node (kind.StepStatement step.Increment) 0 2 (one (name 0))) ≡ refused code.LeftSide 0 1
  -- t++
  pub text_stepped : stated (t_word ∷ mark ∷ []) (node (kind.StepStatement step.Increment) 0 2 (one (name 0))) ≡ refused code.Operands 0 2
  -- x8 += 300
  pub wide_added :
      stated (x8_word ∷ mark ∷ word (codes "300") ∷ []) (node (kind.OperatorAssignment arithmetic.Add) 0 3 (two (name 0) (number 2)))
      ≡ refused code.Representable 2 3
  -- n /= 0
  pub divided_by_zero :
      stated (n_word ∷ mark ∷ word (codes "0") ∷ []) (node (kind.OperatorAssignment arithmetic.Divide) 0 3 (two (name 0) (number 2)))
      ≡ refused code.ZeroDivisor 2 3

-- Variable declarations, Short variable declarations, Constant declarations, Type declarations
pub record DeclarationExamples : Type 0 where
  -- p, q := two()
  pub defined :
      stated (p_word ∷ mark ∷ q_word ∷ mark ∷ two_word ∷ mark ∷ mark ∷ [])
      (definition 0 4 7 (two (name 0) (name 2)) (one (node kind.Call 4 7 (one (name 4)))))
      ≡ two_declared (sort.Value int) (sort.Value text)
  -- x8, p := 1, 2
  pub reused :
      stated (x8_word ∷ mark ∷ p_word ∷ mark ∷ word (codes "1") ∷ mark ∷ word (codes "2") ∷ [])
      (definition 0 4 7 (two (name 0) (name 2)) (two (number 4) (number 6)))
      ≡ one_declared (sort.Value int)
  -- x8, p := 300, 2
  pub wide_for_reused :
      stated (x8_word ∷ mark ∷ p_word ∷ mark ∷ word (codes "300") ∷ mark ∷ word (codes "2") ∷ [])
      (definition 0 4 7 (two (name 0) (name 2)) (two (number 4) (number 6)))
      ≡ refused code.Representable 4 5
  -- p := nil
  pub nil_defined :
      stated (p_word ∷ mark ∷ predeclared_word predeclared.Nil ∷ [])
      (definition 0 2 3 (one (name 0)) (one (name 2)))
      ≡ refused code.Operands 2 3
  -- p, q := 1
  pub too_few :
      stated (p_word ∷ mark ∷ q_word ∷ mark ∷ word (codes "1") ∷ [])
      (definition 0 4 5 (two (name 0) (name 2)) (one (number 4)))
      ≡ refused code.Count 0 5
  -- var p int8 = 300
  pub wide_variable :
      stated (mark ∷ p_word ∷ predeclared_word predeclared.Int8 ∷ mark ∷ word (codes "300") ∷ [])
      (node (kind.Declaration declaring.Variable) 0 5 (one (node (kind.Specification declaring.Variable) 1 5
      (two (node kind.NameList 1 2 (one (declared_name 1))) (node kind.TypedValues 2 5 (two (name 2) (node kind.ExpressionList 4 5 (one (number 4)))))))))
      ≡ refused code.Representable 4 5
  -- var p = 'a'
  pub rune_variable :
      stated (mark ∷ p_word ∷ mark ∷ word (codes "'a'") ∷ [])
      (node (kind.Declaration declaring.Variable) 0 4 (one (node (kind.Specification declaring.Variable) 1 4
      (two (node kind.NameList 1 2 (one (declared_name 1))) (values 2 4 (one (character 3)))))))
      ≡ one_declared (sort.Value (integer integer_kind.Int32))
  -- const ( p = iota; q; r )
  pub counted :
      stated (mark ∷ mark ∷ p_word ∷ mark ∷ predeclared_word predeclared.Iota ∷ mark ∷ q_word ∷ mark ∷ r_word ∷ mark ∷ [])
      (node (kind.Declaration declaring.Constant) 0 10 (one (node (kind.Group declaring.Constant) 1 10
      (more (node (kind.Specification declaring.Constant) 2 5 (two (node kind.NameList 2 3 (one (declared_name 2))) (values 3 5 (one (name 4)))))
      (more (node (kind.Specification declaring.Constant) 6 7 (more (node kind.NameList 6 7 (one (declared_name 6))) (skip none)))
      (more (node (kind.Specification declaring.Constant) 8 9 (more (node kind.NameList 8 9 (one (declared_name 8))) (skip none))) none))))))
      ≡ Ok (sort.OpenConstant (const.Int (pos 0) false) ∷ sort.OpenConstant (const.Int (pos 1) false) ∷ sort.OpenConstant (const.Int (pos 2) false) ∷ sort.Unknown ∷ [])
  -- const ( p int8 = 127 + iota; q )
  pub repeated_too_wide :
      stated (mark ∷ mark ∷ p_word ∷ predeclared_word predeclared.Int8 ∷ mark ∷ word (codes "127") ∷ mark ∷ predeclared_word predeclared.Iota ∷ mark ∷ q_word ∷ mark ∷ [])
      (node (kind.Declaration declaring.Constant) 0 11 (one (node (kind.Group declaring.Constant) 1 11
      (two (node (kind.Specification declaring.Constant) 2 8 (two (node kind.NameList 2 3 (one (declared_name 2)))
      (node kind.TypedValues 3 8 (two (name 3) (node kind.ExpressionList 5 8 (one (infix_of (operator.Compute arithmetic.Add) (number 5) (name 7))))))))
      (node (kind.Specification declaring.Constant) 9 10 (more (node kind.NameList 9 10 (one (declared_name 9))) (skip none)))))))
      ≡ refused code.Representable 5 8
  -- const p = n
  pub not_constant :
      stated (mark ∷ p_word ∷ mark ∷ n_word ∷ [])
      (node (kind.Declaration declaring.Constant) 0 4 (one (node (kind.Specification declaring.Constant) 1 4
      (two (node kind.NameList 1 2 (one (declared_name 1))) (values 2 4 (one (name 3)))))))
      ≡ refused code.Operands 3 4
  -- type p []p
  pub recursive_type :
      stated (mark ∷ p_word ∷ mark ∷ mark ∷ p_word ∷ [])
      (node (kind.Declaration declaring.Type) 0 5 (one (node (kind.Specification declaring.Type) 1 5 (one (node kind.SequenceType 2 5 (skip (one (name 4))))))))
      ≡ one_declared (sort.IsType (declared 5))
  -- { type p int; type _ string; var q p = 1 }
  pub blank_type :
      stated (mark ∷ mark ∷ p_word ∷ predeclared_word predeclared.Int ∷ mark ∷ mark ∷ mark ∷ predeclared_word predeclared.String ∷ mark ∷ mark ∷ q_word ∷ p_word ∷ mark ∷ word (codes "1") ∷ mark ∷ [])
      (block 0 15 (more (node (kind.Declaration declaring.Type) 1 4 (one (node (kind.Specification declaring.Type) 2 4 (one (name 3)))))
      (more (node (kind.Declaration declaring.Type) 5 8 (one (node (kind.Specification declaring.Type) 6 8 (one (name 7)))))
      (one (node (kind.Declaration declaring.Variable) 9 14 (one (node (kind.Specification declaring.Variable) 10 14
      (two (node kind.NameList 10 11 (one (declared_name 10))) (node kind.TypedValues 11 14 (two (name 11) (node kind.ExpressionList 13 14 (one (number 13)))))))))))))
      ≡ two_declared (sort.IsType (declared 5)) (sort.Value (declared 5))
  -- type p [][1<<20 + 1]p
  pub late_limit :
      stated (mark ∷ p_word ∷ mark ∷ mark ∷ mark ∷ word (codes "1") ∷ mark ∷ word (codes "20") ∷ mark ∷ word (codes "1") ∷ mark ∷ p_word ∷ [])
      (node (kind.Declaration declaring.Type) 0 12 (one (node (kind.Specification declaring.Type) 1 12 (one (node kind.SequenceType 2 12 (skip (one (node kind.SequenceType 4 12
      (two (infix_of (operator.Compute arithmetic.Add) (infix_of (operator.Compute arithmetic.ShiftLeft) (number 5) (number 7)) (number 9)) (name 11))))))))))
      ≡ refused code.Limit 4 12

-- Expression statements, If statements, Expression switches, For statements, Return statements, Terminating statements
pub record StatementExamples : Type 0 where
  -- n
  pub value_alone : stated (n_word ∷ []) (statement 0 1 (name 0)) ≡ refused code.UnusedValue 0 1
  -- do()
  pub call_alone : stated (do_word ∷ mark ∷ mark ∷ []) (statement 0 3 (node kind.Call 0 3 (one (name 0)))) ≡ good
  -- len(s)
  pub length_alone : stated (predeclared_word predeclared.Len ∷ mark ∷ s_word ∷ mark ∷ []) (statement 0 4 (node kind.Call 0 4 (two (name 0) (name 2)))) ≡ refused code.UnusedValue 0 4
  -- if n { }
  pub no_condition : stated (mark ∷ n_word ∷ mark ∷ mark ∷ []) (node kind.If 0 4 (more (name 1) (more (block 2 4 none) (skip none)))) ≡ refused code.Operands 1 2
  -- if p := b; p { }
  pub initialized : stated (mark ∷ p_word ∷ mark ∷ b_word ∷ mark ∷ p_word ∷ mark ∷ mark ∷ [])
      (node kind.If 0 8 (more (node kind.InitializedCondition 1 6 (two (definition 1 3 4 (one (name 1)) (one (name 3))) (name 5))) (more (block 6 8 none) (skip none))))
      ≡ one_declared (sort.Value boolean)
  -- switch nil { case nil: }
  pub nil_tag :
      stated (mark ∷ predeclared_word predeclared.Nil ∷ mark ∷ mark ∷ predeclared_word predeclared.Nil ∷ mark ∷ mark ∷ [])
      (node kind.Switch 0 7 (two (name 1) (node kind.Case 3 6 (one (node kind.ExpressionList 4 5 (one (name 4)))))))
      ≡ refused code.Operands 1 2
  -- switch 300 { case x8: }
  pub other_case :
      stated (mark ∷ word (codes "300") ∷ mark ∷ mark ∷ x8_word ∷ mark ∷ mark ∷ [])
      (node kind.Switch 0 7 (two (number 1) (node kind.Case 3 6 (one (node kind.ExpressionList 4 5 (one (name 4)))))))
      ≡ refused code.Operands 4 5
  -- switch s { case s: }
  pub compared_slices :
      stated (mark ∷ s_word ∷ mark ∷ mark ∷ s_word ∷ mark ∷ mark ∷ [])
      (node kind.Switch 0 7 (two (name 1) (node kind.Case 3 6 (one (node kind.ExpressionList 4 5 (one (name 4)))))))
      ≡ refused code.NotComparable 4 5
  -- switch { case b: }
  pub no_tag :
      stated (mark ∷ mark ∷ mark ∷ b_word ∷ mark ∷ mark ∷ [])
      (node kind.Switch 0 6 (skip (one (node kind.Case 2 5 (one (node kind.ExpressionList 3 4 (one (name 3))))))))
      ≡ good
  -- for p := range 'e' { x8 = p }
  pub range_of_rune :
      stated (mark ∷ p_word ∷ mark ∷ mark ∷ word (codes "'e'") ∷ mark ∷ x8_word ∷ mark ∷ p_word ∷ mark ∷ [])
      (node kind.For 0 10 (two (node kind.DefiningRange 1 5 (two (node kind.NewNames 1 3 (one (node kind.ExpressionList 1 2 (one (name 1))))) (character 4))) (block 5 10 (one (assignment 6 8 9 (one (name 6)) (one (name 8)))))))
      ≡ refused code.Assignable 8 9
  -- for _, p := range 'e' { n = p }
  pub second_of_rune :
      stated (mark ∷ mark ∷ mark ∷ p_word ∷ mark ∷ mark ∷ word (codes "'e'") ∷ mark ∷ n_word ∷ mark ∷ p_word ∷ mark ∷ [])
      (node kind.For 0 12 (two (node kind.DefiningRange 1 7 (two (node kind.NewNames 1 5 (one (node kind.ExpressionList 1 4 (two (name 1) (name 3))))) (character 6))) (block 7 12 (one (assignment 8 10 11 (one (name 8)) (one (name 10)))))))
      ≡ refused code.Count 0 12
  -- for _, p := range 'e' { x8 = p }
  pub second_number :
      stated (mark ∷ mark ∷ mark ∷ p_word ∷ mark ∷ mark ∷ word (codes "'e'") ∷ mark ∷ x8_word ∷ mark ∷ p_word ∷ mark ∷ [])
      (node kind.For 0 12 (two (node kind.DefiningRange 1 7 (two (node kind.NewNames 1 5 (one (node kind.ExpressionList 1 4 (two (name 1) (name 3))))) (character 6))) (block 7 12 (one (assignment 8 10 11 (one (name 8)) (one (name 10)))))))
      ≡ refused code.Assignable 10 11
  -- for n, x8 = range 3 { }
  pub two_numbers :
      stated (mark ∷ n_word ∷ mark ∷ x8_word ∷ mark ∷ mark ∷ word (codes "3") ∷ mark ∷ mark ∷ [])
      (node kind.For 0 9 (two (node kind.AssigningRange 1 7 (two (node kind.Targets 1 5 (one (node kind.ExpressionList 1 4 (two (name 1) (name 3))))) (number 6))) (block 7 9 none)))
      ≡ refused code.Count 0 9
  -- for x8 = range 127 { }
  pub number_for_target :
      stated (mark ∷ x8_word ∷ mark ∷ mark ∷ word (codes "127") ∷ mark ∷ mark ∷ [])
      (node kind.For 0 7 (two (node kind.AssigningRange 1 5 (two (node kind.Targets 1 3 (one (node kind.ExpressionList 1 2 (one (name 1))))) (number 4))) (block 5 7 none)))
      ≡ good
  -- for x8 = range 300 { }
  pub wide_for_target :
      stated (mark ∷ x8_word ∷ mark ∷ mark ∷ word (codes "300") ∷ mark ∷ mark ∷ [])
      (node kind.For 0 7 (two (node kind.AssigningRange 1 5 (two (node kind.Targets 1 3 (one (node kind.ExpressionList 1 2 (one (name 1))))) (number 4))) (block 5 7 none)))
      ≡ refused code.Representable 4 5
  -- for t = range 3 { }
  pub number_for_text :
      stated (mark ∷ t_word ∷ mark ∷ mark ∷ word (codes "3") ∷ mark ∷ mark ∷ [])
      (node kind.For 0 7 (two (node kind.AssigningRange 1 5 (two (node kind.Targets 1 3 (one (node kind.ExpressionList 1 2 (one (name 1))))) (number 4))) (block 5 7 none)))
      ≡ refused code.Assignable 4 5
  -- for x8 = range n { }
  pub other_number :
      stated (mark ∷ x8_word ∷ mark ∷ mark ∷ n_word ∷ mark ∷ mark ∷ [])
      (node kind.For 0 7 (two (node kind.AssigningRange 1 5 (two (node kind.Targets 1 3 (one (node kind.ExpressionList 1 2 (one (name 1))))) (name 4))) (block 5 7 none)))
      ≡ refused code.Assignable 4 5
  -- for n = range 1 << u { }
  pub shift_for_target :
      stated (mark ∷ n_word ∷ mark ∷ mark ∷ word (codes "1") ∷ mark ∷ u_word ∷ mark ∷ mark ∷ [])
      (node kind.For 0 9 (two (node kind.AssigningRange 1 7 (two (node kind.Targets 1 3 (one (node kind.ExpressionList 1 2 (one (name 1))))) (infix_of (operator.Compute arithmetic.ShiftLeft) (number 4) (name 6)))) (block 7 9 none)))
      ≡ good
  -- for x8 = range 1 << u { }
  pub shift_for_other :
      stated (mark ∷ x8_word ∷ mark ∷ mark ∷ word (codes "1") ∷ mark ∷ u_word ∷ mark ∷ mark ∷ [])
      (node kind.For 0 9 (two (node kind.AssigningRange 1 7 (two (node kind.Targets 1 3 (one (node kind.ExpressionList 1 2 (one (name 1))))) (infix_of (operator.Compute arithmetic.ShiftLeft) (number 4) (name 6)))) (block 7 9 none)))
      ≡ refused code.Assignable 4 7
  -- for _ = range 1 << 70 { }
  pub wide_number :
      stated (mark ∷ mark ∷ mark ∷ mark ∷ word (codes "1") ∷ mark ∷ word (codes "70") ∷ mark ∷ mark ∷ [])
      (node kind.For 0 9 (two (node kind.AssigningRange 1 7 (two (node kind.Targets 1 3 (one (node kind.ExpressionList 1 2 (one (name 1))))) (infix_of (operator.Compute arithmetic.ShiftLeft) (number 4) (number 6)))) (block 7 9 none)))
      ≡ refused code.Representable 4 7
  -- for p, q := range t { }
  pub range_of_text :
      stated (mark ∷ p_word ∷ mark ∷ q_word ∷ mark ∷ mark ∷ t_word ∷ mark ∷ mark ∷ [])
      (node kind.For 0 9 (two (node kind.DefiningRange 1 7 (two (node kind.NewNames 1 5 (one (node kind.ExpressionList 1 4 (two (name 1) (name 3))))) (name 6))) (block 7 9 none)))
      ≡ two_declared (sort.Value int) (sort.Value (integer integer_kind.Int32))
  -- for t = range s { }
  pub range_to_text :
      stated (mark ∷ t_word ∷ mark ∷ mark ∷ s_word ∷ mark ∷ mark ∷ [])
      (node kind.For 0 7 (two (node kind.AssigningRange 1 5 (two (node kind.Targets 1 3 (one (node kind.ExpressionList 1 2 (one (name 1))))) (name 4))) (block 5 7 none)))
      ≡ refused code.Assignable 4 5
  -- return 1, in a function without results
  pub value_returned : stated (mark ∷ word (codes "1") ∷ []) (node kind.Return 0 2 (one (node kind.ExpressionList 1 2 (one (number 1))))) ≡ refused code.Count 0 2
  -- return two(), in a function with the results int and string
  pub results_returned :
      stated_in (int ∷ text ∷ []) (mark ∷ two_word ∷ mark ∷ mark ∷ []) (node kind.Return 0 4 (one (node kind.ExpressionList 1 4 (one (node kind.Call 1 4 (one (name 1)))))))
      ≡ good
  -- func (p int8) int8 { return p }
  pub parameter_returned :
      stated (mark ∷ mark ∷ mark ∷ p_word ∷ predeclared_word predeclared.Int8 ∷ mark ∷ predeclared_word predeclared.Int8 ∷ mark ∷ mark ∷ p_word ∷ mark ∷ [])
      (node kind.FunctionDeclaration 0 11 (two (node kind.Signature 2 7 (two (node kind.Parameters 2 6 (one (node kind.Parameter 3 5 (two (name 3) (name 4))))) (name 6)))
      (block 7 11 (one (node kind.Return 8 10 (one (node kind.ExpressionList 9 10 (one (name 9)))))))))
      ≡ one_declared (sort.Value (integer integer_kind.Int8))
  -- func () int { }
  pub no_return :
      stated (mark ∷ mark ∷ mark ∷ mark ∷ predeclared_word predeclared.Int ∷ mark ∷ mark ∷ [])
      (node kind.FunctionDeclaration 0 7 (two (node kind.Signature 2 5 (two (node kind.Parameters 2 4 none) (name 4))) (block 5 7 none)))
      ≡ refused code.MissingReturn 6 7
  -- func () int { for { } }
  pub endless :
      stated (mark ∷ mark ∷ mark ∷ mark ∷ predeclared_word predeclared.Int ∷ mark ∷ mark ∷ mark ∷ mark ∷ mark ∷ [])
      (node kind.FunctionDeclaration 0 10 (two (node kind.Signature 2 5 (two (node kind.Parameters 2 4 none) (name 4))) (block 5 10 (one (node kind.For 6 9 (skip (one (block 7 9 none))))))))
      ≡ good
  -- func () int { for { break } }
  pub left_loop :
      stated (mark ∷ mark ∷ mark ∷ mark ∷ predeclared_word predeclared.Int ∷ mark ∷ mark ∷ mark ∷ mark ∷ mark ∷ mark ∷ [])
      (node kind.FunctionDeclaration 0 11 (two (node kind.Signature 2 5 (two (node kind.Parameters 2 4 none) (name 4))) (block 5 11 (one (node kind.For 6 10 (skip (one (block 7 10 (one (node kind.Break 8 9 none))))))))))
      ≡ refused code.MissingReturn 10 11
