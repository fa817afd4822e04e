-- Worked examples of headers, branches and further declarations, from the Go specification.
use Rattle.std.specs.Prelude.{◌≡◌, ℕ, suc, [], ◌∷◌, codes}
use Rattle.go_base.specs.declared.fault.FaultCode.TheVariants as code
use Rattle.go_grammar.specs.declared.kind.Arithmetic.TheVariants as arithmetic
use Rattle.go_grammar.specs.declared.kind.Kind.TheVariants as kind
use Rattle.go_grammar.specs.declared.kind.Sort.TheVariants as declaring
use Rattle.go_grammar.specs.declared.kind.Step.TheVariants as step
use Rattle.go_grammar.specs.Trees.{Tree, node, none, more, skip}
use Rattle.go_tree.specs.declared.object.Predeclared.TheVariants as predeclared
use Rattle.go_types.specs.Trees.{text, slice}
use Rattle.go_typed.specs.Trees as sort
use Rattle.go_exprs_rules.specs.Sorts.{int}
use Rattle.go_exprs_rules.specs.Sentences.{word, mark, predeclared_word, name, number, string, parens, n_word, b_word, t_word, s_word, two_word}
use Rattle.go_stmts_defs.specs.Sentences.{stated, refused, good, one_declared, two_declared, one, two, assignment, definition, block, declared_name, values, p_word, q_word}

-- func () int with this body, whose brace closes at the token j
abbrev pub function : Tree → Tree
function (node k i j ps) = node kind.FunctionDeclaration 0 j (two (node kind.Signature 2 5 (two (node kind.Parameters 2 4 none) (name 4))) (node k i j ps))

abbrev pub returned : ℕ → Tree
returned i = node kind.Return i (suc (suc i)) (one (node kind.ExpressionList (suc i) (suc (suc i)) (one (number (suc i)))))

pub record BranchExamples : Type 0 where
  -- for p := 0; p; p++ { }
  pub loop_condition :
      stated (mark ∷ p_word ∷ mark ∷ word (codes "0") ∷ mark ∷ p_word ∷ mark ∷ p_word ∷ mark ∷ mark ∷ mark ∷ [])
      (node kind.For 0 11 (two (node kind.InitializedForClause 1 9 (more (definition 1 3 4 (one (name 1)) (one (number 3))) (more (name 5) (one (node (kind.StepStatement step.Increment) 7 9 (one (name 7))))))) (block 9 11 none)))
      ≡ refused code.Operands 5 6
  -- for ; b; n++ { }
  pub late_loop :
      stated (mark ∷ mark ∷ b_word ∷ mark ∷ n_word ∷ mark ∷ mark ∷ mark ∷ [])
      (node kind.For 0 8 (two (node kind.ForClause 1 6 (more (name 2) (one (node (kind.StepStatement step.Increment) 4 6 (one (name 4)))))) (block 6 8 none)))
      ≡ good
  -- if ; n { }
  pub late_condition :
      stated (mark ∷ mark ∷ n_word ∷ mark ∷ mark ∷ [])
      (node kind.If 0 5 (more (node kind.LateCondition 1 3 (one (name 2))) (more (block 3 5 none) (skip none))))
      ≡ refused code.Operands 2 3
  -- switch p := n; p { case "a": }
  pub initialized_tag :
      stated (mark ∷ p_word ∷ mark ∷ n_word ∷ mark ∷ p_word ∷ mark ∷ mark ∷ word (codes "\"a\"") ∷ mark ∷ mark ∷ [])
      (node kind.Switch 0 11 (two (node kind.InitializedTag 1 6 (two (definition 1 3 4 (one (name 1)) (one (name 3))) (name 5))) (node kind.Case 7 10 (one (node kind.ExpressionList 8 9 (one (string 8)))))))
      ≡ refused code.Operands 8 9
  -- switch ; { case n: }
  pub late_tag_missing :
      stated (mark ∷ mark ∷ mark ∷ mark ∷ n_word ∷ mark ∷ mark ∷ [])
      (node kind.Switch 0 7 (two (node kind.LateTag 1 2 (skip none)) (node kind.Case 3 6 (one (node kind.ExpressionList 4 5 (one (name 4)))))))
      ≡ refused code.Operands 4 5
  -- for p := range n { p++ }
  pub numbers :
      stated (mark ∷ p_word ∷ mark ∷ mark ∷ n_word ∷ mark ∷ p_word ∷ mark ∷ mark ∷ [])
      (node kind.For 0 9 (two (node kind.DefiningRange 1 5 (two (node kind.NewNames 1 3 (one (node kind.ExpressionList 1 2 (one (name 1))))) (name 4))) (block 5 9 (one (node (kind.StepStatement step.Increment) 6 8 (one (name 6)))))))
      ≡ one_declared (sort.Value int)
  -- for p := range b { p++ }
  pub no_range :
      stated (mark ∷ p_word ∷ mark ∷ mark ∷ b_word ∷ mark ∷ p_word ∷ mark ∷ mark ∷ [])
      (node kind.For 0 9 (two (node kind.DefiningRange 1 5 (two (node kind.NewNames 1 3 (one (node kind.ExpressionList 1 2 (one (name 1))))) (name 4))) (block 5 9 (one (node (kind.StepStatement step.Increment) 6 8 (one (name 6)))))))
      ≡ refused code.Operands 4 5
  -- for 1 = range s { }
  pub constant_of_range :
      stated (mark ∷ word (codes "1") ∷ mark ∷ mark ∷ s_word ∷ mark ∷ mark ∷ [])
      (node kind.For 0 7 (two (node kind.AssigningRange 1 5 (two (node kind.Targets 1 3 (one (node kind.ExpressionList 1 2 (one (number 1))))) (name 4))) (block 5 7 none)))
      ≡ refused code.LeftSide 1 2
  -- func () int { if b { return 1 } else { return 2 } }
  pub both_branches :
      stated (mark ∷ mark ∷ mark ∷ mark ∷ predeclared_word predeclared.Int ∷ mark ∷ mark ∷ b_word ∷ mark ∷ mark ∷ word (codes "1") ∷ mark ∷ mark ∷ mark ∷ mark ∷ word (codes "2") ∷ mark ∷ mark ∷ [])
      (function (block 5 18 (one (node kind.If 6 17 (more (name 7) (two (block 8 12 (one (returned 9))) (node kind.Else 12 17 (one (block 13 17 (one (returned 14)))))))))))
      ≡ good
  -- func () int { switch { case b: fallthrough default: return 1 } }
  pub falling :
      stated (mark ∷ mark ∷ mark ∷ mark ∷ predeclared_word predeclared.Int ∷ mark ∷ mark ∷ mark ∷ mark ∷ b_word ∷ mark ∷ mark ∷ mark ∷ mark ∷ mark ∷ mark ∷ word (codes "1") ∷ mark ∷ mark ∷ [])
      (function (block 5 19 (one (node kind.Switch 6 18 (skip (two (node kind.Case 8 13 (two (node kind.ExpressionList 9 10 (one (name 9))) (node kind.Fallthrough 11 12 none))) (node kind.Default 13 17 (one (returned 15)))))))))
      ≡ good
  -- func () int { switch { case b: return 1 } }
  pub no_default :
      stated (mark ∷ mark ∷ mark ∷ mark ∷ predeclared_word predeclared.Int ∷ mark ∷ mark ∷ mark ∷ mark ∷ b_word ∷ mark ∷ mark ∷ word (codes "1") ∷ mark ∷ mark ∷ [])
      (function (block 5 15 (one (node kind.Switch 6 14 (skip (one (node kind.Case 8 13 (two (node kind.ExpressionList 9 10 (one (name 9))) (returned 11)))))))))
      ≡ refused code.MissingReturn 14 15
  -- func () int { (panic)(1) }
  pub panicking :
      stated (mark ∷ mark ∷ mark ∷ mark ∷ predeclared_word predeclared.Int ∷ mark ∷ mark ∷ predeclared_word predeclared.Panic ∷ mark ∷ mark ∷ word (codes "1") ∷ mark ∷ mark ∷ [])
      (function (block 5 13 (one (node kind.ExpressionStatement 6 12 (one (node kind.Call 6 12 (two (parens (name 7)) (number 10))))))))
      ≡ good
  -- var ( p, q = two() )
  pub results_declared :
      stated (mark ∷ mark ∷ p_word ∷ mark ∷ q_word ∷ mark ∷ two_word ∷ mark ∷ mark ∷ mark ∷ [])
      (node (kind.Declaration declaring.Variable) 0 10 (one (node (kind.Group declaring.Variable) 1 10 (one (node (kind.Specification declaring.Variable) 2 9
      (two (node kind.NameList 2 5 (two (declared_name 2) (declared_name 4))) (values 5 9 (one (node kind.Call 6 9 (one (name 6)))))))))))
      ≡ two_declared (sort.Value int) (sort.Value text)
  -- var p []int
  pub without_value :
      stated (mark ∷ p_word ∷ mark ∷ mark ∷ predeclared_word predeclared.Int ∷ [])
      (node (kind.Declaration declaring.Variable) 0 5 (one (node (kind.Specification declaring.Variable) 1 5 (two (node kind.NameList 1 2 (one (declared_name 1))) (node kind.SequenceType 2 5 (skip (one (name 4))))))))
      ≡ one_declared (sort.Value (slice int))
  -- var p = nil
  pub nil_variable :
      stated (mark ∷ p_word ∷ mark ∷ predeclared_word predeclared.Nil ∷ [])
      (node (kind.Declaration declaring.Variable) 0 4 (one (node (kind.Specification declaring.Variable) 1 4 (two (node kind.NameList 1 2 (one (declared_name 1))) (values 2 4 (one (name 3)))))))
      ≡ refused code.Operands 3 4
  -- const p int = "a"
  pub other_constant :
      stated (mark ∷ p_word ∷ predeclared_word predeclared.Int ∷ mark ∷ word (codes "\"a\"") ∷ [])
      (node (kind.Declaration declaring.Constant) 0 5 (one (node (kind.Specification declaring.Constant) 1 5
      (two (node kind.NameList 1 2 (one (declared_name 1))) (node kind.TypedValues 2 5 (two (name 2) (node kind.ExpressionList 4 5 (one (string 4)))))))))
      ≡ refused code.Assignable 4 5
  -- const p, q = 1
  pub one_constant_short :
      stated (mark ∷ p_word ∷ mark ∷ q_word ∷ mark ∷ word (codes "1") ∷ [])
      (node (kind.Declaration declaring.Constant) 0 6 (one (node (kind.Specification declaring.Constant) 1 6 (two (node kind.NameList 1 4 (two (declared_name 1) (declared_name 3))) (values 4 6 (one (number 5)))))))
      ≡ refused code.Count 1 6
  -- _ = two()
  pub results_dropped :
      stated (mark ∷ mark ∷ two_word ∷ mark ∷ mark ∷ [])
      (assignment 0 2 5 (one (name 0)) (one (node kind.Call 2 5 (one (name 2)))))
      ≡ refused code.Count 0 5
  -- n <<= t
  pub shifted_by_text :
      stated (n_word ∷ mark ∷ t_word ∷ []) (node (kind.OperatorAssignment arithmetic.ShiftLeft) 0 3 (two (name 0) (name 2)))
      ≡ refused code.Operands 0 3
