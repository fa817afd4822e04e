-- Worked examples of typed trees: what is left of a declaration, and a function with most sorts of statements.
use Rattle.std.specs.Prelude.{◌≡◌, ℕ, suc, true, false, List, [], ◌∷◌, map, codes, pos, Option, Some, None, Result, Ok, Err}
use Rattle.std.specs.Option.{option_map}
use Rattle.go_ints.specs.declared.kinds.Kind.TheVariants as integer_kind
use Rattle.go_constants.specs.declared.values.Const.TheVariants as const
use Rattle.go_grammar.specs.declared.kind.Arithmetic.TheVariants as arithmetic
use Rattle.go_grammar.specs.declared.kind.Comparison.TheVariants as comparison
use Rattle.go_grammar.specs.declared.kind.Kind.TheVariants as kind
use Rattle.go_grammar.specs.declared.kind.Operator.TheVariants as operator
use Rattle.go_grammar.specs.declared.kind.Sort.TheVariants as declaring
use Rattle.go_grammar.specs.declared.kind.Step.TheVariants as step
use Rattle.go_grammar.specs.Trees.{Tree, node, none, more}
use Rattle.go_tree.specs.declared.object.Predeclared.TheVariants as predeclared
use Rattle.go_scopes_events.specs.Moved.{moved}
use Rattle.go_types.specs.Trees.{TypeTree, integer, row}
use Rattle.go_types.specs.Trees as types
use Rattle.go_typed.specs.Contents.{FuncContent}
use Rattle.go_exprs_rules.specs.declared.fault.TypeFault.{TypeFault}
use Rattle.go_typed.specs.declared.form.Form.{Form}
use Rattle.go_typed.specs.declared.form.Form.TheVariants as form
use Rattle.go_typed.specs.Funcs.{is_tiled, is_whole}
use Rattle.go_typed.specs.Trees.{Sort, typed, Typeds}
use Rattle.go_typed.specs.Trees as trees
use Rattle.go_exprs_rules.specs.Settling.{Part}
use Rattle.go_exprs_rules.specs.Sorts.{int, rune}
use Rattle.go_exprs_rules.specs.Scopes.{free}
use Rattle.go_exprs_rules.specs.Sentences.{Word, word, mark, predeclared_word, local_word, name, number, character, infix_of, u_word, x8_word, s_word}
use Rattle.go_exprs_rules.specs.Sentences as expressions
use Rattle.go_stmts_defs.specs.Bodies.{token_locals, body_answer_at}
use Rattle.go_stmts_defs.specs.Reading.{Reading, read, reading}
use Rattle.go_stmts_defs.specs.Sentences.{frame_of, stated, one, two, assignment, block, declared_name, values, p_word, q_word, r_word, z_word}

abbrev pub tree_read : Reading → Part
tree_read (read x fs s) = x

abbrev pub tree_of : List Word → Tree → Part
tree_of ws t = tree_read (reading (frame_of [] ws) free t)

-- a node in which no variable is named and nothing is called
abbrev pub labelled : Form → ℕ → ℕ → Sort TypeTree → Typeds TypeTree → Part
labelled f i j x ps = typed f i j (record { sort = x; varies = false; calls = false }) ps

-- func g(p int) int { var q = 1; const r = 2; for q < p { q++ }; for z := range s { q = z }; switch q { case r: return p; default: }; return q }
abbrev pub words : List Word
words =
    mark ∷ mark ∷ mark ∷ p_word ∷ predeclared_word predeclared.Int ∷ mark ∷ predeclared_word predeclared.Int ∷ mark ∷
    mark ∷ q_word ∷ mark ∷ word (codes "1") ∷ mark ∷
    mark ∷ r_word ∷ mark ∷ word (codes "2") ∷ mark ∷
    mark ∷ q_word ∷ mark ∷ p_word ∷ mark ∷ q_word ∷ mark ∷ mark ∷ mark ∷
    mark ∷ z_word ∷ mark ∷ mark ∷ s_word ∷ mark ∷ q_word ∷ mark ∷ z_word ∷ mark ∷ mark ∷
    mark ∷ q_word ∷ mark ∷ mark ∷ r_word ∷ mark ∷ mark ∷ p_word ∷ mark ∷ mark ∷ mark ∷ mark ∷ mark ∷
    mark ∷ q_word ∷ mark ∷ []

abbrev pub counting : Tree
counting = node kind.For 18 26 (two (infix_of (operator.Compare comparison.Less) (name 19) (name 21)) (block 22 26 (one (node (kind.StepStatement step.Increment) 23 25 (one (name 23))))))

abbrev pub ranging : Tree
ranging = node kind.For 27 37 (two (node kind.DefiningRange 28 32 (two (node kind.NewNames 28 30 (one (node kind.ExpressionList 28 29 (one (name 28))))) (name 31))) (block 32 37 (one (assignment 33 35 36 (one (name 33)) (one (name 35))))))

abbrev pub switching : Tree
switching = node kind.Switch 38 50 (more (name 39) (two
    (node kind.Case 41 47 (two (node kind.ExpressionList 42 43 (one (name 42))) (node kind.Return 44 46 (one (node kind.ExpressionList 45 46 (one (name 45)))))))
    (node kind.Default 47 49 none)))

abbrev pub body : Tree
body = block 7 54 (
    more (node (kind.Declaration declaring.Variable) 8 12 (one (node (kind.Specification declaring.Variable) 9 12 (two (node kind.NameList 9 10 (one (declared_name 9))) (values 10 12 (one (number 11)))))))
    (more (node (kind.Declaration declaring.Constant) 13 17 (one (node (kind.Specification declaring.Constant) 14 17 (two (node kind.NameList 14 15 (one (declared_name 14))) (values 15 17 (one (number 16)))))))
    (more counting (more ranging (more switching (one (node kind.Return 51 53 (one (node kind.ExpressionList 52 53 (one (name 52)))))))))))

abbrev pub function : Tree
function = node kind.FunctionDeclaration 0 54 (two (node kind.Signature 2 7 (two (node kind.Parameters 2 6 (one (node kind.Parameter 3 5 (two (name 3) (name 4))))) (name 6))) body)

-- what a typed function says, where there is one
abbrev pub said : {A : Type 0} → (FuncContent → A) → Result FuncContent TypeFault → Option A
said g (Ok f) = Some (g f)
said g (Err e) = None

-- func g(p int8, _ int8) int8 { return p }, the function 3 of its package, behind two other tokens of its file
abbrev pub first_local : Word
first_local = local_word (codes "p") 0

abbrev pub int8 : TypeTree
int8 = integer integer_kind.Int8

abbrev pub int8_word : Word
int8_word = predeclared_word predeclared.Int8

abbrev pub parameter : ℕ → Tree
parameter i = node kind.Parameter i (suc (suc i)) (two (name i) (name (suc i)))

abbrev pub small : Result FuncContent TypeFault
small =
    body_answer_at 2 (expressions.scope_of (mark ∷ mark ∷ mark ∷ first_local ∷ int8_word ∷ mark ∷ mark ∷ int8_word ∷ mark ∷ int8_word ∷ mark ∷ mark ∷ first_local ∷ mark ∷ [])) 3 1 (λ n. n)
    (moved 2 (node kind.FunctionDeclaration 0 14 (two (node kind.Signature 2 10 (two (node kind.Parameters 2 9 (two (parameter 3) (parameter 6))) (name 9)))
    (block 10 14 (one (node kind.Return 11 13 (one (node kind.ExpressionList 12 13 (one (name 12))))))))))

-- what the parts of a node stand for
abbrev pub part_sorts : Part → List (Option (Sort TypeTree))
part_sorts x = map (option_map trees.sort_of) (trees.list_of (trees.parts_of x))

pub record BodyExamples : Type 0 where
  -- what its locals stand for
  pub locals : stated words function ≡ Ok (trees.Value int ∷ trees.Value int ∷ trees.OpenConstant (const.Int (pos 2) false) ∷ trees.Value int ∷ [])
  -- the parts of each node lie one after the other inside its range
  pub tiles : is_tiled (tree_of words function) ≡ true
  -- no node is left that only holds parts, and each token names the local that its node names
  pub whole : is_whole (token_locals (expressions.scope_of words) 54) (tree_of words function) ≡ true
  -- var p int8 = 1
  pub variable :
      tree_of (mark ∷ p_word ∷ predeclared_word predeclared.Int8 ∷ mark ∷ word (codes "1") ∷ [])
      (node (kind.Declaration declaring.Variable) 0 5 (one (node (kind.Specification declaring.Variable) 1 5
      (two (node kind.NameList 1 2 (one (declared_name 1))) (node kind.TypedValues 2 5 (two (name 2) (node kind.ExpressionList 4 5 (one (number 4)))))))))
      ≡ labelled form.Variables 0 5 trees.Nothing (trees.more (labelled (form.Specified 1) 1 5 trees.Nothing
      (trees.more (labelled (form.Declared 21) 1 2 (trees.Value (integer integer_kind.Int8)) trees.none)
      (trees.more (labelled form.Type 2 3 (trees.IsType (integer integer_kind.Int8)) trees.none)
      (trees.more (labelled form.Literal 4 5 (trees.Constant (integer integer_kind.Int8) (const.Int (pos 1) false)) trees.none) trees.none)))) trees.none)
  -- const p = 1
  pub constant :
      tree_of (mark ∷ p_word ∷ mark ∷ word (codes "1") ∷ [])
      (node (kind.Declaration declaring.Constant) 0 4 (one (node (kind.Specification declaring.Constant) 1 4 (two (node kind.NameList 1 2 (one (declared_name 1))) (values 2 4 (one (number 3)))))))
      ≡ labelled form.Constants 0 4 trees.Nothing (trees.more (labelled (form.Declared 21) 1 2 (trees.OpenConstant (const.Int (pos 1) false)) trees.none) trees.none)
  -- for x8 = range 3 { }
  pub number_of_target :
      part_sorts (tree_of (mark ∷ x8_word ∷ mark ∷ mark ∷ word (codes "3") ∷ mark ∷ mark ∷ [])
      (node kind.For 0 7 (two (node kind.AssigningRange 1 5 (two (node kind.Targets 1 3 (one (node kind.ExpressionList 1 2 (one (name 1))))) (number 4))) (block 5 7 none))))
      ≡ Some (trees.Value int8) ∷ Some (trees.Constant int8 (const.Int (pos 3) false)) ∷ Some trees.Nothing ∷ []
  -- for p := range 'e' { }
  pub rune_of_name :
      part_sorts (tree_of (mark ∷ p_word ∷ mark ∷ mark ∷ word (codes "'e'") ∷ mark ∷ mark ∷ [])
      (node kind.For 0 7 (two (node kind.DefiningRange 1 5 (two (node kind.NewNames 1 3 (one (node kind.ExpressionList 1 2 (one (name 1))))) (character 4))) (block 5 7 none))))
      ≡ Some (trees.Value rune) ∷ Some (trees.Constant rune (const.Int (pos 101) true)) ∷ Some trees.Nothing ∷ []
  -- for range 1 << u { }
  pub number_alone :
      part_sorts (tree_of (mark ∷ mark ∷ word (codes "1") ∷ mark ∷ u_word ∷ mark ∷ mark ∷ [])
      (node kind.For 0 7 (two (node kind.Range 1 5 (one (infix_of (operator.Compute arithmetic.ShiftLeft) (number 2) (name 4)))) (block 5 7 none))))
      ≡ Some (trees.Value int) ∷ Some trees.Nothing ∷ []
  pub signature : said (λ f. f.signature) small ≡ Some (types.function (row (int8 ∷ int8 ∷ [])) (row (int8 ∷ [])))
  pub parameters : said (λ f. f.parameters) small ≡ Some (Some 0 ∷ None ∷ [])
  pub sorts : said (λ f. f.locals) small ≡ Some (trees.Value int8 ∷ [])
  pub tokens :
      said (λ f. f.tokens) small
      ≡ Some (None ∷ None ∷ None ∷ Some 0 ∷ None ∷ None ∷ None ∷ None ∷ None ∷ None ∷ None ∷ None ∷ Some 0 ∷ None ∷ [])
