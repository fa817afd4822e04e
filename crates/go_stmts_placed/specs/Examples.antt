-- Worked functions whose names are placed, and two whose names aren't.
use Rattle.std.specs.Prelude.{ℕ, [], ◌∷◌, codes}
use Rattle.go_grammar.specs.declared.kind.Kind.TheVariants as kind
use Rattle.go_grammar.specs.Trees.{Tree, node, none, more, skip}
use Rattle.go_tree.specs.declared.object.Predeclared.TheVariants as predeclared
use Rattle.go_exprs_rules.specs.Scopes.{Scope, free}
use Rattle.go_exprs_rules.specs.Sentences.{Word, mark, predeclared_word, local_word, name}
use Rattle.go_exprs_rules.specs.Sentences as expressions
use Rattle.go_stmts_defs.specs.Bodies.{start}
use Rattle.go_stmts_defs.specs.Sentences.{one, two, block, assignment, definition}
use Rattle.go_stmts_final_types.specs.Examples as returning
use Rattle.go_stmts_placed.specs.Placed.{NamesArePlaced}

abbrev pub outer : Word
outer = local_word (codes "p") 0

abbrev pub inner : Word
inner = local_word (codes "p") 1

abbrev pub byte_word : Word
byte_word = predeclared_word predeclared.Int8

-- func f(p int8), with a body that ends in front of the token n
abbrev pub function : ℕ → Tree → Tree
function n s = node kind.FunctionDeclaration 0 n (two (node kind.Signature 2 6 (more (node kind.Parameters 2 6 (one (node kind.Parameter 3 5 (two (name 3) (name 4))))) (skip none))) (block 6 n (one s)))

-- func f(p int8) { if p := p; true { p = p } }, where the value of the inner p is the word w
abbrev pub shadowing : Word → Scope
shadowing w = expressions.scope_of (mark ∷ mark ∷ mark ∷ outer ∷ byte_word ∷ mark ∷ mark ∷ mark ∷ inner ∷ mark ∷ w ∷ mark ∷ predeclared_word predeclared.True ∷ mark ∷ inner ∷ mark ∷ inner ∷ mark ∷ mark ∷ mark ∷ [])

abbrev pub shadowed : Tree
shadowed = function 20 (node kind.If 7 18 (more (node kind.InitializedCondition 8 13 (two (definition 8 10 11 (one (name 8)) (one (name 10))) (name 12))) (more (block 13 18 (one (assignment 14 16 17 (one (name 14)) (one (name 16))))) (skip none))))

-- func f(p int8) { for i := range p { p = i } }
abbrev pub ranging : Scope
ranging = expressions.scope_of (mark ∷ mark ∷ mark ∷ outer ∷ byte_word ∷ mark ∷ mark ∷ mark ∷ inner ∷ mark ∷ mark ∷ outer ∷ mark ∷ outer ∷ mark ∷ inner ∷ mark ∷ mark ∷ mark ∷ [])

abbrev pub ranged : Tree
ranged = function 19 (node kind.For 7 17 (two (node kind.DefiningRange 8 12 (two (node kind.NewNames 8 10 (one (node kind.ExpressionList 8 9 (one (name 8))))) (name 11))) (block 12 17 (one (assignment 13 15 16 (one (name 13)) (one (name 15)))))))

pub record Examples : Type 0 where
  -- func g(p int8) int8 { return p }
  pub returns : NamesArePlaced 0 (start returning.declaring 1 (λ n. n)) free returning.declared
  pub shadows : NamesArePlaced 0 (start (shadowing outer) 2 (λ n. n)) free shadowed
  pub ranges : NamesArePlaced 0 (start ranging 2 (λ n. n)) free ranged
  -- func g() int8 { return p }, where p isn't declared
  pub undeclared : NamesArePlaced 0 (start returning.lacking 1 (λ n. n)) free returning.undeclared → ⊥
  -- the inner p isn't declared where its value is read
  pub sooner : NamesArePlaced 0 (start (shadowing inner) 2 (λ n. n)) free shadowed → ⊥
