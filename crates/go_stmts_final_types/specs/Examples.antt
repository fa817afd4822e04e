-- Worked examples of names that stand for something known, and of one that doesn't.
use Rattle.std.specs.Prelude.{ℕ, [], ◌∷◌, codes}
use Rattle.go_grammar.specs.declared.kind.Kind.TheVariants as kind
use Rattle.go_grammar.specs.Trees.{Tree, node, none}
use Rattle.go_tree.specs.declared.object.Predeclared.TheVariants as predeclared
use Rattle.go_exprs_rules.specs.Scopes.{Scope, free}
use Rattle.go_exprs_rules.specs.Sentences.{Word, mark, predeclared_word, local_word, name}
use Rattle.go_exprs_rules.specs.Sentences as expressions
use Rattle.go_stmts_defs.specs.Bodies.{start}
use Rattle.go_stmts_defs.specs.Sentences.{one, two, block}
use Rattle.go_stmts_final_types.specs.Names.{NamesAreKnown}

abbrev pub own_word : Word
own_word = local_word (codes "p") 0

abbrev pub byte_word : Word
byte_word = predeclared_word predeclared.Int8

-- { return p }, from the token i on
abbrev pub returning : ℕ → ℕ → ℕ → ℕ → ℕ → Tree
returning i j k m n = block i n (one (node kind.Return j m (one (node kind.ExpressionList k m (one (name k))))))

-- func g(p int8) int8 { return p }
abbrev pub declaring : Scope
declaring = expressions.scope_of (mark ∷ mark ∷ mark ∷ own_word ∷ byte_word ∷ mark ∷ byte_word ∷ mark ∷ mark ∷ own_word ∷ mark ∷ mark ∷ [])

abbrev pub declared : Tree
declared = node kind.FunctionDeclaration 0 12 (two (node kind.Signature 2 7 (two (node kind.Parameters 2 6 (one (node kind.Parameter 3 5 (two (name 3) (name 4))))) (name 6))) (returning 7 8 9 10 12))

-- func g() int8 { return p }, where p is a local that isn't declared
abbrev pub lacking : Scope
lacking = expressions.scope_of (mark ∷ mark ∷ mark ∷ mark ∷ byte_word ∷ mark ∷ mark ∷ own_word ∷ mark ∷ mark ∷ [])

abbrev pub undeclared : Tree
undeclared = node kind.FunctionDeclaration 0 10 (two (node kind.Signature 2 5 (two (node kind.Parameters 2 4 none) (name 4))) (returning 5 6 7 8 10))

pub record Examples : Type 0 where
  pub known : NamesAreKnown (start declaring 1 (λ n. n)) free declared
  pub unknown : NamesAreKnown (start lacking 1 (λ n. n)) free undeclared → ⊥
