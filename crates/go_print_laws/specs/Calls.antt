-- A call as statements: variables that are declared in front of it, and what its results are given to.
use Rattle.std.specs.Prelude.{ℕ, suc, List, [], ◌∷◌, ◌++◌, map, codes}
use Rattle.go_tokens.specs.declared.token.TokenKind.TheVariants as token
use Rattle.go_grammar.specs.declared.kind.Kind.TheVariants as kind
use Rattle.go_grammar.specs.declared.kind.Sort.TheVariants as sort
use Rattle.go_grammar.specs.Rules.{Items}
use Rattle.go_grammar.specs.Trees.{Tree, node, Trees, none, more, last}
use Rattle.go_rewriting.specs.Lists.{in_block, in_clause}
use Rattle.go_constants.specs.declared.values.Const.{Const}
use Rattle.go_types.specs.Trees.{TypeRow}
use Rattle.go_types.specs.Trees as types
use Rattle.go_print.specs.Texts.{listed, type_text}
use Rattle.go_print.specs.Literals.{literal_text}
use Rattle.go_print_laws.specs.Lexemes.{Lexeme, mark, identifier, blank, IsName, AreNames}
use Rattle.go_print_laws.specs.Types.{comma, semicolon, opening, closing, type_lexemes, RowCanBeWritten}
use Rattle.go_print_laws.specs.Trees.{name_at, names_at, type_tree}
use Rattle.go_print_laws.specs.Literals.{literal_lexemes, literal_tree, CanBeSpelled}
use Rattle.go_print_laws.specs.Standing.{StandsAsRun}

pub data Argument : Type 0 where
  variable : List ℕ → Argument
  constant : Const → Argument

pub record Call : Type 0 where
  -- the variables that are declared in front of the call, and their types
  pub declared : List (List ℕ)
  pub types : TypeRow
  -- the variables that the results are given to
  pub results : List (List ℕ)
  pub function : List ℕ
  pub arguments : List Argument

-- ---- the text

abbrev pub argument_text : Argument → List ℕ
argument_text (variable n) = n
argument_text (constant v) = literal_text v

-- `var y T; ` for each variable
abbrev pub declaring_text : (ℕ → List ℕ) → List (List ℕ) → TypeRow → List ℕ
declaring_text name [] ts = []
declaring_text name (y ∷ ys) types.none = []
declaring_text name (y ∷ ys) (types.more t ts) = codes "var " ++ y ++ codes " " ++ type_text name t ++ codes "; " ++ declaring_text name ys ts

-- `x, y = `, or nothing
abbrev pub assigning_text : List (List ℕ) → List ℕ
assigning_text [] = []
assigning_text (x ∷ xs) = listed (x ∷ xs) ++ codes " = "

abbrev pub call_text : (ℕ → List ℕ) → Call → List ℕ
call_text name c = declaring_text name c.declared c.types ++ assigning_text c.results ++ c.function ++ codes "(" ++ listed (map argument_text c.arguments) ++ codes ")"

-- ---- its tokens

abbrev pub argument_lexemes : Argument → List Lexeme → List Lexeme
argument_lexemes (variable n) rest = identifier n ∷ rest
argument_lexemes (constant v) rest = literal_lexemes v rest

-- arguments behind another one
abbrev pub further_lexemes : List Argument → List Lexeme → List Lexeme
further_lexemes [] rest = rest
further_lexemes (a ∷ gs) rest = comma ∷ blank ∷ argument_lexemes a (further_lexemes gs rest)

abbrev pub arguments_lexemes : List Argument → List Lexeme → List Lexeme
arguments_lexemes [] rest = rest
arguments_lexemes (a ∷ gs) rest = argument_lexemes a (further_lexemes gs rest)

-- names behind another one
abbrev pub behind_name : List (List ℕ) → List Lexeme → List Lexeme
behind_name [] rest = rest
behind_name (x ∷ xs) rest = comma ∷ blank ∷ identifier x ∷ behind_name xs rest

abbrev pub assigning_lexemes : List (List ℕ) → List Lexeme → List Lexeme
assigning_lexemes [] rest = rest
assigning_lexemes (x ∷ xs) rest = identifier x ∷ behind_name xs (blank ∷ mark token.Assign (codes "=") ∷ blank ∷ rest)

abbrev pub declaring_lexemes : (ℕ → List ℕ) → List (List ℕ) → TypeRow → List Lexeme → List Lexeme
declaring_lexemes name [] ts rest = rest
declaring_lexemes name (y ∷ ys) types.none rest = rest
declaring_lexemes name (y ∷ ys) (types.more t ts) rest =
    mark token.Var (codes "var") ∷ blank ∷ identifier y ∷ blank ∷ type_lexemes name t (semicolon ∷ blank ∷ declaring_lexemes name ys ts rest)

abbrev pub statement_lexemes : Call → List Lexeme → List Lexeme
statement_lexemes c rest = assigning_lexemes c.results (identifier c.function ∷ opening ∷ arguments_lexemes c.arguments (closing ∷ rest))

abbrev pub call_lexemes : (ℕ → List ℕ) → Call → List Lexeme → List Lexeme
call_lexemes name c rest = declaring_lexemes name c.declared c.types (statement_lexemes c rest)

-- ---- its trees

abbrev pub argument_tree : ℕ → Argument → Tree
argument_tree i (variable n) = name_at i
argument_tree i (constant v) = literal_tree i v

abbrev pub further_trees : ℕ → List Argument → Trees
further_trees i [] = none
further_trees i (a ∷ gs) = more (argument_tree (suc i) a) (further_trees (last (argument_tree (suc i) a)) gs)

abbrev pub further_end : ℕ → List Argument → ℕ
further_end i [] = i
further_end i (a ∷ gs) = further_end (last (argument_tree (suc i) a)) gs

abbrev pub arguments_trees : ℕ → List Argument → Trees
arguments_trees i [] = none
arguments_trees i (a ∷ gs) = more (argument_tree i a) (further_trees (last (argument_tree i a)) gs)

abbrev pub arguments_end : ℕ → List Argument → ℕ
arguments_end i [] = i
arguments_end i (a ∷ gs) = further_end (last (argument_tree i a)) gs

-- a call whose first token has this number
abbrev pub call_tree : ℕ → List Argument → Tree
call_tree i gs = node kind.Call i (suc (arguments_end (suc (suc i)) gs)) (more (name_at i) (arguments_trees (suc (suc i)) gs))

abbrev pub names_behind : ℕ → List (List ℕ) → Trees
names_behind i [] = none
names_behind i (x ∷ xs) = more (name_at (suc i)) (names_behind (suc (suc i)) xs)

abbrev pub names_end : ℕ → List (List ℕ) → ℕ
names_end i [] = i
names_end i (x ∷ xs) = names_end (suc (suc i)) xs

-- behind the names from i up to m and an equals sign
abbrev pub assignment_at : ℕ → ℕ → Trees → Tree → Tree
assignment_at i m names call =
    node kind.Assignment i (last call) (more (node kind.Targets i (suc m) (more (node kind.ExpressionList i m names) none))
    (more (node kind.ExpressionList (suc m) (last call) (more call none)) none))

abbrev pub statement_tree : ℕ → List (List ℕ) → List Argument → Tree
statement_tree i [] gs = node kind.ExpressionStatement i (last (call_tree i gs)) (more (call_tree i gs) none)
statement_tree i (x ∷ xs) gs = assignment_at i (names_end (suc i) xs) (more (name_at i) (names_behind (suc i) xs)) (call_tree (suc (names_end (suc i) xs)) gs)

-- `var y T`, where the type has this tree
abbrev pub declaration_at : ℕ → Tree → Tree
declaration_at i t = node (kind.Declaration sort.Variable) i (last t) (more (node (kind.Specification sort.Variable) (suc i) (last t) (more (names_at (suc i)) (more t none))) none)

abbrev pub statement_trees : ℕ → List (List ℕ) → TypeRow → List (List ℕ) → List Argument → Trees
statement_trees i [] ts xs gs = more (statement_tree i xs gs) none
statement_trees i (y ∷ ys) types.none xs gs = more (statement_tree i xs gs) none
statement_trees i (y ∷ ys) (types.more t ts) xs gs =
    more (declaration_at i (type_tree (suc (suc i)) t)) (statement_trees (suc (last (type_tree (suc (suc i)) t))) ys ts xs gs)

abbrev pub call_trees : ℕ → Call → Trees
call_trees i c = statement_trees i c.declared c.types c.results c.arguments

-- ---- the law

abbrev pub ArgumentCanBeWritten : Argument → Type 0
ArgumentCanBeWritten (variable n) = IsName n
ArgumentCanBeWritten (constant v) = CanBeSpelled v

abbrev pub ArgumentsCanBeWritten : List Argument → Type 0
ArgumentsCanBeWritten [] = Unit {0}
ArgumentsCanBeWritten (a ∷ gs) = ArgumentCanBeWritten a × ArgumentsCanBeWritten gs

pub record CallCanBeWritten (name : ℕ → List ℕ) (c : Call) : Type 0 where
  pub declared : AreNames c.declared
  pub types : RowCanBeWritten name c.types
  pub results : AreNames c.results
  pub function : IsName c.function
  pub arguments : ArgumentsCanBeWritten c.arguments

-- the statements of a block, or those of a clause
pub data AreStatements : Items → Type 0 where
  of_block : AreStatements in_block
  of_clause : AreStatements in_clause

-- The text of a call is a run of statements with these trees, wherever statements are listed.
abbrev pub CallsStand : Type 0
CallsStand = (file : ℕ) (items : Items) (name : ℕ → List ℕ) (c : Call) → AreStatements items → CallCanBeWritten name c
    → StandsAsRun file (call_text name c) (call_lexemes name c []) items (call_trees 0 c)
