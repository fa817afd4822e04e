-- The header of a function: its name, its parameters by names and types, and the types of its results.
use Rattle.std.specs.Prelude.{ℕ, suc, List, [], ◌∷◌, ◌++◌, codes}
use Rattle.go_tokens.specs.declared.token.TokenKind.TheVariants as token
use Rattle.go_grammar.specs.declared.kind.Kind.TheVariants as kind
use Rattle.go_grammar.specs.declared.kind.Category.TheVariants as category
use Rattle.go_grammar.specs.Trees.{Tree, node, Trees, none, more, skip, last}
use Rattle.go_types.specs.Trees.{TypeRow}
use Rattle.go_types.specs.Trees as types
use Rattle.go_print.specs.Texts.{listed, named, row_texts, results_text}
use Rattle.go_print_laws.specs.Lexemes.{Lexeme, mark, identifier, blank, IsName, AreNames}
use Rattle.go_print_laws.specs.Types.{comma, opening, closing, type_lexemes, result_lexemes, RowCanBeWritten}
use Rattle.go_print_laws.specs.Trees.{name_at, type_tree, result_trees, result_end}
use Rattle.go_print_laws.specs.Standing.{StandsAs}

pub record Header : Type 0 where
  pub function : List ℕ
  pub parameters : List (List ℕ)
  pub types : TypeRow
  pub results : TypeRow

abbrev pub header_text : (ℕ → List ℕ) → Header → List ℕ
header_text name h = codes "func " ++ h.function ++ codes "(" ++ listed (named h.parameters (row_texts name h.types)) ++ codes ")" ++ results_text (row_texts name h.results)

-- ---- its tokens

-- parameters behind another one
abbrev pub further_parameters : (ℕ → List ℕ) → List (List ℕ) → TypeRow → List Lexeme → List Lexeme
further_parameters name [] ts rest = rest
further_parameters name (n ∷ ns) types.none rest = rest
further_parameters name (n ∷ ns) (types.more t ts) rest = comma ∷ blank ∷ identifier n ∷ blank ∷ type_lexemes name t (further_parameters name ns ts rest)

abbrev pub parameter_lexemes : (ℕ → List ℕ) → List (List ℕ) → TypeRow → List Lexeme → List Lexeme
parameter_lexemes name [] ts rest = rest
parameter_lexemes name (n ∷ ns) types.none rest = rest
parameter_lexemes name (n ∷ ns) (types.more t ts) rest = identifier n ∷ blank ∷ type_lexemes name t (further_parameters name ns ts rest)

abbrev pub header_lexemes : (ℕ → List ℕ) → Header → List Lexeme → List Lexeme
header_lexemes name h rest =
    mark token.Func (codes "func") ∷ blank ∷ identifier h.function ∷ opening ∷ parameter_lexemes name h.parameters h.types (closing ∷ result_lexemes name h.results rest)

-- ---- its tree

abbrev pub parameter_at : ℕ → Tree → Tree
parameter_at i t = node kind.Parameter i (last t) (more (name_at i) (more t none))

-- parameters behind one that ends here
abbrev pub further_trees : ℕ → List (List ℕ) → TypeRow → Trees
further_trees i [] ts = none
further_trees i (n ∷ ns) types.none = none
further_trees i (n ∷ ns) (types.more t ts) = more (parameter_at (suc i) (type_tree (suc (suc i)) t)) (further_trees (last (type_tree (suc (suc i)) t)) ns ts)

abbrev pub further_end : ℕ → List (List ℕ) → TypeRow → ℕ
further_end i [] ts = i
further_end i (n ∷ ns) types.none = i
further_end i (n ∷ ns) (types.more t ts) = further_end (last (type_tree (suc (suc i)) t)) ns ts

abbrev pub parameter_trees : ℕ → List (List ℕ) → TypeRow → Trees
parameter_trees i [] ts = none
parameter_trees i (n ∷ ns) types.none = none
parameter_trees i (n ∷ ns) (types.more t ts) = more (parameter_at i (type_tree (suc i) t)) (further_trees (last (type_tree (suc i) t)) ns ts)

abbrev pub parameters_end : ℕ → List (List ℕ) → TypeRow → ℕ
parameters_end i [] ts = i
parameters_end i (n ∷ ns) types.none = i
parameters_end i (n ∷ ns) (types.more t ts) = further_end (last (type_tree (suc i) t)) ns ts

-- the signature whose first token has this number
abbrev pub signature_tree : ℕ → Header → Tree
signature_tree i h =
    let k = suc (parameters_end (suc i) h.parameters h.types) in
    node kind.Signature i (result_end k h.results) (more (node kind.Parameters i k (parameter_trees (suc i) h.parameters h.types)) (result_trees k h.results))

-- a function without a body
abbrev pub header_tree : ℕ → Header → Tree
header_tree i h = node kind.FunctionDeclaration i (last (signature_tree (suc (suc i)) h)) (more (signature_tree (suc (suc i)) h) (skip none))

-- ---- the law

pub record HeaderCanBeWritten (name : ℕ → List ℕ) (h : Header) : Type 0 where
  pub function : IsName h.function
  pub parameters : AreNames h.parameters
  pub types : RowCanBeWritten name h.types
  pub results : RowCanBeWritten name h.results

-- The text of a header is one of a declaration with this tree, which has no body yet.
abbrev pub HeadersStand : Type 0
HeadersStand = (file : ℕ) (name : ℕ → List ℕ) (h : Header) → HeaderCanBeWritten name h
    → StandsAs file (header_text name h) (header_lexemes name h []) category.Declaration (header_tree 0 h)
