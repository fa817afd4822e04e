-- The tokens and trees of printed constants.
use Rattle.std.specs.Prelude.{◌<◌, ◌^◌, suc, ℕ, pos, negsuc, List, [], ◌∷◌, ◌++◌, codes}
use Rattle.std.specs.List.{AllByRecursion}
use Rattle.std.specs.Fmt.{decimal}
use Rattle.go_tokens.specs.declared.token.TokenKind.TheVariants as token
use Rattle.go_grammar.specs.declared.kind.Kind.TheVariants as kind
use Rattle.go_grammar.specs.declared.kind.Level.TheVariants as level
use Rattle.go_grammar.specs.declared.kind.Place.TheVariants as place
use Rattle.go_grammar.specs.declared.kind.Sign.TheVariants as sign
use Rattle.go_grammar.specs.declared.kind.Category.TheVariants as category
use Rattle.go_grammar.specs.Trees.{Tree, node}
use Rattle.go_grammar.specs.Trees as trees
use Rattle.go_constants.specs.declared.values.Const.{Const}
use Rattle.go_constants.specs.declared.values.Const.TheVariants as const
use Rattle.go_print.specs.Literals.{boolean_text, bytes_text, literal_text}
use Rattle.go_print_laws.specs.Lexemes.{Lexeme, mark}
use Rattle.go_print_laws.specs.Trees.{name_at, number_at}
use Rattle.go_print_laws.specs.Standing.{StandsAs}

-- in front of a rest
abbrev pub literal_lexemes : Const → List Lexeme → List Lexeme
literal_lexemes (const.Bool b) rest = mark token.Identifier (boolean_text b) ∷ rest
literal_lexemes (const.Int (pos n) rune) rest = mark token.Integer (decimal n) ∷ rest
literal_lexemes (const.Int (negsuc n) rune) rest = mark token.Minus (codes "-") ∷ mark token.Integer (decimal (suc n)) ∷ rest
literal_lexemes (const.Text bs) rest = mark token.Text (codes "\"" ++ bytes_text bs ++ codes "\"") ∷ rest

-- the tree of a literal whose first token has this number
abbrev pub literal_tree : ℕ → Const → Tree
literal_tree i (const.Bool b) = name_at i
literal_tree i (const.Int (pos n) rune) = number_at i
literal_tree i (const.Int (negsuc n) rune) = node (kind.Unary sign.Minus) i (suc (suc i)) (trees.more (number_at (suc i)) trees.none)
literal_tree i (const.Text bs) = node kind.Text i (suc i) trees.none

-- A number has at most 64 digits, and a text is one of bytes.
abbrev pub CanBeSpelled : Const → Type 0
CanBeSpelled (const.Bool b) = Prim.Unit {0}
CanBeSpelled (const.Int (pos n) rune) = n < 10 ^ 64
CanBeSpelled (const.Int (negsuc n) rune) = suc n < 10 ^ 64
CanBeSpelled (const.Text bs) = AllByRecursion (λ b. b < 256) bs

-- A printed constant is a text of these tokens, and an expression with this tree, as an operand too.
abbrev pub LiteralsStand : Type 0
LiteralsStand = (file : ℕ) (v : Const) → CanBeSpelled v
    → StandsAs file (literal_text v) (literal_lexemes v []) (category.Expression level.Unary place.Free) (literal_tree 0 v)
