-- Texts worked out by hand: bytes, tokens, trees, and what they are typed as.
use Rattle.std.specs.Prelude.{◌≡◌, ℕ, ◌+◌, List, [], ◌∷◌, codes, false, Ok, pos, neg_ℤ}
use Rattle.go_ints.specs.declared.kinds.Kind.TheVariants as ints
use Rattle.go_constants.specs.declared.values.Const.{Const}
use Rattle.go_constants.specs.declared.values.Const.TheVariants as const
use Rattle.go_tokens.specs.declared.token.TokenKind.{TokenKind}
use Rattle.go_tokens.specs.declared.token.TokenKind.TheVariants as token
use Rattle.go_tokens.specs.Replacing.{Item}
use Rattle.go_grammar.specs.declared.kind.Kind.TheVariants as kind
use Rattle.go_grammar.specs.declared.kind.Sign.TheVariants as sign
use Rattle.go_grammar.specs.declared.kind.Sort.TheVariants as sort_of
use Rattle.go_grammar.specs.Trees.{Tree, node, Trees, none, more, skip}
use Rattle.go_tree.specs.declared.object.Predeclared.TheVariants as predeclared
use Rattle.go_types.specs.Trees.{TypeTree, boolean, integer, slice, structure, function, row}
use Rattle.go_typed.specs.Trees as sort
use Rattle.go_exprs_rules.specs.Scopes.{value, type_place}
use Rattle.go_exprs_rules.specs.Sentences.{word, mark, predeclared_word, sentence, told}
use Rattle.go_print.specs.Texts.{type_text}
use Rattle.go_print.specs.Literals.{literal_text}
use Rattle.go_print_laws.specs.Lexemes.{tokens_of}
use Rattle.go_print_laws.specs.Types.{type_lexemes}
use Rattle.go_print_laws.specs.Trees.{type_tree}
use Rattle.go_print_laws.specs.Literals.{literal_lexemes, literal_tree}
use Rattle.go_print_laws.specs.Calls.{Call, variable, constant, call_text, call_trees}
use Rattle.go_print_laws.specs.Headers.{Header, header_text, header_tree}

-- `a`, a quotation mark, a newline and a byte that is no character of ASCII
abbrev pub four_bytes : Const
four_bytes = const.Text (97 ∷ 34 ∷ 10 ∷ 255 ∷ [])

abbrev pub three_below_zero : Const
three_below_zero = const.Int (neg_ℤ (pos 3)) false

abbrev pub int : TypeTree
int = integer ints.Int

abbrev pub byte : TypeTree
byte = integer ints.Uint8

abbrev pub rune : TypeTree
rune = integer ints.Int32

-- `struct{ a, b byte; f func(int) (bool, []rune) }`
abbrev pub three_fields : TypeTree
three_fields = structure (codes "a" ∷ codes "b" ∷ codes "f" ∷ []) (row (byte ∷ byte ∷ function (row (int ∷ [])) (row (boolean ∷ slice rune ∷ [])) ∷ []))

abbrev pub no_name : ℕ → List ℕ
no_name n = []

abbrev pub item : TokenKind → List ℕ → Item
item k text = record { kind = k; text = text }

abbrev pub one : Tree → Trees
one t = more t none

abbrev pub two : Tree → Tree → Trees
two t u = more t (one u)

abbrev pub leaf : ℕ → Tree
leaf i = node kind.Name i (i + 1) none

abbrev pub field_names : ℕ → Tree
field_names i = node kind.NameList i (i + 1) (one (node kind.DeclaredName i (i + 1) none))

-- `var b int; b = addmul(a, "x")`, and `func addmul(a int, p bool) int`
abbrev pub call : Call
call = record { declared = codes "b" ∷ []; types = row (int ∷ []); results = codes "b" ∷ []; function = codes "addmul"; arguments = variable (codes "a") ∷ constant (const.Text (120 ∷ [])) ∷ [] }

abbrev pub header : Header
header = record { function = codes "addmul"; parameters = codes "a" ∷ codes "p" ∷ []; types = row (int ∷ boolean ∷ []); results = row (int ∷ []) }

pub record Examples : Type 0 where
  -- "a\"\x0a\xff"
  pub text_bytes : literal_text four_bytes ≡ codes "\"a\\\"\\x0a\\xff\""
  pub text_tokens : tokens_of (literal_lexemes four_bytes []) ≡ item token.Text (codes "\"a\\\"\\x0a\\xff\"") ∷ []
  pub text_tree : literal_tree 0 four_bytes ≡ node kind.Text 0 1 none
  pub text_read : told value (sentence (word (codes "\"a\\\"\\x0a\\xff\"") ∷ []) (literal_tree 0 four_bytes)) ≡ Ok (sort.OpenConstant four_bytes)
  -- -3
  pub number_bytes : literal_text three_below_zero ≡ codes "-3"
  pub number_tokens : tokens_of (literal_lexemes three_below_zero []) ≡ item token.Minus (codes "-") ∷ item token.Integer (codes "3") ∷ []
  pub number_tree : literal_tree 0 three_below_zero ≡ node (kind.Unary sign.Minus) 0 2 (one (node kind.Integer 1 2 none))
  pub number_read : told value (sentence (mark ∷ word (codes "3") ∷ []) (literal_tree 0 three_below_zero)) ≡ Ok (sort.OpenConstant three_below_zero)
  -- struct { a uint8; b uint8; f func(int) (bool, []int32) }
  pub type_bytes : type_text no_name three_fields ≡ codes "struct { a uint8; b uint8; f func(int) (bool, []int32) }"
  pub type_tokens :
      tokens_of (type_lexemes no_name three_fields [])
      ≡ item token.Struct (codes "struct") ∷ item token.LeftBrace (codes "{")
      ∷ item token.Identifier (codes "a") ∷ item token.Identifier (codes "uint8") ∷ item token.Semicolon (codes ";")
      ∷ item token.Identifier (codes "b") ∷ item token.Identifier (codes "uint8") ∷ item token.Semicolon (codes ";")
      ∷ item token.Identifier (codes "f") ∷ item token.Func (codes "func") ∷ item token.LeftParenthesis (codes "(") ∷ item token.Identifier (codes "int") ∷ item token.RightParenthesis (codes ")")
      ∷ item token.LeftParenthesis (codes "(") ∷ item token.Identifier (codes "bool") ∷ item token.Comma (codes ",")
      ∷ item token.LeftBracket (codes "[") ∷ item token.RightBracket (codes "]") ∷ item token.Identifier (codes "int32") ∷ item token.RightParenthesis (codes ")")
      ∷ item token.RightBrace (codes "}") ∷ []
  pub type_tree_is :
      type_tree 0 three_fields
      ≡ node kind.StructType 0 21 (more (node kind.Fields 2 4 (two (field_names 2) (leaf 3))) (more (node kind.Fields 5 7 (two (field_names 5) (leaf 6)))
      (one (node kind.Fields 8 20 (two (field_names 8) (node kind.FunctionType 9 20 (one (node kind.Signature 10 20
      (two (node kind.Parameters 10 13 (one (leaf 11))) (node kind.Results 13 20 (two (leaf 14) (node kind.SequenceType 16 19 (skip (one (leaf 18)))))))))))))))
  pub type_read :
      told type_place (sentence (mark ∷ mark ∷ word (codes "a") ∷ predeclared_word predeclared.Uint8 ∷ mark ∷ word (codes "b") ∷ predeclared_word predeclared.Uint8 ∷ mark
      ∷ word (codes "f") ∷ mark ∷ mark ∷ predeclared_word predeclared.Int ∷ mark ∷ mark ∷ predeclared_word predeclared.Bool ∷ mark ∷ mark ∷ mark ∷ predeclared_word predeclared.Int32 ∷ mark ∷ mark ∷ [])
      (type_tree 0 three_fields))
      ≡ Ok (sort.IsType three_fields)
  -- var b int; b = addmul(a, "x")
  pub call_bytes : call_text no_name call ≡ codes "var b int; b = addmul(a, \"x\")"
  pub call_trees_are :
      call_trees 0 call
      ≡ two (node (kind.Declaration sort_of.Variable) 0 3 (one (node (kind.Specification sort_of.Variable) 1 3 (two (field_names 1) (leaf 2)))))
      (node kind.Assignment 4 12 (two (node kind.Targets 4 6 (one (node kind.ExpressionList 4 5 (one (leaf 4)))))
      (node kind.ExpressionList 6 12 (one (node kind.Call 6 12 (more (leaf 6) (two (leaf 8) (node kind.Text 10 11 none))))))))
  -- func addmul(a int, p bool) int
  pub header_bytes : header_text no_name header ≡ codes "func addmul(a int, p bool) int"
  pub header_tree_is :
      header_tree 0 header
      ≡ node kind.FunctionDeclaration 0 10 (more (node kind.Signature 2 10 (two (node kind.Parameters 2 9
      (two (node kind.Parameter 3 5 (two (leaf 3) (leaf 4))) (node kind.Parameter 6 8 (two (leaf 6) (leaf 7))))) (leaf 9))) (skip none))
