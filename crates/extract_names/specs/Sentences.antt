-- Functions by their words, as the worked examples write them.
use Rattle.std.specs.Prelude.{ℕ, if◌then◌else◌, List, [], map, Option, Some, None, codes}
use Rattle.go_tokens.specs.Spellings.{same_text}
use Rattle.go_tokens.specs.declared.token.TokenKind.{TokenKind}
use Rattle.go_tokens.specs.declared.token.TokenKind.TheVariants as token
use Rattle.go_grammar.specs.declared.kind.Category.TheVariants as category
use Rattle.go_grammar.specs.Trees.{Trees}
use Rattle.go_rewriting.specs.Readings.{tree_in, statement_at, statements, read_at}
use Rattle.go_tree.specs.declared.object.Object.TheVariants as object
use Rattle.go_tree.specs.declared.object.Predeclared.TheVariants as predeclared
use Rattle.go_heads.specs.Functions.{Alone}
use Rattle.go_scopes_bodies.specs.Meant.{Meant, own, Outer}

pub record Word : Type 0 where
  pub kind : TokenKind
  pub text : List ℕ

abbrev pub word : TokenKind → List ℕ → Word
word k w = record { kind = k; text = w }

abbrev pub name : List ℕ → Word
name w = word token.Identifier w

abbrev pub number : List ℕ → Word
number w = word token.Integer w

abbrev pub mark : TokenKind → Word
mark k = word k []

abbrev pub texts_of : List Word → List (List ℕ)
texts_of ws = map (λ (w : Word). w.text) ws

abbrev pub kinds_of : List Word → List TokenKind
kinds_of ws = map (λ (w : Word). w.kind) ws

-- the function that these words are
abbrev pub function_of : List Word → Alone
function_of ws = record { texts = texts_of ws; tree = tree_in (read_at (kinds_of ws) category.Declaration) }

-- one statement and so many more, among the words of a function
abbrev pub statements_from : List Word → ℕ → ℕ → Trees
statements_from ws i n = statements n (statement_at (kinds_of ws) i) (kinds_of ws)

-- Around the functions of the examples: f and h are functions, int and true are predeclared, T is a type of the package.
abbrev pub around : Outer
around w =
    if same_text w (codes "f") then Some (object.Package 0) else
    if same_text w (codes "h") then Some (object.Package 1) else
    if same_text w (codes "T") then Some (object.Package 2) else
    if same_text w (codes "int") then Some (object.Predeclared predeclared.Int) else
    if same_text w (codes "len") then Some (object.Predeclared predeclared.Len) else None

abbrev pub local : ℕ → Option Meant
local n = Some (own (object.Local 0 n))
