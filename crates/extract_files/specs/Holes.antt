-- Statements of a text with names in place of some of their expressions.
use Rattle.std.specs.Prelude.{◌≡◌, ℕ, ◌+◌, ◌-◌, true, List, [], ◌∷◌, ◌++◌, take, drop, Some}
use Rattle.std.specs.List.{list_all}
use Rattle.std.specs.Str.{chars, encode_utf8_all, all_scalars}
use Rattle.go_tokens.specs.declared.token.Token.{Token}
use Rattle.go_tokens.specs.declared.token.TokenKind.{TokenKind}
use Rattle.go_tokens.specs.declared.token.TokenKind.TheVariants as token
use Rattle.go_tokens.specs.Encoding.{is_plain}
use Rattle.go_tokens.specs.Lexing.{width}
use Rattle.go_tokens.specs.Tokens.{kinds}
use Rattle.go_grammar.specs.declared.kind.Category.{Category}
use Rattle.go_grammar.specs.declared.kind.Level.TheVariants as level
use Rattle.go_grammar.specs.Categories.{is_expression}
use Rattle.go_grammar.specs.Rules.{Items}
use Rattle.go_grammar.specs.Trees.{Tree, Trees, kind_of, first, last, parts}
use Rattle.go_rewriting.specs.Excerpts.{Part, IsPart}
use Rattle.go_rewriting.specs.Lists.{IsRun, run_at}
use Rattle.go_rewriting.specs.Places.{carry, carries, Change, moved_by, changed, range}
use Rattle.go_rewriting.specs.Replacing.{subtree_at, asked_at, takes_level, moved}
use Rattle.go_rewriting.specs.Rewriting.{IsRange}
use Rattle.go_rewriting.specs.Sites.{Site, whole, with_sites, all_clear, run_range}
use Rattle.go_print_laws.specs.Calls.{AreStatements}
use Rattle.go_print_laws.specs.Functions.{Statements}
use Rattle.go_print_laws.specs.Lexemes.{IsName}
use Rattle.go_print_laws.specs.Trees.{name_at}

-- An expression of some statements, and the name that stands in its place.
pub record Hole : Type 0 where
  -- the characters behind the hole in front, or from the first statement on
  pub kept : List ℕ
  -- its own characters, and the numbers of its first token and of the one behind its last
  pub old : List ℕ
  pub from : ℕ
  pub upto : ℕ
  -- the path to it from the node that lists the statements: the number of its statement among the parts, that of a part of the statement,
  -- and so on
  pub statement : ℕ
  pub part : ℕ
  pub path : List ℕ
  -- the bytes of the name
  pub name : List ℕ

abbrev pub path_of : Hole → List ℕ
path_of h = h.statement ∷ h.part ∷ h.path

-- the characters of the statements
abbrev pub whole_text : List Hole → List ℕ → List ℕ
whole_text [] rest = rest
whole_text (h ∷ hs) rest = h.kept ++ (h.old ++ whole_text hs rest)

-- with the names, each between blanks
abbrev pub named_text : List Hole → List ℕ → List ℕ
named_text [] rest = rest
named_text (h ∷ hs) rest = h.kept ++ (32 ∷ (chars h.name ++ (32 ∷ named_text hs rest)))

-- what becomes of the tokens
abbrev pub named : List Hole → List Change
named [] = []
named (h ∷ hs) = record { from = h.from; upto = h.upto; words = token.Identifier ∷ [] } ∷ named hs

-- what becomes of the tree
abbrev pub name_sites : List Change → List Hole → List Site
name_sites xs [] = []
name_sites xs (h ∷ hs) = record { path = path_of h; change = whole (carry (λ k. moved_by xs h.from + k) (name_at 0)) } ∷ name_sites xs hs

-- the tree with the names
abbrev pub named_tree : List Hole → Tree → Tree
named_tree hs t = with_sites (named hs) (name_sites (named hs) hs) t

-- The hole is an expression of the tree, whose characters stand behind others from a place on.
pub record IsHole (ts : List Token) (c : Category) (t : Tree) (at : ℕ) (h : Hole) : Type 0 where
  pub range : IsRange ts h.from h.upto (at + width h.kept) (at + width h.kept + width h.old)
  pub name : IsName h.name
  pub stood : Tree
  pub category : Category
  pub at_path : subtree_at (path_of h) t ≡ Some stood
  pub asked : asked_at c (path_of h) t ≡ Some category
  pub takes : takes_level level.Primary category ≡ true
  pub expression : is_expression (kind_of stood) ≡ true
  pub begins : first stood ≡ h.from
  pub ends : last stood ≡ h.upto

-- one behind the other
abbrev pub AreHoles : List Token → Category → Tree → ℕ → List Hole → Type 0
AreHoles ts c t at [] = Unit {0}
AreHoles ts c t at (h ∷ hs) = IsHole ts c t at h × AreHoles ts c t (at + width h.kept + width h.old) hs

-- Statements that are part of a text: the node that lists them, behind so many of its parts one and so many more; and holes of them.
pub record Template : Type 0 where
  pub part : Part
  pub category : Category
  pub tree : Tree
  pub front : ℕ
  pub others : ℕ
  pub holes : List Hole
  -- the characters behind the last hole
  pub rest : List ℕ

pub record IsTemplate (w : Template) : Type 0 where
  pub is_part : IsPart w.part
  pub inner : w.part.inner ≡ whole_text w.holes w.rest
  pub scalars : all_scalars w.part.inner ≡ true
  pub plain : list_all is_plain w.part.inner ≡ true
  -- the statements of a block or of a clause
  pub items : Items
  pub statements : AreStatements items
  pub run : IsRun (kinds w.part.tokens) w.category w.tree w.front w.others items
  pub place : run_range w.front w.others (parts w.tree) ≡ range w.part.from w.part.upto
  pub holes : AreHoles w.part.tokens w.category w.tree (width is_part.before) w.holes
  -- nodes above holes agree with their parts whatever these are
  pub clear : all_clear w.tree (name_sites (named w.holes) w.holes) ≡ true

-- the tokens of the statements, with the names
abbrev pub named_words : Template → List TokenKind
named_words w =
    let m = moved_by (named w.holes) in
    take (m w.part.upto - w.part.from) (drop w.part.from (changed (named w.holes) (kinds w.part.tokens)))

-- their trees
abbrev pub named_trees : Template → Trees
named_trees w = carries (moved w.part.from 0) (run_at w.front w.others (parts (named_tree w.holes w.tree)))

-- Statements with names in place of expressions stand by themselves, with the comments among them.
abbrev pub TemplatesStand : Type 0
TemplatesStand = (w : Template) → IsTemplate w → Statements w.part.file (encode_utf8_all (named_text w.holes w.rest)) (named_words w) (named_trees w)
