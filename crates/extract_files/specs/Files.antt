-- A file in which calls stand in place of statements, and a function behind all.
use Rattle.std.specs.Prelude.{◌≡◌, ℕ, ◌+◌, ◌≤◌, true, List, [], ◌∷◌, ◌++◌, Option, Some}
use Rattle.std.specs.Str.{chars, encode_utf8_all}
use Rattle.go_base.specs.declared.Span.{Span}
use Rattle.go_tokens.specs.declared.token.Token.{Token}
use Rattle.go_tokens.specs.Encoding.{IsText}
use Rattle.go_tokens.specs.Files.{IsLexing}
use Rattle.go_tokens.specs.Lexing.{width, Lexes}
use Rattle.go_tokens.specs.Tokens.{kinds}
use Rattle.go_grammar.specs.declared.kind.Category.{Category}
use Rattle.go_grammar.specs.declared.kind.Category.TheVariants as categories
use Rattle.go_grammar.specs.Categories.{place_of}
use Rattle.go_grammar.specs.Grammar.{rule, Derives, IsFile}
use Rattle.go_grammar.specs.Rules.{Items}
use Rattle.go_grammar.specs.Trees.{Tree, kind_of, parts, depth}
use Rattle.go_rewriting.specs.Lists.{items_at, has_run}
use Rattle.go_rewriting.specs.Places.{range}
use Rattle.go_rewriting.specs.Replacing.{subtree_at, asked_at}
use Rattle.go_rewriting.specs.Rewriting.{Rewrite, words, IsRange, sites_alone, new_tree, edits, IsTail, AddedFits, Rewriting, IsFileWellFormed, IsWellFormed}
use Rattle.go_rewriting.specs.Sites.{Site, items, all_clear, run_range}
use Rattle.go_tokens.specs.Editing.{old_text, new_text}
use Rattle.go_print_laws.specs.Calls.{Call, AreStatements, CallCanBeWritten, call_lexemes, call_text, call_trees}
use Rattle.go_print_laws.specs.Lexemes as lexemes

-- Statements of a file, and the call that stands in place of them.
pub record Window : Type 0 where
  -- the characters behind the window in front, or from the file's first one on
  pub kept : List ℕ
  -- its own characters, and the numbers of its first token and of the one behind its last
  pub old : List ℕ
  pub from : ℕ
  pub upto : ℕ
  -- the path to the node that lists the statements, behind so many of its parts one and so many more
  pub path : List ℕ
  pub front : ℕ
  pub others : ℕ
  pub call : Call

-- the characters of the file
abbrev pub file_text : List Window → List ℕ → List ℕ
file_text [] rest = rest
file_text (x ∷ xs) rest = x.kept ++ (x.old ++ file_text xs rest)

-- those of a call, where the texts of declared types are given
abbrev pub call_chars : (ℕ → List ℕ) → Window → List ℕ
call_chars name x = chars (call_text name x.call)

-- with the calls, and what is appended
abbrev pub called_text : (ℕ → List ℕ) → List Window → List ℕ → List ℕ
called_text name [] rest = rest
called_text name (x ∷ xs) rest = x.kept ++ (call_chars name x ++ called_text name xs rest)

-- what becomes of the tree, over the tokens of each call alone
abbrev pub call_sites : List Window → List Site
call_sites [] = []
call_sites (x ∷ xs) = record { path = x.path; change = items x.front x.others (call_trees 0 x.call) } ∷ call_sites xs

-- The window is a run of statements of a block or a clause, whose characters stand behind others from a place on, and the call can be
-- written.
pub record IsWindow (name : ℕ → List ℕ) (ts : List Token) (t : Tree) (at : ℕ) (x : Window) : Type 0 where
  pub at_tokens : IsRange ts x.from x.upto (at + width x.kept) (at + width x.kept + width x.old)
  pub stood : Tree
  pub category : Category
  pub at_path : subtree_at x.path t ≡ Some stood
  pub asked : asked_at categories.File x.path t ≡ Some category
  pub list : Items
  pub statements : AreStatements list
  pub is_list : items_at x.front (rule (place_of category) (kind_of stood)) ≡ Some list
  pub has : has_run x.front x.others (parts stood) ≡ true
  pub place : run_range x.front x.others (parts stood) ≡ range x.from x.upto
  pub written : CallCanBeWritten name x.call

-- one behind the other
abbrev pub AreWindows : (ℕ → List ℕ) → List Token → Tree → ℕ → List Window → Type 0
AreWindows name ts t at [] = Unit {0}
AreWindows name ts t at (x ∷ xs) = IsWindow name ts t at x × AreWindows name ts t (at + width x.kept + width x.old) xs

-- The replaced range is that of the window, and the new text is the call, with its tokens and its trees.
pub record StandsFor (name : ℕ → List ℕ) (r : Rewrite) (x : Window) : Type 0 where
  pub kept : r.kept ≡ x.kept
  pub old : r.old ≡ x.old
  pub from : r.from ≡ x.from
  pub upto : r.upto ≡ x.upto
  pub new : r.new ≡ call_chars name x
  pub bytes : encode_utf8_all r.new ≡ call_text name x.call
  pub words_are : words r ≡ lexemes.words (call_lexemes name x.call [])

abbrev pub AllStandFor : (ℕ → List ℕ) → List Rewrite → List Window → Type 0
AllStandFor name [] [] = Unit {0}
AllStandFor name [] (x ∷ xs) = ⊥
AllStandFor name (r ∷ rs) [] = ⊥
AllStandFor name (r ∷ rs) (x ∷ xs) = StandsFor name r x × AllStandFor name rs xs

-- A file with its lexing and its tree, its windows, and the characters behind the last of them.
pub record Called : Type 0 where
  pub file : ℕ
  pub name : ℕ → List ℕ
  pub tokens : List Token
  pub comments : List Span
  pub tree : Tree
  pub windows : List Window
  pub rest : List ℕ
  -- what is appended, with its tokens and its tree
  pub tail : List ℕ
  pub tail_tokens : List Token
  pub added : Option Tree

pub record IsCalled (w : Called) : Type 0 where
  pub windows : AreWindows w.name w.tokens w.tree 0 w.windows
  -- nodes above windows agree with their parts whatever these are
  pub clear : all_clear w.tree (call_sites w.windows) ≡ true
  pub derives : Derives (kinds w.tokens) categories.File w.tree
  pub lexes : Lexes w.file (file_text w.windows w.rest) w.tokens w.comments
  pub appended : IsTail w.file w.tail w.tail_tokens
  pub added_fits : AddedFits (kinds w.tail_tokens) w.added

abbrev pub rewriting_of : Called → List Rewrite → Rewriting
rewriting_of w rs = record { file = w.file; tokens = w.tokens; comments = w.comments; tree = w.tree; ranges = rs; rest = w.rest; tail = w.tail; tail_tokens = w.tail_tokens }

-- The ranges of the windows, with the calls in their places, are what the laws on rewritten texts ask for: whatever levels the new tree
-- has, and also as those of a file, where the bytes are those of its characters and the new tree is within the limit on levels.
pub record IsRewritten (w : Called) : Type 0 where
  pub ranges : List Rewrite
  pub calls : AllStandFor w.name ranges w.windows
  pub sites : sites_alone ranges ≡ call_sites w.windows
  pub old : old_text (edits ranges w.rest) ≡ file_text w.windows w.rest
  pub new : new_text (edits ranges w.rest) w.tail ≡ called_text w.name w.windows (w.rest ++ w.tail)
  pub well_formed : IsWellFormed categories.File (rewriting_of w ranges)
  pub as_file : (before behind : List ℕ) → IsText (file_text w.windows w.rest) before → IsText w.tail behind → IsLexing w.file before w.tokens w.comments → IsFile (kinds w.tokens) w.tree → depth (new_tree ranges w.tree) ≤ 101
      → IsFileWellFormed (record { text = rewriting_of w ranges; old = before; new = encode_utf8_all (called_text w.name w.windows (w.rest ++ w.tail)); added = w.added })
  -- the new characters are a text of a file
  pub is_text : (before behind : List ℕ) → IsText (file_text w.windows w.rest) before → IsText w.tail behind
      → IsText (called_text w.name w.windows (w.rest ++ w.tail)) (encode_utf8_all (called_text w.name w.windows (w.rest ++ w.tail)))

-- A file with calls at its windows, and a function behind it, is a rewriting of the file.
abbrev pub CalledFilesAreRewritten : Type 0
CalledFilesAreRewritten = (w : Called) → IsCalled w → IsRewritten w
