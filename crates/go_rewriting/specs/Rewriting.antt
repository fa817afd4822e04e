-- A text in which ranges of tokens are replaced: what is asked of the new texts, and what becomes of tokens and tree.
--
-- Each replaced range, from one token up to another, is the text of a subtree or of adjoining items of a list. The new text has
-- tokens, and a tree or items, when it stands alone. What is asked is asked of each new text by itself and of its neighbours.
use Rattle.std.specs.Prelude.{◌≡◌, ℕ, ◌+◌, ◌-◌, ◌<◌, ◌≤◌, Bool, true, nat_lt, ◌==◌, if◌then◌else◌, List, [], ◌∷◌, ◌++◌, map, length, take, drop, Option, Some, None, slice_get}
use Rattle.go_base.specs.declared.Span.{Span}
use Rattle.go_tokens.specs.declared.token.Token.{Token}
use Rattle.go_tokens.specs.declared.token.TokenKind.{TokenKind}
use Rattle.go_tokens.specs.Spellings.{ends_statement_kind}
use Rattle.go_tokens.specs.Lexing.{width, Lexes}
use Rattle.go_tokens.specs.Tokens.{kinds}
use Rattle.go_tokens.specs.Encoding.{IsText}
use Rattle.go_tokens.specs.Files.{IsLexing}
use Rattle.go_tokens.specs.Replacing.{Item, read, are_apart, is_at_line_end}
use Rattle.go_tokens.specs.Editing.{Edits, Rest, Edit, old_text, new_text, IsWritten, Stands, stands_apart, EndsLine}
use Rattle.go_grammar.specs.declared.kind.Category.{Category}
use Rattle.go_grammar.specs.declared.kind.Category.TheVariants as category
use Rattle.go_grammar.specs.Categories.{place_of}
use Rattle.go_grammar.specs.Rules.{Items, Rule}
use Rattle.go_grammar.specs.Trees.{Tree, node, Trees, first, last, depth}
use Rattle.go_grammar.specs.Grammar.{rule, Derives, IsFile}
use Rattle.go_rewriting.specs.Replacing.{Edge, subtree_at, asked_at, Run}
use Rattle.go_rewriting.specs.Places.{carry, carries, become, agreed, Change, changed, moved_by, range, ranges, Outside, with_declaration, IsDeclaration}
use Rattle.go_rewriting.specs.Sites.{Local, whole, items, Site, patch_of, local_range}
use Rattle.go_rewriting.specs.Lists.{items_at, has_run}

-- One replaced range.
pub record Rewrite : Type 0 where
  -- the text behind the range before it, or from the beginning
  pub kept : List ℕ
  -- the text that is replaced, and the numbers of its first token and of the one behind its last
  pub old : List ℕ
  pub from : ℕ
  pub upto : ℕ
  -- the text that stands there from then on, and its tokens when it stands alone
  pub new : List ℕ
  pub alone : List Token
  -- the path to a node, and what becomes of it: a tree, or items, over the tokens of the new text alone
  pub path : List ℕ
  pub change : Local
  -- what the new text has behind it: some tokens of which the first is the one that stands there
  pub next : List TokenKind

abbrev pub is_written : Token → Bool
is_written t = nat_lt t.span.start t.span.end

-- tokens but for a semicolon that is inserted behind the last
abbrev pub own : List Token → List Token
own [] = []
own (t ∷ []) = if is_written t then t ∷ [] else []
own (t ∷ u ∷ us) = t ∷ own (u ∷ us)

-- the new tokens in place of the range, and the same with their texts
abbrev pub words : Rewrite → List TokenKind
words r = kinds (own r.alone)

abbrev pub new_items : Rewrite → List Item
new_items r = map (read r.new) (own r.alone)

-- the texts, with what stands behind the last range
abbrev pub edits : List Rewrite → List ℕ → Edits
edits [] rest = Rest rest
edits (r ∷ rs) rest = Edit r.kept r.old r.new (edits rs rest)

abbrev pub changes : List Rewrite → List Change
changes [] = []
changes (r ∷ rs) = record { from = r.from; upto = r.upto; words = words r } ∷ changes rs

-- the tokens and their texts, with the ranges replaced
abbrev pub rewritten : List Rewrite → List Item → List Item
rewritten [] us = us
rewritten (r ∷ rs) us = take r.from (rewritten rs us) ++ (new_items r ++ drop r.upto (rewritten rs us))

-- where a place that is not inside a range moves to
abbrev pub move : List Rewrite → ℕ → ℕ
move rs = moved_by (changes rs)

-- what becomes of a node, where the tokens of the new text stand
abbrev pub settled : (ℕ → ℕ) → Local → Local
settled m (whole s) = whole (carry m s)
settled m (items f n new) = items f n (carries m new)

abbrev pub sites : (ℕ → ℕ) → List Rewrite → List Site
sites m [] = []
sites m (r ∷ rs) = record { path = r.path; change = settled (λ k. m r.from + k) r.change } ∷ sites m rs

-- the same over the tokens of each new text alone
abbrev pub sites_alone : List Rewrite → List Site
sites_alone [] = []
sites_alone (r ∷ rs) = record { path = r.path; change = r.change } ∷ sites_alone rs

-- the new tree
abbrev pub new_tree : List Rewrite → Tree → Tree
new_tree rs t = become (move rs) t (patch_of (sites (move rs) rs))

-- A written token with the number `from` begins at a place, and the one in front of the number `upto` ends at a later place.
pub record IsRange (ts : List Token) (from upto start end : ℕ) : Type 0 where
  pub first : Token
  pub last : Token
  pub order : from < upto
  pub has_first : slice_get ts from ≡ Some first
  pub has_last : slice_get ts (upto - 1) ≡ Some last
  pub first_written : IsWritten first
  pub last_written : IsWritten last
  pub begins : first.span.start ≡ start
  pub ends : last.span.end ≡ end

-- What is asked of the text of a range in a text with the tokens ts, where the text behind the range is first this and then
-- that. The new text stands alone, neighbours at a seam don't join (a period behind a name doesn't), and where a line ends
-- behind the range, a semicolon is inserted behind its new last token exactly where one is behind the old.
pub record TextFits (file : ℕ) (ts : List Token) (at : ℕ) (r : Rewrite) (old_behind new_behind : List ℕ) : Type 0 where
  pub range : IsRange ts r.from r.upto (at + width r.kept) (at + width r.kept + width r.old)
  pub stands : Stands file r.new
  pub tokens : stands.tokens ≡ r.alone
  pub apart_before : are_apart r.kept (r.new ++ new_behind) ≡ true
  pub apart_behind : stands_apart file r.new stands new_behind ≡ true
  pub line : EndsLine old_behind → ends_statement_kind range.last.kind ≡ ends_statement_kind stands.spans.last.kind

abbrev pub TextsFit : ℕ → List Token → ℕ → List Rewrite → List ℕ → List ℕ → Type 0
TextsFit file ts at [] rest tail = Unit {0}
TextsFit file ts at (r ∷ rs) rest tail =
    TextFits file ts at r (old_text (edits rs rest)) (new_text (edits rs rest) tail) × TextsFit file ts (at + width r.kept + width r.old) rs rest tail

-- What stands behind so many parts of a right side, and behind so many parts of a row, may become these items: over the words
-- ws, with others behind them, they are a run of what is listed there.
pub record ItemsFit (r : Rule) (ps : Trees) (ws next : List TokenKind) (f n : ℕ) (new : Trees) : Type 0 where
  pub list : Items
  pub is_list : items_at f r ≡ Some list
  pub has : has_run f n ps ≡ true
  pub run : Run (ws ++ next) list new 0 (length ws)

-- The new tree, or the new items, of a node that stands where the category is asked for.
abbrev pub ChangeFits : Category → Tree → List TokenKind → List TokenKind → Local → Type 0
ChangeFits c t ws next (whole s) = Derives (ws ++ next) c s × (first s ≡ 0) × (last s ≡ length ws)
ChangeFits c (node k a b ps) ws next (items f n new) = ItemsFit (rule (place_of c) k) ps ws next f n new

-- the token behind a range of which the others lie behind it, after all are replaced
abbrev pub behind : List TokenKind → List Rewrite → ℕ → Option TokenKind
behind ts [] n = slice_get ts n
behind ts (r ∷ rs) n = if n == r.from then slice_get (words r) 0 else slice_get ts n

-- What is asked of the tree of a range: at the end of its path stands a node, the range is that of its text or of its items,
-- and the new text is a text of what is asked for there, with the token behind it. Its first token doesn't join what stands in
-- front.
pub record TreeFits (c : Category) (ts : List TokenKind) (t : Tree) (r : Rewrite) (rs : List Rewrite) : Type 0 where
  pub stood : Tree
  pub category : Category
  pub at_path : subtree_at r.path t ≡ Some stood
  pub asked : asked_at c r.path t ≡ Some category
  pub place : local_range stood r.change ≡ range r.from r.upto
  pub fits : ChangeFits category stood (words r) r.next r.change
  pub behind_is : slice_get r.next 0 ≡ behind ts rs r.upto
  pub edge : Edge ts (words r) r.from 0

abbrev pub TreesFit : Category → List TokenKind → Tree → List Rewrite → Type 0
TreesFit c ts t [] = Unit {0}
TreesFit c ts t (r ∷ rs) = TreeFits c ts t r rs × TreesFit c ts t rs

-- The nodes on the way to the new texts agree with their parts.
abbrev pub agreeing : List Rewrite → Tree → Bool
agreeing rs t = agreed (move rs) t (patch_of (sites (move rs) rs))

-- A text whose tokens are those of a text of the category, and its ranges; a text `tail` is appended.
pub record IsRewriting (file : ℕ) (c : Category) (ts : List Token) (cs : List Span) (t : Tree) (rs : List Rewrite) (rest tail : List ℕ) : Type 0 where
  pub lexes : Lexes file (old_text (edits rs rest)) ts cs
  pub derives : Derives (kinds ts) c t
  pub texts : TextsFit file ts 0 rs rest tail
  pub trees : TreesFit c (kinds ts) t rs
  pub agrees : agreeing rs t ≡ true

-- A text that is appended: nothing, or what begins with a newline and has these tokens when it stands alone.
pub record IsTail (file : ℕ) (tail : List ℕ) (ts : List Token) : Type 0 where
  pub begins : is_at_line_end tail ≡ true
  pub comments : List Span
  pub lexes : Lexes file tail ts comments

-- Behind the changes each token that is in no range stands at its moved place with its text, and the tokens of each new text
-- stand from the moved place of their range on.
pub record ItemsKept (rs : List Rewrite) (us : List Item) : Type 0 where
  pub stay : (n : ℕ) → Outside n (ranges (changes rs)) → slice_get (rewritten rs us) (move rs n) ≡ slice_get us n
  pub stand : (k : ℕ) (r : Rewrite) → slice_get rs k ≡ Some r → (j : ℕ) → j < length (new_items r) → slice_get (rewritten rs us) (move rs r.from + j) ≡ slice_get (new_items r) j

-- The new text has these tokens, which are the old ones with the ranges replaced, and behind them those of the tail.
pub record NewTokens (file : ℕ) (ts : List Token) (rs : List Rewrite) (rest tail : List ℕ) (us : List Token) : Type 0 where
  pub tokens : List Token
  pub comments : List Span
  pub lexes : Lexes file (new_text (edits rs rest) tail) tokens comments
  pub texts : map (read (new_text (edits rs rest) tail)) tokens ≡ rewritten rs (map (read (old_text (edits rs rest))) ts) ++ map (read tail) us
  pub kept : ItemsKept rs (map (read (old_text (edits rs rest))) ts)
  pub kinds_are : kinds tokens ≡ changed (changes rs) (kinds ts) ++ kinds us

-- The tokens of a rewritten declaration, and its tree.
pub record NewDeclaration (file : ℕ) (ts : List Token) (t : Tree) (rs : List Rewrite) (rest : List ℕ) : Type 0 where
  pub tokens : List Token
  pub comments : List Span
  pub lexes : Lexes file (new_text (edits rs rest) []) tokens comments
  pub texts : map (read (new_text (edits rs rest) [])) tokens ≡ rewritten rs (map (read (old_text (edits rs rest))) ts)
  pub kept : ItemsKept rs (map (read (old_text (edits rs rest))) ts)
  pub kinds_are : kinds tokens ≡ changed (changes rs) (kinds ts)
  pub declaration : IsDeclaration (kinds tokens) (new_tree rs t)

-- the declaration that is appended to a file, if there is one: all tokens of the tail, a semicolon included
abbrev pub AddedFits : List TokenKind → Option Tree → Type 0
AddedFits ws None = ws ≡ []
AddedFits ws (Some d) = IsDeclaration ws d

-- the tree of a file of n tokens with what is appended, of which the words are ws
abbrev pub extended : ℕ → List TokenKind → Option Tree → Tree → Tree
extended n ws None t = t
extended n ws (Some d) t = with_declaration t (carry (λ k. n + k) d) (n + length ws)

-- A file with its lexing and its tree, its ranges, and what is appended to it; `new` are the bytes of the new text.
pub record IsFileRewriting (file : ℕ) (old new : List ℕ) (ts : List Token) (cs : List Span) (t : Tree) (rs : List Rewrite) (rest tail : List ℕ) (us : List Token) (added : Option Tree) : Type 0 where
  pub old_bytes : IsText (old_text (edits rs rest)) old
  pub new_bytes : IsText (new_text (edits rs rest) tail) new
  pub lexing : IsLexing file old ts cs
  pub tree : IsFile (kinds ts) t
  pub texts : TextsFit file ts 0 rs rest tail
  pub trees : TreesFit category.File (kinds ts) t rs
  pub agrees : agreeing rs t ≡ true
  pub shallow : depth (new_tree rs t) ≤ 101
  pub appended : IsTail file tail us
  pub added_fits : AddedFits (kinds us) added

-- The new bytes have this lexing and this tree.
pub record NewFile (file : ℕ) (new : List ℕ) (ts : List Token) (t : Tree) (rs : List Rewrite) (rest tail : List ℕ) (us : List Token) (added : Option Tree) : Type 0 where
  pub tokens : List Token
  pub comments : List Span
  pub lexing : IsLexing file new tokens comments
  pub texts : map (read (new_text (edits rs rest) tail)) tokens ≡ rewritten rs (map (read (old_text (edits rs rest))) ts) ++ map (read tail) us
  pub kept : ItemsKept rs (map (read (old_text (edits rs rest))) ts)
  pub kinds_are : kinds tokens ≡ changed (changes rs) (kinds ts) ++ kinds us
  pub tree : IsFile (kinds tokens) (extended (length (changed (changes rs) (kinds ts))) (kinds us) added (new_tree rs t))

-- A text with its tokens, its comments and its tree; the ranges that are replaced in it, in order; the text behind them; and what
-- is appended, with its tokens.
pub record Rewriting : Type 0 where
  pub file : ℕ
  pub tokens : List Token
  pub comments : List Span
  pub tree : Tree
  pub ranges : List Rewrite
  pub rest : List ℕ
  pub tail : List ℕ
  pub tail_tokens : List Token

abbrev pub before : Rewriting → List ℕ
before w = old_text (edits w.ranges w.rest)

abbrev pub HasTexts : Rewriting → Type 0
HasTexts w = TextsFit w.file w.tokens 0 w.ranges w.rest w.tail

abbrev pub HasTail : Rewriting → Type 0
HasTail w = IsTail w.file w.tail w.tail_tokens

abbrev pub IsWellFormed : Category → Rewriting → Type 0
IsWellFormed c w = IsRewriting w.file c w.tokens w.comments w.tree w.ranges w.rest w.tail

abbrev pub HasNewTokens : Rewriting → Type 0
HasNewTokens w = NewTokens w.file w.tokens w.ranges w.rest w.tail w.tail_tokens

-- the new tokens in front of what is appended are a text of the category, with the new tree
abbrev pub HasNewTree : Category → Rewriting → Type 0
HasNewTree c w = Derives (changed (changes w.ranges) (kinds w.tokens)) c (new_tree w.ranges w.tree)

-- The text of a declaration with its ranges, to which nothing is appended.
pub record IsDeclarationRewriting (w : Rewriting) : Type 0 where
  pub well_formed : IsRewriting w.file category.Declaration w.tokens w.comments w.tree w.ranges w.rest []
  pub declaration : IsDeclaration (kinds w.tokens) w.tree
  pub shallow : depth (new_tree w.ranges w.tree) ≤ 100

-- A file's bytes and those of the new text, and the declaration that is appended.
pub record FileRewriting : Type 0 where
  pub text : Rewriting
  pub old : List ℕ
  pub new : List ℕ
  pub added : Option Tree

abbrev pub IsFileWellFormed : FileRewriting → Type 0
IsFileWellFormed f = let w = f.text in IsFileRewriting w.file f.old f.new w.tokens w.comments w.tree w.ranges w.rest w.tail w.tail_tokens f.added

abbrev pub HasNewFile : FileRewriting → Type 0
HasNewFile f = let w = f.text in NewFile w.file f.new w.tokens w.tree w.ranges w.rest w.tail w.tail_tokens f.added
