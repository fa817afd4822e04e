-- A part of a text, from one token to another, as a text of its own.
use Rattle.std.specs.Prelude.{◌≡◌, ℕ, ◌+◌, ◌-◌, ◌≤◌, length, Bool, true, not, ◌&&◌, slice_get, if◌then◌else◌, List, [], ◌∷◌, ◌++◌, map, take, drop}
use Rattle.go_tokens.specs.declared.token.Token.{Token}
use Rattle.go_tokens.specs.declared.token.TokenKind.{TokenKind}
use Rattle.go_tokens.specs.declared.token.TokenKind.TheVariants as token
use Rattle.go_tokens.specs.Spellings.{ends_statement_kind}
use Rattle.go_tokens.specs.Tokens.{kinds}
use Rattle.go_tokens.specs.Replacing.{read}
use Rattle.go_tokens.specs.Editing.{Stands}
use Rattle.go_base.specs.declared.Span.{Span}
use Rattle.go_tokens.specs.Lexing.{width, Lexes}
use Rattle.go_grammar.specs.declared.kind.Category.{Category}
use Rattle.go_grammar.specs.Rules.{Items, item}
use Rattle.go_grammar.specs.Trees.{Tree, Trees, first, last}
use Rattle.go_rewriting.specs.Replacing.{moved, Run}
use Rattle.go_rewriting.specs.Places.{carry, carries}
use Rattle.go_rewriting.specs.Sites.{whole}
use Rattle.go_rewriting.specs.Lists.{no_clause}
use Rattle.go_grammar.specs.Grammar.{Derives, result_words}
use Rattle.go_grammar.specs.Words.{is_word, is_among}
use Rattle.go_rewriting.specs.Rewriting.{own, IsRange, ChangeFits}

-- The semicolon that is inserted at the end of a text that ends with this token.
abbrev pub closing : Token → List TokenKind
closing t = if ends_statement_kind t.kind then token.Semicolon ∷ [] else []

-- The text stands alone, and has the tokens from the number `from` up to `upto`, each with its text, of which this is the last;
-- a semicolon is inserted at its end where that one ends a statement. Comments inside are comments of it.
pub record Excerpt (file : ℕ) (text : List ℕ) (ts : List Token) (from upto : ℕ) (last : Token) (inner : List ℕ) : Type 0 where
  pub stands : Stands file inner
  pub no_blank_before : stands.before ≡ []
  pub no_blank_behind : stands.behind ≡ []
  pub last_is : stands.spans.last.kind ≡ last.kind
  pub texts : map (read inner) (own stands.tokens) ≡ take (upto - from) (drop from (map (read text) ts))
  pub kinds_are : kinds (own stands.tokens) ≡ take (upto - from) (drop from (kinds ts))
  pub all : kinds stands.tokens ≡ take (upto - from) (drop from (kinds ts)) ++ closing last

-- Tokens of which the first is no opening brace and no word that a result begins with, or none: a text before them is not
-- changed by them.
abbrev pub is_plain : List TokenKind → Bool
is_plain ws = not (is_word (slice_get ws 0) token.LeftBrace) && not (is_among (slice_get ws 0) result_words)

-- A text with its tokens, and a part of it from the token `from` up to `upto`.
pub record Part : Type 0 where
  pub file : ℕ
  pub text : List ℕ
  pub tokens : List Token
  pub comments : List Span
  pub from : ℕ
  pub upto : ℕ
  pub inner : List ℕ

pub record IsPart (p : Part) : Type 0 where
  pub lexes : Lexes p.file p.text p.tokens p.comments
  pub before : List ℕ
  pub behind : List ℕ
  pub whole : p.text ≡ before ++ (p.inner ++ behind)
  pub range : IsRange p.tokens p.from p.upto (width before) (width before + width p.inner)

abbrev pub ExcerptOf : Part → Token → Type 0
ExcerptOf p last = Excerpt p.file p.text p.tokens p.from p.upto last p.inner

-- Items that are all of the part, with plain tokens behind them where they are copied to.
pub record ItemsInside (p : Part) (l : Items) (new : Trees) (next : List TokenKind) : Type 0 where
  pub order : p.from ≤ p.upto
  pub free : no_clause (item l) ≡ true
  pub run : Run (kinds p.tokens) l new p.from p.upto
  pub plain : is_plain next ≡ true

-- The same of a text of a category.
pub record TextInside (p : Part) (c : Category) (t : Tree) (next : List TokenKind) : Type 0 where
  pub order : p.from ≤ p.upto
  pub free : no_clause c ≡ true
  pub derives : Derives (kinds p.tokens) c t
  pub begins : first t ≡ p.from
  pub ends : last t ≡ p.upto
  pub plain : is_plain next ≡ true

-- the items or the tree over the tokens of the part alone, with others behind them
abbrev pub ItemsStand : (p : Part) (last : Token) → ExcerptOf p last → Items → Trees → List TokenKind → Type 0
ItemsStand p last e l new next = let ws = kinds (own e.stands.tokens) in Run (ws ++ next) l (carries (moved p.from 0) new) 0 (length ws)

abbrev pub TextStands : (p : Part) (last : Token) → ExcerptOf p last → Category → Tree → List TokenKind → Type 0
TextStands p last e c t next = ChangeFits c t (kinds (own e.stands.tokens)) next (whole (carry (moved p.from 0) t))
