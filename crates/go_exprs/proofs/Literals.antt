-- The literals of a file's tree can be read.
use Rattle.std.proofs.Common.{◌≡◌, ℕ, zero, suc, List, [], ◌∷◌, Some, refl, sym, subst}
use Rattle.std.specs.Prelude.{slice_get}
use Rattle.go_tokens.specs.declared.token.Token.{Token}
use Rattle.go_tokens.specs.declared.token.TokenKind.{TokenKind}
use Rattle.go_tokens.specs.declared.token.TokenKind.TheVariants as token
use Rattle.go_tokens.specs.Files.{IsLexing}
use Rattle.go_tokens.specs.Tokens.{TokenList, kinds}
use Rattle.go_tokens.proofs.Public.{rune_token, text_token}
use Rattle.go_grammar.specs.declared.kind.Category.{Category}
use Rattle.go_grammar.specs.declared.kind.Category.TheVariants as category
use Rattle.go_grammar.specs.declared.kind.Kind.{Kind}
use Rattle.go_grammar.specs.declared.kind.Kind.TheVariants as kind
use Rattle.go_grammar.specs.Categories.{place_of}
use Rattle.go_grammar.specs.Grammar.{Derives, IsFile, rule}
use Rattle.go_grammar.specs.Trees.{Tree, node, Trees, none, more, skip, parts}
use Rattle.go_tree.specs.Units.{word, text_in}
use Rattle.go_tree.specs.Views.{part_at}
use Rattle.go_exprs_engine.specs.Literals.{Reads, AllRead, PartsRead}
use Rattle.go_exprs.proofs.Final.{AllDerive, parts_derive}

-- the token of a kind
kind_at : (ts : List Token) (i : ℕ) (k : TokenKind) → slice_get (kinds ts) i ≡ Some k → (t : Token) × (slice_get ts i ≡ Some t) × (t.kind ≡ k)
kind_at [] i k e = cc
kind_at (t ∷ ts) zero k e = (t, refl, cc)
kind_at (t ∷ ts) (suc i) k e = kind_at ts i k e

module _ (file : ℕ) (l : TokenList) (lexed : IsLexing file l.text l.tokens l.comments) where
  own_reads : (c : Category) (k : Kind) (i j : ℕ) (ps : Trees) → Derives (kinds l.tokens) c (node k i j ps) → Reads (word l) k i
  own_reads c kind.Rune i j none d =
      let t = kind_at l.tokens i token.Rune d.1.0 in
      subst (λ w. Reads (λ n. text_in l w) kind.Rune i) (sym t.1) (rune_token file l.text l.tokens l.comments i t.0 lexed t.1 t.2)
  own_reads c kind.Rune i j (more p ps) d = elim d.1 [ ]
  own_reads c kind.Rune i j (skip ps) d = elim d.1 [ ]
  own_reads c kind.Text i j none d =
      let t = kind_at l.tokens i token.Text d.1.0 in
      subst (λ w. Reads (λ n. text_in l w) kind.Text i) (sym t.1) (text_token file l.text l.tokens l.comments i t.0 lexed t.1 t.2)
  own_reads c kind.Text i j (more p ps) d = elim d.1 [ ]
  own_reads c kind.Text i j (skip ps) d = elim d.1 [ ]
  own_reads c k i j ps d = tt

  mutual
    all_read : (c : Category) (t : Tree) → Derives (kinds l.tokens) c t → AllRead (word l) t
    all_read c (node k i j ps) d = (own_reads c k i j ps d, parts_read ps (parts_derive (kinds l.tokens) (rule (place_of c) k) i ps j d.1))

    parts_read : (ps : Trees) → AllDerive (kinds l.tokens) ps → PartsRead (word l) ps
    parts_read none d = tt
    parts_read (more p ps) d = (all_read d.0.0 p d.0.1, parts_read ps d.1)
    parts_read (skip ps) d = parts_read ps d

  pub file_reads : (t : Tree) → IsFile (kinds l.tokens) t → AllRead (word l) t
  file_reads t h = all_read category.File t h.derives

row_reads : (texts : ℕ → List ℕ) (ps : Trees) (n : ℕ) (p : Tree) → PartsRead texts ps → part_at ps n ≡ Some p → AllRead texts p
row_reads texts none n p h e = cc
row_reads texts (more q ps) zero p h e = subst (AllRead texts) (let same : q ≡ p = cc in same) h.0
row_reads texts (skip ps) zero p h e = cc
row_reads texts (more q ps) (suc n) p h e = row_reads texts ps n p h.1 e
row_reads texts (skip ps) (suc n) p h e = row_reads texts ps n p h e

pub part_reads : (texts : ℕ → List ℕ) (t : Tree) (n : ℕ) (p : Tree) → AllRead texts t → part_at (parts t) n ≡ Some p → AllRead texts p
part_reads texts (node k i j ps) n p h e = row_reads texts ps n p h.1 e
