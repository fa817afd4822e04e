-- The kinds of tokens follow from their texts.
use Rattle.std.proofs.Common.{◌≡◌, ℕ, suc, zero, ⊎_elim, ◌-◌, List, [], ◌∷◌, map, take, drop, Some, refl, sym, ap, ◌∙◌, arith}
use Rattle.std.proofs.lemmas.Str.{chars-encodes, chars-nil}
use Rattle.std.specs.Prelude.{slice_get, slice_range}
use Rattle.std.specs.Str.{chars}
use Rattle.go_tokens.specs.declared.token.Token.{Token}
use Rattle.go_tokens.specs.declared.token.TokenKind.{TokenKind}
use Rattle.go_tokens.specs.Files.{IsLexing}
use Rattle.go_tokens.specs.Lexing.{token_kind}
use Rattle.go_tokens.specs.Tokens.{TokenList, kinds, kind_of, text_of}
use Rattle.go_tokens.proofs.Public.{spelling}
use Rattle.go_heads.specs.Heads.{texts}

-- the kind of a token with this text
abbrev pub kind_by : List ℕ → TokenKind
kind_by w = token_kind (chars w)

empty_at : (text : List ℕ) (i : ℕ) → slice_range text i i ≡ []
empty_at text i = let n : i - i ≡ 0 = omega arith in ap (λ m. take m (drop i text)) n

module _ (l : TokenList) (h : IsLexing l.file l.text l.tokens l.comments) where
  kind_at : (i : ℕ) (t : Token) → slice_get l.tokens i ≡ Some t → kind_of t ≡ kind_by (text_of l t)
  kind_at i t e =
      ⊎_elim
      (λ s. s.kind_is ∙ ap token_kind (sym (chars-encodes s.characters s.scalars) ∙ ap chars s.encoded))
      (λ f. f.kind_is ∙ sym (ap kind_by (ap (λ n. slice_range l.text t.span.start n) f.empty ∙ empty_at l.text t.span.start) ∙ ap token_kind chars-nil))
      (spelling l.file l.text l.tokens l.comments i t h e)

  kinds_all : (ts : List Token) → ((i : ℕ) (t : Token) → slice_get ts i ≡ Some t → kind_of t ≡ kind_by (text_of l t)) → map kind_of ts ≡ map kind_by (map (text_of l) ts)
  kinds_all [] f = refl
  kinds_all (t ∷ ts) f = ap (λ k. k ∷ map kind_of ts) (f zero t refl) ∙ ap (λ ks. kind_by (text_of l t) ∷ ks) (kinds_all ts (λ i u e. f (suc i) u e))

  pub kinds_by_texts : kinds l.tokens ≡ map kind_by (texts l)
  kinds_by_texts = kinds_all l.tokens kind_at
