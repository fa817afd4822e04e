-- The test of words says which word it is.
use Rattle.std.proofs.Common.{◌≡◌, Bool, true, false, Option, Some, None, refl, sym, ap, ◌∙◌}
use Rattle.go_tokens.specs.declared.token.TokenKind.{TokenKind}
use Rattle.go_tokens.specs.contracts.token.TokenKind.{the_type}
use Rattle.go_grammar.specs.Words.{is_word}
use denote.Enum.Bare.{same_true, true_same}

same_word : (v w : TokenKind) → is_word (Some v) w ≡ true → v ≡ w
same_word v w h = same_true the_type tt v w h

is_word-self : (w : TokenKind) → is_word (Some w) w ≡ true
is_word-self w = true_same the_type w w refl

pub is_word-at : (o : Option TokenKind) (w : TokenKind) → o ≡ Some w → is_word o w ≡ true
is_word-at o w e = ap (λ p. is_word p w) e ∙ is_word-self w

word_not : (o : Option TokenKind) (w : TokenKind) (b : Bool) → is_word o w ≡ b → (o ≡ Some w → ⊥) → b ≡ false
word_not None w b e h = sym e
word_not (Some v) w false e h = refl
word_not (Some v) w true e h = absurd (h (ap Some (same_word v w e)))

pub is_word-not : (o : Option TokenKind) (w : TokenKind) → (o ≡ Some w → ⊥) → is_word o w ≡ false
is_word-not o w h = word_not o w (is_word o w) refl h

pub at-is_word : (o : Option TokenKind) (w : TokenKind) → is_word o w ≡ true → o ≡ Some w
at-is_word None w h = cc
at-is_word (Some v) w h = ap Some (same_word v w h)
