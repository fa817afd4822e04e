-- Tokens and the characters that spell them.
use Rattle.std.proofs.Common.{◌≡◌, ◌≤◌, ℕ, zero, suc, ◌+◌, ◌⊎◌, ⊎_elim, Bool, true, false, not, cond, nat_lt, ◌==◌, ◌&&◌, List, [], ◌∷◌, ◌++◌, length, Option, Some, None, is_some, slice_get, refl, sym, ap, ◌∙◌, subst, inl, inr, arith, eqb-true}
use Rattle.std.specs.Prelude.{slice_range, unwrap_or}
use Rattle.std.specs.List.{list_all}
use Rattle.std.specs.Str.{encode_utf8_all, all_scalars, IsUtf8, chars}
use Rattle.std.proofs.lemmas.Bool.Decides.{nat_tests}
use Rattle.std.proofs.lemmas.Str.{encodes-append, encode_ascii, chars-encodes}
use Rattle.go_base.specs.declared.Span.{Span}
use Rattle.go_base.specs.declared.FaultCode.{FaultCode}
use Rattle.go_base.specs.declared.FaultCode.TheVariants.{Lexical, Outside}
use Rattle.go_tokens.specs.declared.piece.PieceKind.{PieceKind}
use Rattle.go_tokens.specs.declared.piece.PieceKind.TheVariants as pieces
use Rattle.go_tokens.specs.declared.token.TokenKind.{TokenKind}
use Rattle.go_tokens.specs.declared.token.TokenKind.TheVariants.{Identifier, Integer, Rune, Text, Semicolon}
use Rattle.go_tokens.specs.declared.token.Token.{Token}
use Rattle.go_tokens.specs.Characters.{is_x, is_b, is_o}
use Rattle.go_tokens.specs.Spellings.{same_text, spelled, keywords, punctuation, word_kind, operator_kind}
use Rattle.go_tokens.specs.Literals.{is_digit_of, grouped, letter_base, is_integer, is_one, rune_elements}
use Rattle.go_tokens.specs.Pieces.{kind, unless_lexical, defect_by, defect, is_ended, is_good}
use Rattle.go_tokens.specs.Lexing.{join, width, token_kind_as, token_kind, tokens}
use Rattle.go_tokens.specs.Editing.{IsAmong}
use Rattle.go_tokens.specs.Files.{IsLexing}
use Rattle.go_tokens.proofs.Lists.{both}
use Rattle.go_tokens.proofs.Seams.{and_both, not_false}
use Rattle.go_tokens.proofs.Encodings.{scalars_both}
use Rattle.go_tokens.proofs.SoFar.{join_two}
use Rattle.go_tokens.proofs.Texts.{range_at}
use Rattle.go_tokens.proofs.Places.{Found, IsInserted, found_or}

-- An integer literal is written in ASCII.
abbrev small : ℕ → Bool
small x = nat_lt x 128

small_text : (xs : List ℕ) → list_all small xs ≡ true → encode_utf8_all xs ≡ xs
small_text [] h = refl
small_text (x ∷ xs) h =
    let parts = both (small x) (list_all small xs) h in
    ap (λ l. l ++ encode_utf8_all xs) (encode_ascii x (grind (arith, nat_tests))) ∙ ap (λ l. x ∷ l) (small_text xs parts.1)

digit_small : (b x : ℕ) → b ≤ 36 → is_digit_of b x ≡ true → small x ≡ true
unfolding is_digit_of
digit_small b x le h = grind (arith, nat_tests)

equal_small : (x n : ℕ) → (x == n) ≡ true → small n ≡ true → small x ≡ true
equal_small x n e h = subst (λ y. small y ≡ true) (sym (eqb-true x n e)) h

grouped_step : (b x y : ℕ) (ys : List ℕ) (t : Bool) → b ≤ 36 → (grouped b ys ≡ true → list_all small ys ≡ true) → (grouped b (y ∷ ys) ≡ true → list_all small (y ∷ ys) ≡ true) → (x == 95) ≡ t → cond t (is_digit_of b y && grouped b ys) (is_digit_of b x && grouped b (y ∷ ys)) ≡ true → list_all small (x ∷ y ∷ ys) ≡ true
grouped_step b x y ys true le two one e h =
    let parts = both (is_digit_of b y) (grouped b ys) h in
    and_both (small x) _ (equal_small x 95 e refl) (and_both (small y) _ (digit_small b y le parts.0) (two parts.1))
grouped_step b x y ys false le two one e h =
    let parts = both (is_digit_of b x) (grouped b (y ∷ ys)) h in
    and_both (small x) _ (digit_small b x le parts.0) (one parts.1)

grouped_small : (b : ℕ) (xs : List ℕ) → b ≤ 36 → grouped b xs ≡ true → list_all small xs ≡ true
grouped_small b [] le h = refl
grouped_small b (x ∷ []) le h = and_both (small x) true (digit_small b x le h) refl
grouped_small b (x ∷ y ∷ ys) le h = grouped_step b x y ys (x == 95) le (grouped_small b ys le) (grouped_small b (y ∷ ys) le) refl h

letter_small : (y : ℕ) → (letter_base y == 0) ≡ false → small y ≡ true
unfolding letter_base is_x is_b is_o
letter_small y h = grind (arith, nat_tests)

letter_low : (y : ℕ) → letter_base y ≤ 36
unfolding letter_base
letter_low y = by (is_x y) (is_b y) (is_o y)
  where
    by : (a b c : Bool) → cond a 16 (cond b 2 (cond c 8 0)) ≤ 36
    by true b c = omega arith
    by false true c = omega arith
    by false false true = omega arith
    by false false false = omega arith

prefixed_small : (x y : ℕ) (ys : List ℕ) (t s : Bool) → (x == 48) ≡ t → (letter_base y == 0) ≡ s → grouped (cond t (cond s 8 (letter_base y)) 10) (cond t (cond s (y ∷ ys) ys) (x ∷ y ∷ ys)) ≡ true → list_all small (x ∷ y ∷ ys) ≡ true
prefixed_small x y ys false s e f h = grouped_small 10 (x ∷ y ∷ ys) (omega arith) h
prefixed_small x y ys true true e f h = and_both (small x) _ (equal_small x 48 e refl) (grouped_small 8 (y ∷ ys) (omega arith) h)
prefixed_small x y ys true false e f h = and_both (small x) _ (equal_small x 48 e refl) (and_both (small y) _ (letter_small y f) (grouped_small (letter_base y) ys (letter_low y) h))

integer_small : (p : List ℕ) → is_integer p ≡ true → list_all small p ≡ true
integer_small [] h = cc
integer_small (x ∷ []) h = grouped_small 10 (x ∷ []) (omega arith) (both _ _ h).1
integer_small (x ∷ y ∷ ys) h =
    let parts = both _ _ h in
    let digits = both _ _ parts.1 in
    prefixed_small x y ys (x == 48) (letter_base y == 0) refl refl digits.1

pub integer_text : (p : List ℕ) → is_integer p ≡ true → encode_utf8_all p ≡ p
integer_text p h = small_text p (integer_small p h)

-- A word is no literal, and neither is an operator.
abbrev is_literal : TokenKind → Bool
is_literal Integer = true
is_literal Rune = true
is_literal Text = true
is_literal k = false

literal_step : (k m : TokenKind) (o : Option TokenKind) (t : Bool) → is_literal m ≡ false → is_literal (unwrap_or o k) ≡ false → is_literal (unwrap_or (cond t (Some m) o) k) ≡ false
literal_step k m o true h rest = h
literal_step k m o false h rest = rest

spelled_literal : (table : List (List ℕ × TokenKind)) (w : List ℕ) (k : TokenKind) → list_all (λ s. not (is_literal s.1)) table ≡ true → is_literal k ≡ false → is_literal (unwrap_or (spelled table w) k) ≡ false
spelled_literal [] w k a e = e
spelled_literal (s ∷ rest) w k a e =
    let parts = both (not (is_literal s.1)) (list_all (λ s. not (is_literal s.1)) rest) a in
    literal_step k s.1 (spelled rest w) (same_text s.0 w) (not_false (is_literal s.1) parts.0) (spelled_literal rest w k parts.1 e)

keywords_literal : list_all (λ s. not (is_literal s.1)) keywords ≡ true
unfolding keywords
keywords_literal = refl

punctuation_literal : list_all (λ s. not (is_literal s.1)) punctuation ≡ true
unfolding punctuation
punctuation_literal = refl

word_literal : (w : List ℕ) → is_literal (word_kind w) ≡ false
word_literal w = spelled_literal keywords w Identifier keywords_literal refl

operator_literal : (w : List ℕ) → is_literal (operator_kind w) ≡ false
operator_literal w = spelled_literal punctuation w Semicolon punctuation_literal refl

not_literal : (k j : TokenKind) → k ≡ j → is_literal j ≡ true → is_literal k ≡ false → ⊥
not_literal k j e h n = let same : is_literal k ≡ true = ap is_literal e ∙ h in cc

-- A piece without a defect that is an integer, and one that is a rune.
integer_form : (i o : Bool) → cond i None (cond o (Some Outside) (Some Lexical)) ≡ None → i ≡ true
integer_form true o h = refl
integer_form false true h = cc
integer_form false false h = cc

well_formed : (b : Bool) → unless_lexical b ≡ None → b ≡ true
well_formed true h = refl
well_formed false h = cc

integer_of : (k : PieceKind) (ended : Bool) (p : List ℕ) → defect_by k ended p ≡ None → token_kind_as k p ≡ Integer → is_integer p ≡ true
integer_of pieces.White ended p d e = cc
integer_of pieces.LineComment ended p d e = cc
integer_of pieces.BlockComment ended p d e = cc
integer_of pieces.Word ended p d e = absurd (not_literal (word_kind p) Integer e refl (word_literal p))
integer_of pieces.Number ended p d e = integer_form (is_integer p) _ d
integer_of pieces.HexNumber ended p d e = integer_form (is_integer p) _ d
integer_of pieces.Rune ended p d e = cc
integer_of pieces.Text ended p d e = cc
integer_of pieces.RawText ended p d e = cc
integer_of pieces.Operator ended p d e = absurd (not_literal (operator_kind p) Integer e refl (operator_literal p))
integer_of pieces.Stray ended p d e = cc

rune_of : (k : PieceKind) (ended : Bool) (p : List ℕ) → defect_by k ended p ≡ None → token_kind_as k p ≡ Rune → is_one (rune_elements p) ≡ true
rune_of pieces.White ended p d e = cc
rune_of pieces.LineComment ended p d e = cc
rune_of pieces.BlockComment ended p d e = cc
rune_of pieces.Word ended p d e = absurd (not_literal (word_kind p) Rune e refl (word_literal p))
rune_of pieces.Number ended p d e = cc
rune_of pieces.HexNumber ended p d e = cc
rune_of pieces.Rune ended p d e = (both ended _ (well_formed _ d)).1
rune_of pieces.Text ended p d e = cc
rune_of pieces.RawText ended p d e = cc
rune_of pieces.Operator ended p d e = absurd (not_literal (operator_kind p) Rune e refl (operator_literal p))
rune_of pieces.Stray ended p d e = cc

no_defect : (o : Option FaultCode) → not (is_some o) ≡ true → o ≡ None
no_defect None h = refl
no_defect (Some c) h = cc

-- A token that is not inserted is written in the characters of a piece.
pub record Spelling (bytes : List ℕ) (t : Token) : Type 0 where
  pub characters : List ℕ
  pub scalars : all_scalars characters ≡ true
  pub encoded : encode_utf8_all characters ≡ slice_range bytes t.span.start t.span.end
  pub good : is_good characters ≡ true
  pub kind_is : t.kind ≡ token_kind characters

among_get : (ts : List Token) (i : ℕ) (t : Token) → slice_get ts i ≡ Some t → IsAmong ts t
among_get [] i t e = cc
among_get (u ∷ ts) zero t e = inl (one u t e)
  where
    one : (u t : Token) → Some u ≡ Some t → u ≡ t
    one u t e = cc
among_get (u ∷ ts) (suc i) t e = inr (among_get ts i t e)

good_at : (ps qs : List (List ℕ)) (p : List ℕ) → list_all is_good (ps ++ p ∷ qs) ≡ true → is_good p ≡ true
good_at [] qs p h = (both _ _ h).0
good_at (o ∷ ps) qs p h = good_at ps qs p (both (is_good o) _ h).1

spelled_by : (text : List ℕ) (ps : List (List ℕ)) (t : Token) → join ps ≡ text → all_scalars text ≡ true → list_all is_good ps ≡ true → Found ps 0 t → Spelling (encode_utf8_all text) t
unfolding width
spelled_by text ps t e s g f = record {
  characters = f.piece;
  scalars = (scalars_both f.piece (join f.behind) (scalars_both before (f.piece ++ join f.behind) (ap all_scalars (sym whole) ∙ s)).1).0;
  encoded = sym (ap (λ b. slice_range b t.span.start t.span.end) bytes ∙ ap (λ i. slice_range all i t.span.end) start ∙ ap (λ i. slice_range all (length (encode_utf8_all before)) i) end ∙ range_at (encode_utf8_all before) (encode_utf8_all f.piece) (encode_utf8_all (join f.behind)) (length (encode_utf8_all before)) refl);
  good = good_at f.before f.behind f.piece (ap (list_all is_good) (sym f.is) ∙ g);
  kind_is = f.kind_is;
}
  where
    before : List ℕ
    before = join f.before

    whole : text ≡ before ++ (f.piece ++ join f.behind)
    whole = sym e ∙ ap join f.is ∙ join_two f.before (f.piece ∷ f.behind)

    all : List ℕ
    all = encode_utf8_all before ++ (encode_utf8_all f.piece ++ encode_utf8_all (join f.behind))

    bytes : encode_utf8_all text ≡ all
    bytes = ap encode_utf8_all whole ∙ encodes-append before (f.piece ++ join f.behind) ∙ ap (λ l. encode_utf8_all before ++ l) (encodes-append f.piece (join f.behind))

    start : t.span.start ≡ length (encode_utf8_all before)
    start = omega (arith, f.starts)

    end : t.span.end ≡ length (encode_utf8_all before) + length (encode_utf8_all f.piece)
    end = omega (arith, f.ends)

pub spelling : (file : ℕ) (bytes : List ℕ) (ts : List Token) (cs : List Span) (i : ℕ) (t : Token) → IsLexing file bytes ts cs → slice_get ts i ≡ Some t → Spelling bytes t ⊎ IsInserted t
spelling file bytes ts cs i t l e =
    ⊎_elim
    (λ f. inl (subst (λ b. Spelling b t) l.is_text.encoded (spelled_by l.text l.lexes.pieces t l.lexes.whole l.is_text.scalars l.lexes.good f)))
    (λ f. inr f)
    (found_or file l.lexes.pieces 0 true t (among_get (tokens file 0 l.lexes.pieces true) i t (ap (λ us. slice_get us i) (sym l.lexes.spelled) ∙ e)))

inserted_literal : (t : Token) → IsInserted t → is_literal t.kind ≡ true → ⊥
inserted_literal t f h = let no : is_literal t.kind ≡ false = ap is_literal f.kind_is in cc

-- What the literals of a lexing are.
pub integer_token : (file : ℕ) (bytes : List ℕ) (ts : List Token) (cs : List Span) (i : ℕ) (t : Token) → IsLexing file bytes ts cs → slice_get ts i ≡ Some t → t.kind ≡ Integer → is_integer (slice_range bytes t.span.start t.span.end) ≡ true
integer_token file bytes ts cs i t l e k =
    ⊎_elim
    (λ s.
    let p : List ℕ = s.characters in
    let form : is_integer p ≡ true = integer_of (kind p) (is_ended (kind p) p) p (no_defect (defect p) s.good) (sym s.kind_is ∙ k) in
    ap is_integer (sym s.encoded ∙ integer_text p form) ∙ form)
    (λ f. absurd (inserted_literal t f (ap is_literal k)))
    (spelling file bytes ts cs i t l e)

pub rune_token : (file : ℕ) (bytes : List ℕ) (ts : List Token) (cs : List Span) (i : ℕ) (t : Token) → IsLexing file bytes ts cs → slice_get ts i ≡ Some t → t.kind ≡ Rune → IsUtf8 (slice_range bytes t.span.start t.span.end) × (is_one (rune_elements (chars (slice_range bytes t.span.start t.span.end))) ≡ true)
rune_token file bytes ts cs i t l e k =
    ⊎_elim
    (λ s.
    let p : List ℕ = s.characters in
    let form : is_one (rune_elements p) ≡ true = rune_of (kind p) (is_ended (kind p) p) p (no_defect (defect p) s.good) (sym s.kind_is ∙ k) in
    ((p, (s.scalars, s.encoded)), ap (λ b. is_one (rune_elements (chars b))) (sym s.encoded) ∙ ap (λ c. is_one (rune_elements c)) (chars-encodes p s.scalars) ∙ form))
    (λ f. absurd (inserted_literal t f (ap is_literal k)))
    (spelling file bytes ts cs i t l e)

pub text_token : (file : ℕ) (bytes : List ℕ) (ts : List Token) (cs : List Span) (i : ℕ) (t : Token) → IsLexing file bytes ts cs → slice_get ts i ≡ Some t → t.kind ≡ Text → IsUtf8 (slice_range bytes t.span.start t.span.end)
text_token file bytes ts cs i t l e k =
    ⊎_elim
    (λ s. (s.characters, (s.scalars, s.encoded)))
    (λ f. absurd (inserted_literal t f (ap is_literal k)))
    (spelling file bytes ts cs i t l e)
