-- A call begins with a letter, and a letter joins nothing but words.
use Rattle.std.proofs.Common.{◌≡◌, ℕ, Bool, true, false, not, ◌&&◌, ◌||◌, ◌==◌, cond, List, [], ◌∷◌, ◌++◌, append_assoc, codes, Some, refl, sym, ap, ◌∙◌, subst, arith, eqb-true}
use Rattle.std.specs.Prelude.{unwrap_or, map}
use Rattle.std.specs.List.{list_any, list_all}
use Rattle.std.specs.Char.{encode_utf8}
use Rattle.std.specs.Str.{chars, encode_utf8_all}
use Rattle.std.proofs.lemmas.Str.{cons_from_encodes, encode_ascii}
use Rattle.ucd_category.specs.GeneralCategory.{general_category}
use Rattle.ucd_category.specs.GeneralCategoryRows.{general_category_rows}
use Rattle.ucd_table.specs.Rows.{value_in}
use Rattle.go_tokens.specs.declared.piece.PieceKind.{PieceKind}
use Rattle.go_tokens.specs.declared.piece.PieceKind.TheVariants.{White, LineComment, BlockComment, Word, Number, HexNumber, Rune, Text, RawText, Operator, Stray}
use Rattle.go_tokens.specs.declared.token.TokenKind.{TokenKind}
use Rattle.go_tokens.specs.declared.token.TokenKind.TheVariants as token
use Rattle.go_tokens.specs.Characters.{is_white, is_letter, is_digit, is_in_word}
use Rattle.go_tokens.specs.Editing.{is_identifier}
use Rattle.go_tokens.specs.Encoding.{is_plain}
use Rattle.go_tokens.specs.Lexing.{token_kind, token_kind_as}
use Rattle.go_tokens.specs.Pieces.{begun_by, kind, is_piece}
use Rattle.go_tokens.specs.Replacing.{joins, are_beside}
use Rattle.go_tokens.specs.Spellings.{same_text, listed, operators, outside_operators, punctuation, spelled}
use Rattle.go_tokens.proofs.Public.{both, true_false}
use Rattle.go_types.specs.Trees.{TypeRow}
use Rattle.go_types.specs.Trees as types
use Rattle.go_print.specs.Texts as texts
use Rattle.go_print_laws.specs.Calls.{Call, CallCanBeWritten, argument_text, assigning_text, call_text, declaring_text}
use Rattle.go_print_laws.specs.Lexemes.{IsName, AreNames}

-- ---- names begin with letters

other : {A : Type 0} (b : Bool) (u v k : A) → (u ≡ k → ⊥) → cond b u v ≡ k → (b ≡ false) × (v ≡ k)
other true u v k not_u h = absurd (not_u h)
other false u v k not_u h = (refl, h)

begun_word : (x : ℕ) (l k p h : Bool) → begun_by x l k p h ≡ Word → is_letter x ≡ true
unfolding begun_by
begun_word x l k p hex h0 =
    let h1 = (other l _ _ _ (λ e. cc) h0).1 in
    let h2 = (other k _ _ _ (λ e. cc) h1).1 in
    let g1 = (other hex _ _ _ (λ e. cc) h2).1 in
    let g2 = (other (x == 39) _ _ _ (λ e. cc) g1).1 in
    let h3 = (other (x == 34) _ _ _ (λ e. cc) g2).1 in
    let h4 = (other (x == 96) _ _ _ (λ e. cc) h3).1 in
    let h5 = (other (is_white x) _ _ _ (λ e. cc) h4).1 in
    at_letter (is_letter x) (is_digit x || p) (listed operators (x ∷ [])) h5
  where
    at_letter : (a b c : Bool) → cond a Word (cond b Number (cond c Operator Stray)) ≡ Word → a ≡ true
    at_letter true b c e = refl
    at_letter false true c e = cc
    at_letter false false true e = cc
    at_letter false false false e = cc

no_identifiers : list_all (λ s. not (is_identifier s.1)) punctuation ≡ true
unfolding punctuation
no_identifiers = refl

none_spelled : (ws : List (List ℕ × TokenKind)) (p : List ℕ) → list_all (λ s. not (is_identifier s.1)) ws ≡ true → unwrap_or (spelled ws p) token.Semicolon ≡ token.Identifier → ⊥
none_spelled [] p a e = cc
none_spelled (s ∷ ws) p a e =
    let b = both (not (is_identifier s.1)) (list_all (λ s. not (is_identifier s.1)) ws) a in
    by (same_text s.0 p) b.0 (none_spelled ws p b.1) e
  where
    by : (c : Bool) → not (is_identifier s.1) ≡ true → (unwrap_or (spelled ws p) token.Semicolon ≡ token.Identifier → ⊥) → unwrap_or (cond c (Some s.1) (spelled ws p)) token.Semicolon ≡ token.Identifier → ⊥
    by true n f e = true_false (not (is_identifier s.1)) n (ap (λ k. not (is_identifier k)) e)
    by false n f e = f e

word_of : (k : PieceKind) (p : List ℕ) → token_kind_as k p ≡ token.Identifier → k ≡ Word
word_of Word p e = refl
word_of Number p e = cc
word_of HexNumber p e = cc
word_of Rune p e = cc
word_of Text p e = cc
word_of RawText p e = cc
word_of Operator p e = absurd (none_spelled punctuation p no_identifiers e)
word_of White p e = cc
word_of LineComment p e = cc
word_of BlockComment p e = cc
word_of Stray p e = cc

-- bytes that begin with a letter
pub record BeginsWithLetter (bytes : List ℕ) : Type 0 where
  pub letter : ℕ
  pub others : List ℕ
  pub is : bytes ≡ encode_utf8 letter ++ others
  pub good : is_letter letter ≡ true

more : (xs ys : List ℕ) → BeginsWithLetter xs → BeginsWithLetter (xs ++ ys)
more xs ys b = record { letter = b.letter; others = b.others ++ ys; is = ap (λ l. l ++ ys) b.is ∙ append_assoc (encode_utf8 b.letter) b.others ys; good = b.good }

name_begins : (n : List ℕ) → IsName n → BeginsWithLetter n
name_begins n w = by (chars n) w.piece w.kind w.encoded
  where
    by : (p : List ℕ) → is_piece p ≡ true → token_kind p ≡ token.Identifier → encode_utf8_all p ≡ n → BeginsWithLetter n
    by [] h k e = cc
    by (x ∷ xs) h k e = record { letter = x; others = encode_utf8_all xs; is = sym e; good = begun_word x _ _ _ _ (word_of (kind (x ∷ xs)) (x ∷ xs) k) }

small_v : is_letter 118 ≡ true
unfolding is_letter general_category value_in general_category_rows
small_v = refl

var_begins : BeginsWithLetter (codes "var ")
var_begins = record { letter = 118; others = codes "ar "; is = ap (λ l. l ++ codes "ar ") (sym (encode_ascii 118 (omega arith))); good = small_v }

pub call_begins : (name : ℕ → List ℕ) (c : Call) → CallCanBeWritten name c → BeginsWithLetter (call_text name c)
call_begins name c w = more _ (codes ")") (more _ (texts.listed (map argument_text c.arguments)) (more _ (codes "(") (by c.declared c.types c.results w.results)))
  where
    by_results : (xs : List (List ℕ)) → AreNames xs → BeginsWithLetter (assigning_text xs ++ c.function)
    by_results [] a = name_begins c.function w.function
    by_results (x ∷ xs) a = more _ c.function (more _ (codes " = ") (more x (texts.marked (codes ", ") xs) (name_begins x a.0)))

    by : (ys : List (List ℕ)) (ts : TypeRow) (xs : List (List ℕ)) → AreNames xs → BeginsWithLetter (declaring_text name ys ts ++ assigning_text xs ++ c.function)
    by [] ts xs a = by_results xs a
    by (y ∷ ys) types.none xs a = by_results xs a
    by (y ∷ ys) (types.more t ts) xs a = more _ c.function (more _ (assigning_text xs) (more _ (declaring_text name ys ts) (more _ (codes "; ") (more _ (texts.type_text name t) (more _ (codes " ") (more (codes "var ") y var_begins))))))

-- the characters begin with it
pub text_begins : (text bytes : List ℕ) → encode_utf8_all text ≡ bytes → (b : BeginsWithLetter bytes) → (cs : List ℕ) × (text ≡ b.letter ∷ cs)
text_begins text bytes e b = let r = cons_from_encodes text b.others b.letter (e ∙ b.is) in (r.0, r.1)

-- ---- letters and what stands in front

-- no operator has a letter
abbrev has_letter : List ℕ → Bool
has_letter w = list_any is_letter w

no_letters : list_all (λ w. not (has_letter w)) operators ≡ true
unfolding operators punctuation outside_operators is_letter general_category value_in general_category_rows
no_letters = refl

or_right : (a b : Bool) → b ≡ true → (a || b) ≡ true
or_right true b e = refl
or_right false b e = e

letter_beside : (x y : ℕ) (w : List ℕ) → is_letter y ≡ true → are_beside x y w ≡ true → has_letter w ≡ true
letter_beside x y [] l h = cc
letter_beside x y (a ∷ []) l h = cc
letter_beside x y (a ∷ b ∷ w) l h = by (x == a) (y == b) refl h (letter_beside x y (b ∷ w) l)
  where
    or_left : (a b : Bool) → a ≡ true → (a || b) ≡ true
    or_left true b e = refl
    or_left false b e = cc

    by : (s t : Bool) → (y == b) ≡ t → ((s && t) || are_beside x y (b ∷ w)) ≡ true → (are_beside x y (b ∷ w) ≡ true → has_letter (b ∷ w) ≡ true) → has_letter (a ∷ b ∷ w) ≡ true
    by true true e h f = or_right (is_letter a) (has_letter (b ∷ w)) (or_left (is_letter b) (has_letter w) (subst (λ n. is_letter n ≡ true) (eqb-true y b e) l))
    by true false e h f = or_right (is_letter a) (has_letter (b ∷ w)) (f h)
    by false t e h f = or_right (is_letter a) (has_letter (b ∷ w)) (f h)

none_beside : (x y : ℕ) (ws : List (List ℕ)) → is_letter y ≡ true → list_all (λ w. not (has_letter w)) ws ≡ true → list_any (are_beside x y) ws ≡ true → ⊥
none_beside x y [] l a h = cc
none_beside x y (w ∷ ws) l a h =
    let b = both (not (has_letter w)) (list_all (λ w. not (has_letter w)) ws) a in
    by (are_beside x y w) refl b.0 (none_beside x y ws l b.1) h
  where
    by : (c : Bool) → are_beside x y w ≡ c → not (has_letter w) ≡ true → (list_any (are_beside x y) ws ≡ true → ⊥) → (c || list_any (are_beside x y) ws) ≡ true → ⊥
    by true e n f h = true_false (not (has_letter w)) n (ap not (letter_beside x y w l e))
    by false e n f h = f h

or_none : (a b : Bool) → a ≡ false → b ≡ false → (a || b) ≡ false
or_none true b e f = cc
or_none false b e f = f

and_first : (a b : Bool) → a ≡ false → (a && b) ≡ false
and_first true b e = cc
and_first false b e = refl

and_second : (a b : Bool) → b ≡ false → (a && b) ≡ false
and_second true b e = e
and_second false b e = refl

false_or_not : (a : Bool) → (a ≡ true → ⊥) → a ≡ false
false_or_not true f = absurd (f refl)
false_or_not false f = refl

slash_letter : is_letter 47 ≡ false
unfolding is_letter general_category value_in general_category_rows
slash_letter = refl

star_letter : is_letter 42 ≡ false
unfolding is_letter general_category value_in general_category_rows
star_letter = refl

not_this : (y n : ℕ) → is_letter y ≡ true → is_letter n ≡ false → (y == n) ≡ false
not_this y n l e = false_or_not (y == n) (λ h. true_false (is_letter n) (subst (λ m. is_letter m ≡ true) (eqb-true y n h) l) e)

-- a letter doesn't join what is neither in a word nor a period
pub letter_free : (x y : ℕ) → is_letter y ≡ true → is_in_word x ≡ false → (x == 46) ≡ false → joins x y ≡ false
unfolding joins
letter_free x y l w p =
    or_none _ _
    (or_none _ _ (or_none _ _ (and_first (is_in_word x) _ w) (and_first (x == 46) _ p)) (false_or_not (list_any (are_beside x y) operators) (none_beside x y operators l no_letters)))
    (and_second (x == 47) _ (or_none _ _ (not_this y 47 l slash_letter) (not_this y 42 l star_letter)))

nought_letter : is_letter 0 ≡ false
unfolding is_letter general_category value_in general_category_rows
nought_letter = refl

mark_letter : is_letter 65279 ≡ false
unfolding is_letter general_category value_in general_category_rows
mark_letter = refl

-- a letter may stand anywhere
pub letter_plain : (y : ℕ) → is_letter y ≡ true → is_plain y ≡ true
letter_plain y l = both_not (y == 0) (y == 65279) (not_this y 0 l nought_letter) (not_this y 65279 l mark_letter)
  where
    both_not : (a b : Bool) → a ≡ false → b ≡ false → (not a && not b) ≡ true
    both_not true b e f = cc
    both_not false true e f = cc
    both_not false false e f = refl
