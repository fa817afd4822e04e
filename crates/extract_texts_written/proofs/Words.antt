-- Texts that are identifiers (Go specification: Identifiers, Keywords).
use Rattle.std.proofs.Common.{◌≡◌, ℕ, zero, suc, ◌+◌, ◌<◌, ◌≤◌, Bool, true, false, not, ◌&&◌, ◌||◌, ◌==◌, List, [], ◌∷◌, Option, Some, None, is_some, codes, eqb-true, refl, sym, ap, subst, ◌∙◌, cond, arith}
use Rattle.std.specs.Prelude.{◌/◌, ◌%◌, unwrap_or, if◌then◌else◌}
use Rattle.std.specs.Option.{option_and_then}
use Rattle.std.specs.Char.{encode_utf8}
use Rattle.std.specs.Fmt.{decimal, digits, digit_glyph, digits_onto}
use Rattle.std.specs.List.{list_all}
use Rattle.std.specs.Str.{chars, encode_utf8_all, all_scalars, is_utf8, IsUtf8, IsAscii}
use Rattle.std.proofs.lemmas.Bool.{and_parts}
use Rattle.std.proofs.lemmas.Bool.Decides.{nat_tests}
use Rattle.std.proofs.lemmas.Str.{IsUtf8-from_is_utf8, IsUtf8-from_ascii, chars-IsAscii, encodes-chars, scalars-chars}
use Rattle.ucd_category.specs.GeneralCategory.{general_category}
use Rattle.ucd_category.specs.GeneralCategoryRows.{general_category_rows}
use Rattle.ucd_table.specs.Rows.{value_in}
use Rattle.go_tokens.specs.declared.piece.PieceKind.{PieceKind}
use Rattle.go_tokens.specs.declared.piece.PieceKind.TheVariants as pieces
use Rattle.go_tokens.specs.declared.piece.Mode.TheVariants.{InWord}
use Rattle.go_tokens.specs.declared.token.TokenKind.{TokenKind}
use Rattle.go_tokens.specs.declared.token.TokenKind.TheVariants as token
use Rattle.go_tokens.specs.Characters.{is_white, is_digit, is_letter, is_in_word, is_x}
use Rattle.go_tokens.specs.Encoding.{is_plain}
use Rattle.go_tokens.specs.Lexing.{is_token_kind, token_kind_as}
use Rattle.go_tokens.specs.Pieces.{begun_by, begun, goes, after, front, has_shape, if_outside, is_ended, defect_by}
use Rattle.go_tokens.specs.Spellings.{is_outside, keywords, listed, operators, same_text, spelled}
use Rattle.go_tokens.proofs.Public.{both, same_text-true}
use Rattle.go_print_laws.specs.Lexemes.{IsWord, IsName}
use Rattle.escape_check.specs.Names.{is_name_text, is_keyword}

and_both : (a b : Bool) → a ≡ true → b ≡ true → (a && b) ≡ true
and_both a b e f = ap (λ c. c && b) e ∙ f

-- ---- a letter

-- none of these is one
record NoLetters : Type 0 where
  quote : is_letter 39 ≡ false
  double : is_letter 34 ≡ false
  back : is_letter 96 ≡ false
  slash : is_letter 47 ≡ false
  point : is_letter 46 ≡ false
  nought : is_letter 48 ≡ false
  blank : is_letter 32 ≡ false
  tab : is_letter 9 ≡ false
  newline : is_letter 10 ≡ false
  feed : is_letter 13 ≡ false
  mark : is_letter 65279 ≡ false

no_letters : NoLetters
unfolding is_letter general_category value_in general_category_rows
no_letters = record { quote = refl; double = refl; back = refl; slash = refl; point = refl; nought = refl; blank = refl; tab = refl; newline = refl; feed = refl; mark = refl }

other : (x c : ℕ) → is_letter x ≡ true → is_letter c ≡ false → (x == c) ≡ false
other x c h e = by (x == c) refl
  where
    by : (b : Bool) → (x == c) ≡ b → b ≡ false
    by true g = let same : x ≡ c = eqb-true x c g in absurd (cc (sym h ∙ ap is_letter same ∙ e))
    by false g = refl

white_none : (x : ℕ) → is_letter x ≡ true → is_white x ≡ false
unfolding is_white
white_none x h =
    ap (λ b. b || x == 9 || x == 10 || x == 13 || x == 65279) (other x 32 h no_letters.blank)
    ∙ ap (λ b. b || x == 10 || x == 13 || x == 65279) (other x 9 h no_letters.tab)
    ∙ ap (λ b. b || x == 13 || x == 65279) (other x 10 h no_letters.newline)
    ∙ ap (λ b. b || x == 65279) (other x 13 h no_letters.feed)
    ∙ other x 65279 h no_letters.mark

-- what else begins with a character
abbrev otherwise : ℕ → PieceKind
otherwise x = cond (is_digit x || false) pieces.Number (cond (listed operators (x ∷ [])) pieces.Operator pieces.Stray)

begun_word : (x : ℕ) → is_letter x ≡ true → begun_by x false false false false ≡ pieces.Word
unfolding begun_by
begun_word x h =
    ap (λ b. cond b pieces.Rune (cond (x == 34) pieces.Text (cond (x == 96) pieces.RawText (cond (is_white x) pieces.White (cond (is_letter x) pieces.Word (otherwise x)))))) (other x 39 h no_letters.quote)
    ∙ ap (λ b. cond b pieces.Text (cond (x == 96) pieces.RawText (cond (is_white x) pieces.White (cond (is_letter x) pieces.Word (otherwise x))))) (other x 34 h no_letters.double)
    ∙ ap (λ b. cond b pieces.RawText (cond (is_white x) pieces.White (cond (is_letter x) pieces.Word (otherwise x)))) (other x 96 h no_letters.back)
    ∙ ap (λ b. cond b pieces.White (cond (is_letter x) pieces.Word (otherwise x))) (white_none x h)
    ∙ ap (λ b. cond b pieces.Word (otherwise x)) h

begins_word : (x y : ℕ) → is_letter x ≡ true → begun x y ≡ pieces.Word
begins_word x y h =
    ap (λ b. begun_by x (b && y == 47) (b && y == 42) (x == 46 && is_digit y) (x == 48 && is_x y)) (other x 47 h no_letters.slash)
    ∙ ap (λ b. begun_by x false false (b && is_digit y) (x == 48 && is_x y)) (other x 46 h no_letters.point)
    ∙ ap (λ b. begun_by x false false false (b && is_x y)) (other x 48 h no_letters.nought)
    ∙ begun_word x h

-- ---- letters and digits

word_goes : (xs : List ℕ) → list_all is_in_word xs ≡ true → is_some (after InWord xs) ≡ true
unfolding goes
word_goes [] h = refl
word_goes (x ∷ xs) h =
    let d = both (is_in_word x) (list_all is_in_word xs) h in
    ap (λ b. is_some (option_and_then (λ n. after n xs) (if b then Some InWord else None))) d.0 ∙ word_goes xs d.1

record NotInWords : Type 0 where
  nul : is_in_word 0 ≡ false
  mark : is_in_word 65279 ≡ false

not_in_words : NotInWords
unfolding is_in_word is_letter general_category value_in general_category_rows
not_in_words = record { nul = refl; mark = refl }

not_this : (x c : ℕ) → is_in_word x ≡ true → is_in_word c ≡ false → not (x == c) ≡ true
not_this x c h e = by (x == c) refl
  where
    by : (b : Bool) → (x == c) ≡ b → not b ≡ true
    by true g = let same : x ≡ c = eqb-true x c g in absurd (cc (sym h ∙ ap is_in_word same ∙ e))
    by false g = refl

words_plain : (xs : List ℕ) → list_all is_in_word xs ≡ true → list_all is_plain xs ≡ true
words_plain [] h = refl
words_plain (x ∷ xs) h =
    let d = both (is_in_word x) (list_all is_in_word xs) h in
    and_both (is_plain x) (list_all is_plain xs) (and_both (not (x == 0)) (not (x == 65279)) (not_this x 0 d.0 not_in_words.nul) (not_this x 65279 d.0 not_in_words.mark)) (words_plain xs d.1)

-- ---- keywords

-- these are their own bytes
abbrev AreBytes : List (List ℕ × TokenKind) → Type 0
AreBytes [] = Unit {0}
AreBytes (k ∷ ks) = (encode_utf8_all k.0 ≡ k.0) × AreBytes ks

keywords_are : AreBytes keywords
unfolding keywords encode_utf8
keywords_are = (refl, (refl, (refl, (refl, (refl, (refl, (refl, (refl, (refl, (refl, (refl, (refl, (refl, (refl, (refl, (refl, (refl, (refl, (refl, (refl, (refl, (refl, (refl, (refl, (refl, tt)))))))))))))))))))))))))

text_itself : (a : List ℕ) → same_text a a ≡ true
text_itself [] = refl
text_itself (x ∷ a) = ap (λ b. b && same_text a a) (let e : (x == x) ≡ true = grind (arith, nat_tests) in e) ∙ text_itself a

none_or : (b : Bool) (k : TokenKind) (o : Option TokenKind) → is_some (if b then Some k else o) ≡ false → (b ≡ false) × (is_some o ≡ false)
none_or true k o h = cc
none_or false k o h = (refl, h)

no_keyword : (ks : List (List ℕ × TokenKind)) (w text : List ℕ) → AreBytes ks → encode_utf8_all text ≡ w → is_some (spelled ks w) ≡ false → spelled ks text ≡ None
no_keyword [] w text a e h = refl
no_keyword (k ∷ ks) w text a e h =
    let n = none_or (same_text k.0 w) k.1 (spelled ks w) h in
    by (same_text k.0 text) refl n.0 (no_keyword ks w text a.1 e n.1)
  where
    by : (b : Bool) → same_text k.0 text ≡ b → same_text k.0 w ≡ false → spelled ks text ≡ None → (if b then Some k.1 else spelled ks text) ≡ None
    by true g n r =
        let same : k.0 ≡ text = same_text-true k.0 text g in
        let bytes : k.0 ≡ w = sym a.0 ∙ ap encode_utf8_all same ∙ e in
        absurd (cc (sym n ∙ ap (same_text k.0) (sym bytes) ∙ text_itself k.0))
    by false g n r = r

-- ---- names

module _ (w : List ℕ) (utf8 : IsUtf8 w) (key : is_keyword w ≡ false) where
  none : spelled keywords (chars w) ≡ None
  none = no_keyword keywords w (chars w) keywords_are (encodes-chars w utf8) key

  word_of : (x : ℕ) (xs : List ℕ) → chars w ≡ x ∷ xs → is_name_text (x ∷ xs) ≡ true → IsName w
  word_of x xs e h =
      let d = and_parts (is_letter x) (list_all is_in_word (x ∷ xs)) h in
      let kind_is = begins_word x (front xs) d.0 in
      let no : spelled keywords (x ∷ xs) ≡ None = sym (ap (spelled keywords) e) ∙ none in
      subst (IsWord token.Identifier w) (sym e) (record {
        piece = ap (λ k. has_shape k x xs) kind_is ∙ word_goes xs (both (is_in_word x) (list_all is_in_word xs) d.1).1;
        good = ap (λ k. not (is_some (defect_by k (is_ended k (x ∷ xs)) (x ∷ xs)))) kind_is ∙ ap (λ o. not (is_some (if_outside (is_outside (unwrap_or o token.Identifier))))) no;
        token = ap is_token_kind kind_is;
        kind = ap (λ k. token_kind_as k (x ∷ xs)) kind_is ∙ ap (λ o. unwrap_or o token.Identifier) no;
        scalars = sym (ap all_scalars e) ∙ scalars-chars w utf8;
        plain = words_plain (x ∷ xs) d.1;
        encoded = sym (ap encode_utf8_all e) ∙ encodes-chars w utf8;
      })

  named : (cs : List ℕ) → chars w ≡ cs → is_name_text cs ≡ true → IsName w
  named [] e h = absurd cc
  named (x ∷ xs) e h = word_of x xs e h

-- UTF-8 that is a letter, and then letters and digits, and no keyword
pub name_is : (w : List ℕ) → is_utf8 w ≡ true → is_name_text (chars w) ≡ true → is_keyword w ≡ false → IsName w
name_is w u h k = named w (IsUtf8-from_is_utf8 w u) k (chars w) refl h

-- ---- `p` and a number

abbrev is_glyph : ℕ → Bool
is_glyph x = is_digit x

glyph_is : (n : ℕ) → is_digit (digit_glyph false (n % 10)) ≡ true
unfolding is_digit
glyph_is n = let l : n % 10 < 10 = omega arith in grind (arith, nat_tests)

onto_digits : (k n : ℕ) (acc : List ℕ) → list_all is_digit acc ≡ true → list_all is_digit (digits_onto k 10 false n acc) ≡ true
onto_digits zero n acc h = h
onto_digits (suc k) n acc h = by (n / 10 == 0) (onto_digits k (n / 10) (digit_glyph false (n % 10) ∷ acc) more)
  where
    more : list_all is_digit (digit_glyph false (n % 10) ∷ acc) ≡ true
    more = and_both (is_digit (digit_glyph false (n % 10))) (list_all is_digit acc) (glyph_is n) h

    by : (b : Bool) → list_all is_digit (digits_onto k 10 false (n / 10) (digit_glyph false (n % 10) ∷ acc)) ≡ true
        → list_all is_digit (if b then digit_glyph false (n % 10) ∷ acc else digits_onto k 10 false (n / 10) (digit_glyph false (n % 10) ∷ acc)) ≡ true
    by true g = more
    by false g = g

decimal_digits : (n : ℕ) → list_all is_digit (decimal n) ≡ true
unfolding digits
decimal_digits n = onto_digits 64 n [] refl

digit_low : (x : ℕ) → is_digit x ≡ true → (48 ≤ x) × (x ≤ 57)
unfolding is_digit
digit_low x h = (grind (arith, nat_tests), grind (arith, nat_tests))

digits_ascii : (xs : List ℕ) → list_all is_digit xs ≡ true → IsAscii xs
digits_ascii [] h i = omega arith
digits_ascii (x ∷ xs) h zero = let l = (digit_low x (both (is_digit x) (list_all is_digit xs) h).0).1 in omega (arith, l)
digits_ascii (x ∷ xs) h (suc i) = digits_ascii xs (both (is_digit x) (list_all is_digit xs) h).1 i

-- so many numbers pass, from one on
abbrev checks : (ℕ → Bool) → ℕ → ℕ → Bool
checks f zero a = true
checks f (suc c) a = f a && checks f c (suc a)

checked : (f : ℕ → Bool) (c a x : ℕ) → checks f c a ≡ true → a ≤ x → x < a + c → f x ≡ true
checked f zero a x h l u = absurd (omega arith)
checked f (suc c) a x h l u = by (a == x) refl (checked f c (suc a) x (both (f a) (checks f c (suc a)) h).1)
  where
    by : (b : Bool) → b ≡ (a == x) → (suc a ≤ x → x < suc a + c → f x ≡ true) → f x ≡ true
    by true e g = let s : a ≡ x = grind (arith, nat_tests) in subst (λ y. f y ≡ true) s (both (f a) (checks f c (suc a)) h).0
    by false e g = g (grind (arith, nat_tests)) (omega arith)

digits_in_words : checks is_in_word 10 48 ≡ true
unfolding is_in_word is_letter general_category value_in general_category_rows
digits_in_words = refl

digits_words : (xs : List ℕ) → list_all is_digit xs ≡ true → list_all is_in_word xs ≡ true
digits_words [] h = refl
digits_words (x ∷ xs) h =
    let d = both (is_digit x) (list_all is_digit xs) h in
    let l = digit_low x d.0 in
    and_both (is_in_word x) (list_all is_in_word xs) (checked is_in_word 10 48 x digits_in_words l.0 (let z = l.1 in omega (arith, z))) (digits_words xs d.1)

record FirstLetter : Type 0 where
  letter : is_letter 112 ≡ true
  word : is_in_word 112 ≡ true

first_letter : FirstLetter
unfolding is_in_word is_letter general_category value_in general_category_rows
first_letter = record { letter = refl; word = refl }

front_ascii : (ds : List ℕ) → IsAscii ds → IsAscii (112 ∷ ds)
front_ascii ds h zero = omega arith
front_ascii ds h (suc i) = h i

-- such a text that is no keyword
pub numbered_is : (n : ℕ) → is_keyword (112 ∷ decimal n) ≡ false → IsName (112 ∷ decimal n)
numbered_is n k =
    let ds = decimal n in
    let w = 112 ∷ ds in
    let d = decimal_digits n in
    let ascii : IsAscii w = front_ascii ds (digits_ascii ds d) in
    let utf8 : IsUtf8 w = IsUtf8-from_ascii w ascii in
    let text : is_name_text w ≡ true = and_both (is_letter 112) (list_all is_in_word w) first_letter.letter (and_both (is_in_word 112) (list_all is_in_word ds) first_letter.word (digits_words ds d)) in
    named w utf8 k w (chars-IsAscii w ascii) text

-- ---- `_`

record Blank : Type 0 where
  letter : is_letter 95 ≡ true
  word : is_in_word 95 ≡ true

blank : Blank
unfolding is_in_word is_letter general_category value_in general_category_rows
blank = record { letter = refl; word = refl }

blank_ascii : IsAscii (95 ∷ [])
blank_ascii zero = omega arith
blank_ascii (suc i) = omega arith

blank_free : is_keyword (95 ∷ []) ≡ false
unfolding keywords
blank_free = refl

pub blank_is : IsName (codes "_")
blank_is =
    let w = 95 ∷ [] in
    named w (IsUtf8-from_ascii w blank_ascii) blank_free w (chars-IsAscii w blank_ascii) (and_both (is_letter 95) (list_all is_in_word w) blank.letter (and_both (is_in_word 95) true blank.word refl))
