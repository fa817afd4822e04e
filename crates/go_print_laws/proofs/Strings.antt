-- A text constant between its marks is one token, whose value is the constant's.
use Rattle.std.proofs.Common.{◌≡◌, ℕ, ◌+◌, ◌*◌, ◌<◌, ◌≤◌, Bool, true, false, not, ◌&&◌, ◌==◌, if◌then◌else◌, List, [], ◌∷◌, ◌++◌, append_assoc, length, length-append, take, codes, Some, None, is_some, eqb-true, refl, sym, ap, ◌∙◌, arith}
use Rattle.std.specs.Prelude.{nat_eq, nat_lt, nat_le, ◌/◌, ◌%◌, ◌-◌}
use Rattle.std.specs.Option.{option_map, option_and_then}
use Rattle.std.specs.List.{list_all, AllByRecursion}
use Rattle.std.specs.Char.{encode_utf8, digit_value}
use Rattle.std.proofs.lemmas.Bool.Decides.{nat_tests}
use Rattle.std.proofs.lemmas.List.{take_at}
use Rattle.std.proofs.lemmas.Str.{encode_ascii}
use Rattle.go_tokens.specs.declared.piece.Mode.TheVariants.{InText, AfterSlash, Whole}
use Rattle.go_tokens.specs.declared.token.TokenKind.TheVariants as token
use Rattle.go_tokens.specs.declared.literal.Element.{Element}
use Rattle.go_tokens.specs.declared.literal.Element.TheVariants.{Character, Byte}
use Rattle.go_tokens.specs.Literals.{is_digit_of, letter_escape, byte_escape, escape, digits_number, number, elements, inside, string_elements, element_bytes, elements_bytes, found_bytes, string_value}
use Rattle.go_tokens.specs.Pieces.{begun_by, goes, after, unless_lexical, is_end}
use Rattle.go_tokens.proofs.Public.{both, and_both, not_false}
use Rattle.go_print.specs.Literals.{digit, escaped, is_plain, byte_text, bytes_text}
use Rattle.go_print_laws.proofs.Tests.{checks, checked}
use Rattle.go_print_laws.proofs.Ascii.{is_ascii, ascii_scalars, ascii_plain, ascii_encoded}
use Rattle.go_print_laws.proofs.Words.{IsMark}

-- ---- the four forms of a byte

byte_forms : (b : ℕ) (P : List ℕ → Type 0) → (b ≡ 34 → P (92 ∷ 34 ∷ [])) → (b ≡ 92 → P (92 ∷ 92 ∷ []))
    → (32 ≤ b → b ≤ 126 → (b == 34) ≡ false → (b == 92) ≡ false → P (b ∷ [])) → P (escaped b) → P (byte_text b)
byte_forms b P mark slash seen other = by (nat_eq b 34) (nat_eq b 92) (is_plain b) refl refl refl
  where
    by : (u v w : Bool) → u ≡ nat_eq b 34 → v ≡ nat_eq b 92 → w ≡ is_plain b → P (if u then codes "\\\"" else if v then codes "\\\\" else if w then b ∷ [] else escaped b)
    by true v w e f g = mark (eqb-true b 34 (sym e))
    by false true w e f g = slash (eqb-true b 92 (sym f))
    by false false true e f g = let p = both (nat_le 32 b) _ (sym g) in let l = p.0 in let u = p.1 in seen (grind (arith, nat_tests)) (grind (arith, nat_tests)) (sym e) (sym f)
    by false false false e f g = other

-- a digit of an escape
abbrev digit_test : ℕ → Bool
digit_test d =
    is_ascii (digit d) && (not (digit d == 10) && (not (digit d == 34) && (not (digit d == 92) && (is_digit_of 16 (digit d) && nat_eq (digit_value (digit d)) d))))

digits_tested : checks digit_test 16 0 ≡ true
unfolding is_digit_of
digits_tested = refl

record IsDigit (d : ℕ) : Type 0 where
  ascii : is_ascii (digit d) ≡ true
  no_line : (digit d == 10) ≡ false
  no_mark : (digit d == 34) ≡ false
  no_slash : (digit d == 92) ≡ false
  hexadecimal : is_digit_of 16 (digit d) ≡ true
  value : digit_value (digit d) ≡ d

digit_is : (d : ℕ) → d < 16 → IsDigit d
digit_is d h =
    let a = both (is_ascii (digit d)) _ (checked digit_test 16 0 d digits_tested (omega arith) (omega arith)) in
    let b = both (not (digit d == 10)) _ a.1 in
    let c = both (not (digit d == 34)) _ b.1 in
    let e = both (not (digit d == 92)) _ c.1 in
    let f = both (is_digit_of 16 (digit d)) _ e.1 in
    record { ascii = a.0; no_line = not_false _ b.0; no_mark = not_false _ c.0; no_slash = not_false _ e.0; hexadecimal = f.0; value = eqb-true _ d f.1 }

-- ---- the token's shape

-- a character that is no mark, no backslash and no line's end goes on with the text
plain_on : (x : ℕ) (rest : List ℕ) → (x == 10) ≡ false → (x == 34) ≡ false → (x == 92) ≡ false → after InText (x ∷ rest) ≡ after InText rest
unfolding goes
plain_on x rest e f g =
    ap (λ b. option_and_then (λ n. after n rest) (if b then None else (if x == 34 then Some Whole else (if x == 92 then Some AfterSlash else Some InText)))) e
    ∙ ap (λ b. option_and_then (λ n. after n rest) (if b then Some Whole else (if x == 92 then Some AfterSlash else Some InText))) f
    ∙ ap (λ b. option_and_then (λ n. after n rest) (if b then Some AfterSlash else Some InText)) g

slash_on : (x : ℕ) (rest : List ℕ) → (x == 10) ≡ false → after InText (92 ∷ x ∷ rest) ≡ after InText rest
unfolding goes
slash_on x rest e = ap (λ b. option_and_then (λ n. after n rest) (if b then None else Some InText)) e

record GoesOn (p : List ℕ) : Type 0 where
  by : (rest : List ℕ) → after InText (p ++ rest) ≡ after InText rest

escape_on : (h l : ℕ) → IsDigit h → IsDigit l → GoesOn (92 ∷ 120 ∷ digit h ∷ digit l ∷ [])
escape_on h l i j = record {
  by = λ rest.
      slash_on 120 (digit h ∷ digit l ∷ rest) refl
      ∙ plain_on (digit h) (digit l ∷ rest) i.no_line i.no_mark i.no_slash
      ∙ plain_on (digit l) rest j.no_line j.no_mark j.no_slash;
}

byte_on : (b : ℕ) → b < 256 → GoesOn (byte_text b)
byte_on b h = byte_forms b GoesOn
    (λ e. record { by = λ rest. slash_on 34 rest refl })
    (λ e. record { by = λ rest. slash_on 92 rest refl })
    (λ l u e f. record { by = λ rest. plain_on b rest (let n : (b == 10) ≡ false = grind (arith, nat_tests) in n) e f })
    (escape_on (b / 16) (b % 16) (digit_is (b / 16) (omega arith)) (digit_is (b % 16) (omega arith)))

bytes_on : (bs rest : List ℕ) → AllByRecursion (λ b. b < 256) bs → after InText (bytes_text bs ++ rest) ≡ after InText rest
bytes_on [] rest h = refl
bytes_on (b ∷ bs) rest h =
    ap (after InText) (append_assoc (byte_text b) (bytes_text bs) rest) ∙ (byte_on b h.0).by (bytes_text bs ++ rest) ∙ bytes_on bs rest h.1

-- ---- the characters

byte_ascii : (b : ℕ) → b < 256 → list_all is_ascii (byte_text b) ≡ true
byte_ascii b h = byte_forms b (λ p. list_all is_ascii p ≡ true) (λ e. refl) (λ e. refl)
    (λ l u e f. and_both (is_ascii b) true (let a : is_ascii b ≡ true = grind (arith, nat_tests) in a) refl)
    (let i = digit_is (b / 16) (omega arith) in let j = digit_is (b % 16) (omega arith) in and_both (is_ascii (digit (b / 16))) _ i.ascii (and_both (is_ascii (digit (b % 16))) true j.ascii refl))

ascii-append : (xs ys : List ℕ) → list_all is_ascii xs ≡ true → list_all is_ascii ys ≡ true → list_all is_ascii (xs ++ ys) ≡ true
ascii-append [] ys h k = k
ascii-append (x ∷ xs) ys h k = let b = both (is_ascii x) _ h in and_both (is_ascii x) _ b.0 (ascii-append xs ys b.1 k)

bytes_ascii : (bs : List ℕ) → AllByRecursion (λ b. b < 256) bs → list_all is_ascii (bytes_text bs) ≡ true
bytes_ascii [] h = refl
bytes_ascii (b ∷ bs) h = ascii-append (byte_text b) (bytes_text bs) (byte_ascii b h.0) (bytes_ascii bs h.1)

-- ---- the value

-- the text is one element, of this byte
record Reads (b : ℕ) (p : List ℕ) : Type 0 where
  element : Element
  bytes : element_bytes element ≡ b ∷ []
  by : (rest : List ℕ) → elements 34 0 (p ++ rest) ≡ option_map (λ es. element ∷ es) (elements 34 0 rest)

mark_reads : (b : ℕ) → b ≡ 34 → Reads b (92 ∷ 34 ∷ [])
unfolding is_digit_of letter_escape encode_utf8
mark_reads b e = record { element = Character 34; bytes = ap (λ n. n ∷ []) (sym e); by = λ rest. refl }

slash_reads : (b : ℕ) → b ≡ 92 → Reads b (92 ∷ 92 ∷ [])
unfolding is_digit_of letter_escape encode_utf8
slash_reads b e = record { element = Character 92; bytes = ap (λ n. n ∷ []) (sym e); by = λ rest. refl }

seen_reads : (b : ℕ) → b ≤ 126 → (b == 92) ≡ false → Reads b (b ∷ [])
seen_reads b u e = record {
  element = Character b;
  bytes = encode_ascii b (omega arith);
  by = λ rest. ap (λ c. if c then option_and_then (λ f. option_map (λ es. f.element ∷ es) (elements 34 f.count rest)) (escape 34 rest) else option_map (λ es. Character b ∷ es) (elements 34 0 rest)) e;
}

-- two digits behind an x
two_digits : (h l : ℕ) (rest : List ℕ) → IsDigit h → IsDigit l → number 16 2 (digit h ∷ digit l ∷ rest) ≡ Some (h * 16 + l)
two_digits h l rest i j =
    ap (λ b. if b then None else digits_number 16 0 (digit h ∷ digit l ∷ [])) (let n : nat_lt (length (digit h ∷ digit l ∷ rest)) 2 ≡ false = grind (arith, nat_tests) in n)
    ∙ ap (λ b. if b then digits_number 16 (0 * 16 + digit_value (digit h)) (digit l ∷ []) else None) i.hexadecimal
    ∙ ap (λ b. if b then Some ((0 * 16 + digit_value (digit h)) * 16 + digit_value (digit l)) else None) j.hexadecimal
    ∙ ap (λ n. Some ((0 * 16 + n) * 16 + digit_value (digit l))) i.value
    ∙ ap (λ n. Some ((0 * 16 + h) * 16 + n)) j.value
    ∙ ap Some (let n : (0 * 16 + h) * 16 + l ≡ h * 16 + l = omega arith in n)

escape_reads : (b : ℕ) → b < 256 → Reads b (escaped b)
unfolding is_digit_of
escape_reads b small = record { element = Byte b; bytes = refl; by = read }
  where
    found : (rest : List ℕ) → byte_escape 3 (number 16 2 (digit (b / 16) ∷ digit (b % 16) ∷ rest)) ≡ Some (record { element = Byte b; count = 3 })
    found rest =
        ap (byte_escape 3) (two_digits (b / 16) (b % 16) rest (digit_is (b / 16) (omega arith)) (digit_is (b % 16) (omega arith)))
        ∙ ap (λ n. byte_escape 3 (Some n)) (let n : b / 16 * 16 + b % 16 ≡ b = omega arith in n)
        ∙ ap (λ c. if c then Some (record { element = Byte b; count = 3 }) else None) (let n : nat_le b 255 ≡ true = grind (arith, nat_tests) in n)

    read : (rest : List ℕ) → elements 34 0 (escaped b ++ rest) ≡ option_map (λ es. Byte b ∷ es) (elements 34 0 rest)
    read rest = ap (option_and_then (λ f. option_map (λ es. f.element ∷ es) (elements 34 f.count (120 ∷ digit (b / 16) ∷ digit (b % 16) ∷ rest)))) (found rest)

byte_reads : (b : ℕ) → b < 256 → Reads b (byte_text b)
byte_reads b h = byte_forms b (Reads b) (mark_reads b) (slash_reads b) (λ l u e f. seen_reads b u f) (escape_reads b h)

record AllRead (bs : List ℕ) : Type 0 where
  all : List Element
  are : elements 34 0 (bytes_text bs) ≡ Some all
  bytes : elements_bytes all ≡ bs

bytes_read : (bs : List ℕ) → AllByRecursion (λ b. b < 256) bs → AllRead bs
bytes_read [] h = record { all = []; are = refl; bytes = refl }
bytes_read (b ∷ bs) h =
    let r = byte_reads b h.0 in
    let q = bytes_read bs h.1 in
    record {
      all = r.element ∷ q.all;
      are = r.by (bytes_text bs) ∙ ap (option_map (λ es. r.element ∷ es)) q.are;
      bytes = ap (λ l. l ++ elements_bytes q.all) r.bytes ∙ ap (λ l. b ∷ l) q.bytes;
    }

-- ---- between the marks

inside_is : (p : List ℕ) → inside (34 ∷ (p ++ 34 ∷ [])) ≡ p
inside_is p =
    let n : length (34 ∷ (p ++ 34 ∷ [])) - 2 ≡ length p = omega (arith, length-append p (34 ∷ [])) in
    ap (λ n. take n (p ++ 34 ∷ [])) n ∙ take_at p (34 ∷ []) (length p) refl

abbrev pub quoted : List ℕ → List ℕ
quoted bs = 34 ∷ (bytes_text bs ++ 34 ∷ [])

module _ (bs : List ℕ) (h : AllByRecursion (λ b. b < 256) bs) where
  ended : after InText (bytes_text bs ++ 34 ∷ []) ≡ Some Whole
  unfolding goes
  ended = bytes_on bs (34 ∷ []) h

  elements_are : string_elements (quoted bs) ≡ Some (bytes_read bs h).all
  elements_are = ap (elements 34 0) (inside_is (bytes_text bs)) ∙ (bytes_read bs h).are

  ascii : list_all is_ascii (quoted bs) ≡ true
  ascii = ascii-append (bytes_text bs) (34 ∷ []) (bytes_ascii bs h) refl

  pub text_word : IsMark token.Text (quoted bs)
  unfolding begun_by
  text_word = record {
    piece = ap is_some ended;
    good = ap (λ o. not (is_some (unless_lexical (is_end o && is_some (string_elements (quoted bs)))))) ended ∙ ap (λ o. not (is_some (unless_lexical (is_some o)))) elements_are;
    token = refl;
    kind = refl;
    scalars = ascii_scalars (quoted bs) ascii;
    plain = ascii_plain (quoted bs) ascii;
    encoded = ascii_encoded (quoted bs) ascii;
  }

  pub text_value : string_value (quoted bs) ≡ bs
  text_value = ap found_bytes elements_are ∙ (bytes_read bs h).bytes
