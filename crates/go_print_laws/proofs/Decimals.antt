-- A number in decimal is an integer literal.
use Rattle.std.proofs.Common.{◌≡◌, ℕ, zero, suc, ◌+◌, ◌<◌, ◌≤◌, ◌^◌, Bool, true, false, not, ◌&&◌, ◌==◌, if◌then◌else◌, List, [], ◌∷◌, ◌++◌, Some, None, is_some, refl, sym, ap, ◌∙◌, subst, arith}
use Rattle.std.specs.Prelude.{◌%◌}
use Rattle.std.specs.Option.{option_and_then}
use Rattle.std.specs.List.{list_all, list_any}
use Rattle.std.specs.Char.{encode_utf8}
use Rattle.std.specs.Fmt.{decimal}
use Rattle.std.proofs.lemmas.Fmt.{decimal_by_steps_wide, decimal_digit}
use Rattle.std.proofs.lemmas.Bool.Decides.{nat_tests}
use Rattle.ucd_category.specs.GeneralCategory.{general_category}
use Rattle.ucd_category.specs.GeneralCategoryRows.{general_category_rows}
use Rattle.ucd_table.specs.Rows.{value_in}
use Rattle.go_tokens.specs.declared.piece.PieceKind.{PieceKind}
use Rattle.go_tokens.specs.declared.piece.PieceKind.TheVariants as pieces
use Rattle.go_tokens.specs.declared.piece.Mode.TheVariants.{InRun}
use Rattle.go_tokens.specs.declared.token.TokenKind.TheVariants as token
use Rattle.go_tokens.specs.Characters.{is_white, is_letter, is_digit, is_in_word, is_in_run, is_exponent, is_power, is_sign, is_x, is_b, is_o}
use Rattle.go_tokens.specs.Spellings.{keywords, punctuation, outside_operators, operators}
use Rattle.go_tokens.specs.Literals.{is_digit_of, letter_base, grouped, is_empty, is_integer, digits_of, base_of}
use Rattle.go_tokens.specs.Pieces.{begun_by, goes, after, kind, front, has_shape, is_ended, defect_by, is_other_number}
use Rattle.go_tokens.specs.Lexing.{is_token_kind, token_kind_as}
use Rattle.go_tokens.specs.Replacing.{joins, are_apart}
use Rattle.go_tokens.proofs.Public.{both, and_both}
use Rattle.go_base.specs.declared.FaultCode.TheVariants.{Lexical, Outside}
use Rattle.go_print_laws.proofs.Tests.{checks, checked}
use Rattle.go_print_laws.proofs.Words.{IsMark}
use Rattle.go_print_laws.proofs.Ascii.{is_ascii, ascii_scalars, ascii_plain, ascii_encoded}

-- ---- the ten digits

abbrev is_number : PieceKind → Bool
is_number pieces.Number = true
is_number k = false

abbrev digit_test : ℕ → Bool
digit_test x = is_number (begun_by x false false false false) && (is_in_run x && is_digit_of 10 x)

digits_tested : checks digit_test 10 48 ≡ true
unfolding begun_by is_white is_letter is_digit is_in_word is_in_run is_digit_of general_category value_in general_category_rows
digits_tested = refl

pub digit_low : (x : ℕ) → is_digit x ≡ true → (48 ≤ x) × (x ≤ 57)
unfolding is_digit
digit_low x h = (grind (arith, nat_tests), grind (arith, nat_tests))

digit_is : (x : ℕ) → is_digit x ≡ true → digit_test x ≡ true
digit_is x h = let l = digit_low x h in checked digit_test 10 48 x digits_tested l.0 (let z = l.1 in omega arith)

number_is : (k : PieceKind) → is_number k ≡ true → k ≡ pieces.Number
number_is pieces.Number h = refl
number_is pieces.White h = cc
number_is pieces.LineComment h = cc
number_is pieces.BlockComment h = cc
number_is pieces.Word h = cc
number_is pieces.HexNumber h = cc
number_is pieces.Rune h = cc
number_is pieces.Text h = cc
number_is pieces.RawText h = cc
number_is pieces.Operator h = cc
number_is pieces.Stray h = cc

-- ---- digits

digit_ascii : (x : ℕ) → is_digit x ≡ true → is_ascii x ≡ true
digit_ascii x h = let l = digit_low x h in let a = l.0 in let b = l.1 in grind (arith, nat_tests)

digits_ascii : (xs : List ℕ) → list_all is_digit xs ≡ true → list_all is_ascii xs ≡ true
digits_ascii [] h = refl
digits_ascii (x ∷ xs) h = let b = both (is_digit x) _ h in and_both (is_ascii x) _ (digit_ascii x b.0) (digits_ascii xs b.1)

runs : (e : Bool) (xs : List ℕ) → list_all is_digit xs ≡ true → is_some (after (InRun e) xs) ≡ true
unfolding goes
runs e [] h = refl
runs e (x ∷ xs) h =
    let d = both (is_digit x) _ h in
    let t = both (is_in_run x) _ (both (is_number (begun_by x false false false false)) _ (digit_is x d.0)).1 in
    ap (λ b. is_some (option_and_then (λ n. after n xs) (if b then Some (InRun (is_exponent x)) else (if e && is_sign x then Some (InRun false) else None)))) t.0 ∙ runs (is_exponent x) xs d.1

groups : (xs : List ℕ) → list_all is_digit xs ≡ true → grouped 10 xs ≡ true
groups [] h = refl
groups (x ∷ []) h = (both (is_in_run x) _ (both (is_number (begun_by x false false false false)) _ (digit_is x (both (is_digit x) _ h).0)).1).1
groups (x ∷ y ∷ ys) h =
    let d = both (is_digit x) _ h in
    let l = digit_low x d.0 in
    ap (λ b. if b then is_digit_of 10 y && grouped 10 ys else is_digit_of 10 x && grouped 10 (y ∷ ys)) (let z : (x == 95) ≡ false = (let m = l.1 in grind (arith, nat_tests)) in z)
    ∙ and_both (is_digit_of 10 x) _ (both (is_in_run x) _ (both (is_number (begun_by x false false false false)) _ (digit_is x d.0)).1).1 (groups (y ∷ ys) d.1)

module _ (x : ℕ) (xs : List ℕ) (d : is_digit x ≡ true) (h : list_all is_digit xs ≡ true) (z : (x == 48) ≡ false) where
  low : (48 ≤ x) × (x ≤ 57)
  low = digit_low x d

  kind_is : kind (x ∷ xs) ≡ pieces.Number
  kind_is =
      ap (λ b. begun_by x (b && front xs == 47) (b && front xs == 42) (x == 46 && is_digit (front xs)) (x == 48 && is_x (front xs))) (let e : (x == 47) ≡ false = (let l = low.0 in grind (arith, nat_tests)) in e)
      ∙ ap (λ b. begun_by x false false (b && is_digit (front xs)) (x == 48 && is_x (front xs))) (let e : (x == 46) ≡ false = (let l = low.0 in grind (arith, nat_tests)) in e)
      ∙ ap (λ b. begun_by x false false false (b && is_x (front xs))) z
      ∙ number_is (begun_by x false false false false) (both (is_number (begun_by x false false false false)) _ (digit_is x d)).0

  integer : is_integer (x ∷ xs) ≡ true
  integer = and_both (is_digit x) _ d (by xs h)
    where
      by : (ys : List ℕ) → list_all is_digit ys ≡ true → (not (is_empty (digits_of (x ∷ ys))) && grouped (base_of (x ∷ ys)) (digits_of (x ∷ ys))) ≡ true
      by [] g = groups (x ∷ []) (and_both (is_digit x) true d refl)
      by (y ∷ ys) g =
          ap (λ b. not (is_empty (if b then (if letter_base y == 0 then y ∷ ys else ys) else x ∷ y ∷ ys)) && grouped (if b then (if letter_base y == 0 then 8 else letter_base y) else 10) (if b then (if letter_base y == 0 then y ∷ ys else ys) else x ∷ y ∷ ys)) z
          ∙ groups (x ∷ y ∷ ys) (and_both (is_digit x) _ d g)

  ascii : list_all is_ascii (x ∷ xs) ≡ true
  ascii = and_both (is_ascii x) _ (digit_ascii x d) (digits_ascii xs h)

  digits_word : IsMark token.Integer (x ∷ xs)
  digits_word = record {
    piece = ap (λ k. has_shape k x xs) kind_is ∙ runs false xs h;
    good = ap (λ k. not (is_some (defect_by k (is_ended k (x ∷ xs)) (x ∷ xs)))) kind_is ∙ fine (is_integer (x ∷ xs)) integer;
    token = ap is_token_kind kind_is;
    kind = ap (λ k. token_kind_as k (x ∷ xs)) kind_is;
    scalars = ascii_scalars (x ∷ xs) ascii;
    plain = ascii_plain (x ∷ xs) ascii;
    encoded = ascii_encoded (x ∷ xs) ascii;
  }
    where
      fine : (b : Bool) → b ≡ true → not (is_some (if b then None else (if is_other_number (list_any is_exponent (x ∷ xs)) (x ∷ xs) then Some Outside else Some Lexical))) ≡ true
      fine true e = refl
      fine false e = cc

-- ---- a number

pub record Digits (n : ℕ) (ds : List ℕ) : Type 0 where
  pub first : ℕ
  pub more : List ℕ
  pub is : ds ≡ first ∷ more
  pub digit : is_digit first ≡ true
  pub digits : list_all is_digit more ≡ true
  pub nonzero : 0 < n → (first == 48) ≡ false

last_digit : (d : ℕ) → d < 10 → is_digit (48 + d) ≡ true
unfolding is_digit
last_digit d h = grind (arith, nat_tests)

one_more : (xs : List ℕ) (d : ℕ) → list_all is_digit xs ≡ true → d < 10 → list_all is_digit (xs ++ (48 + d) ∷ []) ≡ true
one_more [] d h l = and_both (is_digit (48 + d)) true (last_digit d l) refl
one_more (x ∷ xs) d h l = and_both (is_digit x) _ (both (is_digit x) _ h).0 (one_more xs d (both (is_digit x) _ h).1 l)

pub has_digits : (n : ℕ) → n < 10 ^ 64 → Digits n (decimal n)
has_digits = decimal_by_steps_wide Digits
    (λ n h. record { first = 48 + n; more = []; is = refl; digit = last_digit n h; digits = refl; nonzero = λ p. grind (arith, nat_tests) })
    (λ n ds h p. record { first = p.first; more = p.more ++ (48 + n % 10) ∷ []; is = ap (λ l. l ++ (48 + n % 10) ∷ []) p.is; digit = p.digit; digits = one_more p.more (n % 10) p.digits (omega arith); nonzero = λ q. p.nonzero (omega arith) })

zero_word : IsMark token.Integer (48 ∷ [])
unfolding begun_by is_white is_letter is_digit is_in_word is_in_run is_exponent is_power is_sign is_x is_b is_o letter_base is_digit_of goes operators punctuation outside_operators keywords general_category value_in general_category_rows encode_utf8
zero_word = record { piece = refl; good = refl; token = refl; kind = refl; scalars = refl; plain = refl; encoded = refl }

pub decimal_word : (n : ℕ) → n < 10 ^ 64 → IsMark token.Integer (decimal n)
decimal_word zero h = subst (IsMark token.Integer) (sym (decimal_digit 0 (omega arith))) zero_word
decimal_word (suc n) h =
    let p = has_digits (suc n) h in
    subst (IsMark token.Integer) (sym p.is) (digits_word p.first p.more p.digit p.digits (p.nonzero (omega arith)))

-- a sign doesn't join a digit behind it
abbrev sign_test : ℕ → Bool
sign_test x = not (joins 45 x)

signs_tested : checks sign_test 10 48 ≡ true
unfolding joins is_digit is_in_run is_in_word is_letter general_category value_in general_category_rows operators punctuation outside_operators
signs_tested = refl

pub minus_apart : (n : ℕ) (ys : List ℕ) → n < 10 ^ 64 → are_apart (45 ∷ []) (decimal n ++ ys) ≡ true
minus_apart n ys h =
    let p = has_digits n h in
    let l = digit_low p.first p.digit in
    ap (λ ds. are_apart (45 ∷ []) (ds ++ ys)) p.is ∙ checked sign_test 10 48 p.first signs_tested l.0 (let z = l.1 in omega arith)
