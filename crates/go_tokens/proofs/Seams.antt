-- A piece stops at a seam where the neighbours do not join.
use Rattle.std.proofs.Common.{nat_le, ◌<◌, ◌≤◌, lit≤, ◌≡◌, ℕ, ◌⊎◌, ⊎_elim, Bool, true, false, not, ◌&&◌, ◌||◌, ◌==◌, cond, List, [], ◌∷◌, ◌++◌, Option, Some, None, is_some, refl, sym, ap, ◌∙◌, subst, inl, inr, arith, eqb-true}
use Rattle.std.specs.Option.{option_and_then}
use Rattle.std.specs.List.{list_any, list_all}
use Rattle.ucd_category.specs.GeneralCategoryGroup.{in_group}
use Rattle.ucd_category.specs.GeneralCategory.{general_category, general_category_eq}
use Rattle.ucd_category.specs.GeneralCategoryRows.{general_category_rows}
use Rattle.ucd_table.specs.Rows.{value_in}
use Rattle.ucd_category.specs.declared.GeneralCategory.TheVariants.{DecimalNumber}
use Rattle.ucd_category.proofs.GeneralCategoryLemmas.{general_category_stepped}
use Rattle.ucd_table.proofs.Computing.{tables}
use Rattle.ucd_table.proofs.Facts.{Stepped-below}
use Rattle.ucd_category.specs.declared.GeneralCategoryGroup.TheVariants.{Letter}
use Rattle.go_tokens.specs.declared.piece.PieceKind.TheVariants.{HexNumber, Rune}
use Rattle.go_tokens.specs.declared.piece.Mode.TheVariants.{InHexRun, InRune}
use Rattle.go_tokens.specs.Characters.{is_x, is_power}
use Rattle.go_tokens.specs.declared.piece.PieceKind.{PieceKind}
use Rattle.go_tokens.specs.declared.piece.PieceKind.TheVariants.{LineComment, BlockComment, Word, Number, Operator, Text, RawText}
use Rattle.go_tokens.specs.declared.piece.Mode.{Mode}
use Rattle.go_tokens.specs.declared.piece.Mode.TheVariants.{InLine, Opened, InWord, InRun, InText, InRaw, Whole}
use Rattle.go_tokens.specs.Characters.{is_between, is_white, is_letter, is_digit, is_in_word, is_in_run, is_exponent, is_sign}
use Rattle.go_tokens.specs.Spellings.{punctuation, outside_operators, operators, listed}
use Rattle.go_tokens.specs.Pieces.{after, goes, begun, begun_by, front, kind, has_shape, is_piece, is_good, is_ended, defect_by, unless_lexical, number_defect, is_other_number, is_end}
use Rattle.go_base.specs.declared.FaultCode.TheVariants.{Lexical, Outside}
use Rattle.go_tokens.specs.Characters.{is_b, is_o}
use Rattle.go_tokens.specs.Literals.{is_digit_of, grouped, letter_base, base_of, digits_of, is_empty, is_integer}
use Rattle.go_tokens.specs.Replacing.{joins, last_joins, are_apart, are_beside, is_at_line_end}
use Rattle.std.proofs.lemmas.Option.{option_and_then_some}
use Rattle.std.proofs.lemmas.Bool.Decides.{nat_tests}
use Rattle.go_tokens.proofs.Lists.{both, either, not_true, true_false, listed_all}
use Rattle.go_tokens.proofs.Shapes.{Stops}

-- Tests.
pub or_left : (a b : Bool) → a ≡ true → (a || b) ≡ true
or_left true b h = refl
or_left false b h = cc

pub or_right : (a b : Bool) → b ≡ true → (a || b) ≡ true
or_right true b h = refl
or_right false b h = h

pub and_both : (a b : Bool) → a ≡ true → b ≡ true → (a && b) ≡ true
and_both true b h k = k
and_both false b h k = cc

pub and_not : (a b : Bool) → (a ≡ true → b ≡ true → ⊥) → (a && b) ≡ false
and_not a b h = not_true (a && b) (λ e. h (both a b e).0 (both a b e).1)

pub not_false : (a : Bool) → not a ≡ true → a ≡ false
not_false true h = cc
not_false false h = refl

-- Which neighbours join.
joins_word : (x y : ℕ) → is_in_word x ≡ true → is_in_run y ≡ true → joins x y ≡ true
unfolding joins
joins_word x y h k = or_left _ _ (or_left _ _ (or_left _ _ (and_both _ _ h k)))

joins_period : (x y : ℕ) → x ≡ 46 → is_digit y ≡ true → joins x y ≡ true
unfolding joins
joins_period x y e k = or_left _ _ (or_left _ _ (or_right _ _ (and_both _ _ (ap (λ n. n == 46) e) (or_left _ _ k))))

joins_operator : (x y : ℕ) → list_any (are_beside x y) operators ≡ true → joins x y ≡ true
unfolding joins
joins_operator x y h = or_left _ _ (or_right _ _ h)

joins_comment : (x y : ℕ) → x ≡ 47 → (y == 47 || y == 42) ≡ true → joins x y ≡ true
unfolding joins
joins_comment x y e h = or_right _ _ (and_both _ _ (ap (λ n. n == 47) e) h)

digit_decimal : (c : ℕ) → c < 128 → (not (is_digit c) || general_category_eq (general_category c) DecimalNumber) ≡ true
unfolding tables general_category_stepped is_digit
digit_decimal c h = Stepped-below general_category general_category_stepped (λ x v. not (nat_le 48 x && nat_le x 57) || general_category_eq v DecimalNumber) 128 refl c h

digit_small : (c : ℕ) → is_digit c ≡ true → c < 128
unfolding is_digit
digit_small c h = grind (arith, nat_tests)

pub digit_word : (x : ℕ) → is_digit x ≡ true → is_in_word x ≡ true
unfolding is_in_word
digit_word x h = or_right _ _ (second (is_digit x) _ h (digit_decimal x (digit_small x h)))
  where
    second : (a b : Bool) → a ≡ true → (not a || b) ≡ true → b ≡ true
    second true b e k = k
    second false b e k = cc

word_run : (x : ℕ) → is_in_word x ≡ true → is_in_run x ≡ true
unfolding is_in_run
word_run x h = or_left _ _ h

pub digit_run : (x : ℕ) → is_digit x ≡ true → is_in_run x ≡ true
digit_run x h = word_run x (digit_word x h)

-- A newline joins with nothing.
beside_last : (x y : ℕ) (w : List ℕ) → are_beside x y w ≡ true → list_any (λ b. y == b) w ≡ true
beside_last x y [] h = cc
beside_last x y (a ∷ []) h = cc
beside_last x y (a ∷ b ∷ w) h = ⊎_elim (λ e. or_right _ _ (or_left _ _ (both (x == a) _ e).1)) (λ k. or_right _ _ (beside_last x y (b ∷ w) k)) (either (x == a && y == b) _ h)

none_beside : (x y : ℕ) (ws : List (List ℕ)) → list_any (list_any (λ b. y == b)) ws ≡ false → list_any (are_beside x y) ws ≡ true → ⊥
none_beside x y [] h k = cc
none_beside x y (w ∷ ws) h k = ⊎_elim (λ e. true_false _ (or_left _ _ (beside_last x y w e)) h) (λ e. none_beside x y ws (not_true _ (λ g. true_false _ (or_right (list_any (λ b. y == b) w) _ g) h)) e) (either (are_beside x y w) _ k)

no_newline : list_any (list_any (λ b. 10 == b)) operators ≡ false
unfolding operators punctuation outside_operators
no_newline = refl

newline_run : is_in_run 10 ≡ false
unfolding is_in_run is_in_word is_letter is_digit general_category value_in general_category_rows
newline_run = refl

zero_digit : is_digit 0 ≡ false
unfolding is_digit
zero_digit = refl

or_none : (a b : Bool) → a ≡ false → b ≡ false → (a || b) ≡ false
or_none true b h k = h
or_none false b h k = k

pub and_second : (a b : Bool) → b ≡ false → (a && b) ≡ false
and_second true b h = h
and_second false b h = refl

newline_no_digit : (is_digit 10 || 10 == 46) ≡ false
unfolding is_digit
newline_no_digit = refl

newline_apart : (x : ℕ) → joins x 10 ≡ false
unfolding joins
newline_apart x =
    or_none _ _
    (or_none _ _ (or_none _ _ (and_second _ _ newline_run) (and_second _ _ newline_no_digit)) (not_true _ (none_beside x 10 operators no_newline)))
    (and_second _ _ refl)

last_newline : (left : List ℕ) → not (last_joins left 10) ≡ true
last_newline [] = refl
last_newline (x ∷ []) = ap not (newline_apart x)
last_newline (x ∷ z ∷ zs) = last_newline (z ∷ zs)

pub line_end_apart : (left rest : List ℕ) → is_at_line_end rest ≡ true → are_apart left rest ≡ true
line_end_apart left [] h = refl
line_end_apart left (y ∷ ys) h = subst (λ n. not (last_joins left n) ≡ true) (sym (eqb-true y 10 h)) (last_newline left)

-- Lists up to their last byte.
pub last_joins_behind : (a : List ℕ) (z : ℕ) (b : List ℕ) (y : ℕ) → last_joins (a ++ z ∷ b) y ≡ last_joins (z ∷ b) y
last_joins_behind [] z b y = refl
last_joins_behind (x ∷ []) z b y = refl
last_joins_behind (x ∷ w ∷ a) z b y = last_joins_behind (w ∷ a) z b y

-- where each byte of a list joins with y, the last one does
last_of_all : (p : ℕ → Bool) (y : ℕ) → ((x : ℕ) → p x ≡ true → joins x y ≡ true) → (x : ℕ) (b : List ℕ) → p x ≡ true → list_all p b ≡ true → last_joins (x ∷ b) y ≡ true
last_of_all p y each x [] h k = each x h
last_of_all p y each x (z ∷ b) h k = let parts = both (p z) _ k in last_of_all p y each z b parts.0 parts.1

-- Operators: each two neighbours join.
abbrev all_join : List ℕ → Bool
all_join [] = true
all_join (x ∷ []) = true
all_join (x ∷ y ∷ ys) = joins x y && all_join (y ∷ ys)

operators_join : list_all all_join operators ≡ true
unfolding operators punctuation outside_operators joins is_in_run is_in_word is_letter is_digit is_exponent is_sign general_category value_in general_category_rows
operators_join = refl

all_join_last : (x : ℕ) (b : List ℕ) (y : ℕ) → all_join (x ∷ (b ++ y ∷ [])) ≡ true → last_joins (x ∷ b) y ≡ true
all_join_last x [] y h = (both _ _ h).0
all_join_last x (z ∷ b) y h = all_join_last z b y (both (joins x z) _ h).1

-- What a first byte opens, where it does not join with the next.
no_true : false ≡ true → ⊥
no_true h = cc

zero_x : is_x 0 ≡ false
unfolding is_x
zero_x = refl

x_word_by : (n : ℕ) → is_in_word n ≡ true → (y : ℕ) → y ≡ n → is_in_word y ≡ true
x_word_by n h y e = subst (λ m. is_in_word m ≡ true) (sym e) h

small_x : is_in_word 120 ≡ true
unfolding is_in_word is_letter is_digit general_category value_in general_category_rows
small_x = refl

large_x : is_in_word 88 ≡ true
unfolding is_in_word is_letter is_digit general_category value_in general_category_rows
large_x = refl

zero_word : is_in_word 48 ≡ true
unfolding is_in_word is_letter is_digit general_category value_in general_category_rows
zero_word = refl

x_word : (y : ℕ) → is_x y ≡ true → is_in_word y ≡ true
unfolding is_x
x_word y h = ⊎_elim (λ e. x_word_by 120 small_x y (eqb-true y 120 e)) (λ e. x_word_by 88 large_x y (eqb-true y 88 e)) (either _ _ h)

nought_word : (x : ℕ) → x ≡ 48 → is_in_word x ≡ true
nought_word x e = x_word_by 48 zero_word x e

pub x_run : (y : ℕ) → is_x y ≡ true → is_in_run y ≡ true
x_run y h = word_run y (x_word y h)

pub nought_run : (x : ℕ) → x ≡ 48 → is_in_run x ≡ true
nought_run x e = word_run x (nought_word x e)

same_begun : (x y : ℕ) → joins x y ≡ false → begun x y ≡ begun x 0
same_begun x y apart =
    let line : (x == 47 && y == 47) ≡ (x == 47 && 0 == 47) = and_not _ _ (λ h k. true_false _ (joins_comment x y (eqb-true x 47 h) (or_left _ _ k)) apart) ∙ sym (and_not (x == 47) false (λ h k. no_true k)) in
    let block : (x == 47 && y == 42) ≡ (x == 47 && 0 == 42) = and_not _ _ (λ h k. true_false _ (joins_comment x y (eqb-true x 47 h) (or_right _ _ k)) apart) ∙ sym (and_not (x == 47) false (λ h k. no_true k)) in
    let point : (x == 46 && is_digit y) ≡ (x == 46 && is_digit 0) = and_not _ _ (λ h k. true_false _ (joins_period x y (eqb-true x 46 h) k) apart) ∙ sym (and_not (x == 46) (is_digit 0) (λ h k. true_false (is_digit 0) k zero_digit)) in
    let hex : (x == 48 && is_x y) ≡ (x == 48 && is_x 0) = and_not _ _ (λ h k. true_false _ (joins_word x y (nought_word x (eqb-true x 48 h)) (word_run y (x_word y k))) apart) ∙ sym (and_not (x == 48) (is_x 0) (λ h k. true_false (is_x 0) k zero_x)) in
    ap (λ l. begun_by x l (x == 47 && y == 42) (x == 46 && is_digit y) (x == 48 && is_x y)) line ∙ ap (λ l. begun_by x (x == 47 && 0 == 47) l (x == 46 && is_digit y) (x == 48 && is_x y)) block ∙ ap (λ l. begun_by x (x == 47 && 0 == 47) (x == 47 && 0 == 42) l (x == 48 && is_x y)) point ∙ ap (begun_by x (x == 47 && 0 == 47) (x == 47 && 0 == 42) (x == 46 && is_digit 0)) hex

-- Where a piece is, once it has gone over some bytes and then over others.
pub after_then : (xs ys : List ℕ) (m : Mode) → after m (xs ++ ys) ≡ option_and_then (λ n. after n ys) (after m xs)
after_then [] ys m = refl
after_then (x ∷ xs) ys m = then_by (goes m x) (after_then xs ys)
  where
    then_by : (o : Option Mode) → ((n : Mode) → after n (xs ++ ys) ≡ option_and_then (λ n. after n ys) (after n xs)) → option_and_then (λ n. after n (xs ++ ys)) o ≡ option_and_then (λ n. after n ys) (option_and_then (λ n. after n xs) o)
    then_by None each = refl
    then_by (Some n) each = each n

-- what goes on to one byte more is in some mode before it, from which that byte goes on
pub record LastStep (m : Mode) (b : List ℕ) (y : ℕ) : Type 0 where
  pub mode : Mode
  pub was : after m b ≡ Some mode
  pub goes_on : is_some (goes mode y) ≡ true

pub last_step : (m : Mode) (b : List ℕ) (y : ℕ) → is_some (after m (b ++ y ∷ [])) ≡ true → LastStep m b y
last_step m b y h = by (after m b) refl (subst (λ o. is_some o ≡ true) (after_then b (y ∷ []) m) h)
  where
    step : (n : Mode) (o : Option Mode) → is_some (option_and_then (λ n. Some n) o) ≡ true → is_some o ≡ true
    step n None h = h
    step n (Some k) h = refl

    by : (o : Option Mode) → after m b ≡ o → is_some (option_and_then (λ n. after n (y ∷ [])) o) ≡ true → LastStep m b y
    by None e h = cc
    by (Some n) e h = record { mode = n; was = e; goes_on = step n (goes n y) h }

-- What each mode goes on with.
chosen : {A : Type 0} (b : Bool) (u v k : A) → cond b u v ≡ k → ((b ≡ true) × (u ≡ k)) ⊎ ((b ≡ false) × (v ≡ k))
chosen true u v k h = inl (refl, h)
chosen false u v k h = inr (refl, h)

-- the second where the first is another
pub other : {A : Type 0} (b : Bool) (u v k : A) → (u ≡ k → ⊥) → cond b u v ≡ k → (b ≡ false) × (v ≡ k)
other true u v k not_u h = absurd (not_u h)
other false u v k not_u h = (refl, h)

goes_line : (n : Mode) (x : ℕ) → goes InLine x ≡ Some n → (n ≡ InLine) × ((x == 10) ≡ false)
unfolding goes
goes_line n x h = let o = other (x == 10) None (Some InLine) (Some n) (λ e. cc) h in let f = o.1 in (cc, o.0)

pub goes_word : (n : Mode) (x : ℕ) → goes InWord x ≡ Some n → (n ≡ InWord) × (is_in_word x ≡ true)
unfolding goes
goes_word n x h = ⊎_elim (λ o. let f = o.1 in (cc, o.0)) (λ o. let f = o.1 in cc) (chosen (is_in_word x) (Some InWord) None (Some n) h)

goes_run : (n : Mode) (x : ℕ) → goes (InRun false) x ≡ Some n → (n ≡ InRun (is_exponent x)) × (is_in_run x ≡ true)
unfolding goes
goes_run n x h = ⊎_elim (λ o. let f = o.1 in (cc, o.0)) (λ o. let f = o.1 in cc) (chosen (is_in_run x) (Some (InRun (is_exponent x))) None (Some n) h)

no_step : (x : ℕ) → is_some (goes Whole x) ≡ true → ⊥
unfolding goes
no_step x h = cc

pub some_is : (o : Option Mode) → is_some o ≡ true → (n : Mode) × (o ≡ Some n)
some_is None h = cc
some_is (Some n) h = (n, refl)

line_stays : (b : List ℕ) (n : Mode) → after InLine b ≡ Some n → n ≡ InLine
line_stays [] n h = cc
line_stays (x ∷ b) n h = option_and_then_some (λ k. after k b) (goes InLine x) n h (λ k e f. line_stays b n (subst (λ m. after m b ≡ Some n) (goes_line k x e).0 f))

pub word_stays : (b : List ℕ) (n : Mode) → after InWord b ≡ Some n → (n ≡ InWord) × (list_all is_in_word b ≡ true)
word_stays [] n h = (cc, refl)
word_stays (x ∷ b) n h = option_and_then_some (λ k. after k b) (goes InWord x) n h (λ k e f.
    let step = goes_word k x e in
    let rest = word_stays b n (subst (λ m. after m b ≡ Some n) step.0 f) in
    (rest.0, and_both _ _ step.1 rest.1))

-- in a word, and no exponent
is_plain_number : ℕ → Bool
is_plain_number x = is_in_word x && not (is_exponent x)

run_stays : (b : List ℕ) (n : Mode) → list_all is_plain_number b ≡ true → after (InRun false) b ≡ Some n → n ≡ InRun false
unfolding is_plain_number
run_stays [] n d h = cc
run_stays (x ∷ b) n d h = option_and_then_some (λ k. after k b) (goes (InRun false) x) n h (λ k e f.
    let digits = both (is_in_word x && not (is_exponent x)) (list_all is_plain_number b) d in
    let plain = not_false (is_exponent x) (both (is_in_word x) _ digits.0).1 in
    let step = goes_run k x e in
    let same : k ≡ InRun false = cc in
    run_stays b n digits.1 (subst (λ m. after m b ≡ Some n) same f))

end_whole : (o : Option Mode) → is_end o ≡ true → o ≡ Some Whole
end_whole (Some Whole) h = refl
end_whole None h = cc
end_whole (Some m) h = cc

ended_stops : (m : Mode) (b : List ℕ) (y : ℕ) → is_end (after m b) ≡ true → is_some (after m (b ++ y ∷ [])) ≡ true → ⊥
ended_stops m b y h k =
    let last = last_step m b y k in
    let was = last.was in
    let end = end_whole (after m b) h in
    let same : last.mode ≡ Whole = cc in
    no_step y (subst (λ n. is_some (goes n y) ≡ true) same last.goes_on)

whole_stops : (b : List ℕ) (y : ℕ) → is_some (after Whole (b ++ y ∷ [])) ≡ true → ⊥
unfolding goes
whole_stops [] y h = cc
whole_stops (z ∷ b) y h = cc

begun_word : (x : ℕ) (l k p h : Bool) → begun_by x l k p h ≡ Word → is_letter x ≡ true
unfolding begun_by
begun_word x l k p hex h0 =
    let h1 = (other l _ _ _ (λ e. cc) h0).1 in
    let h2 = (other k _ _ _ (λ e. cc) h1).1 in
    let g1 = (other hex _ _ _ (λ e. cc) h2).1 in
    let g2 = (other (x == 39) _ _ _ (λ e. cc) g1).1 in
    let h3 = (other (x == 34) _ _ _ (λ e. cc) g2).1 in
    let h4 = (other (x == 96) _ _ _ (λ e. cc) h3).1 in
    let h5 = (other (is_white x) _ _ _ (λ e. cc) h4).1 in
    ⊎_elim (λ a. a.0) (λ a.
    let h6 = (other (is_digit x || p) _ _ _ (λ e. cc) a.1).1 in
    let h7 = (other (listed operators (x ∷ [])) _ _ _ (λ e. cc) h6).1 in
    cc) (chosen (is_letter x) _ _ _ h5)

letter_word : (x : ℕ) → is_letter x ≡ true → is_in_word x ≡ true
unfolding is_in_word
letter_word x h = or_left _ _ h

-- Numbers with a prefix.
goes_hex : (n : Mode) (x : ℕ) → goes (InHexRun false) x ≡ Some n → (n ≡ InHexRun (is_power x)) × (is_in_run x ≡ true)
unfolding goes
goes_hex n x h = ⊎_elim (λ o. let f = o.1 in (cc, o.0)) (λ o. let f = o.1 in cc) (chosen (is_in_run x) (Some (InHexRun (is_power x))) None (Some n) h)

-- in a word, and no power
is_plain_run : ℕ → Bool
is_plain_run x = is_in_word x && not (is_power x)

hex_stays : (b : List ℕ) (n : Mode) → list_all is_plain_run b ≡ true → after (InHexRun false) b ≡ Some n → n ≡ InHexRun false
unfolding is_plain_run
hex_stays [] n d h = cc
hex_stays (x ∷ b) n d h = option_and_then_some (λ k. after k b) (goes (InHexRun false) x) n h (λ k e f.
    let digits = both (is_in_word x && not (is_power x)) (list_all is_plain_run b) d in
    let plain = not_false (is_power x) (both (is_in_word x) _ digits.0).1 in
    let step = goes_hex k x e in
    let same : k ≡ InHexRun false = cc in
    hex_stays b n digits.1 (subst (λ m. after m b ≡ Some n) same f))

is_hex_digit : ℕ → Bool
is_hex_digit x = is_between 48 57 x || is_between 97 102 x || is_between 65 70 x

hex_plain_low : (c : ℕ) → c < 128 → (not (is_hex_digit c) || (c == 95 || in_group Letter (general_category c) || general_category_eq (general_category c) DecimalNumber)) ≡ true
unfolding tables general_category_stepped is_hex_digit
hex_plain_low c h = Stepped-below general_category general_category_stepped (λ x v. not (is_between 48 57 x || is_between 97 102 x || is_between 65 70 x) || (x == 95 || in_group Letter v || general_category_eq v DecimalNumber)) 128 refl c h

hex_small : (c : ℕ) → is_hex_digit c ≡ true → c < 128
unfolding is_hex_digit
hex_small c h = grind (arith, nat_tests)

hex_no_power : (c : ℕ) → is_hex_digit c ≡ true → is_power c ≡ false
unfolding is_hex_digit is_power
hex_no_power c h = grind (arith, nat_tests)

-- a digit to a base is a decimal or a hexadecimal one
hex_digit : (c : ℕ) → is_digit_of 16 c ≡ true → is_hex_digit c ≡ true
unfolding is_hex_digit is_digit_of
hex_digit c h = grind (arith, nat_tests)

small_digit : (base c : ℕ) → base ≤ 10 → is_digit_of base c ≡ true → is_digit c ≡ true
unfolding is_digit_of is_digit
small_digit base c b h = grind (arith, nat_tests)

digit_no_exponent : (c : ℕ) → is_digit c ≡ true → is_exponent c ≡ false
unfolding is_digit is_exponent
digit_no_exponent c h = grind (arith, nat_tests)

x_no_power : (c : ℕ) → is_x c ≡ true → is_power c ≡ false
unfolding is_x is_power
x_no_power c h = grind (arith, nat_tests)

nought_no_power : is_power 48 ≡ false
unfolding is_power
nought_no_power = refl

implied : (a b : Bool) → a ≡ true → (not a || b) ≡ true → b ≡ true
implied true b e k = k
implied false b e k = cc

hex_word : (c : ℕ) → is_hex_digit c ≡ true → is_in_word c ≡ true
unfolding is_in_word is_letter
hex_word c h = implied (is_hex_digit c) _ h (hex_plain_low c (hex_small c h))

plain_of : (c : ℕ) → is_in_word c ≡ true → is_power c ≡ false → is_plain_run c ≡ true
unfolding is_plain_run
plain_of c h k = and_both _ _ h (ap not k)

plain_word : (c : ℕ) → is_plain_run c ≡ true → is_in_word c ≡ true
unfolding is_plain_run
plain_word c h = (both (is_in_word c) _ h).0

hex_plain : (c : ℕ) → is_digit_of 16 c ≡ true → is_plain_run c ≡ true
hex_plain c h = let d = hex_digit c h in plain_of c (hex_word c d) (hex_no_power c d)

number_plain : (c : ℕ) → is_in_word c ≡ true → is_exponent c ≡ false → is_plain_number c ≡ true
unfolding is_plain_number
number_plain c h k = and_both _ _ h (ap not k)

number_word : (c : ℕ) → is_plain_number c ≡ true → is_in_word c ≡ true
unfolding is_plain_number
number_word c h = (both (is_in_word c) _ h).0

digit_plain : (c : ℕ) → is_digit c ≡ true → is_plain_number c ≡ true
digit_plain c h = number_plain c (digit_word c h) (digit_no_exponent c h)

-- each test that `_` and all digits pass is one that grouped digits pass
grouped_all : (base : ℕ) (p : ℕ → Bool) → p 95 ≡ true → ((c : ℕ) → is_digit_of base c ≡ true → p c ≡ true) → (ds : List ℕ) → grouped base ds ≡ true → list_all p ds ≡ true
grouped_all base p low each [] h = refl
grouped_all base p low each (x ∷ []) h = and_both _ _ (each x h) refl
grouped_all base p low each (x ∷ y ∷ ys) h = ⊎_elim (λ o. under o (grouped_all base p low each ys)) (λ o. plain o (grouped_all base p low each (y ∷ ys))) (chosen (x == 95) (is_digit_of base y && grouped base ys) (is_digit_of base x && grouped base (y ∷ ys)) true h)
  where
    under : ((x == 95) ≡ true) × ((is_digit_of base y && grouped base ys) ≡ true) → (grouped base ys ≡ true → list_all p ys ≡ true) → list_all p (x ∷ y ∷ ys) ≡ true
    under o rest =
        let parts = both (is_digit_of base y) (grouped base ys) o.1 in
        and_both (p x) _ (subst (λ n. p n ≡ true) (sym (eqb-true x 95 o.0)) low) (and_both (p y) _ (each y parts.0) (rest parts.1))

    plain : ((x == 95) ≡ false) × ((is_digit_of base x && grouped base (y ∷ ys)) ≡ true) → (grouped base (y ∷ ys) ≡ true → list_all p (y ∷ ys) ≡ true) → list_all p (x ∷ y ∷ ys) ≡ true
    plain o rest =
        let parts = both (is_digit_of base x) (grouped base (y ∷ ys)) o.1 in
        and_both (p x) _ (each x parts.0) (rest parts.1)

record Hex (x y : ℕ) : Type 0 where
  nought : x ≡ 48
  ex : is_x y ≡ true

begun_hex_by : (x : ℕ) (l k p h : Bool) → begun_by x l k p h ≡ HexNumber → h ≡ true
unfolding begun_by
begun_hex_by x l k p true h0 = refl
begun_hex_by x l k p false h0 =
    let h1 = (other l _ _ _ (λ e. cc) h0).1 in
    let h2 = (other k _ _ _ (λ e. cc) h1).1 in
    let g2 = (other (x == 39) _ _ _ (λ e. cc) h2).1 in
    let h3 = (other (x == 34) _ _ _ (λ e. cc) g2).1 in
    let h4 = (other (x == 96) _ _ _ (λ e. cc) h3).1 in
    let h5 = (other (is_white x) _ _ _ (λ e. cc) h4).1 in
    let h6 = (other (is_letter x) _ _ _ (λ e. cc) h5).1 in
    let h7 = (other (is_digit x || p) _ _ _ (λ e. cc) h6).1 in
    let h8 = (other (listed operators (x ∷ [])) _ _ _ (λ e. cc) h7).1 in
    cc

begun_hex : (x y : ℕ) → begun x y ≡ HexNumber → Hex x y
begun_hex x y e = let parts = both (x == 48) (is_x y) (begun_hex_by x _ _ _ _ e) in record { nought = eqb-true x 48 parts.0; ex = parts.1 }

begun_number_by : (x : ℕ) (l k p h : Bool) → begun_by x l k p h ≡ Number → h ≡ false
unfolding begun_by
begun_number_by x l k p hex h0 =
    let h1 = (other l _ _ _ (λ e. cc) h0).1 in
    let h2 = (other k _ _ _ (λ e. cc) h1).1 in
    (other hex _ _ _ (λ e. cc) h2).0

low_line_power : is_plain_run 95 ≡ true
unfolding is_plain_run is_in_run is_in_word is_letter is_power
low_line_power = refl

low_line_number : is_plain_number 95 ≡ true
unfolding is_plain_number is_in_run is_in_word is_letter is_exponent
low_line_number = refl

x_base : (y : ℕ) → is_x y ≡ true → letter_base y ≡ 16
unfolding letter_base
x_base y h = ap (λ b. cond b 16 (cond (is_b y) 2 (cond (is_o y) 8 0))) h

-- the digits of a number with the prefix 0x
hex_digits : (x : ℕ) (b : List ℕ) → is_integer (x ∷ b) ≡ true → Hex x (front b) → (is_plain_run x ≡ true) × (list_all is_plain_run b ≡ true)
hex_digits x [] h k = absurd (true_false _ k.ex zero_x)
hex_digits x (y ∷ ys) h k =
    let sixteen = x_base y k.ex in
    let nought : (x == 48) ≡ true = ap (λ n. n == 48) k.nought in
    let base : base_of (x ∷ y ∷ ys) ≡ 16 = ap (λ t. cond t (cond (letter_base y == 0) 8 (letter_base y)) 10) nought ∙ ap (λ n. cond (n == 0) 8 n) sixteen in
    let digits : digits_of (x ∷ y ∷ ys) ≡ ys = ap (λ t. cond t (cond (letter_base y == 0) (y ∷ ys) ys) (x ∷ y ∷ ys)) nought ∙ ap (λ n. cond (n == 0) (y ∷ ys) ys) sixteen in
    let grouping = (both (not (is_empty (digits_of (x ∷ y ∷ ys)))) _ (both (is_digit x) _ h).1).1 in
    let here : grouped 16 ys ≡ true = subst (λ n. grouped n ys ≡ true) base (subst (λ l. grouped (base_of (x ∷ y ∷ ys)) l ≡ true) digits grouping) in (
      plain_of x (nought_word x k.nought) (subst (λ n. is_power n ≡ false) (sym k.nought) nought_no_power),
      and_both _ _ (plain_of y (x_word y k.ex) (x_no_power y k.ex)) (grouped_all 16 is_plain_run low_line_power hex_plain ys here),
    )

-- what a letter behind a 0 is, but for x
record BaseLetter (y : ℕ) : Type 0 where
  small : letter_base y ≤ 10
  plain : is_plain_number y ≡ true

b_or_o : (y : ℕ) → is_x y ≡ false → (letter_base y == 0) ≡ false → (y ≡ 98) ⊎ ((y ≡ 66) ⊎ ((y ≡ 111) ⊎ (y ≡ 79)))
unfolding letter_base is_b is_o
b_or_o y h k = grind (arith, nat_tests)

letter_plain : (n y : ℕ) → is_plain_number n ≡ true → letter_base n ≤ 10 → y ≡ n → BaseLetter y
letter_plain n y h k e = record { small = subst (λ m. letter_base m ≤ 10) (sym e) k; plain = subst (λ m. is_plain_number m ≡ true) (sym e) h }

small_b : is_plain_number 98 ≡ true
unfolding is_plain_number is_in_run is_in_word is_letter is_exponent general_category value_in general_category_rows
small_b = refl

large_b : is_plain_number 66 ≡ true
unfolding is_plain_number is_in_run is_in_word is_letter is_exponent general_category value_in general_category_rows
large_b = refl

small_o : is_plain_number 111 ≡ true
unfolding is_plain_number is_in_run is_in_word is_letter is_exponent general_category value_in general_category_rows
small_o = refl

large_o : is_plain_number 79 ≡ true
unfolding is_plain_number is_in_run is_in_word is_letter is_exponent general_category value_in general_category_rows
large_o = refl

two_base : (letter_base 98 ≤ 10) × (letter_base 66 ≤ 10)
unfolding letter_base is_x is_b is_o
two_base = (lit≤ tt, lit≤ tt)

eight_base : (letter_base 111 ≤ 10) × (letter_base 79 ≤ 10)
unfolding letter_base is_x is_b is_o
eight_base = (lit≤ tt, lit≤ tt)

letter_of : (y : ℕ) → is_x y ≡ false → (letter_base y == 0) ≡ false → BaseLetter y
letter_of y h k = ⊎_elim (letter_plain 98 y small_b two_base.0) (⊎_elim (letter_plain 66 y large_b two_base.1) (⊎_elim (letter_plain 111 y small_o eight_base.0) (letter_plain 79 y large_o eight_base.1))) (b_or_o y h k)

small_plain : (base : ℕ) → base ≤ 10 → (c : ℕ) → is_digit_of base c ≡ true → is_plain_number c ≡ true
small_plain base low c h = digit_plain c (small_digit base c low h)

-- the digits of a number without that prefix
number_digits : (x : ℕ) (b : List ℕ) → is_integer (x ∷ b) ≡ true → (x == 48 && is_x (front b)) ≡ false → (is_plain_number x ≡ true) × (list_all is_plain_number b ≡ true)
number_digits x [] h k = (digit_plain x (both (is_digit x) _ h).0, refl)
number_digits x (y ∷ ys) h k = (digit_plain x first, by (x == 48) (letter_base y == 0) refl refl grouping)
  where
    first : is_digit x ≡ true
    first = (both (is_digit x) _ h).0

    grouping : grouped (base_of (x ∷ y ∷ ys)) (digits_of (x ∷ y ∷ ys)) ≡ true
    grouping = (both (not (is_empty (digits_of (x ∷ y ∷ ys)))) _ (both (is_digit x) _ h).1).1

    all : (base : ℕ) → base ≤ 10 → (ds : List ℕ) → grouped base ds ≡ true → list_all is_plain_number ds ≡ true
    all base low ds g = grouped_all base is_plain_number low_line_number (small_plain base low) ds g

    by : (t z : Bool) → (x == 48) ≡ t → (letter_base y == 0) ≡ z → grouped (cond t (cond z 8 (letter_base y)) 10) (cond t (cond z (y ∷ ys) ys) (x ∷ y ∷ ys)) ≡ true → list_all is_plain_number (y ∷ ys) ≡ true
    by true true e f g = all 8 (lit≤ tt) (y ∷ ys) g
    by true false e f g =
        let letter = letter_of y (not_true _ (λ i. true_false _ (and_both _ _ e i) k)) f in
        and_both _ _ letter.plain (all (letter_base y) letter.small ys g)
    by false z e f g = (both (is_plain_number x) _ (all 10 (lit≤ tt) (x ∷ y ∷ ys) g)).1

-- What a piece without a defect is.
ended_none : (b : Bool) → not (is_some (unless_lexical b)) ≡ true → b ≡ true
ended_none true h = refl
ended_none false h = cc

number_none : (e : Bool) (p : List ℕ) → not (is_some (number_defect e p)) ≡ true → is_integer p ≡ true
number_none e p h = by (is_integer p) (is_other_number e p) h
  where
    by : (i o : Bool) → not (is_some (cond i None (cond o (Some Outside) (Some Lexical)))) ≡ true → i ≡ true
    by true o h = refl
    by false true h = cc
    by false false h = cc

-- The last piece before a seam goes on to y only where its last byte joins with y, or in a line comment.
one_more : (k : PieceKind) (x : ℕ) (b : List ℕ) (y : ℕ) → begun x (front b) ≡ k → not (is_some (defect_by k (is_ended k (x ∷ b)) (x ∷ b))) ≡ true → has_shape k x (b ++ y ∷ []) ≡ true → ((k ≡ LineComment) × ((y == 10) ≡ false)) ⊎ (last_joins (x ∷ b) y ≡ true)
one_more Operator x b y e g h = inr (all_join_last x b y (listed_all all_join operators (x ∷ (b ++ y ∷ [])) operators_join h))
one_more LineComment x b y e g h =
    let last = last_step InLine b y h in
    let stays = line_stays b last.mode last.was in
    let step = some_is (goes InLine y) (subst (λ n. is_some (goes n y) ≡ true) stays last.goes_on) in
    inl (refl, (goes_line step.0 y step.1).1)
one_more BlockComment x b y e g h = absurd (ended_stops Opened b y (ended_none _ g) h)
one_more Text x b y e g h = absurd (ended_stops InText b y (both (is_ended Text (x ∷ b)) _ (ended_none _ g)).0 h)
one_more Rune x b y e g h = absurd (ended_stops InRune b y (both (is_ended Rune (x ∷ b)) _ (ended_none _ g)).0 h)
one_more RawText x b y e g h = absurd (ended_stops InRaw b y (ended_none _ g) h)
one_more Word x b y e g h =
    let last = last_step InWord b y h in
    let stays = word_stays b last.mode last.was in
    let step = some_is (goes InWord y) (subst (λ n. is_some (goes n y) ≡ true) stays.0 last.goes_on) in
    let next = (goes_word step.0 y step.1).1 in
    inr (last_of_all is_in_word y (λ z w. joins_word z y w (word_run y next)) x b (letter_word x (begun_word x _ _ _ _ e)) stays.1)
one_more Number x b y e g h =
    let digits = number_digits x b (number_none _ (x ∷ b) g) (begun_number_by x _ _ _ _ e) in
    let last = last_step (InRun false) b y h in
    let stays = run_stays b last.mode digits.1 last.was in
    let step = some_is (goes (InRun false) y) (subst (λ n. is_some (goes n y) ≡ true) stays last.goes_on) in
    let next = (goes_run step.0 y step.1).1 in
    inr (last_of_all is_plain_number y (λ z w. joins_word z y (number_word z w) next) x b digits.0 digits.1)
one_more HexNumber x b y e g h =
    let hex = begun_hex x (front b) e in
    let digits = hex_digits x b (number_none _ (x ∷ b) g) hex in
    let last = last_step (InHexRun false) b y h in
    let stays = hex_stays b last.mode digits.1 last.was in
    let step = some_is (goes (InHexRun false) y) (subst (λ n. is_some (goes n y) ≡ true) stays last.goes_on) in
    let next = (goes_hex step.0 y step.1).1 in
    inr (last_of_all is_plain_run y (λ z w. joins_word z y (plain_word z w) next) x b digits.0 digits.1)
one_more k x b y e g h = absurd (whole_stops b y h)

same_kind : (x : ℕ) (b : List ℕ) (y : ℕ) → last_joins (x ∷ b) y ≡ false → begun x (front (b ++ y ∷ [])) ≡ begun x (front b)
same_kind x [] y apart = same_begun x y apart
same_kind x (z ∷ b) y apart = refl

apart_at : (p rest : List ℕ) (y : ℕ) (ys : List ℕ) → are_apart p rest ≡ true → rest ≡ y ∷ ys → last_joins p y ≡ false
apart_at p rest y ys apart e = not_false _ (subst (λ l. are_apart p l ≡ true) e apart)

line_end_at : (rest : List ℕ) (y : ℕ) (ys : List ℕ) → is_at_line_end rest ≡ true → rest ≡ y ∷ ys → (y == 10) ≡ true
line_end_at rest y ys h e = subst (λ l. is_at_line_end l ≡ true) e h

pub dots_join : joins 46 46 ≡ true
unfolding joins is_in_run is_in_word is_letter is_digit general_category value_in general_category_rows
dots_join = refl

pub stops_last : (p rest : List ℕ) → is_piece p ≡ true → is_good p ≡ true → are_apart p rest ≡ true → (kind p ≡ LineComment → is_at_line_end rest ≡ true) → Stops p rest
stops_last [] rest h g apart line = cc
stops_last (x ∷ b) rest h g apart line = record {
  next = λ y ys e. not_true _ (λ k. on y ys e k);
  dots = λ ys e f. dots ys e f;
}
  where
    on : (y : ℕ) (ys : List ℕ) → rest ≡ y ∷ ys → is_piece (x ∷ (b ++ y ∷ [])) ≡ true → ⊥
    on y ys e k =
        let apart_here = apart_at (x ∷ b) rest y ys apart e in
        ⊎_elim
        (λ l. true_false _ (line_end_at rest y ys (line l.0) e) l.1)
        (λ j. true_false _ j apart_here)
        (one_more (begun x (front b)) x b y refl g (subst (λ n. has_shape n x (b ++ y ∷ []) ≡ true) (same_kind x b y apart_here) k))

    dots : (ys : List ℕ) → x ∷ b ≡ 46 ∷ [] → rest ≡ 46 ∷ 46 ∷ ys → ⊥
    dots ys e f = true_false _ dots_join (subst (λ l. last_joins l 46 ≡ false) e (apart_at (x ∷ b) rest 46 (46 ∷ ys) apart f))

-- A line comment goes on but for a newline.
begun_line : (x : ℕ) (l k p h : Bool) → begun_by x l k p h ≡ LineComment → l ≡ true
unfolding begun_by
begun_line x true k p hex h = refl
begun_line x false k p hex h0 =
    let h2 = (other k _ _ _ (λ e. cc) h0).1 in
    let g1 = (other hex _ _ _ (λ e. cc) h2).1 in
    let g2 = (other (x == 39) _ _ _ (λ e. cc) g1).1 in
    let h3 = (other (x == 34) _ _ _ (λ e. cc) g2).1 in
    let h4 = (other (x == 96) _ _ _ (λ e. cc) h3).1 in
    let h5 = (other (is_white x) _ _ _ (λ e. cc) h4).1 in
    let h6 = (other (is_letter x) _ _ _ (λ e. cc) h5).1 in
    let h7 = (other (is_digit x || p) _ _ _ (λ e. cc) h6).1 in
    let h8 = (other (listed operators (x ∷ [])) _ _ _ (λ e. cc) h7).1 in
    cc

line_on : (y : ℕ) → (y == 10) ≡ false → goes InLine y ≡ Some InLine
unfolding goes
line_on y n = ap (λ b. cond b None (Some InLine)) n

pub comment_goes : (x : ℕ) (b : List ℕ) (y : ℕ) → begun x (front b) ≡ LineComment → is_piece (x ∷ b) ≡ true → (y == 10) ≡ false → is_piece (x ∷ (b ++ y ∷ [])) ≡ true
comment_goes x [] y e h n = absurd (no_true (both (x == 47) false (begun_line x _ _ _ _ e)).1)
comment_goes x (z ∷ b) y e h n =
    let shape : is_some (after InLine (z ∷ b)) ≡ true = subst (λ k. has_shape k x (z ∷ b) ≡ true) e h in
    let step = some_is (after InLine (z ∷ b)) shape in
    let stays : step.0 ≡ InLine = line_stays (z ∷ b) step.0 step.1 in
    let on : after InLine ((z ∷ b) ++ y ∷ []) ≡ Some InLine =
    after_then (z ∷ b) (y ∷ []) InLine
    ∙ ap (λ o. option_and_then (λ m. after m (y ∷ [])) o) (step.1 ∙ ap (λ m. Some m) stays)
    ∙ ap (λ o. option_and_then (λ m. Some m) o) (line_on y n) in
    subst (λ k. has_shape k x (z ∷ (b ++ y ∷ [])) ≡ true) (sym e) (ap (λ o. is_some o) on)
