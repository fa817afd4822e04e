-- A piece goes on from byte to byte: how far it reaches depends on the bytes up to the first that cannot continue it.
use Rattle.std.proofs.Common.{◌≡◌, ℕ, ◌⊎◌, ⊎_elim, Bool, true, false, ◌&&◌, ◌||◌, ◌==◌, List, [], ◌∷◌, ◌++◌, length, length-append, Option, Some, None, is_some, refl, sym, ap, ◌∙◌, subst, inl, inr, arith, eqb-true}
use Rattle.std.specs.Option.{option_and_then}
use Rattle.std.specs.List.{list_all}
use Rattle.ucd_category.specs.GeneralCategory.{general_category}
use Rattle.ucd_category.specs.GeneralCategoryRows.{general_category_rows}
use Rattle.ucd_table.specs.Rows.{value_in}
use Rattle.go_tokens.specs.declared.piece.PieceKind.{PieceKind}
use Rattle.go_tokens.specs.declared.piece.PieceKind.TheVariants.{Operator}
use Rattle.go_tokens.specs.declared.piece.Mode.{Mode}
use Rattle.go_tokens.specs.Characters.{is_white, is_letter, is_digit}
use Rattle.go_tokens.specs.Spellings.{punctuation, outside_operators, operators, listed}
use Rattle.go_tokens.specs.Pieces.{after, goes, begins, begun, begun_by, has_shape, is_piece}
use Rattle.go_tokens.specs.Lexing.{IsLongest}
use Rattle.go_tokens.proofs.Lists.{both, either, not_true, listed_all, Beyond, split}

after_step : (xs ys : List ℕ) → ((n : Mode) → is_some (after n (xs ++ ys)) ≡ true → is_some (after n xs) ≡ true) → (o : Option Mode) → is_some (option_and_then (λ n. after n (xs ++ ys)) o) ≡ true → is_some (option_and_then (λ n. after n xs) o) ≡ true
after_step xs ys each None h = cc
after_step xs ys each (Some n) h = each n h

-- what goes on over a text goes on over its front
pub after_front : (xs ys : List ℕ) (m : Mode) → is_some (after m (xs ++ ys)) ≡ true → is_some (after m xs) ≡ true
after_front [] ys m h = refl
after_front (x ∷ xs) ys m h = after_step xs ys (after_front xs ys) (goes m x) h

-- two dots of `...`
pub record Dots (b : List ℕ) (y : ℕ) (ys : List ℕ) : Type 0 where
  pub first : b ≡ 46 ∷ []
  pub second : y ≡ 46
  pub third : ys ≡ 46 ∷ []

-- an operator of three has one of two before it, or is `...`, and none has more
abbrev pub has_fronts : List ℕ → Bool
has_fronts [] = true
has_fronts (x ∷ []) = true
has_fronts (x ∷ y ∷ []) = true
has_fronts (x ∷ y ∷ z ∷ []) = listed operators (x ∷ y ∷ []) || (x == 46 && (y == 46 && z == 46))
has_fronts (x ∷ y ∷ z ∷ w ∷ ws) = false

all_have_fronts : list_all has_fronts operators ≡ true
unfolding operators punctuation outside_operators
all_have_fronts = refl

pub has_front : (w : List ℕ) → listed operators w ≡ true → has_fronts w ≡ true
has_front w h = listed_all has_fronts operators w all_have_fronts h

operator_front : (x : ℕ) (b : List ℕ) (y : ℕ) (ys : List ℕ) → listed operators (x ∷ (b ++ y ∷ ys)) ≡ true → (listed operators (x ∷ (b ++ y ∷ [])) ≡ true) ⊎ Dots (x ∷ b) y ys
operator_front x [] y [] h = inl h
operator_front x [] y (z ∷ []) h = ⊎_elim (λ l. inl l) (λ d. inr (dots (both _ _ d))) (either _ _ (has_front (x ∷ y ∷ z ∷ []) h))
  where
    dots : (x == 46 ≡ true) × ((y == 46 && z == 46) ≡ true) → Dots (x ∷ []) y (z ∷ [])
    dots d = let e = eqb-true x 46 d.0 in let rest = both _ _ d.1 in let f = eqb-true y 46 rest.0 in let g = eqb-true z 46 rest.1 in record { first = cc; second = f; third = cc }
operator_front x [] y (z ∷ w ∷ ws) h = let no_long : has_fronts (x ∷ y ∷ z ∷ w ∷ ws) ≡ true = has_front _ h in cc
operator_front x (z ∷ []) y [] h = inl h
operator_front x (z ∷ []) y (w ∷ ws) h = let no_long : has_fronts (x ∷ z ∷ y ∷ w ∷ ws) ≡ true = has_front _ h in cc
operator_front x (z ∷ w ∷ []) y ys h = let no_long : has_fronts (x ∷ z ∷ w ∷ y ∷ ys) ≡ true = has_front _ h in cc
operator_front x (z ∷ w ∷ v ∷ b) y ys h = let no_long : has_fronts (x ∷ z ∷ w ∷ v ∷ (b ++ y ∷ ys)) ≡ true = has_front _ h in cc

append_one : (b : List ℕ) (y : ℕ) (ys : List ℕ) → b ++ y ∷ ys ≡ (b ++ y ∷ []) ++ ys
append_one [] y ys = refl
append_one (x ∷ b) y ys = ap (λ l. x ∷ l) (append_one b y ys)

after_one : (m : Mode) (b : List ℕ) (y : ℕ) (ys : List ℕ) → is_some (after m (b ++ y ∷ ys)) ≡ true → is_some (after m (b ++ y ∷ [])) ≡ true
after_one m b y ys h = after_front (b ++ y ∷ []) ys m (subst (λ l. is_some (after m l) ≡ true) (append_one b y ys) h)

shape_front : (k : PieceKind) (x : ℕ) (b : List ℕ) (y : ℕ) (ys : List ℕ) → has_shape k x (b ++ y ∷ ys) ≡ true → (has_shape k x (b ++ y ∷ []) ≡ true) ⊎ Dots (x ∷ b) y ys
shape_front Operator x b y ys h = operator_front x b y ys h
shape_front k x b y ys h = inl (after_one (begins k) b y ys h)

-- What is longer than a piece has a piece that is one byte longer at its front, but for `...`
pub piece_front : (b : List ℕ) (y : ℕ) (ys : List ℕ) → is_piece b ≡ true → is_piece (b ++ y ∷ ys) ≡ true → (is_piece (b ++ y ∷ []) ≡ true) ⊎ Dots b y ys
piece_front [] y ys h k = cc
piece_front (x ∷ []) y ys h k = shape_front (begun x y) x [] y ys k
piece_front (x ∷ z ∷ b) y ys h k = shape_front (begun x z) x (z ∷ b) y ys k

-- The next byte is not part of the piece. This depends on the two bytes behind it alone.
pub record Stops (p rest : List ℕ) : Type 0 where
  pub next : (y : ℕ) (ys : List ℕ) → rest ≡ y ∷ ys → is_piece (p ++ y ∷ []) ≡ false
  pub dots : (ys : List ℕ) → p ≡ 46 ∷ [] → rest ≡ 46 ∷ 46 ∷ ys → ⊥

pub dots_piece : is_piece (46 ∷ 46 ∷ 46 ∷ []) ≡ true
unfolding operators punctuation outside_operators begun_by is_white is_letter is_digit general_category value_in general_category_rows
dots_piece = refl

pub longest_stops : (p rest : List ℕ) → IsLongest p rest → Stops p rest
longest_stops p rest longest = record {
  next = λ y ys e. not_true _ (λ h. longer y ys e h);
  dots = λ ys e f. three ys e f;
}
  where
    longer : (y : ℕ) (ys : List ℕ) → rest ≡ y ∷ ys → is_piece (p ++ y ∷ []) ≡ true → ⊥
    longer y ys e h =
        let le = longest.by (p ++ y ∷ []) ys (sym (append_one p y ys) ∙ ap (λ l. p ++ l) (sym e)) h in
        omega (arith, le, length-append p (y ∷ []))

    three : (ys : List ℕ) → p ≡ 46 ∷ [] → rest ≡ 46 ∷ 46 ∷ ys → ⊥
    three ys e f =
        let le = longest.by (46 ∷ 46 ∷ 46 ∷ []) ys (cc) dots_piece in
        let one : length p ≡ 1 = ap length e in
        omega (arith, le, one)

pub stops_longest : (p rest : List ℕ) → is_piece p ≡ true → Stops p rest → IsLongest p rest
stops_longest p rest piece stops = record { by = λ longer others e h. ⊎_elim (λ le. le) (λ more. absurd (no_more longer others h more)) (split longer others p rest e) }
  where
    no_more : (longer others : List ℕ) → is_piece longer ≡ true → Beyond longer others p rest → ⊥
    no_more longer others h more =
        let big : is_piece (p ++ more.y ∷ more.ys) ≡ true = subst (λ l. is_piece l ≡ true) more.is h in
        ⊎_elim
        (λ one. let none = stops.next more.y _ more.in_rest in cc)
        (λ three. stops.dots others three.first (more.in_rest ∙ (let second = three.second in let third = three.third in cc)))
        (piece_front p more.y more.ys piece big)
