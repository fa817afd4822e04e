-- The tokens that the text of a function without parameters begins with.
use Rattle.std.proofs.Common.{◌≡◌, ◌∙◌, ℕ, ◌≤◌, true, false, List, [], ◌∷◌, ◌++◌, append-nil, codes, length, Some, refl, sym, ap, subst, arith}
use Rattle.std.specs.Prelude.{slice_get}
use Rattle.std.specs.Char.{encode_utf8}
use Rattle.std.proofs.lemmas.List.{length-append}
use Rattle.ucd_category.specs.GeneralCategory.{general_category}
use Rattle.ucd_category.specs.GeneralCategoryRows.{general_category_rows}
use Rattle.ucd_table.specs.Rows.{value_in}
use Rattle.go_base.specs.declared.Span.{Span}
use Rattle.go_tokens.specs.declared.token.Token.{Token}
use Rattle.go_tokens.specs.declared.token.TokenKind.TheVariants as token
use Rattle.go_tokens.specs.Characters.{is_white, is_letter, is_digit, is_in_word, is_in_run, is_exponent, is_power, is_sign, is_x}
use Rattle.go_tokens.specs.Lexing.{join, width, span, Cut, Lexes}
use Rattle.go_tokens.specs.Lexing as lexing
use Rattle.go_tokens.specs.Pieces.{begun_by, goes, is_piece}
use Rattle.go_tokens.specs.Spellings.{keywords, punctuation, outside_operators, operators}

-- ---- the first piece of a cutting

-- a longer front of the same text
longer : (w a p b : List ℕ) → w ++ a ≡ p ++ b → length w ≤ length p → (q : List ℕ) × (p ≡ w ++ q) × (a ≡ q ++ b)
longer [] a p b e le = (p, refl, e)
longer (x ∷ w) a [] b e le = absurd (omega (arith, le))
longer (x ∷ w) a (y ∷ p) b e le =
    let tails : w ++ a ≡ p ++ b = cc in
    let heads : y ≡ x = cc in
    let r = longer w a p b tails (omega (arith, le)) in
    (r.0, (λ j. heads j ∷ r.1 j), r.2)

-- A piece that a character stands behind with which it is none.
record Ends (w : List ℕ) (y : ℕ) : Type 0 where
  piece : is_piece w ≡ true
  none : (q : List ℕ) → is_piece (w ++ (y ∷ q)) ≡ false

-- the other pieces
record Others (ps : List (List ℕ)) (w text : List ℕ) : Type 0 where
  others : List (List ℕ)
  is : ps ≡ w ∷ others
  cut : Cut others []
  joined : join others ≡ text

first_piece : (w : List ℕ) (y : ℕ) (r : List ℕ) → Ends w y → (ps : List (List ℕ)) → Cut ps [] → join ps ≡ w ++ (y ∷ r) → Others ps w (y ∷ r)
first_piece w y r h [] c e = let n : 0 ≡ length (w ++ (y ∷ r)) = ap length e in absurd (omega (arith, n, length-append w (y ∷ r)))
first_piece w y r h (p ∷ ps) c e =
    let least : length w ≤ length p = c.1.by w (y ∷ r) (sym e ∙ ap (λ l. p ++ l) (sym (append-nil (join ps)))) h.piece in
    let l = longer w (y ∷ r) p (join ps) (sym e) least in
    by l.0 l.1 l.2
  where
    by : (q : List ℕ) → p ≡ w ++ q → y ∷ r ≡ q ++ join ps → Others (p ∷ ps) w (y ∷ r)
    by [] a b = record { others = ps; is = ap (λ x. x ∷ ps) (a ∙ append-nil w); cut = c.2; joined = sym b }
    by (z ∷ q) a b =
        let same : z ≡ y = cc in
        let piece : is_piece (w ++ (y ∷ q)) ≡ true = subst (λ x. is_piece (w ++ (x ∷ q)) ≡ true) same (subst (λ x. is_piece x ≡ true) a c.0) in
        let none = h.none q in
        absurd cc

-- ---- `func x()` behind a newline

newline_ends : Ends (codes "\n") 102
unfolding begun_by is_white is_letter is_digit is_in_word is_in_run is_exponent is_power is_sign is_x goes operators punctuation outside_operators keywords general_category value_in general_category_rows
newline_ends = record { piece = refl; none = λ q. refl }

func_ends : Ends (codes "func") 32
unfolding begun_by is_white is_letter is_digit is_in_word is_in_run is_exponent is_power is_sign is_x goes operators punctuation outside_operators keywords general_category value_in general_category_rows
func_ends = record { piece = refl; none = λ q. refl }

blank_ends : Ends (codes " ") 120
unfolding begun_by is_white is_letter is_digit is_in_word is_in_run is_exponent is_power is_sign is_x goes operators punctuation outside_operators keywords general_category value_in general_category_rows
blank_ends = record { piece = refl; none = λ q. refl }

name_ends : Ends (codes "x") 40
unfolding begun_by is_white is_letter is_digit is_in_word is_in_run is_exponent is_power is_sign is_x goes operators punctuation outside_operators keywords general_category value_in general_category_rows
name_ends = record { piece = refl; none = λ q. refl }

open_ends : Ends (codes "(") 41
unfolding begun_by is_white is_letter is_digit is_in_word is_in_run is_exponent is_power is_sign is_x goes operators punctuation outside_operators keywords general_category value_in general_category_rows
open_ends = record { piece = refl; none = λ q. refl }

close_ends : Ends (codes ")") 32
unfolding begun_by is_white is_letter is_digit is_in_word is_in_run is_exponent is_power is_sign is_x goes operators punctuation outside_operators keywords general_category value_in general_category_rows
close_ends = record { piece = refl; none = λ q. refl }

-- The word `func` and the closing parenthesis at their places.
pub record Fronted (file : ℕ) (ts : List Token) : Type 0 where
  pub func : slice_get ts 0 ≡ Some (lexing.token file token.Func 1 4)
  pub close : slice_get ts 3 ≡ Some (lexing.token file token.RightParenthesis 8 1)

abbrev pieces_with : List (List ℕ) → List (List ℕ)
pieces_with ps = codes "\n" ∷ codes "func" ∷ codes " " ∷ codes "x" ∷ codes "(" ∷ codes ")" ∷ ps

tokens_with : (file : ℕ) (ps : List (List ℕ)) → Fronted file (lexing.tokens file 0 (pieces_with ps) true)
unfolding width span begun_by is_white is_letter is_digit is_in_word is_in_run is_exponent is_power is_sign is_x goes operators punctuation outside_operators keywords general_category value_in general_category_rows encode_utf8
tokens_with file ps = record { func = refl; close = refl }

-- of a text that begins so
pub fronted : (file : ℕ) (r text : List ℕ) (ts : List Token) (cs : List Span) → Lexes file text ts cs → text ≡ codes "\nfunc x() " ++ r → Fronted file ts
fronted file r text ts cs l e =
    let a = first_piece (codes "\n") 102 (codes "unc x() " ++ r) newline_ends l.pieces l.cut (l.whole ∙ e) in
    let b = first_piece (codes "func") 32 (codes "x() " ++ r) func_ends a.others a.cut a.joined in
    let c = first_piece (codes " ") 120 (codes "() " ++ r) blank_ends b.others b.cut b.joined in
    let d = first_piece (codes "x") 40 (codes ") " ++ r) name_ends c.others c.cut c.joined in
    let f = first_piece (codes "(") 41 (codes " " ++ r) open_ends d.others d.cut d.joined in
    let g = first_piece (codes ")") 32 r close_ends f.others f.cut f.joined in
    let all : l.pieces ≡ pieces_with g.others =
    a.is ∙ ap (λ x. codes "\n" ∷ x) (b.is ∙ ap (λ x. codes "func" ∷ x) (c.is ∙ ap (λ x. codes " " ∷ x) (d.is ∙ ap (λ x. codes "x" ∷ x) (f.is ∙ ap (λ x. codes "(" ∷ x) g.is)))) in
    subst (Fronted file) (sym (l.spelled ∙ ap (λ x. lexing.tokens file 0 x true) all)) (tokens_with file g.others)
