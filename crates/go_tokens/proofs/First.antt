-- The piece that a text begins with.
use Rattle.std.proofs.Common.{◌≡◌, cond, ℕ, zero, suc, ◌+◌, ◌<◌, Bool, true, false, ◌&&◌, ◌||◌, ◌==◌, List, [], ◌∷◌, ◌++◌, length, get_or, take, drop, Some, None, is_some, refl, sym, ap, ◌∙◌, subst, arith, eqb-true}
use Rattle.std.proofs.lemmas.List.{take-append-drop, take_more}
use Rattle.std.specs.Option.{option_and_then}
use Rattle.ucd_category.specs.GeneralCategory.{general_category}
use Rattle.ucd_category.specs.GeneralCategoryRows.{general_category_rows}
use Rattle.ucd_table.specs.Rows.{value_in}
use Rattle.go_tokens.specs.declared.piece.PieceKind.TheVariants.{HexNumber}
use Rattle.go_tokens.specs.declared.piece.Mode.TheVariants.{InHexRun}
use Rattle.go_tokens.specs.Characters.{is_x}
use Rattle.go_tokens.proofs.Seams.{x_run}
use Rattle.go_tokens.specs.declared.piece.PieceKind.{PieceKind}
use Rattle.go_tokens.specs.declared.piece.PieceKind.TheVariants.{LineComment, BlockComment, Number, Operator, Stray}
use Rattle.go_tokens.specs.declared.piece.Mode.{Mode}
use Rattle.go_tokens.specs.declared.piece.Mode.TheVariants.{InLine, Opened, InRun}
use Rattle.go_tokens.specs.Characters.{is_white, is_letter, is_digit}
use Rattle.go_tokens.specs.Spellings.{punctuation, outside_operators, operators, listed}
use Rattle.go_tokens.specs.Pieces.{after, goes, begins, begun, begun_by, front, has_shape, is_piece, is_ended, defect_by, defect, is_end, Reaches, IsOperatorLength}
use Rattle.go_tokens.specs.Lexing.{IsFirst}
use Rattle.go_tokens.proofs.Lists.{both, not_true, true_false}
use Rattle.go_tokens.proofs.Shapes.{stops_longest, has_fronts, has_front}
use Rattle.go_tokens.proofs.Seams.{other, after_then, digit_run, and_second}

-- A first byte alone opens what it opens before a byte that is not part of it.
line_goes : goes InLine 47 ≡ Some InLine
unfolding goes
line_goes = refl

opened_goes : (y : ℕ) → goes Opened y ≡ None → ⊥
unfolding goes
opened_goes y h = cc

point_number : begun_by 46 false false true false ≡ Number
unfolding begun_by is_white is_letter is_digit general_category value_in general_category_rows
point_number = refl

run_goes : (y : ℕ) → is_digit y ≡ true → goes (InRun false) y ≡ None → ⊥
unfolding goes
run_goes y h k = let r = digit_run y h in cc

line_kind : (x : ℕ) (b p h : Bool) → begun_by x true b p h ≡ LineComment
unfolding begun_by
line_kind x b p h = refl

block_kind : (x : ℕ) (p h : Bool) → begun_by x false true p h ≡ BlockComment
unfolding begun_by
block_kind x p h = refl

alone_by : (x : ℕ) (l b p h : Bool) → l ≡ false → b ≡ false → p ≡ false → h ≡ false → begun_by x l b p h ≡ begun x 0
unfolding is_digit is_x
alone_by x l b p h e f g i =
    ap (λ t. begun_by x t b p h) (e ∙ sym (and_second (x == 47) false refl))
    ∙ ap (λ t. begun_by x (x == 47 && false) t p h) (f ∙ sym (and_second (x == 47) false refl))
    ∙ ap (λ t. begun_by x (x == 47 && false) (x == 47 && false) t h) (g ∙ sym (and_second (x == 46) false refl))
    ∙ ap (λ t. begun_by x (x == 47 && false) (x == 47 && false) (x == 46 && false) t) (i ∙ sym (and_second (x == 48) false refl))

hex_kind : (y : ℕ) → begun_by 48 false false false true ≡ HexNumber
unfolding begun_by
hex_kind y = refl

hex_goes : (y : ℕ) → is_x y ≡ true → goes (InHexRun false) y ≡ None → ⊥
unfolding goes
hex_goes y h k = let r = x_run y h in cc

alone : (x y : ℕ) (k : PieceKind) → begun x y ≡ k → goes (begins k) y ≡ None → begun x 0 ≡ k
alone x y k e h = sym (alone_by x _ _ _ _ (not_true _ no_line) (not_true _ no_block) (not_true _ no_point) (not_true _ no_hex)) ∙ e
  where
    no_line : (x == 47 && y == 47) ≡ true → ⊥
    no_line t =
        let is : k ≡ LineComment = sym e ∙ ap (λ b. begun_by x b (x == 47 && y == 42) (x == 46 && is_digit y) (x == 48 && is_x y)) t ∙ line_kind x _ _ _ in
        let none : goes InLine y ≡ None = subst (λ n. goes (begins n) y ≡ None) is h in
        let here : goes InLine 47 ≡ None = subst (λ n. goes InLine n ≡ None) (eqb-true y 47 (both (x == 47) _ t).1) none in
        let there = line_goes in
        cc

    no_block : (x == 47 && y == 42) ≡ true → ⊥
    no_block t =
        let star : y ≡ 42 = eqb-true y 42 (both (x == 47) _ t).1 in
        let no_l : (x == 47 && y == 47) ≡ false = subst (λ n. (x == 47 && n == 47) ≡ false) (sym star) (and_second (x == 47) false refl) in
        let is : k ≡ BlockComment = sym e ∙ ap (λ b. begun_by x b (x == 47 && y == 42) (x == 46 && is_digit y) (x == 48 && is_x y)) no_l ∙ ap (λ b. begun_by x false b (x == 46 && is_digit y) (x == 48 && is_x y)) t ∙ block_kind x _ _ in
        opened_goes y (subst (λ n. goes (begins n) y ≡ None) is h)

    no_point : (x == 46 && is_digit y) ≡ true → ⊥
    no_point t =
        let dot : x ≡ 46 = eqb-true x 46 (both (x == 46) _ t).0 in
        let digit = (both (x == 46) (is_digit y) t).1 in
        let here : begun_by 46 (46 == 47 && y == 47) (46 == 47 && y == 42) true (46 == 48 && is_x y) ≡ k = subst (λ n. begun_by n (n == 47 && y == 47) (n == 47 && y == 42) true (n == 48 && is_x y) ≡ k) dot (ap (λ b. begun_by x (x == 47 && y == 47) (x == 47 && y == 42) b (x == 48 && is_x y)) (sym t) ∙ e) in
        let is : k ≡ Number = sym here ∙ point_number in
        run_goes y digit (subst (λ n. goes (begins n) y ≡ None) is h)

    no_hex : (x == 48 && is_x y) ≡ true → ⊥
    no_hex t =
        let nought : x ≡ 48 = eqb-true x 48 (both (x == 48) _ t).0 in
        let ex = (both (x == 48) (is_x y) t).1 in
        let here : begun_by 48 (48 == 47 && y == 47) (48 == 47 && y == 42) (48 == 46 && is_digit y) true ≡ k = subst (λ n. begun_by n (n == 47 && y == 47) (n == 47 && y == 42) (n == 46 && is_digit y) true ≡ k) nought (ap (begun_by x (x == 47 && y == 47) (x == 47 && y == 42) (x == 46 && is_digit y)) (sym t) ∙ e) in
        let is : k ≡ HexNumber = sym here ∙ hex_kind y in
        hex_goes y ex (subst (λ n. goes (begins n) y ≡ None) is h)

kind_kept : (x : ℕ) (xs : List ℕ) (k : PieceKind) (n : ℕ) (m : Mode) → begun x (front xs) ≡ k → Reaches (begins k) xs n m → begun x (front (take n xs)) ≡ k
kind_kept x [] k zero m e r = e
kind_kept x [] k (suc n) m e r = e
kind_kept x (y ∷ ys) k zero m e r = alone x y k e (let here : begins k ≡ m = let on = r.on in cc in subst (λ n. goes n y ≡ None) (sym here) (r.stops y ys refl))
kind_kept x (y ∷ ys) k (suc n) m e r = e

shape_is : (k : PieceKind) (x : ℕ) (q : List ℕ) → (k ≡ Operator → ⊥) → has_shape k x q ≡ is_some (after (begins k) q)
shape_is Operator x q h = absurd (h refl)
shape_is k x q h = refl

front_seam : (q : List ℕ) (y : ℕ) (ys : List ℕ) → front (q ++ y ∷ []) ≡ front (q ++ y ∷ ys)
front_seam [] y ys = refl
front_seam (z ∷ q) y ys = refl

dots_kind : begun 46 46 ≡ Operator
unfolding begun_by is_white is_letter is_digit operators punctuation outside_operators general_category value_in general_category_rows
dots_kind = refl

ended_by : (k : PieceKind) (x : ℕ) (q : List ℕ) (m : Mode) → after (begins k) q ≡ Some m → is_ended k (x ∷ q) ≡ is_end (Some m)
ended_by k x q m e = ap is_end e

pub first_other : (text : List ℕ) (k : PieceKind) (n : ℕ) (m : Mode) (ended : Bool) → 0 < length text → begun (front text) (front (drop 1 text)) ≡ k → (k ≡ Operator → ⊥) → Reaches (begins k) (drop 1 text) n m → ended ≡ is_end (Some m) → IsFirst text k (suc n) ended
first_other [] k n m ended some e differs r g = absurd (omega (arith, some))
first_other (x ∷ xs) k n m ended some e differs r g = record {
  some = omega arith;
  within = omega (arith, r.within);
  kind_is = is;
  piece = piece;
  longest = stops_longest (x ∷ take n xs) (drop n xs) piece (record { next = next; dots = dots });
  judged = ap (λ l. defect_by l (is_ended l (x ∷ take n xs)) (x ∷ take n xs)) is ∙ ap (λ b. defect_by k b (x ∷ take n xs)) (ended_by k x (take n xs) m r.on ∙ sym g);
}
  where
    is : begun x (front (take n xs)) ≡ k
    is = kind_kept x xs k n m e r

    piece : is_piece (x ∷ take n xs) ≡ true
    piece = subst (λ l. has_shape l x (take n xs) ≡ true) (sym is) (shape_is k x (take n xs) differs ∙ ap (λ o. is_some o) r.on)

    next : (y : ℕ) (ys : List ℕ) → drop n xs ≡ y ∷ ys → is_piece (x ∷ (take n xs ++ y ∷ [])) ≡ false
    next y ys f =
        let whole : take n xs ++ y ∷ ys ≡ xs = ap (λ l. take n xs ++ l) (sym f) ∙ take-append-drop n xs in
        let same : begun x (front (take n xs ++ y ∷ [])) ≡ k = ap (begun x) (front_seam (take n xs) y ys ∙ ap front whole) ∙ e in
        let on : after (begins k) (take n xs ++ y ∷ []) ≡ None =
        after_then (take n xs) (y ∷ []) (begins k)
        ∙ ap (λ o. option_and_then (λ i. after i (y ∷ [])) o) r.on
        ∙ ap (λ o. option_and_then (λ i. Some i) o) (r.stops y ys f) in
        subst (λ l. has_shape l x (take n xs ++ y ∷ []) ≡ false) (sym same) (shape_is k x (take n xs ++ y ∷ []) differs ∙ ap (λ o. is_some o) on)

    dots : (ys : List ℕ) → x ∷ take n xs ≡ 46 ∷ [] → drop n xs ≡ 46 ∷ 46 ∷ ys → ⊥
    dots ys f h =
        let dot : x ≡ 46 = cc in
        let none : take n xs ≡ [] = cc in
        let whole : 46 ∷ 46 ∷ ys ≡ xs = sym h ∙ ap (λ l. l ++ drop n xs) (sym none) ∙ take-append-drop n xs in
        differs (sym e ∙ ap (λ i. begun i (front xs)) dot ∙ ap (λ l. begun 46 (front l)) (sym whole) ∙ dots_kind)

-- What is known where an operator begins.
record Opens (x : ℕ) (l b p h : Bool) : Type 0 where
  no_hex : h ≡ false
  no_line : l ≡ false
  no_block : b ≡ false
  no_point : p ≡ false
  single : listed operators (x ∷ []) ≡ true

or_parts : (a b : Bool) → (a || b) ≡ false → b ≡ false
or_parts true b h = cc
or_parts false b h = h

opens : (x : ℕ) (l b p h : Bool) → begun_by x l b p h ≡ Operator → Opens x l b p h
unfolding begun_by
opens x l b p hex h0 =
    let h1 = other l _ _ _ (λ e. cc) h0 in
    let h2 = other b _ _ _ (λ e. cc) h1.1 in
    let g1 = other hex _ _ _ (λ e. cc) h2.1 in
    let g2 = other (x == 39) _ _ _ (λ e. cc) g1.1 in
    let h3 = other (x == 34) _ _ _ (λ e. cc) g2.1 in
    let h4 = other (x == 96) _ _ _ (λ e. cc) h3.1 in
    let h5 = other (is_white x) _ _ _ (λ e. cc) h4.1 in
    let h6 = other (is_letter x) _ _ _ (λ e. cc) h5.1 in
    let h7 = other (is_digit x || p) _ _ _ (λ e. cc) h6.1 in
    record { no_hex = g1.0; no_line = h1.0; no_block = h2.0; no_point = or_parts (is_digit x) p h7.0; single = not_stray _ h7.1 }
  where
    not_stray : (t : Bool) → cond t Operator Stray ≡ Operator → t ≡ true
    not_stray true h = refl
    not_stray false h = cc

dots_listed : listed operators (46 ∷ 46 ∷ 46 ∷ []) ≡ true
unfolding operators punctuation outside_operators
dots_listed = refl

operator_shape : (x : ℕ) (q : List ℕ) (b : Bool) → begun x (front q) ≡ Operator → listed operators (x ∷ q) ≡ b → is_piece (x ∷ q) ≡ b
operator_shape x q b e h = subst (λ k. has_shape k x q ≡ b) (sym e) h

operator_judged : (x : ℕ) (q : List ℕ) (ended : Bool) → begun x (front q) ≡ Operator → defect (x ∷ q) ≡ defect_by Operator ended (x ∷ q)
operator_judged x q ended e = ap (λ k. defect_by k (is_ended k (x ∷ q)) (x ∷ q)) e

no_four : (x y z w : ℕ) → listed operators (x ∷ y ∷ z ∷ w ∷ []) ≡ false
no_four x y z w = not_true _ (λ h. let long = has_front (x ∷ y ∷ z ∷ w ∷ []) h in let short : has_fronts (x ∷ y ∷ z ∷ w ∷ []) ≡ true = long in cc)

pub first_operator : (text : List ℕ) (n : ℕ) → 0 < length text → begun (front text) (front (drop 1 text)) ≡ Operator → IsOperatorLength text n → IsFirst text Operator n true
first_operator [] n some e r = absurd (omega (arith, some))
first_operator (x ∷ xs) zero some e r = absurd (omega (arith, r.some))
first_operator (x ∷ xs) (suc zero) some e r = record {
  some = omega arith;
  within = r.within;
  kind_is = is;
  piece = piece;
  longest = stops_longest (x ∷ []) xs piece (record { next = λ y ys f. next y ys f; dots = λ ys f g. dots ys f g });
  judged = operator_judged x [] true is;
}
  where
    opened : Opens x (x == 47 && front xs == 47) (x == 47 && front xs == 42) (x == 46 && is_digit (front xs)) (x == 48 && is_x (front xs))
    opened = opens x _ _ _ _ e

    is : begun x 0 ≡ Operator
    is = sym (alone_by x _ _ _ _ opened.no_line opened.no_block opened.no_point opened.no_hex) ∙ e

    piece : is_piece (x ∷ []) ≡ true
    piece = operator_shape x [] true is opened.single

    next : (y : ℕ) (ys : List ℕ) → xs ≡ y ∷ ys → is_piece (x ∷ y ∷ []) ≡ false
    next y ys f = operator_shape x (y ∷ []) false (ap (λ l. begun x (front l)) (sym f) ∙ e) (subst (λ l. listed operators (take 2 (x ∷ l)) ≡ false) f (r.no_two refl (let two : length xs ≡ suc (length ys) = ap length f in omega (arith, two))))

    dots : (ys : List ℕ) → x ∷ [] ≡ 46 ∷ [] → xs ≡ 46 ∷ 46 ∷ ys → ⊥
    dots ys f g =
        let dot : x ≡ 46 = cc in
        let none : listed operators (take 3 (x ∷ xs)) ≡ false = r.no_three (λ h. absurd (omega (arith, h))) (let two : length xs ≡ suc (suc (length ys)) = ap length g in omega (arith, two)) in
        let here : listed operators (46 ∷ 46 ∷ 46 ∷ []) ≡ false = subst (λ l. listed operators (take 3 l) ≡ false) (let same : x ∷ xs ≡ 46 ∷ 46 ∷ 46 ∷ ys = cc in same) none in
        true_false _ dots_listed here
first_operator (x ∷ []) (suc (suc n)) some e r = absurd (omega (arith, r.within))
first_operator (x ∷ y ∷ ys) (suc (suc zero)) some e r = record {
  some = omega arith;
  within = r.within;
  kind_is = e;
  piece = piece;
  longest = stops_longest (x ∷ y ∷ []) ys piece (record { next = λ z zs f. next z zs f; dots = λ zs f g. cc });
  judged = operator_judged x (y ∷ []) true e;
}
  where
    piece : is_piece (x ∷ y ∷ []) ≡ true
    piece = operator_shape x (y ∷ []) true e (r.listed_or_one (λ h. absurd (omega (arith, h))))

    next : (z : ℕ) (zs : List ℕ) → ys ≡ z ∷ zs → is_piece (x ∷ y ∷ z ∷ []) ≡ false
    next z zs f = operator_shape x (y ∷ z ∷ []) false e (subst (λ l. listed operators (take 3 (x ∷ y ∷ l)) ≡ false) f (r.no_three (λ h. absurd (omega (arith, h))) (let two : length ys ≡ suc (length zs) = ap length f in omega (arith, two))))
first_operator (x ∷ y ∷ []) (suc (suc (suc n))) some e r = absurd (omega (arith, r.within))
first_operator (x ∷ y ∷ z ∷ zs) (suc (suc (suc zero))) some e r = record {
  some = omega arith;
  within = r.within;
  kind_is = e;
  piece = piece;
  longest = stops_longest (x ∷ y ∷ z ∷ []) zs piece (record { next = λ w ws f. operator_shape x (y ∷ z ∷ w ∷ []) false e (no_four x y z w); dots = λ ws f g. cc });
  judged = operator_judged x (y ∷ z ∷ []) true e;
}
  where
    piece : is_piece (x ∷ y ∷ z ∷ []) ≡ true
    piece = operator_shape x (y ∷ z ∷ []) true e (r.listed_or_one (λ h. absurd (omega (arith, h))))
first_operator (x ∷ y ∷ z ∷ zs) (suc (suc (suc (suc n)))) some e r = absurd (omega (arith, r.most))

-- one byte more
pub after_more : (m : Mode) (bytes : List ℕ) (i : ℕ) (a b : Mode) → i < length bytes → after m (take i bytes) ≡ Some a → goes a (get_or bytes i 0) ≡ Some b → after m (take (i + 1) bytes) ≡ Some b
after_more m bytes i a b h e f =
    ap (after m) (take_more bytes i 0 h)
    ∙ after_then (take i bytes) (get_or bytes i 0 ∷ []) m
    ∙ ap (λ o. option_and_then (λ n. after n (get_or bytes i 0 ∷ [])) o) e
    ∙ ap (λ o. option_and_then (λ n. Some n) o) f

pub front_is : (text : List ℕ) → front text ≡ get_or text 0 0
front_is [] = refl
front_is (x ∷ xs) = refl
