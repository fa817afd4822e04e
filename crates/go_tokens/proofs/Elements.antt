-- The elements of a literal.
use Rattle.std.proofs.lemmas.Bool.Decides.{nat_tests}
use Rattle.std.proofs.Common.{nat_le, ◌≡◌, ℕ, zero, suc, Bool, true, false, cond, ◌==◌, List, [], ◌∷◌, length, length-drop, length-take, drop, Option, Some, None, is_some, refl, sym, ap, ◌∙◌, ◌+◌, ◌-◌, ◌<◌, ◌≤◌, add-one, eq-eqb, eqb-true, arith}
use Rattle.std.specs.Option.{option_map, option_and_then}
use Rattle.go_tokens.specs.declared.literal.Element.{Element}
use Rattle.go_tokens.specs.declared.literal.Element.TheVariants.{Character}
use Rattle.go_tokens.specs.declared.literal.Escape.{Escape}
use Rattle.go_tokens.specs.Literals.{elements, escape, byte_escape, character_escape, letter_escape, is_code_point, is_digit_of, number, is_one, is_empty, inside, rune_elements, IsElementLength, IsFirstElement}
use Rattle.go_tokens.specs.Pieces.{front}
use Rattle.go_tokens.proofs.Lists.{not_true}

-- behind an escape the elements are those of what is left
pub elements_skip : (q n : ℕ) (xs : List ℕ) → elements q n xs ≡ elements q 0 (drop n xs)
elements_skip q zero xs = refl
elements_skip q (suc n) [] = refl
elements_skip q (suc n) (x ∷ xs) = elements_skip q n xs

two : (e f : Element) (o : Option (List Element)) → is_one (option_map (λ es. e ∷ es) (option_map (λ es. f ∷ es) o)) ≡ false
two e f None = refl
two e f (Some es) = refl

two_by : (e : Element) (g : Escape → Option (List Element)) (o : Option Escape) → is_one (option_map (λ es. e ∷ es) (option_and_then (λ f. option_map (λ es. f.element ∷ es) (g f)) o)) ≡ false
two_by e g None = refl
two_by e g (Some f) = two e f.element (g f)

two_if : (e : Element) (b : Bool) (u v : Option (List Element)) → is_one (option_map (λ es. e ∷ es) u) ≡ false → is_one (option_map (λ es. e ∷ es) v) ≡ false → is_one (option_map (λ es. e ∷ es) (cond b u v)) ≡ false
two_if e true u v h k = h
two_if e false u v h k = k

-- one element and those of a text are one where the text is empty
pub one_element : (q : ℕ) (xs : List ℕ) (e : Element) → is_one (option_map (λ es. e ∷ es) (elements q 0 xs)) ≡ is_empty xs
one_element q [] e = refl
one_element q (x ∷ xs) e = two_if e (x == 92) _ _ (two_by e (λ f. elements q f.count xs) (escape q xs)) (two e (Character x) (elements q 0 xs))

some_mapped : (e : Element) (o : Option (List Element)) → is_some (option_map (λ es. e ∷ es) o) ≡ is_some o
some_mapped e None = refl
some_mapped e (Some es) = refl

empty_drop : (n : ℕ) (xs : List ℕ) → n ≤ length xs → is_empty (drop n xs) ≡ (n == length xs)
empty_drop n xs h = by (drop n xs) (length-drop n xs)
  where
    by : (ys : List ℕ) → length ys ≡ length xs - n → is_empty ys ≡ (n == length xs)
    by [] e = sym (eq-eqb n (length xs) (omega (arith, e, h)))
    by (y ∷ ys) e = sym (not_true _ (λ t. absurd (omega (arith, e, eqb-true n (length xs) t))))

-- The first element of a text and what is left tell how many characters the first one has.
pub first_length : (q : ℕ) (text : List ℕ) (f : Escape) → IsFirstElement q text f → IsElementLength q text f.count
first_length q text f h = record {
  some = h.some;
  within = h.within;
  rest = ap is_some h.rest ∙ some_mapped f.element (elements q 0 (drop f.count text));
  one = ap is_one h.rest ∙ one_element q (drop f.count text) f.element ∙ empty_drop f.count text h.within;
}

-- An escape has at most nine characters behind its backslash.
abbrev is_short : Option Escape → Bool
is_short None = true
is_short (Some e) = nat_le e.count 9

short_if : (b : Bool) (u v : Option Escape) → is_short u ≡ true → is_short v ≡ true → is_short (cond b u v) ≡ true
short_if true u v h k = h
short_if false u v h k = k

short_byte : (o : Option ℕ) → is_short (byte_escape 3 o) ≡ true
short_byte None = refl
short_byte (Some v) = short_if (nat_le v 255) _ _ refl refl

short_character : (n : ℕ) (o : Option ℕ) → nat_le n 9 ≡ true → is_short (character_escape n o) ≡ true
short_character n None h = refl
short_character n (Some v) h = short_if (is_code_point v) _ _ h refl

short_letter : (o : Option ℕ) → is_short (option_map (λ c. record { element = Character c; count = 1 }) o) ≡ true
short_letter None = refl
short_letter (Some c) = refl

short_escape : (q : ℕ) (xs : List ℕ) → is_short (escape q xs) ≡ true
short_escape q [] = refl
short_escape q (y ∷ ys) =
    short_if (is_digit_of 8 y) _ _ (short_byte (number 8 3 (y ∷ ys)))
    (short_if (y == 120) _ _ (short_byte (number 16 2 ys))
    (short_if (y == 117) _ _ (short_character 5 (number 16 4 ys) refl)
    (short_if (y == 85) _ _ (short_character 9 (number 16 8 ys) refl) (short_letter (letter_escape q y)))))

escape_count : (q : ℕ) (xs : List ℕ) (f : Escape) → escape q xs ≡ Some f → f.count ≤ 9
escape_count q xs f e = let test : nat_le f.count 9 ≡ true = ap is_short (sym e) ∙ short_escape q xs in grind (arith, nat_tests)

-- a text that begins with an escape, with another character, and with a backslash alone
pub escape_first : (q : ℕ) (text : List ℕ) (f : Escape) → 0 < length text → front text ≡ 92 → escape q (drop 1 text) ≡ Some f → f.count ≤ length (drop 1 text) → IsFirstElement q text (record { element = f.element; count = f.count + 1 })
escape_first q [] f some first e within = absurd (omega (arith, some))
escape_first q (x ∷ xs) f some first e within = record {
  some = omega arith;
  within = omega (arith, within);
  short = omega (arith, escape_count q xs f e);
  rest = ap (λ y. elements q 0 (y ∷ xs)) first ∙ ap (λ o. option_and_then (λ f. option_map (λ es. f.element ∷ es) (elements q f.count xs)) o) e ∙ ap (λ o. option_map (λ es. f.element ∷ es) o) (elements_skip q f.count xs) ∙ ap (λ n. option_map (λ es. f.element ∷ es) (elements q 0 (drop n (x ∷ xs)))) (sym (add-one f.count));
}

pub character_first : (q c : ℕ) (text : List ℕ) → 0 < length text → front text ≡ c → (c == 92) ≡ false → IsFirstElement q text (record { element = Character c; count = 1 })
character_first q c [] some is first = absurd (omega (arith, some))
character_first q c (x ∷ xs) some is first = record {
  some = omega arith;
  within = omega arith;
  short = omega arith;
  rest = ap (λ y. elements q 0 (y ∷ xs)) is ∙ ap (λ b. cond b (option_and_then (λ f. option_map (λ es. f.element ∷ es) (elements q f.count xs)) (escape q xs)) (option_map (λ es. Character c ∷ es) (elements q zero xs))) first;
}

pub no_element : (q : ℕ) (text : List ℕ) → 0 < length text → front text ≡ 92 → escape q (drop 1 text) ≡ None → elements q 0 text ≡ None
no_element q [] some first e = absurd (omega (arith, some))
no_element q (x ∷ xs) some first e =
    ap (λ y. elements q 0 (y ∷ xs)) first ∙ ap (λ o. option_and_then (λ f. option_map (λ es. f.element ∷ es) (elements q f.count xs)) o) e

-- A rune has at most ten characters between its quotes.
empty_short : (n : ℕ) (xs : List ℕ) → is_empty (drop n xs) ≡ true → length xs ≤ n
empty_short n xs h = by (drop n xs) (length-drop n xs) h
  where
    by : (ys : List ℕ) → length ys ≡ length xs - n → is_empty ys ≡ true → length xs ≤ n
    by [] e t = omega (arith, e)
    by (y ∷ ys) e t = cc

escape_alone : (q : ℕ) (xs : List ℕ) (o : Option Escape) → is_short o ≡ true → is_one (option_and_then (λ f. option_map (λ es. f.element ∷ es) (elements q f.count xs)) o) ≡ true → length xs ≤ 9
escape_alone q xs None s h = cc
escape_alone q xs (Some f) s h =
    let alone : is_empty (drop f.count xs) ≡ true = sym (ap (λ o. is_one (option_map (λ es. f.element ∷ es) o)) (elements_skip q f.count xs) ∙ one_element q (drop f.count xs) f.element) ∙ h in
    let few : f.count ≤ 9 = grind (arith, nat_tests) in
    omega (arith, empty_short f.count xs alone, few)

first_alone : (q x : ℕ) (xs : List ℕ) (b : Bool) → is_one (cond b (option_and_then (λ f. option_map (λ es. f.element ∷ es) (elements q f.count xs)) (escape q xs)) (option_map (λ es. Character x ∷ es) (elements q zero xs))) ≡ true → length xs ≤ 9
first_alone q x xs true h = escape_alone q xs (escape q xs) (short_escape q xs) h
first_alone q x xs false h = let e : is_empty xs ≡ true = sym (one_element q xs (Character x)) ∙ h in omega (arith, empty_short 0 xs e)

one_short : (q : ℕ) (text : List ℕ) → is_one (elements q 0 text) ≡ true → length text ≤ 10
one_short q [] h = cc
one_short q (x ∷ xs) h = omega (arith, first_alone q x xs (x == 92) h)

length_inside : (p : List ℕ) → length p ≤ length (inside p) + 2
length_inside p = simp (length-take, length-drop) (omega arith)

pub rune_short : (p : List ℕ) → is_one (rune_elements p) ≡ true → length p ≤ 12
rune_short p h = omega (arith, one_short 39 (inside p) h, length_inside p)
