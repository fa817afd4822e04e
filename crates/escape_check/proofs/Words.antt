-- Identifiers character by character.
use Rattle.std.proofs.Common.{◌≡◌, ◌∙◌, ℕ, ◌+◌, ◌<◌, Bool, true, false, List, [], ◌∷◌, ◌++◌, length, take, drop, get_or, refl, sym, ap, arith}
use Rattle.std.specs.Prelude.{◌&&◌, ◌||◌, not}
use Rattle.std.specs.List.{list_all}
use Rattle.std.specs.Str.{IsUtf8, is_utf8}
use Rattle.std.proofs.lemmas.Str.{IsUtf8-from_is_utf8}
use Rattle.std.proofs.lemmas.Bool.{and_parts}
use Rattle.std.proofs.lemmas.List.{drop_more, take-append-drop}
use Rattle.std.proofs.lemmas.List.Folds.{list_all-append}
use Rattle.go_tokens.specs.Characters.{is_letter, is_in_word}
use Rattle.escape_check.specs.Names.{begins_with_letter, is_name_text}

-- what has been read: nothing, or an identifier
abbrev pub Read : Bool → List ℕ → Type 0
Read true xs = xs ≡ []
Read false xs = is_name_text xs ≡ true

letter-word : (x : ℕ) → is_letter x ≡ true → is_in_word x ≡ true
unfolding is_in_word
letter-word x h = grind (arith, h)

either-word : (x : ℕ) → (is_letter x || is_in_word x) ≡ true → is_in_word x ≡ true
either-word x h = by (is_letter x) refl where
  by : (b : Bool) → is_letter x ≡ b → is_in_word x ≡ true
  by true e = letter-word x e
  by false e = sym (ap (λ b. b || is_in_word x) e) ∙ h

begins-more : (xs ys : List ℕ) → begins_with_letter xs ≡ true → begins_with_letter (xs ++ ys) ≡ true
begins-more [] ys h = cc
begins-more (x ∷ xs) ys h = h

both : (a b : Bool) → a ≡ true → b ≡ true → (a && b) ≡ true
both a b e f = ap (λ c. c && b) e ∙ f

-- one character more
pub read-more : (first : Bool) (xs : List ℕ) (x : ℕ) → Read first xs → (is_letter x || (not first && is_in_word x)) ≡ true → Read false (xs ++ x ∷ [])
read-more true xs x r h =
    let letter : is_letter x ≡ true = by (is_letter x) h in
    ap (λ ys. is_name_text (ys ++ x ∷ [])) r ∙ both (is_letter x) (is_in_word x && true) letter (both (is_in_word x) true (letter-word x letter) refl) where
      by : (b : Bool) → (b || false) ≡ true → b ≡ true
      by true e = refl
      by false e = e
read-more false xs x r h =
    let parts = and_parts (begins_with_letter xs) (list_all is_in_word xs) r in
    both (begins_with_letter (xs ++ x ∷ [])) (list_all is_in_word (xs ++ x ∷ [])) (begins-more xs (x ∷ []) parts.0) (
    list_all-append is_in_word xs (x ∷ []) ∙ both (list_all is_in_word xs) (is_in_word x && true) parts.1 (both (is_in_word x) true (either-word x h) refl)
    )

-- the whole text
pub read-all : (first : Bool) (xs : List ℕ) → Read first xs → not first ≡ is_name_text xs
read-all true xs r = sym (ap is_name_text r)
read-all false xs r = sym r

no-word : (x : ℕ) (b c : Bool) → (b || c) ≡ false → c ≡ false
no-word x true c h = cc
no-word x false c h = h

no-letter : (b c : Bool) → (b || c) ≡ false → b ≡ false
no-letter true c h = h
no-letter false c h = refl

none-all : (a b : Bool) → b ≡ false → (a && b) ≡ false
none-all true b h = h
none-all false b h = refl

-- a character that may not stand there
stops : (first : Bool) (xs : List ℕ) (x : ℕ) (ys : List ℕ) → Read first xs → (is_letter x || (not first && is_in_word x)) ≡ false → is_name_text (xs ++ x ∷ ys) ≡ false
stops true xs x ys r h =
    ap (λ zs. is_name_text (zs ++ x ∷ ys)) r ∙ ap (λ b. b && list_all is_in_word (x ∷ ys)) (no-letter (is_letter x) false h)
stops false xs x ys r h =
    none-all (begins_with_letter (xs ++ x ∷ ys)) (list_all is_in_word (xs ++ x ∷ ys)) (
    list_all-append is_in_word xs (x ∷ ys)
    ∙ none-all (list_all is_in_word xs) (is_in_word x && list_all is_in_word ys) (ap (λ b. b && list_all is_in_word ys) (no-word x (is_letter x) (is_in_word x) h))
    )

pub read-stops : (first : Bool) (all xs : List ℕ) (x : ℕ) → xs ≡ take (length xs) all → length xs < length all → x ≡ get_or all (length xs) x → Read first xs →
    (is_letter x || (not first && is_in_word x)) ≡ false → false ≡ is_name_text all
read-stops first all xs x e l g r h =
    let n = length xs in
    let whole : all ≡ xs ++ x ∷ drop (n + 1) all =
    sym (take-append-drop n all)
    ∙ ap (λ ys. ys ++ drop n all) (sym e)
    ∙ ap (λ ys. xs ++ ys) (drop_more all n x l)
    ∙ ap (λ y. xs ++ y ∷ drop (n + 1) all) (sym g)
    in
    sym (ap is_name_text whole ∙ stops first xs x (drop (n + 1) all) r h)

-- what is no UTF-8
pub no-utf8 : (bs : List ℕ) → ¬ (IsUtf8 bs) → is_utf8 bs ≡ false
no-utf8 bs h = by (is_utf8 bs) refl where
  by : (b : Bool) → is_utf8 bs ≡ b → b ≡ false
  by true e = absurd (h (IsUtf8-from_is_utf8 bs e))
  by false e = refl
