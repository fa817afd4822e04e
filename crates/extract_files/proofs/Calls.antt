-- What a call begins and ends with.
use Rattle.std.proofs.Common.{◌≡◌, ℕ, suc, ◌<◌, ◌⊎◌, inl, inr, true, false, not, List, [], ◌∷◌, ◌++◌, append-nil, length, get_or, codes, Some, refl, sym, ap, ◌∙◌, subst, arith}
use Rattle.std.specs.Prelude.{slice_get, map}
use Rattle.std.specs.Char.{encode_utf8}
use Rattle.std.specs.Str.{encode_utf8_all}
use Rattle.std.proofs.lemmas.Str.{inside_one, length-encode, len_utf8_bounds}
use Rattle.std.proofs.lemmas.List.{length-append}
use Rattle.ucd_category.specs.GeneralCategory.{general_category}
use Rattle.ucd_category.specs.GeneralCategoryRows.{general_category_rows}
use Rattle.ucd_table.specs.Rows.{value_in}
use Rattle.go_tokens.specs.declared.token.TokenKind.TheVariants as token
use Rattle.go_tokens.specs.Characters.{is_letter, is_digit, is_in_word}
use Rattle.go_tokens.specs.Replacing.{joins, last_joins, are_apart}
use Rattle.go_tokens.specs.Spellings.{punctuation, outside_operators, operators}
use Rattle.go_types.specs.Trees.{TypeRow}
use Rattle.go_types.specs.Trees as types
use Rattle.go_print.specs.Texts.{listed}
use Rattle.go_print_laws.specs.Calls.{Call, argument_text, assigning_text, declaring_text, call_text, call_lexemes}
use Rattle.go_print_laws.specs.Lexemes as lexemes

-- ---- its first token

pub first_word : (name : ℕ → List ℕ) (c : Call) → (slice_get (lexemes.words (call_lexemes name c [])) 0 ≡ Some token.Var) ⊎ (slice_get (lexemes.words (call_lexemes name c [])) 0 ≡ Some token.Identifier)
first_word name c = by c.declared c.types c.results
  where
    by : (ys : List (List ℕ)) (ts : TypeRow) (xs : List (List ℕ)) → (slice_get (lexemes.words (call_lexemes name (record c { declared = ys; types = ts; results = xs }) [])) 0 ≡ Some token.Var) ⊎ (slice_get (lexemes.words (call_lexemes name (record c { declared = ys; types = ts; results = xs }) [])) 0 ≡ Some token.Identifier)
    by [] ts [] = inr refl
    by [] ts (x ∷ xs) = inr refl
    by (y ∷ ys) types.none [] = inr refl
    by (y ∷ ys) types.none (x ∷ xs) = inr refl
    by (y ∷ ys) (types.more t ts) xs = inl refl

-- ---- its last character

abbrev pub EndsIn : ℕ → List ℕ → Type 0
EndsIn b [] = ⊥
EndsIn b (x ∷ []) = x ≡ b
EndsIn b (x ∷ y ∷ ys) = EndsIn b (y ∷ ys)

behind_all : (b : ℕ) (xs ys : List ℕ) → EndsIn b ys → EndsIn b (xs ++ ys)
behind_all b [] ys e = e
behind_all b (x ∷ []) [] e = absurd e
behind_all b (x ∷ []) (y ∷ ys) e = e
behind_all b (x ∷ z ∷ xs) ys e = behind_all b (z ∷ xs) ys e

last_of : (b : ℕ) (xs : List ℕ) (y : ℕ) (ys : List ℕ) → EndsIn b (xs ++ y ∷ ys) → EndsIn b (y ∷ ys)
last_of b [] y ys e = e
last_of b (x ∷ []) y ys e = e
last_of b (x ∷ z ∷ xs) y ys e = last_of b (z ∷ xs) y ys e

pub call_ends : (name : ℕ → List ℕ) (c : Call) → EndsIn 41 (call_text name c)
call_ends name c = behind_all 41 (declaring_text name c.declared c.types ++ assigning_text c.results ++ c.function ++ codes "(" ++ listed (map argument_text c.arguments)) (codes ")") refl

-- the last byte, by its number
last_byte : (b : ℕ) (xs : List ℕ) → EndsIn b xs → (k : ℕ) × (k < length xs) × (get_or xs k 0 ≡ b)
last_byte b [] e = absurd e
last_byte b (x ∷ []) e = (0, omega arith, e)
last_byte b (x ∷ y ∷ ys) e = let r = last_byte b (y ∷ ys) e in (suc r.0, omega (arith, r.1), r.2)

-- a character that ends in this byte of ASCII is that
one_ends : (c : ℕ) → EndsIn 41 (encode_utf8 c) → c ≡ 41
one_ends c e =
    let r = last_byte 41 (encode_utf8 c) e in
    inside_one c [] (encode_utf8 c) r.0 (sym (append-nil (encode_utf8 c))) r.1 (omega (arith, r.2)) ∙ r.2

pub text_ends : (text : List ℕ) → EndsIn 41 (encode_utf8_all text) → EndsIn 41 text
text_ends [] e = absurd e
text_ends (c ∷ []) e = one_ends c (subst (EndsIn 41) (append-nil (encode_utf8 c)) e)
text_ends (c ∷ d ∷ cs) e = text_ends (d ∷ cs) (behind_first (encode_utf8 c) (encode_utf8_all (d ∷ cs)) (some d cs) e)
  where
    some : (d : ℕ) (cs : List ℕ) → 0 < length (encode_utf8_all (d ∷ cs))
    some d cs = omega (arith, length-append (encode_utf8 d) (encode_utf8_all cs), length-encode d, len_utf8_bounds d)

    behind_first : (xs ys : List ℕ) → 0 < length ys → EndsIn 41 (xs ++ ys) → EndsIn 41 ys
    behind_first xs [] lt e = absurd (omega (arith, lt))
    behind_first xs (y ∷ ys) lt e = last_of 41 xs y ys e

closing_joins : (y : ℕ) → joins 41 y ≡ false
unfolding joins is_digit is_in_word is_letter general_category value_in general_category_rows operators punctuation outside_operators
closing_joins y = refl

-- a text that ends with a closing parenthesis joins nothing
pub closed_apart : (text : List ℕ) → EndsIn 41 text → (rest : List ℕ) → are_apart text rest ≡ true
closed_apart text e [] = refl
closed_apart text e (y ∷ ys) = ap not (by text e)
  where
    by : (text : List ℕ) → EndsIn 41 text → last_joins text y ≡ false
    by [] e = absurd e
    by (x ∷ []) e = ap (λ n. joins n y) e ∙ closing_joins y
    by (x ∷ z ∷ zs) e = by (z ∷ zs) e
