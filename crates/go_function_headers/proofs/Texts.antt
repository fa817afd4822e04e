-- The text of a function with another header.
use Rattle.std.proofs.Common.{◌≡◌, ◌∙◌, ℕ, zero, suc, ◌<◌, Bool, true, false, not, ◌&&◌, ◌||◌, ◌==◌, List, [], ◌∷◌, ◌++◌, append-nil, append_assoc, codes, drop, take, refl, sym, ap, subst, arith}
use Rattle.std.specs.Prelude.{nat_lt, IsAscii}
use Rattle.std.specs.List.{list_all, list_any}
use Rattle.std.specs.Char.{encode_utf8}
use Rattle.std.specs.Str.{all_scalars, chars, encode_utf8_all}
use Rattle.std.proofs.lemmas.Bool.Decides.{nat_tests}
use Rattle.std.proofs.lemmas.Str.{IsUtf8-from_ascii, chars-IsAscii, chars-append, chars-encodes, encodes-IsAscii, encodes-append}
use Rattle.ucd_category.specs.GeneralCategory.{general_category}
use Rattle.ucd_category.specs.GeneralCategoryRows.{general_category_rows}
use Rattle.ucd_table.specs.Rows.{value_in}
use Rattle.go_tokens.specs.declared.token.Token.{Token}
use Rattle.go_tokens.specs.declared.token.TokenKind.{TokenKind}
use Rattle.go_tokens.specs.declared.token.TokenKind.TheVariants as token
use Rattle.go_tokens.specs.Characters.{is_digit, is_in_word, is_in_run, is_letter}
use Rattle.go_tokens.specs.Encoding.{IsText, are_allowed, is_plain}
use Rattle.go_tokens.specs.Lexing.{Lexes, span, width}
use Rattle.go_tokens.specs.Lexing as lexing
use Rattle.go_tokens.specs.Replacing.{are_apart, are_beside, joins}
use Rattle.go_tokens.specs.Spellings.{operators, outside_operators, punctuation}
use Rattle.go_tokens.specs.Tokens.{kinds}
use Rattle.go_tokens.proofs.Public.{and_both, both, lexes_by_test}
use Rattle.go_grammar.specs.declared.kind.Kind.TheVariants as kind
use Rattle.go_grammar.specs.Trees.{node, none}
use Rattle.go_rewriting.specs.Rewriting.{HasNewTokens, HasTail, HasTexts, IsTail, Rewrite, Rewriting, before, own}
use Rattle.go_rewriting.specs.Sites.{whole}
use Rattle.go_print_laws.specs.Functions.{returning_text}
use Rattle.go_print_laws.specs.Lexemes.{Lexeme, words}
use Rattle.go_print_laws.specs.Standing.{TextStands}
use Rattle.go_function_headers.proofs.Front.{Fronted, fronted}

-- that the tokens of a text with ranges replaced are those with the new ones in place
abbrev pub TokensRewritten : Type 0
TokensRewritten = (w : Rewriting) → Lexes w.file (before w) w.tokens w.comments → HasTexts w → HasTail w → HasNewTokens w

-- ---- characters behind characters that are their bytes

below : (x : ℕ) → nat_lt x 128 ≡ true → x < 128
below x h = grind (arith, nat_tests)

ascii : (xs : List ℕ) → list_all (λ x. nat_lt x 128) xs ≡ true → IsAscii xs
ascii [] h i = omega arith
ascii (x ∷ xs) h zero = below x (both (nat_lt x 128) _ h).0
ascii (x ∷ xs) h (suc i) = ascii xs (both (nat_lt x 128) _ h).1 i

cancel : (xs a b : List ℕ) → xs ++ a ≡ xs ++ b → a ≡ b
cancel [] a b e = e
cancel (x ∷ xs) a b e = cancel xs a b cc

-- A text of which the first bytes are these.
record Split (xs ys text : List ℕ) : Type 0 where
  is : text ≡ xs ++ chars ys
  encoded : encode_utf8_all (chars ys) ≡ ys

split : (xs ys text : List ℕ) → list_all (λ x. nat_lt x 128) xs ≡ true → all_scalars text ≡ true → encode_utf8_all text ≡ xs ++ ys → Split xs ys text
split xs ys text h s e =
    let a = ascii xs h in
    let is : text ≡ xs ++ chars ys = sym (chars-encodes text s) ∙ ap chars e ∙ chars-append xs ys (IsUtf8-from_ascii xs a) ∙ ap (λ l. l ++ chars ys) (chars-IsAscii xs a) in
    record {
      is = is;
      encoded = cancel xs (encode_utf8_all (chars ys)) ys (ap (λ l. l ++ encode_utf8_all (chars ys)) (sym (encodes-IsAscii xs a)) ∙ sym (encodes-append xs (chars ys)) ∙ ap encode_utf8_all (sym is) ∙ e);
    }

-- ---- a blank joins nothing in front of it

or_false : (a b : Bool) → a ≡ false → b ≡ false → (a || b) ≡ false
or_false true b e f = cc
or_false false b e f = f

and_false : (a b : Bool) → b ≡ false → (a && b) ≡ false
and_false true b e = e
and_false false b e = refl

-- no character but the first of an operator is a blank
abbrev no_blank : List ℕ → Bool
no_blank [] = true
no_blank (a ∷ []) = true
no_blank (a ∷ b ∷ w) = not (32 == b) && no_blank (b ∷ w)

not_beside : (x : ℕ) (w : List ℕ) → no_blank w ≡ true → are_beside x 32 w ≡ false
not_beside x [] h = refl
not_beside x (a ∷ []) h = refl
not_beside x (a ∷ b ∷ w) h = let k = both (not (32 == b)) (no_blank (b ∷ w)) h in or_false (x == a && 32 == b) (are_beside x 32 (b ∷ w)) (and_false (x == a) (32 == b) (negated (32 == b) k.0)) (not_beside x (b ∷ w) k.1)
  where
    negated : (c : Bool) → not c ≡ true → c ≡ false
    negated true e = cc
    negated false e = refl

none_beside : (x : ℕ) (ws : List (List ℕ)) → list_all no_blank ws ≡ true → list_any (are_beside x 32) ws ≡ false
none_beside x [] h = refl
none_beside x (w ∷ ws) h = let k = both (no_blank w) (list_all no_blank ws) h in or_false (are_beside x 32 w) (list_any (are_beside x 32) ws) (not_beside x w k.0) (none_beside x ws k.1)

operators_free : list_all no_blank operators ≡ true
unfolding operators punctuation outside_operators
operators_free = refl

blank_ends : is_in_run 32 ≡ false
unfolding is_digit is_in_word is_in_run is_letter general_category value_in general_category_rows
blank_ends = refl

blank_counts : (is_digit 32 || 32 == 46) ≡ false
unfolding is_digit
blank_counts = refl

blank_joins : (x : ℕ) → joins x 32 ≡ false
unfolding joins
blank_joins x = or_false _ _ (or_false _ _ (or_false _ _ (and_false (is_in_word x) (is_in_run 32) blank_ends) (and_false (x == 46) _ blank_counts)) (none_beside x operators operators_free)) (and_false (x == 47) _ refl)

blank_apart : (p ys : List ℕ) → are_apart p (32 ∷ ys) ≡ true
blank_apart [] ys = refl
blank_apart (x ∷ []) ys = ap not (blank_joins x)
blank_apart (x ∷ z ∷ zs) ys = blank_apart (z ∷ zs) ys

line_apart : (ys : List ℕ) → are_apart (codes "\n") (102 ∷ ys) ≡ true
unfolding joins is_digit is_in_word is_in_run is_letter general_category value_in general_category_rows operators punctuation outside_operators
line_apart ys = refl

-- ---- another header

no_tail : (file : ℕ) → IsTail file [] []
no_tail file = record { begins = refl; comments = []; lexes = lexes_by_test file [] refl }

or_true : (a b : Bool) → a ≡ true → (a || b) ≡ true
or_true true b h = refl
or_true false b h = cc

all_join : (p : ℕ → Bool) (xs ys : List ℕ) → list_all p xs ≡ true → list_all p ys ≡ true → list_all p (xs ++ ys) ≡ true
all_join p [] ys a b = b
all_join p (x ∷ xs) ys a b = let k = both (p x) (list_all p xs) a in and_both (p x) (list_all p (xs ++ ys)) k.0 (all_join p xs ys k.1 b)

scalars_join : (xs ys : List ℕ) → all_scalars xs ≡ true → all_scalars ys ≡ true → all_scalars (xs ++ ys) ≡ true
scalars_join [] ys a b = b
scalars_join (x ∷ xs) ys a b = let k = both _ (all_scalars xs) a in and_both _ (all_scalars (xs ++ ys)) k.0 (scalars_join xs ys k.1 b)

blank_bytes : (xs : List ℕ) → encode_utf8_all (32 ∷ xs) ≡ 32 ∷ encode_utf8_all xs
unfolding encode_utf8
blank_bytes xs = refl

line_bytes : (xs : List ℕ) → encode_utf8_all (10 ∷ xs) ≡ 10 ∷ encode_utf8_all xs
unfolding encode_utf8
line_bytes xs = refl

func_scalars : (xs text : List ℕ) → text ≡ codes "\nfunc x() " ++ xs → all_scalars text ≡ true → all_scalars xs ≡ true
func_scalars xs text e h = let k : all_scalars (codes "\nfunc x() " ++ xs) ≡ true = subst (λ x. all_scalars x ≡ true) e h in k

func_plain : (xs text : List ℕ) → text ≡ codes "\nfunc x() " ++ xs → are_allowed text ≡ true → list_all is_plain xs ≡ true
func_plain xs text e h = let k : are_allowed (codes "\nfunc x() " ++ xs) ≡ true = subst (λ x. are_allowed x ≡ true) e h in k

word_plain : (xs text : List ℕ) → text ≡ codes "func " ++ xs → are_allowed text ≡ true → list_all is_plain text ≡ true
word_plain xs text e h = let k : are_allowed (codes "func " ++ xs) ≡ true = subst (λ x. are_allowed x ≡ true) e h in subst (λ x. list_all is_plain x ≡ true) (sym e) k

regroup : (h b r : List ℕ) → codes "\n" ++ (h ++ (32 ∷ (codes "{\n" ++ b ++ codes "\n" ++ r ++ codes "}\n"))) ≡ codes "\n" ++ h ++ codes " {\n" ++ b ++ codes "\n" ++ r ++ codes "}\n"
regroup h b r = simp append_assoc

-- The bytes are a text with these tokens, which may be appended to a file.
pub record Read (file : ℕ) (bytes : List ℕ) (ws : List TokenKind) : Type 0 where
  pub text : List ℕ
  pub is_text : IsText text bytes
  pub tokens : List Token
  pub tail : IsTail file text tokens
  pub kinds_are : kinds tokens ≡ ws

module _ (law : TokensRewritten) (file : ℕ) (hb body : List ℕ) (returned : List (List ℕ)) (ls : List Lexeme) (h : TextStands file (codes "func " ++ hb) ls) (us : List TokenKind)
    (old : Read file (codes "\nfunc x()" ++ (codes " {\n" ++ body ++ codes "\n" ++ returning_text returned ++ codes "}\n")) (token.Func ∷ token.Identifier ∷ token.LeftParenthesis ∷ token.RightParenthesis ∷ us)) where
  abbrev behind : List ℕ
  behind = codes "{\n" ++ body ++ codes "\n" ++ returning_text returned ++ codes "}\n"

  abbrev rest : List ℕ
  rest = 32 ∷ chars behind

  old_split : Split (codes "\nfunc x() ") behind old.text
  old_split = split (codes "\nfunc x() ") behind old.text refl old.is_text.scalars old.is_text.encoded

  new_split : Split (codes "func ") hb h.text
  new_split = split (codes "func ") hb h.text refl h.is_text.scalars h.is_text.encoded

  abbrev change : Rewrite
  change = record { kept = codes "\n"; old = codes "func x()"; from = 0; upto = 4; new = h.text; alone = h.stands.tokens; path = []; change = whole (node kind.Name 0 1 none); next = [] }

  abbrev all : Rewriting
  all = record { file = file; tokens = old.tokens; comments = old.tail.comments; tree = node kind.Name 0 1 none; ranges = change ∷ []; rest = rest; tail = []; tail_tokens = [] }

  lexes : Lexes file (before all) old.tokens old.tail.comments
  lexes = subst (λ x. Lexes file x old.tokens old.tail.comments) old_split.is old.tail.lexes

  front : Fronted file old.tokens
  front = fronted file (chars behind) old.text old.tokens old.tail.comments old.tail.lexes old_split.is

  fits : HasTexts all
  unfolding width span encode_utf8
  fits = (
    record {
      range = record {
        first = lexing.token file token.Func 1 4;
        last = lexing.token file token.RightParenthesis 8 1;
        order = omega arith;
        has_first = front.func;
        has_last = front.close;
        first_written = omega arith;
        last_written = omega arith;
        begins = refl;
        ends = refl;
      };
      stands = h.stands;
      tokens = refl;
      apart_before = subst (λ x. are_apart (codes "\n") (x ++ (rest ++ [])) ≡ true) (sym new_split.is) (line_apart (codes "unc " ++ (chars hb ++ (rest ++ []))));
      apart_behind = or_true _ _ (blank_apart h.text (chars behind ++ []));
      line = λ _. sym h.closes;
    },
    tt,
  )

  abbrev text : List ℕ
  text = 10 ∷ (h.text ++ (rest ++ []))

  is_text : IsText text (codes "\n" ++ (codes "func " ++ hb) ++ codes " {\n" ++ body ++ codes "\n" ++ returning_text returned ++ codes "}\n")
  is_text = record {
    scalars = scalars_join h.text (rest ++ []) h.is_text.scalars (ap all_scalars (append-nil rest) ∙ func_scalars (chars behind) old.text old_split.is old.is_text.scalars);
    encoded = line_bytes (h.text ++ (rest ++ [])) ∙ ap (λ l. 10 ∷ l) (encodes-append h.text (rest ++ []) ∙ (λ j. h.is_text.encoded j ++ encode_utf8_all (append-nil rest j))
        ∙ ap (λ l. (codes "func " ++ hb) ++ l) (blank_bytes (chars behind) ∙ ap (λ l. 32 ∷ l) old_split.encoded))
        ∙ regroup (codes "func " ++ hb) body (returning_text returned);
    allowed = all_join is_plain h.text (rest ++ []) (word_plain (chars hb) h.text new_split.is h.is_text.allowed)
        (ap (list_all is_plain) (append-nil rest) ∙ func_plain (chars behind) old.text old_split.is old.is_text.allowed);
  }

  pub with_header : Read file (codes "\n" ++ (codes "func " ++ hb) ++ codes " {\n" ++ body ++ codes "\n" ++ returning_text returned ++ codes "}\n") (words ls ++ us)
  with_header =
      let n = law all lexes fits (no_tail file) in
      record {
        text = text;
        is_text = is_text;
        tokens = n.tokens;
        tail = record { begins = refl; comments = n.comments; lexes = n.lexes };
        kinds_are = n.kinds_are ∙ append-nil _ ∙ ap (λ k. take 0 k ++ (kinds (own h.stands.tokens) ++ drop 4 k)) old.kinds_are ∙ ap (λ l. l ++ us) h.kinds_are;
      }
