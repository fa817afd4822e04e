-- Words that don't join are read again as these words.
use Rattle.std.proofs.Common.{◌≡◌, ℕ, ◌+◌, ◌<◌, Bool, true, false, not, ◌&&◌, ◌||◌, ◌==◌, if◌then◌else◌, List, [], ◌∷◌, ◌++◌, append-nil, map, refl, sym, ap, ◌∙◌, subst, inl, inr, arith}
use Rattle.std.specs.Prelude.{nat_lt}
use Rattle.std.specs.List.{list_all}
use Rattle.std.specs.Char.{encode_utf8}
use Rattle.std.specs.Str.{encode_utf8_all, all_scalars}
use Rattle.std.proofs.lemmas.Str.{encodes-append}
use Rattle.ucd_category.specs.GeneralCategory.{general_category}
use Rattle.ucd_category.specs.GeneralCategoryRows.{general_category_rows}
use Rattle.ucd_table.specs.Rows.{value_in}
use Rattle.go_tokens.specs.declared.token.Token.{Token}
use Rattle.go_tokens.specs.declared.token.TokenKind.{TokenKind}
use Rattle.go_tokens.specs.Characters.{is_white, is_letter, is_digit, is_in_word, is_in_run, is_exponent, is_power, is_sign, is_x}
use Rattle.go_tokens.specs.Spellings.{keywords, punctuation, outside_operators, operators, ends_statement_kind}
use Rattle.go_tokens.specs.Pieces.{begun_by, goes, kind, is_piece, is_good}
use Rattle.go_tokens.specs.declared.piece.PieceKind.{PieceKind}
use Rattle.go_tokens.specs.declared.piece.PieceKind.TheVariants as piece_kinds
use Rattle.go_tokens.specs.Replacing.{joins, are_apart}
use Rattle.std.proofs.lemmas.Bool.Decides.{nat_tests}
use Rattle.go_tokens.proofs.Public.{both, true_false, and_both, line_ends_token, piece_some, width-append, width-nil, read_all, assembled_lexing}
use Rattle.go_tokens.specs.Lexing.{join, width, span, token, inserted, is_token_kind, is_token, is_break, token_kind, ends_statement, line_ends, tokens, comments, Lexes}
use Rattle.go_tokens.specs.Tokens.{kinds}
use Rattle.go_tokens.specs.Encoding.{IsText, is_plain, are_allowed}
use Rattle.go_tokens.specs.Replacing.{read, semicolon, items}
use Rattle.go_tokens.specs.Editing.{IsAmong, IsWritten, Stands, all_apart, has_no_line, is_comment_line}
use Rattle.go_rewriting.specs.Rewriting.{own, is_written}
use Rattle.go_print_laws.specs.Lexemes.{Lexeme, word, blank, pieces, words, tokens_of, IsWord, AreWords, begins_with_word, ends_line}
use Rattle.go_print_laws.specs.Standing.{TextStands}
use Rattle.go_print_laws.proofs.Seams.{apart_behind, JoinsNothing}

-- ---- what the pieces are

blank_joins : JoinsNothing 32
unfolding joins is_digit is_in_word is_letter general_category value_in general_category_rows operators punctuation outside_operators
blank_joins = record { by = λ y. refl }

-- a blank is a good piece, and no token and no break
record IsBlank (p : List ℕ) : Type 0 where
  piece : is_piece p ≡ true
  good : is_good p ≡ true
  line : not (is_comment_line (kind p)) ≡ true
  token : is_token p ≡ false
  break : is_break p ≡ false

blank_is : IsBlank (32 ∷ [])
unfolding begun_by is_white is_letter is_digit is_in_word is_in_run is_exponent is_power is_sign is_x goes operators punctuation outside_operators keywords general_category value_in general_category_rows
blank_is = record { piece = refl; good = refl; line = refl; token = refl; break = refl }

no_line : (k : PieceKind) → is_token_kind k ≡ true → not (is_comment_line k) ≡ true
no_line piece_kinds.White h = refl
no_line piece_kinds.LineComment h = h
no_line piece_kinds.BlockComment h = refl
no_line piece_kinds.Word h = refl
no_line piece_kinds.Number h = refl
no_line piece_kinds.HexNumber h = refl
no_line piece_kinds.Rune h = refl
no_line piece_kinds.Text h = refl
no_line piece_kinds.RawText h = refl
no_line piece_kinds.Operator h = refl
no_line piece_kinds.Stray h = refl

all_piece : (ls : List Lexeme) → AreWords ls → list_all is_piece (pieces ls) ≡ true
all_piece [] a = refl
all_piece (word k bs p ∷ ls) a = and_both (is_piece p) _ a.0.piece (all_piece ls a.2)
all_piece (blank ∷ ls) a = and_both (is_piece (32 ∷ [])) _ blank_is.piece (all_piece ls a)

all_good : (ls : List Lexeme) → AreWords ls → list_all is_good (pieces ls) ≡ true
all_good [] a = refl
all_good (word k bs p ∷ ls) a = and_both (is_good p) _ a.0.good (all_good ls a.2)
all_good (blank ∷ ls) a = and_both (is_good (32 ∷ [])) _ blank_is.good (all_good ls a)

none_line : (ls : List Lexeme) → AreWords ls → has_no_line (pieces ls) ≡ true
none_line [] a = refl
none_line (word k bs p ∷ ls) a = and_both (not (is_comment_line (kind p))) _ (no_line (kind p) a.0.token) (none_line ls a.2)
none_line (blank ∷ ls) a = and_both (not (is_comment_line (kind (32 ∷ [])))) _ blank_is.line (none_line ls a)

apart : (ls : List Lexeme) → AreWords ls → all_apart (pieces ls) ≡ true
apart [] a = refl
apart (word k bs p ∷ ls) a = and_both (are_apart p (join (pieces ls))) _ a.1 (apart ls a.2)
apart (blank ∷ ls) a = and_both (are_apart (32 ∷ []) (join (pieces ls))) _ (apart_behind 32 blank_joins (join (pieces ls))) (apart ls a)

pub lexed : (file : ℕ) (ls : List Lexeme) → AreWords ls → Lexes file (join (pieces ls)) (tokens file 0 (pieces ls) true) (comments file 0 (pieces ls))
lexed file ls a = assembled_lexing file (pieces ls) (all_piece ls a) (all_good ls a) (none_line ls a) (apart ls a)

-- ---- the tokens

-- one blank more
blank_ends : (ls : List Lexeme) (b : Bool) → line_ends (pieces (blank ∷ ls)) b ≡ line_ends (pieces ls) b
blank_ends ls b = ap (λ t. if t then false else (is_break (32 ∷ []) || line_ends (pieces ls) b)) blank_is.token ∙ ap (λ t. t || line_ends (pieces ls) b) blank_is.break

word_ends : (k : TokenKind) (bs p : List ℕ) (ls : List Lexeme) (b : Bool) → IsWord k bs p → line_ends (pieces (word k bs p ∷ ls)) b ≡ false
word_ends k bs p ls b w = line_ends_token p (pieces ls) b w.token

never_ends : (ls : List Lexeme) → AreWords ls → line_ends (pieces ls) false ≡ false
never_ends [] a = refl
never_ends (word k bs p ∷ ls) a = word_ends k bs p ls false a.0
never_ends (blank ∷ ls) a = blank_ends ls false ∙ never_ends ls a

blank_tokens : (file at : ℕ) (ls : List Lexeme) (b : Bool) → tokens file at (pieces (blank ∷ ls)) b ≡ tokens file (at + width (32 ∷ [])) (pieces ls) b
blank_tokens file at ls b = ap (λ t. (if t then token file (token_kind (32 ∷ [])) at (width (32 ∷ [])) ∷ (if ends_statement (32 ∷ []) && line_ends (pieces ls) b then inserted file (at + width (32 ∷ [])) ∷ [] else []) else []) ++ tokens file (at + width (32 ∷ [])) (pieces ls) b) blank_is.token

abbrev word_token : ℕ → ℕ → List ℕ → Token
word_token file at p = token file (token_kind p) at (width p)

abbrev ended : ℕ → ℕ → Bool → List Token
ended file at b = if b then inserted file at ∷ [] else []

word_tokens : (file at : ℕ) (k : TokenKind) (bs p : List ℕ) (ls : List Lexeme) (b : Bool) → IsWord k bs p
    → tokens file at (pieces (word k bs p ∷ ls)) b ≡ word_token file at p ∷ (ended file (at + width p) (ends_statement p && line_ends (pieces ls) b) ++ tokens file (at + width p) (pieces ls) b)
word_tokens file at k bs p ls b w = ap (λ t. (if t then word_token file at p ∷ ended file (at + width p) (ends_statement p && line_ends (pieces ls) b) else []) ++ tokens file (at + width p) (pieces ls) b) w.token

and_false : (a b : Bool) → b ≡ false → (a && b) ≡ false
and_false true b e = e
and_false false b e = refl

-- without a line's end behind
plain_tokens : (file at : ℕ) (k : TokenKind) (bs p : List ℕ) (ls : List Lexeme) → IsWord k bs p → AreWords ls → tokens file at (pieces (word k bs p ∷ ls)) false ≡ word_token file at p ∷ tokens file (at + width p) (pieces ls) false
plain_tokens file at k bs p ls w a =
    word_tokens file at k bs p ls false w ∙ ap (λ e. word_token file at p ∷ (ended file (at + width p) e ++ tokens file (at + width p) (pieces ls) false)) (and_false (ends_statement p) _ (never_ends ls a))

kinds_are : (file at : ℕ) (ls : List Lexeme) → AreWords ls → kinds (tokens file at (pieces ls) false) ≡ words ls
kinds_are file at [] a = refl
kinds_are file at (word k bs p ∷ ls) a =
    ap kinds (plain_tokens file at k bs p ls a.0 a.2) ∙ ap (λ l. token_kind p ∷ l) (kinds_are file (at + width p) ls a.2) ∙ ap (λ q. q ∷ words ls) a.0.kind
kinds_are file at (blank ∷ ls) a = ap kinds (blank_tokens file at ls false) ∙ kinds_are file (at + width (32 ∷ [])) ls a

no_tokens : (file at : ℕ) (ls : List Lexeme) (b : Bool) → AreWords ls → line_ends (pieces ls) true ≡ true → tokens file at (pieces ls) b ≡ []
no_tokens file at [] b a h = refl
no_tokens file at (word k bs p ∷ ls) b a h = absurd (true_false _ h (word_ends k bs p ls true a.0))
no_tokens file at (blank ∷ ls) b a h = blank_tokens file at ls b ∙ no_tokens file (at + width (32 ∷ [])) ls b a (sym (blank_ends ls true) ∙ h)

own_written : (t : Token) (us : List Token) → is_written t ≡ true → own (t ∷ us) ≡ t ∷ own us
own_written t [] h = ap (λ b. if b then t ∷ [] else []) h
own_written t (u ∷ us) h = refl

longer : (a n : ℕ) → 0 < n → nat_lt a (a + n) ≡ true
longer a n h = grind (arith, nat_tests)

word_written : (file at : ℕ) (k : TokenKind) (bs p : List ℕ) → IsWord k bs p → is_written (word_token file at p) ≡ true
unfolding span
word_written file at k bs p w = longer at (width p) (piece_some p w.piece)

own_inserted : (file at : ℕ) → own (inserted file at ∷ []) ≡ []
unfolding span
own_inserted file at = ap (λ b. if b then inserted file at ∷ [] else []) (let h : nat_lt at (at + 0) ≡ false = grind (arith, nat_tests) in h)

own_rest : (file at : ℕ) (e b : Bool) (us vs : List Token) → (b ≡ true → (us ≡ []) × (vs ≡ [])) → own us ≡ vs → own (ended file at (e && b) ++ us) ≡ vs
own_rest file at true true us vs none h = let n = none refl in ap (λ l. own (inserted file at ∷ l)) n.0 ∙ own_inserted file at ∙ sym n.1
own_rest file at true false us vs none h = h
own_rest file at false b us vs none h = h

own_are : (file at : ℕ) (ls : List Lexeme) → AreWords ls → own (tokens file at (pieces ls) true) ≡ tokens file at (pieces ls) false
own_are file at [] a = refl
own_are file at (word k bs p ∷ ls) a =
    ap own (word_tokens file at k bs p ls true a.0)
    ∙ own_written (word_token file at p) _ (word_written file at k bs p a.0)
    ∙ ap (λ l. word_token file at p ∷ l)
    (own_rest file (at + width p) (ends_statement p) (line_ends (pieces ls) true) (tokens file (at + width p) (pieces ls) true) (tokens file (at + width p) (pieces ls) false)
    (λ h. (no_tokens file (at + width p) ls true a.2 h, no_tokens file (at + width p) ls false a.2 h)) (own_are file (at + width p) ls a.2))
    ∙ sym (plain_tokens file at k bs p ls a.0 a.2)
own_are file at (blank ∷ ls) a = ap own (blank_tokens file at ls true) ∙ own_are file (at + width (32 ∷ [])) ls a ∙ sym (blank_tokens file at ls false)

-- the own tokens are the words
pub own_words : (file : ℕ) (ls : List Lexeme) → AreWords ls → kinds (own (tokens file 0 (pieces ls) true)) ≡ words ls
own_words file ls a = ap kinds (own_are file 0 ls a) ∙ kinds_are file 0 ls a

-- ---- the first and the last

among_later : (us vs : List Token) (t : Token) → IsAmong vs t → IsAmong (us ++ vs) t
among_later [] vs t h = h
among_later (u ∷ us) vs t h = inr (among_later us vs t h)

record FirstToken (us : List Token) (at : ℕ) : Type 0 where
  token : Token
  among : IsAmong us token
  written : IsWritten token
  begins : token.span.start ≡ at

record LastToken (us : List Token) (end : ℕ) : Type 0 where
  token : Token
  among : IsAmong us token
  written : IsWritten token
  ends : token.span.end ≡ end
  closes : ends_statement_kind token.kind ≡ true

word_length : (file at : ℕ) (k : TokenKind) (bs p : List ℕ) → IsWord k bs p → IsWritten (word_token file at p)
unfolding span
word_length file at k bs p w = let h = piece_some p w.piece in omega arith

first_found : (file at : ℕ) (ls : List Lexeme) (b : Bool) → AreWords ls → begins_with_word ls ≡ true → FirstToken (tokens file at (pieces ls) b) at
unfolding span
first_found file at [] b a h = absurd (true_false _ refl (sym h))
first_found file at (word k bs p ∷ ls) b a h =
    record { token = word_token file at p; among = subst (λ us. IsAmong us (word_token file at p)) (sym (word_tokens file at k bs p ls b a.0)) (inl refl); written = word_length file at k bs p a.0; begins = refl }
first_found file at (blank ∷ ls) b a h = absurd (true_false _ refl (sym h))

last_moved : (us vs : List Token) (m n : ℕ) → LastToken vs m → m ≡ n → LastToken (us ++ vs) n
last_moved us vs m n l e = record { token = l.token; among = among_later us vs l.token l.among; written = l.written; ends = l.ends ∙ e; closes = l.closes }

last_of_word : (file at : ℕ) (k : TokenKind) (bs p : List ℕ) (ls : List Lexeme) (b : Bool) → IsWord k bs p → LastToken (tokens file (at + width p) (pieces ls) b) (at + width p + width (join (pieces ls))) → LastToken (tokens file at (pieces (word k bs p ∷ ls)) b) (at + width (join (pieces (word k bs p ∷ ls))))
last_of_word file at k bs p ls b w l =
    subst (λ us. LastToken us (at + width (join (pieces (word k bs p ∷ ls))))) (sym (word_tokens file at k bs p ls b w))
    (last_moved (word_token file at p ∷ ended file (at + width p) (ends_statement p && line_ends (pieces ls) b)) (tokens file (at + width p) (pieces ls) b) _ _ l (omega (arith, width-append p (join (pieces ls)))))

last_found : (file at : ℕ) (ls : List Lexeme) (b : Bool) → AreWords ls → ends_line false ls ≡ true → LastToken (tokens file at (pieces ls) b) (at + width (join (pieces ls)))
unfolding span
last_found file at [] b a h = absurd (true_false _ refl (sym h))
last_found file at (word k bs p ∷ []) b a h =
    record {
      token = word_token file at p;
      among = subst (λ us. IsAmong us (word_token file at p)) (sym (word_tokens file at k bs p [] b a.0)) (inl refl);
      written = word_length file at k bs p a.0;
      ends = ap (λ n. at + n) (ap width (sym (append-nil p)));
      closes = ap ends_statement_kind a.0.kind ∙ h;
    }
last_found file at (word k bs p ∷ word j cs q ∷ ls) b a h = last_of_word file at k bs p (word j cs q ∷ ls) b a.0 (last_found file (at + width p) (word j cs q ∷ ls) b a.2 h)
last_found file at (word k bs p ∷ blank ∷ ls) b a h = last_of_word file at k bs p (blank ∷ ls) b a.0 (last_found file (at + width p) (blank ∷ ls) b a.2 h)
last_found file at (blank ∷ ls) b a h =
    let l = last_found file (at + width (32 ∷ [])) ls b a h in
    subst (λ us. LastToken us (at + width (join (pieces (blank ∷ ls))))) (sym (blank_tokens file at ls b))
    (last_moved [] (tokens file (at + width (32 ∷ [])) (pieces ls) b) _ _ l (omega (arith, width-append (32 ∷ []) (join (pieces ls)))))

-- ---- the bytes

-- the bytes of all lexemes
abbrev pub written : List Lexeme → List ℕ
written [] = []
written (word k bs p ∷ ls) = bs ++ written ls
written (blank ∷ ls) = 32 ∷ written ls

encoded_are : (ls : List Lexeme) → AreWords ls → encode_utf8_all (join (pieces ls)) ≡ written ls
unfolding encode_utf8
encoded_are [] a = refl
encoded_are (word k bs p ∷ ls) a =
    encodes-append p (join (pieces ls)) ∙ ap (λ l. l ++ encode_utf8_all (join (pieces ls))) a.0.encoded ∙ ap (λ l. bs ++ l) (encoded_are ls a.2)
encoded_are (blank ∷ ls) a = ap (λ l. 32 ∷ l) (encoded_are ls a)

pub scalars-append : (xs ys : List ℕ) → all_scalars xs ≡ true → all_scalars ys ≡ true → all_scalars (xs ++ ys) ≡ true
scalars-append [] ys h k = k
scalars-append (x ∷ xs) ys h k = let b = both _ (all_scalars xs) h in and_both _ _ b.0 (scalars-append xs ys b.1 k)

all_scalars_are : (ls : List Lexeme) → AreWords ls → all_scalars (join (pieces ls)) ≡ true
all_scalars_are [] a = refl
all_scalars_are (word k bs p ∷ ls) a = scalars-append p (join (pieces ls)) a.0.scalars (all_scalars_are ls a.2)
all_scalars_are (blank ∷ ls) a = all_scalars_are ls a

pub plain-append : (xs ys : List ℕ) → list_all is_plain xs ≡ true → list_all is_plain ys ≡ true → list_all is_plain (xs ++ ys) ≡ true
plain-append [] ys h k = k
plain-append (x ∷ xs) ys h k = let b = both (is_plain x) _ h in and_both (is_plain x) _ b.0 (plain-append xs ys b.1 k)

all_plain : (ls : List Lexeme) → AreWords ls → list_all is_plain (join (pieces ls)) ≡ true
all_plain [] a = refl
all_plain (word k bs p ∷ ls) a = plain-append p (join (pieces ls)) a.0.plain (all_plain ls a.2)
all_plain (blank ∷ ls) a = all_plain ls a

pub plain_allowed : (xs : List ℕ) → list_all is_plain xs ≡ true → are_allowed xs ≡ true
plain_allowed [] h = refl
plain_allowed (x ∷ xs) h = let b = both (is_plain x) _ h in and_both (not (x == 0)) _ (both (not (x == 0)) _ b.0).0 b.1

text_is : (ls : List Lexeme) → AreWords ls → IsText (join (pieces ls)) (written ls)
text_is ls a = record { scalars = all_scalars_are ls a; encoded = encoded_are ls a; allowed = plain_allowed (join (pieces ls)) (all_plain ls a) }

items_are : (ls : List Lexeme) → AreWords ls → items (pieces ls) false ≡ tokens_of ls
items_are [] a = refl
items_are (word k bs p ∷ ls) a =
    ap (λ b. (if b then record { kind = token_kind p; text = encode_utf8_all p } ∷ semicolon (ends_statement p && line_ends (pieces ls) false) else []) ++ items (pieces ls) false) a.0.token
    ∙ ap (λ b. record { kind = token_kind p; text = encode_utf8_all p } ∷ (semicolon b ++ items (pieces ls) false)) (and_false (ends_statement p) _ (never_ends ls a.2))
    ∙ ap (λ j. record { kind = j; text = encode_utf8_all p } ∷ items (pieces ls) false) a.0.kind
    ∙ ap (λ t. record { kind = k; text = t } ∷ items (pieces ls) false) a.0.encoded
    ∙ ap (λ us. record { kind = k; text = bs } ∷ us) (items_are ls a.2)
items_are (blank ∷ ls) a =
    ap (λ b. (if b then record { kind = token_kind (32 ∷ []); text = encode_utf8_all (32 ∷ []) } ∷ semicolon (ends_statement (32 ∷ []) && line_ends (pieces ls) false) else []) ++ items (pieces ls) false) blank_is.token
    ∙ items_are ls a

own_items : (file : ℕ) (ls : List Lexeme) → AreWords ls → map (read (join (pieces ls))) (own (tokens file 0 (pieces ls) true)) ≡ tokens_of ls
own_items file ls a =
    ap (map (read (join (pieces ls)))) (own_are file 0 ls a)
    ∙ read_all file (join (pieces ls)) [] (pieces ls) 0 false refl (sym width-nil)
    ∙ items_are ls a

-- Words of which the first one is in front of all and the last one ends a statement stand alone.
pub words_stand : (file : ℕ) (ls : List Lexeme) → AreWords ls → begins_with_word ls ≡ true → ends_line false ls ≡ true → TextStands file (written ls) ls
words_stand file ls a first_is last_is =
    let first = first_found file 0 ls true a first_is in
    let last = last_found file 0 ls true a last_is in
    record {
      text = join (pieces ls);
      is_text = text_is ls a;
      stands = record {
        before = [];
        inner = join (pieces ls);
        behind = [];
        whole = sym (append-nil (join (pieces ls)));
        blank_before = refl;
        blank_behind = refl;
        tokens = tokens file 0 (pieces ls) true;
        comments = comments file 0 (pieces ls);
        lexes = lexed file ls a;
        spans = record {
          first = first.token;
          last = last.token;
          has_first = first.among;
          has_last = last.among;
          first_written = first.written;
          last_written = last.written;
          begins = first.begins ∙ sym width-nil;
          ends = last.ends ∙ ap (λ n. n + width (join (pieces ls))) (sym width-nil);
          some = omega (arith, last.written, last.ends);
        };
      };
      tokens_are = own_items file ls a;
      kinds_are = own_words file ls a;
      closes = last.closes;
    }

-- A text that stands alone, with its bytes and its tokens, wherever it stands in a file.
pub record Part (file : ℕ) (bytes : List ℕ) (ws : List TokenKind) : Type 0 where
  pub text : List ℕ
  pub scalars : all_scalars text ≡ true
  pub plain : list_all is_plain text ≡ true
  pub encoded : encode_utf8_all text ≡ bytes
  pub stands : Stands file text
  pub kinds_are : kinds (own stands.tokens) ≡ ws
  pub closes : ends_statement_kind stands.spans.last.kind ≡ true

pub words_part : (file : ℕ) (ls : List Lexeme) → AreWords ls → begins_with_word ls ≡ true → ends_line false ls ≡ true → Part file (written ls) (words ls)
unfolding words_stand
words_part file ls a first_is last_is =
    let t = words_stand file ls a first_is last_is in
    record { text = t.text; scalars = all_scalars_are ls a; plain = all_plain ls a; encoded = encoded_are ls a; stands = t.stands; kinds_are = t.kinds_are; closes = t.closes }
