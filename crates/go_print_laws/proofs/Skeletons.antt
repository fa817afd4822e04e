-- The tokens of functions: parts of short texts are replaced.
use Rattle.std.proofs.Common.{◌≡◌, ℕ, suc, ◌+◌, ◌-◌, ◌<◌, Some, Bool, true, false, ◌||◌, List, [], ◌∷◌, ◌++◌, append-nil, append_assoc, codes, refl, sym, ap, subst, ◌∙◌, arith}
use Rattle.std.specs.Prelude.{slice_get}
use Rattle.std.specs.List.{list_all}
use Rattle.std.specs.Char.{encode_utf8}
use Rattle.std.specs.Str.{chars, encode_utf8_all, all_scalars}
use Rattle.std.proofs.lemmas.Str.{encodes-append}
use Rattle.ucd_category.specs.GeneralCategory.{general_category}
use Rattle.ucd_category.specs.GeneralCategoryRows.{general_category_rows}
use Rattle.ucd_table.specs.Rows.{value_in}
use Rattle.go_tokens.specs.declared.token.Token.{Token}
use Rattle.go_tokens.specs.declared.token.TokenKind.{TokenKind}
use Rattle.go_tokens.specs.declared.token.TokenKind.TheVariants as token
use Rattle.go_tokens.specs.Characters.{is_white, is_letter, is_digit, is_in_word, is_in_run, is_exponent, is_power, is_sign, is_x, is_b, is_o}
use Rattle.go_tokens.specs.Spellings.{keywords, punctuation, outside_operators, operators, ends_statement_kind}
use Rattle.go_tokens.specs.Literals.{letter_base, is_digit_of}
use Rattle.go_tokens.specs.Pieces.{begun_by, goes}
use Rattle.go_tokens.specs.Lexing.{width, span, inserted, Lexes}
use Rattle.go_tokens.specs.Lexing as lexing
use Rattle.go_tokens.specs.Tokens.{kinds}
use Rattle.go_tokens.specs.Encoding.{IsText, is_plain}
use Rattle.go_tokens.specs.Replacing.{are_apart}
use Rattle.go_tokens.specs.Editing.{Stands, old_text, new_text}
use Rattle.go_tokens.proofs.Public.{lexes_by_test}
use Rattle.go_grammar.specs.declared.kind.Kind.TheVariants as kind
use Rattle.go_grammar.specs.Trees.{Tree, Trees, node, none}
use Rattle.go_rewriting.specs.Sites.{whole}
use Rattle.go_rewriting.specs.Rewriting.{Rewrite, own, edits, IsRange, TextFits, IsTail, NewTokens, Rewriting, before, HasTexts, HasTail, HasNewTokens}
use Rattle.go_print_laws.specs.Lexemes.{Lexeme, mark, identifier, blank, words, IsName, AreNames, AreWords, ends_line}
use Rattle.go_print_laws.specs.Types.{semicolon, right_brace, result_lexemes}
use Rattle.go_print_laws.specs.Calls.{behind_name}
use Rattle.go_print_laws.specs.Headers.{Header, header_text, header_lexemes, HeaderCanBeWritten}
use Rattle.go_print.specs.Texts.{marked, listed}
use Rattle.go_print_laws.specs.Functions.{Function, Statements, returning_lexemes, function_text, function_words}
use Rattle.go_print_laws.proofs.Seams.{apart_before, apart_behind, blank_free, newline_free, newline}
use Rattle.go_print_laws.proofs.Words.{IsMark}
use Rattle.go_print_laws.proofs.Lexed.{Part, words_part, scalars-append, plain-append, plain_allowed}
use Rattle.go_print_laws.proofs.Spelled.{none_open}
use Rattle.go_print_laws.proofs.Standing.{results_end}
use Rattle.go_print_laws.proofs.Called.{names_are, names_open, names_written}
use Rattle.go_print_laws.proofs.Headed.{header_spelled, header_written, parameters_end_line}

-- that the tokens of a text with ranges replaced are those with the new ones in place
abbrev pub TokensRewritten : Type 0
TokensRewritten = (w : Rewriting) → Lexes w.file (before w) w.tokens w.comments → HasTexts w → HasTail w → HasNewTokens w

or_true : (a b : Bool) → a ≡ true → (a || b) ≡ true
or_true true b h = refl
or_true false b h = cc

-- ---- parts

header_part : (file : ℕ) (name : ℕ → List ℕ) (h : Header) → HeaderCanBeWritten name h → Part file (header_text name h) (words (header_lexemes name h []))
header_part file name h w =
    subst (λ bs. Part file bs (words (header_lexemes name h []))) (header_written name h [] ∙ append-nil (header_text name h))
    (words_part file (header_lexemes name h []) (header_spelled name h w) refl (parameters_end_line name h.parameters h.types false (result_lexemes name h.results []) ∙ results_end name h.results []))

return_mark : IsMark token.Return (codes "return")
unfolding begun_by is_white is_letter is_digit is_in_word is_in_run is_exponent is_power is_sign is_x goes operators punctuation outside_operators keywords general_category value_in general_category_rows encode_utf8
return_mark = record { piece = refl; good = refl; token = refl; kind = refl; scalars = refl; plain = refl; encoded = refl }

names_close : (xs : List (List ℕ)) → ends_line true (behind_name xs []) ≡ true
names_close [] = refl
names_close (x ∷ xs) = names_close xs

abbrev return_lexemes : List ℕ → List (List ℕ) → List Lexeme
return_lexemes x xs = mark token.Return (codes "return") ∷ blank ∷ identifier x ∷ behind_name xs []

return_part : (file : ℕ) (x : List ℕ) (xs : List (List ℕ)) → IsName x → AreNames xs → Part file (codes "return " ++ listed (x ∷ xs)) (words (return_lexemes x xs))
return_part file x xs n ns =
    let a : AreWords (return_lexemes x xs) = (return_mark, apart_before (codes "return") 32 [] blank_free, (n, (names_open xs [] none_open).by (chars x), names_are xs [] ns none_open tt)) in
    subst (λ bs. Part file bs (words (return_lexemes x xs))) (ap (λ l. codes "return " ++ (x ++ l)) (names_written xs [] ∙ append-nil (marked (codes ", ") xs)))
    (words_part file (return_lexemes x xs) a refl (names_close xs))

names_words : (xs : List (List ℕ)) (rest : List Lexeme) → words (behind_name xs rest) ≡ words (behind_name xs []) ++ words rest
names_words [] rest = refl
names_words (x ∷ xs) rest = ap (λ l. token.Comma ∷ token.Identifier ∷ l) (names_words xs rest)

-- ---- the texts around them

abbrev short_tokens : ℕ → List Token
short_tokens file = lexing.token file token.Identifier 1 1 ∷ lexing.token file token.LeftBrace 3 1 ∷ lexing.token file token.Identifier 5 1 ∷ inserted file 6 ∷ lexing.token file token.RightBrace 7 1 ∷ inserted file 8 ∷ []

abbrev long_tokens : ℕ → List Token
long_tokens file =
    lexing.token file token.Identifier 1 1 ∷ lexing.token file token.LeftBrace 3 1 ∷ lexing.token file token.Identifier 5 1 ∷ inserted file 6 ∷ lexing.token file token.Identifier 7 1 ∷ inserted file 8
    ∷ lexing.token file token.RightBrace 9 1 ∷ inserted file 10 ∷ []

short_lexes : (file : ℕ) → Lexes file (codes "\nx {\nx\n}\n") (short_tokens file) []
unfolding width span begun_by is_white is_letter is_digit is_in_word is_in_run is_exponent is_power is_sign is_x is_b is_o is_digit_of letter_base goes operators punctuation outside_operators keywords general_category value_in general_category_rows encode_utf8
short_lexes file = lexes_by_test file (codes "\n" ∷ codes "x" ∷ codes " " ∷ codes "{" ∷ codes "\n" ∷ codes "x" ∷ codes "\n" ∷ codes "}" ∷ codes "\n" ∷ []) refl

long_lexes : (file : ℕ) → Lexes file (codes "\nx {\nx\nx\n}\n") (long_tokens file) []
unfolding width span begun_by is_white is_letter is_digit is_in_word is_in_run is_exponent is_power is_sign is_x is_b is_o is_digit_of letter_base goes operators punctuation outside_operators keywords general_category value_in general_category_rows encode_utf8
long_lexes file = lexes_by_test file (codes "\n" ∷ codes "x" ∷ codes " " ∷ codes "{" ∷ codes "\n" ∷ codes "x" ∷ codes "\n" ∷ codes "x" ∷ codes "\n" ∷ codes "}" ∷ codes "\n" ∷ []) refl

no_tail : (file : ℕ) → IsTail file [] []
no_tail file = record { begins = refl; comments = []; lexes = lexes_by_test file [] refl }

-- ---- ranges

abbrev exchange : (file : ℕ) → List ℕ → ℕ → (text : List ℕ) → Stands file text → Rewrite
exchange file kept from text s = record { kept = kept; old = codes "x"; from = from; upto = suc from; new = text; alone = s.tokens; path = []; change = whole (node kind.Name 0 1 none); next = [] }

-- the `x` of this number, at this place
unfoldable named_range : (file : ℕ) (ts : List Token) (from start : ℕ) → Some (lexing.token file token.Identifier start 1) ≡ slice_get ts from → (i j : ℕ) → start ≡ i → start + 1 ≡ j → IsRange ts from (suc from) i j
unfolding span
named_range file ts from start h i j a b = record {
  first = lexing.token file token.Identifier start 1;
  last = lexing.token file token.Identifier start 1;
  order = omega arith;
  has_first = sym h;
  has_last = ap (slice_get ts) (let e : suc from - 1 ≡ from = omega arith in e) ∙ sym h;
  first_written = omega arith;
  last_written = omega arith;
  begins = a;
  ends = b;
}

part_fits : (file : ℕ) (ts : List Token) (at from start : ℕ) (bytes : List ℕ) (ws : List TokenKind) (p : Part file bytes ws) (kept old_behind new_behind : List ℕ)
    → Some (lexing.token file token.Identifier start 1) ≡ slice_get ts from → start ≡ at + width kept → start + 1 ≡ at + width kept + width (codes "x")
    → are_apart kept (p.text ++ new_behind) ≡ true → are_apart p.text new_behind ≡ true → TextFits file ts at (exchange file kept from p.text p.stands) old_behind new_behind
unfolding named_range
part_fits file ts at from start bytes ws p kept old_behind new_behind h a b before behind = record {
  range = named_range file ts from start h (at + width kept) (at + width kept + width (codes "x")) a b;
  stands = p.stands;
  tokens = refl;
  apart_before = before;
  apart_behind = or_true _ _ behind;
  line = λ _. sym p.closes;
}

-- behind a line's end nothing joins
behind_line : (ys : List ℕ) → are_apart (10 ∷ []) ys ≡ true
behind_line ys = apart_behind 10 newline ys

behind_brace : (ys : List ℕ) → are_apart (32 ∷ 123 ∷ 10 ∷ []) ys ≡ true
behind_brace [] = refl
behind_brace (y ∷ ys) = apart_behind 10 newline (y ∷ ys)

-- ---- bytes

joined : (a b x y : List ℕ) → encode_utf8_all a ≡ x → encode_utf8_all b ≡ y → encode_utf8_all (a ++ b) ≡ x ++ y
joined a b x y e f = encodes-append a b ∙ (λ j. e j ++ f j)

short_regroup : (h b : List ℕ) → codes "\n" ++ (h ++ (codes " {\n" ++ (b ++ codes "\n}\n"))) ≡ codes "\n" ++ h ++ codes " {\n" ++ b ++ codes "\n" ++ [] ++ codes "}\n"
short_regroup h b = simp append_assoc

long_group : (a h c b d r e f : List ℕ) → a ++ (h ++ (c ++ (b ++ (d ++ (r ++ (e ++ f)))))) ≡ (((((a ++ h) ++ c) ++ b) ++ d) ++ (r ++ e)) ++ f
long_group a h c b d r e f = simp append_assoc

long_regroup : (h b r : List ℕ) → codes "\n" ++ (h ++ (codes " {\n" ++ (b ++ (codes "\n" ++ (r ++ codes "\n}\n"))))) ≡ codes "\n" ++ h ++ codes " {\n" ++ b ++ codes "\n" ++ (r ++ codes "\n") ++ codes "}\n"
long_regroup h b r = long_group (codes "\n") h (codes " {\n") b (codes "\n") r (codes "\n") (codes "}\n")

-- ---- what becomes of the texts

-- The bytes are a text with these tokens, which may be appended to a file.
pub record Read (file : ℕ) (bytes : List ℕ) (ws : List TokenKind) : Type 0 where
  pub text : List ℕ
  pub is_text : IsText text bytes
  pub tokens : List Token
  pub tail : IsTail file text tokens
  pub kinds_are : kinds tokens ≡ ws

module _ (law : TokensRewritten) (file : ℕ) (hb bb : List ℕ) (hs ws : List TokenKind) (h : Part file hb hs) (b : Part file bb ws) where
  abbrev short_ranges : List Rewrite
  short_ranges = exchange file (codes "\n") 0 h.text h.stands ∷ exchange file (codes " {\n") 2 b.text b.stands ∷ []

  abbrev short_text : List ℕ
  short_text = codes "\n" ++ (h.text ++ (codes " {\n" ++ (b.text ++ (codes "\n}\n" ++ []))))

  short_fits : HasTexts (record { file = file; tokens = short_tokens file; comments = []; tree = node kind.Name 0 1 none; ranges = short_ranges; rest = codes "\n}\n"; tail = []; tail_tokens = [] })
  unfolding width encode_utf8
  short_fits = (
    part_fits file (short_tokens file) 0 0 1 hb hs h (codes "\n") (old_text (edits (exchange file (codes " {\n") 2 b.text b.stands ∷ []) (codes "\n}\n"))) (codes " {\n" ++ (b.text ++ (codes "\n}\n" ++ []))) refl refl refl
        (behind_line _) (apart_before h.text 32 [] blank_free),
    (part_fits file (short_tokens file) 2 2 5 bb ws b (codes " {\n") (codes "\n}\n") (codes "\n}\n" ++ []) refl refl refl (behind_brace _) (apart_before b.text 10 [] newline_free), tt),
  )

  pub short_read : Read file (codes "\n" ++ hb ++ codes " {\n" ++ bb ++ codes "\n" ++ [] ++ codes "}\n") (hs ++ (token.LeftBrace ∷ (ws ++ (token.Semicolon ∷ token.RightBrace ∷ token.Semicolon ∷ []))))
  unfolding encode_utf8
  short_read =
      let n = law (record { file = file; tokens = short_tokens file; comments = []; tree = node kind.Name 0 1 none; ranges = short_ranges; rest = codes "\n}\n"; tail = []; tail_tokens = [] }) (short_lexes file) short_fits (no_tail file) in
      let t1 = b.text ++ codes "\n}\n" in
      let t2 = codes " {\n" ++ t1 in
      let t3 = h.text ++ t2 in
      let y1 = bb ++ codes "\n}\n" in
      let y2 = codes " {\n" ++ y1 in
      record {
        text = short_text;
        is_text = record {
          scalars = scalars-append (codes "\n") t3 refl (scalars-append h.text t2 h.scalars (scalars-append (codes " {\n") t1 refl (scalars-append b.text (codes "\n}\n") b.scalars refl)));
          encoded =
              joined (codes "\n") t3 (codes "\n") (hb ++ y2) refl (joined h.text t2 hb y2 h.encoded (joined (codes " {\n") t1 (codes " {\n") y1 refl (joined b.text (codes "\n}\n") bb (codes "\n}\n") b.encoded refl))) ∙ short_regroup hb bb;
          allowed = plain_allowed (codes "\n" ++ t3) (plain-append (codes "\n") t3 refl (plain-append h.text t2 h.plain (plain-append (codes " {\n") t1 refl (plain-append b.text (codes "\n}\n") b.plain refl))));
        };
        tokens = n.tokens;
        tail = record { begins = refl; comments = n.comments; lexes = n.lexes };
        kinds_are = n.kinds_are ∙ append-nil (kinds (own h.stands.tokens) ++ (token.LeftBrace ∷ (kinds (own b.stands.tokens) ++ (token.Semicolon ∷ token.RightBrace ∷ token.Semicolon ∷ []))))
            ∙ (λ j. h.kinds_are j ++ (token.LeftBrace ∷ (b.kinds_are j ++ (token.Semicolon ∷ token.RightBrace ∷ token.Semicolon ∷ []))));
      }

  module _ (rb : List ℕ) (rs : List TokenKind) (r : Part file rb rs) where
    abbrev long_ranges : List Rewrite
    long_ranges = exchange file (codes "\n") 0 h.text h.stands ∷ exchange file (codes " {\n") 2 b.text b.stands ∷ exchange file (codes "\n") 4 r.text r.stands ∷ []

    abbrev long_text : List ℕ
    long_text = codes "\n" ++ (h.text ++ (codes " {\n" ++ (b.text ++ (codes "\n" ++ (r.text ++ (codes "\n}\n" ++ []))))))

    long_fits : HasTexts (record { file = file; tokens = long_tokens file; comments = []; tree = node kind.Name 0 1 none; ranges = long_ranges; rest = codes "\n}\n"; tail = []; tail_tokens = [] })
    unfolding width encode_utf8
    long_fits = (
      part_fits file (long_tokens file) 0 0 1 hb hs h (codes "\n") (codes " {\nx\nx\n}\n") (codes " {\n" ++ (b.text ++ (codes "\n" ++ (r.text ++ (codes "\n}\n" ++ []))))) refl refl refl
          (behind_line _) (apart_before h.text 32 [] blank_free),
      (
        part_fits file (long_tokens file) 2 2 5 bb ws b (codes " {\n") (codes "\nx\n}\n") (codes "\n" ++ (r.text ++ (codes "\n}\n" ++ []))) refl refl refl (behind_brace _) (apart_before b.text 10 [] newline_free),
        (part_fits file (long_tokens file) 6 4 7 rb rs r (codes "\n") (codes "\n}\n") (codes "\n}\n" ++ []) refl refl refl (behind_line _) (apart_before r.text 10 [] newline_free), tt),
      ),
    )

    pub long_read : Read file (codes "\n" ++ hb ++ codes " {\n" ++ bb ++ codes "\n" ++ (rb ++ codes "\n") ++ codes "}\n")
        (hs ++ (token.LeftBrace ∷ (ws ++ (token.Semicolon ∷ (rs ++ (token.Semicolon ∷ token.RightBrace ∷ token.Semicolon ∷ []))))))
    unfolding encode_utf8
    long_read =
        let n = law (record { file = file; tokens = long_tokens file; comments = []; tree = node kind.Name 0 1 none; ranges = long_ranges; rest = codes "\n}\n"; tail = []; tail_tokens = [] }) (long_lexes file) long_fits (no_tail file) in
        let v = codes "\n" in
        let z = codes "\n}\n" in
        let t1 = r.text ++ codes "\n}\n" in
        let t2 = codes "\n" ++ t1 in
        let t3 = b.text ++ t2 in
        let t4 = codes " {\n" ++ t3 in
        let t5 = h.text ++ t4 in
        let y1 = rb ++ codes "\n}\n" in
        let y2 = codes "\n" ++ y1 in
        let y3 = bb ++ y2 in
        let y4 = codes " {\n" ++ y3 in
        record {
          text = long_text;
          is_text = record {
            scalars =
                scalars-append v t5 refl (scalars-append h.text t4 h.scalars (scalars-append (codes " {\n") t3 refl (scalars-append b.text t2 b.scalars (scalars-append v t1 refl (scalars-append r.text z r.scalars refl)))));
            encoded =
                joined (codes "\n") t5 (codes "\n") (hb ++ y4) refl (joined h.text t4 hb y4 h.encoded (joined (codes " {\n") t3 (codes " {\n") y3 refl (joined b.text t2 bb y2 b.encoded
                (joined (codes "\n") t1 (codes "\n") y1 refl (joined r.text (codes "\n}\n") rb (codes "\n}\n") r.encoded refl))))) ∙ long_regroup hb bb rb;
            allowed = plain_allowed (codes "\n" ++ t5) (plain-append (codes "\n") t5 refl (plain-append h.text t4 h.plain (plain-append (codes " {\n") t3 refl (plain-append b.text t2 b.plain
                (plain-append (codes "\n") t1 refl (plain-append r.text (codes "\n}\n") r.plain refl))))));
          };
          tokens = n.tokens;
          tail = record { begins = refl; comments = n.comments; lexes = n.lexes };
          kinds_are =
              n.kinds_are
              ∙ append-nil (kinds (own h.stands.tokens) ++ (token.LeftBrace ∷ (kinds (own b.stands.tokens) ++ (token.Semicolon ∷ (kinds (own r.stands.tokens) ++ (token.Semicolon ∷ token.RightBrace ∷ token.Semicolon ∷ []))))))
              ∙ (λ j. h.kinds_are j ++ (token.LeftBrace ∷ (b.kinds_are j ++ (token.Semicolon ∷ (r.kinds_are j ++ (token.Semicolon ∷ token.RightBrace ∷ token.Semicolon ∷ []))))));
        }

-- ---- functions

pub function_read : TokensRewritten → (file : ℕ) (name : ℕ → List ℕ) (h : Header) (body : List ℕ) (returned : List (List ℕ)) (ws : List TokenKind) (new : Trees) → HeaderCanBeWritten name h → AreNames returned → Statements file body ws new
    → Read file (function_text name (record { header = h; body = body; returned = returned })) (function_words name (record { header = h; body = body; returned = returned }) ws)
function_read law file name h body [] ws new w n b =
    short_read law file (header_text name h) body (words (header_lexemes name h [])) ws (header_part file name h w)
    (record { text = b.text; scalars = b.scalars; plain = b.plain; encoded = b.encoded; stands = b.stands; kinds_are = b.kinds_are; closes = b.closes })
function_read law file name h body (x ∷ xs) ws new w n b =
    let r = long_read law file (header_text name h) body (words (header_lexemes name h [])) ws (header_part file name h w)
    (record { text = b.text; scalars = b.scalars; plain = b.plain; encoded = b.encoded; stands = b.stands; kinds_are = b.kinds_are; closes = b.closes })
    (codes "return " ++ listed (x ∷ xs)) (words (return_lexemes x xs)) (return_part file x xs n.0 n.1) in
    record {
      text = r.text;
      is_text = r.is_text;
      tokens = r.tokens;
      tail = r.tail;
      kinds_are = r.kinds_are ∙ ap (λ l. words (header_lexemes name h []) ++ (token.LeftBrace ∷ (ws ++ (token.Semicolon ∷ token.Return ∷ token.Identifier ∷ l)))) (sym (names_words xs (semicolon ∷ right_brace ∷ semicolon ∷ [])));
    }
