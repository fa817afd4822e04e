-- The law of replaced ranges for texts.
use Rattle.std.proofs.Common.{◌≡◌, cond, ℕ, ◌+◌, ◌-◌, Bool, true, false, ◌&&◌, List, [], ◌∷◌, ◌++◌, length, take, drop, map, append-nil, append_assoc, not, refl, sym, ap, ◌∙◌, subst, arith}
use Rattle.std.specs.Prelude.{slice_range}
use Rattle.std.proofs.lemmas.List.{take_at, drop_at}
use Rattle.std.specs.List.{list_all}
use Rattle.std.specs.Str.{encode_utf8_all}
use Rattle.std.proofs.lemmas.Str.{encodes-append}
use Rattle.go_tokens.specs.Lexing.{width}
use Rattle.go_tokens.proofs.Widths.{width-append, width-nil}
use Rattle.go_tokens.specs.declared.token.TokenKind.TheVariants.{Semicolon}
use Rattle.go_tokens.specs.declared.token.Token.{Token}
use Rattle.go_base.specs.declared.Span.{Span}
use Rattle.go_tokens.specs.declared.piece.PieceKind.{PieceKind}
use Rattle.go_tokens.specs.declared.piece.PieceKind.TheVariants.{LineComment}
use Rattle.go_tokens.specs.Pieces.{kind, is_piece, is_good}
use Rattle.go_tokens.specs.Lexing.{join, IsLongest, Cut, is_token, token_kind, span, token, inserted, ends_statement, line_ends, tokens_of, tokens, comments, Lexes}
use Rattle.go_tokens.specs.Replacing.{Item, read, semicolon, items_of, items, are_apart, Part, old_pieces, new_pieces, Fits, NewLexing}
use Rattle.go_tokens.specs.Editing.{all_apart, has_no_line, is_comment_line}
use Rattle.go_tokens.proofs.Lists.{both}
use Rattle.go_tokens.proofs.Shapes.{stops_longest}
use Rattle.go_tokens.proofs.Seams.{stops_last}
use Rattle.go_tokens.proofs.Replace.{replaced}
use Rattle.go_tokens.proofs.Unique.{one_cut}

-- What stands at a place of a text.
pub range_at : (a p b : List ℕ) (i : ℕ) → i ≡ length a → slice_range (a ++ (p ++ b)) i (i + length p) ≡ p
range_at a p b i e =
    let n : (i + length p) - i ≡ length p = omega arith in
    ap (λ m. take m (drop i (a ++ (p ++ b)))) n ∙ ap (take (length p)) (drop_at a (p ++ b) i (sym e)) ∙ take_at p b (length p) refl

empty_at : (text : List ℕ) (i : ℕ) → slice_range text i i ≡ []
empty_at text i = let n : i - i ≡ 0 = omega arith in ap (λ m. take m (drop i text)) n

none_at : (text : List ℕ) (i : ℕ) → slice_range text i (i + 0) ≡ []
none_at text i = let n : i + 0 - i ≡ 0 = omega arith in ap (λ m. take m (drop i text)) n

read_of : (file : ℕ) (text a p b : List ℕ) (at : ℕ) (e : Bool) → text ≡ a ++ (p ++ b) → at ≡ width a → map (read text) (tokens_of file at p e) ≡ items_of p e
unfolding width span
read_of file text a p b at e f g = by (is_token p) (ends_statement p && e)
  where
    bytes : slice_range (encode_utf8_all text) at (at + width p) ≡ encode_utf8_all p
    bytes = ap (λ t. slice_range t at (at + width p)) (ap encode_utf8_all f ∙ encodes-append a (p ++ b) ∙ ap (λ l. encode_utf8_all a ++ l) (encodes-append p b)) ∙ range_at (encode_utf8_all a) (encode_utf8_all p) (encode_utf8_all b) at g

    by : (t s : Bool) → map (read text) (cond t (token file (token_kind p) at (width p) ∷ cond s (inserted file (at + width p) ∷ []) []) []) ≡ cond t (record { kind = token_kind p; text = encode_utf8_all p } ∷ semicolon s) []
    by false s = refl
    by true false = ap (λ l. record { kind = token_kind p; text = l } ∷ []) bytes
    by true true = ap (λ l. record { kind = token_kind p; text = l } ∷ record { kind = Semicolon; text = slice_range (encode_utf8_all text) (at + width p) (at + width p + 0) } ∷ []) bytes ∙ ap (λ l. record { kind = token_kind p; text = encode_utf8_all p } ∷ record { kind = Semicolon; text = l } ∷ []) (none_at (encode_utf8_all text) (at + width p))

map_append : (f : Token → Item) (xs ys : List Token) → map f (xs ++ ys) ≡ map f xs ++ map f ys
map_append f [] ys = refl
map_append f (x ∷ xs) ys = ap (λ l. f x ∷ l) (map_append f xs ys)

-- tokens without their places
pub read_all : (file : ℕ) (text a : List ℕ) (ps : List (List ℕ)) (at : ℕ) (e : Bool) → text ≡ a ++ join ps → at ≡ width a → map (read text) (tokens file at ps e) ≡ items ps e
read_all file text a [] at e f g = refl
read_all file text a (p ∷ ps) at e f g =
    map_append (read text) (tokens_of file at p (line_ends ps e)) (tokens file (at + width p) ps e)
    ∙ ap (λ l. l ++ map (read text) (tokens file (at + width p) ps e)) (read_of file text a p (join ps) at (line_ends ps e) f g)
    ∙ ap (λ l. items_of p (line_ends ps e) ++ l) (read_all file text (a ++ p) ps (at + width p) e (f ∙ sym (append_assoc a p (join ps))) (let h : at + width p ≡ width (a ++ p) = omega (arith, width-append a p, g) in h))

pub new_lexing : (file : ℕ) (parts : List Part) (tail : List (List ℕ)) (ts : List Token) (cs : List Span) → Lexes file (join (old_pieces parts)) ts cs → Cut (old_pieces parts) [] → Fits parts tail → NewLexing file parts tail ts
new_lexing file parts tail ts cs lexes cut fits =
    let same : lexes.pieces ≡ old_pieces parts = one_cut lexes.pieces (old_pieces parts) lexes.cut cut (ap (λ l. l ++ []) lexes.whole) in
    let good : list_all is_good (old_pieces parts) ≡ true = subst (λ ps. list_all is_good ps ≡ true) same lexes.good in
    let law = replaced parts tail fits cut good in
    record {
      tokens = tokens file 0 (new_pieces parts tail) true;
      comments = comments file 0 (new_pieces parts tail);
      lexes = record { pieces = new_pieces parts tail; whole = refl; cut = law.cut; good = law.good; spelled = refl; noted = refl };
      old = ap (map (read (join (old_pieces parts)))) (lexes.spelled ∙ ap (λ ps. tokens file 0 ps true) same) ∙ read_all file (join (old_pieces parts)) [] (old_pieces parts) 0 true refl (sym width-nil) ∙ law.old;
      new = read_all file (join (new_pieces parts tail)) [] (new_pieces parts tail) 0 true refl (sym width-nil) ∙ law.new;
    }

-- Good pieces of which no neighbours join, and none is a line comment, cut their text: what is printed with blanks between is read again.
pub assembled : (ps : List (List ℕ)) → list_all is_piece ps ≡ true → list_all is_good ps ≡ true → has_no_line ps ≡ true → all_apart ps ≡ true → Cut ps []
assembled [] h g l a = tt
assembled (p ∷ ps) h g l a =
    let hs = both (is_piece p) _ h in
    let gs = both (is_good p) _ g in
    let ls = both (not (is_comment_line (kind p))) _ l in
    let as' = both (are_apart p (join ps)) _ a in
    let stops = stops_last p (join ps) hs.0 gs.0 as'.0 (λ e. absurd (no_line (kind p) e ls.0)) in
    (hs.0, subst (IsLongest p) (sym (append-nil (join ps))) (stops_longest p (join ps) hs.0 stops), assembled ps hs.1 gs.1 ls.1 as'.1)
  where
    no_line : (k : PieceKind) → k ≡ LineComment → not (is_comment_line k) ≡ true → ⊥
    no_line k e h = let f = ap is_comment_line e in cc

pub assembled_lexing : (file : ℕ) (ps : List (List ℕ)) → list_all is_piece ps ≡ true → list_all is_good ps ≡ true → has_no_line ps ≡ true → all_apart ps ≡ true → Lexes file (join ps) (tokens file 0 ps true) (comments file 0 ps)
assembled_lexing file ps h g l a = record { pieces = ps; whole = refl; cut = assembled ps h g l a; good = g; spelled = refl; noted = refl }
