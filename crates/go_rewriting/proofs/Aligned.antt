-- The ranges of a rewriting are those of the parts of its text.
use Rattle.std.proofs.Common.{◌≡◌, ℕ, ◌+◌, ◌-◌, true, false, ◌&&◌, List, [], ◌∷◌, ◌++◌, length, map, Some, refl, sym, ap, ◌∙◌, subst, append_assoc, arith}
use Rattle.std.specs.Prelude.{slice_get}
use Rattle.std.specs.Str.{encode_utf8_all}
use Rattle.std.proofs.lemmas.List.{length-append}
use Rattle.go_base.specs.declared.Span.{Span}
use Rattle.go_tokens.specs.declared.token.Token.{Token}
use Rattle.go_tokens.specs.Pieces.{is_piece}
use Rattle.go_tokens.specs.Lexing.{join, width, Cut, is_token, token_kind, ends_statement, line_ends, span, token, tokens, Lexes}
use Rattle.go_tokens.specs.Tokens.{AreOrdered, span_of}
use Rattle.go_tokens.specs.Replacing.{Item, read, semicolon, items, Range, pieces_of, begins_with_token, IsOld, IsNew, Part, Kept, Replaced, old_pieces, Fits}
use Rattle.go_tokens.specs.Editing.{IsWritten, Matches}
use Rattle.go_tokens.proofs.Public.{width-append, width-nil, piece_some, tokens_ordered, join_two, one_cut, cut_second, items_append, items_range, line_ends_append, line_ends_old, old_blanks, read_all}
use Rattle.go_rewriting.specs.Rewriting.{Rewrite, own, new_items, edits, IsRange, TextsFit}
use Rattle.go_rewriting.proofs.Numbers.{same_start, same_end, token_behind, range_items, front_line, own_range}
use Rattle.go_rewriting.proofs.Parts.{Swap, swaps_of, swaps}

pub token_start : (file at n : ℕ) → (span file at n).start ≡ at
unfolding span
token_start file at n = refl

pub token_end : (file at n : ℕ) → (span file at n).end ≡ at + n
unfolding span
token_end file at n = refl

-- a piece that is the first of a text that begins with a token
pub record Head (ps : List (List ℕ)) : Type 0 where
  pub piece : List ℕ
  pub rest : List (List ℕ)
  pub is : ps ≡ piece ∷ rest
  pub token : is_token piece ≡ true

pub head_of : (ps : List (List ℕ)) → begins_with_token ps ≡ true → Head ps
head_of [] h = cc
head_of (p ∷ ps) h = record { piece = p; rest = ps; is = refl; token = h }

one_swap : (i j k l : ℕ) (us vs : List Item) (xs ys : List Swap) → i ≡ j → k ≡ l → us ≡ vs → xs ≡ ys → (let x : Swap = record { from = i; upto = k; items = us } in x) ∷ xs ≡ (let x : Swap = record { from = j; upto = l; items = vs } in x) ∷ ys
one_swap i j k l us vs xs ys a b c d =
    ap (λ n. (let x : Swap = record { from = n; upto = k; items = us } in x) ∷ xs) a
    ∙ ap (λ n. (let x : Swap = record { from = j; upto = n; items = us } in x) ∷ xs) b
    ∙ ap (λ n. (let x : Swap = record { from = j; upto = l; items = n } in x) ∷ xs) c
    ∙ ap (λ n. (let x : Swap = record { from = j; upto = l; items = vs } in x) ∷ n) d

module _ (file : ℕ) (whole : List (List ℕ)) (cut : Cut whole []) where
  ts : List Token
  ts = tokens file 0 whole true

  ordered : AreOrdered 0 (map span_of (tokens file 0 whole true)) (0 + width (join whole))
  ordered = tokens_ordered file 0 whole true

  -- The number of a written token that begins where a piece does, or ends where one does.
  pub number_at : (front : List (List ℕ)) (p : List ℕ) (rest : List (List ℕ)) (i : ℕ) (t : Token) → whole ≡ front ++ p ∷ rest → is_token p ≡ true → slice_get (tokens file 0 whole true) i ≡ Some t → IsWritten t → t.span.start ≡ width (join front) → i ≡ length (items front false)
  number_at front p rest i t w h e f s =
      let u : Token = token file (token_kind p) (width (join front)) (width p) in
      let piece : is_piece p ≡ true = (cut_second front (p ∷ rest) [] (subst (λ x. Cut x []) w cut)).0 in
      let at : slice_get (tokens file 0 whole true) (length (items front false)) ≡ Some u = ap (λ x. slice_get (tokens file 0 x true) (length (items front false))) w ∙ token_behind file front p rest true h in
      same_start (0 + width (join whole)) (tokens file 0 whole true) i (length (items front false)) t u ordered e at f (omega (arith, token_start file (width (join front)) (width p), token_end file (width (join front)) (width p), piece_some p piece)) (s ∙ sym (token_start file (width (join front)) (width p)))

  pub number_to : (front : List (List ℕ)) (p : List ℕ) (rest : List (List ℕ)) (i : ℕ) (t : Token) → whole ≡ front ++ p ∷ rest → is_token p ≡ true → slice_get (tokens file 0 whole true) i ≡ Some t → IsWritten t → t.span.end ≡ width (join front) + width p → i ≡ length (items front false)
  number_to front p rest i t w h e f s =
      let u : Token = token file (token_kind p) (width (join front)) (width p) in
      let piece : is_piece p ≡ true = (cut_second front (p ∷ rest) [] (subst (λ x. Cut x []) w cut)).0 in
      let at : slice_get (tokens file 0 whole true) (length (items front false)) ≡ Some u = ap (λ x. slice_get (tokens file 0 x true) (length (items front false))) w ∙ token_behind file front p rest true h in
      same_end (0 + width (join whole)) (tokens file 0 whole true) i (length (items front false)) t u ordered e at f (omega (arith, token_start file (width (join front)) (width p), token_end file (width (join front)) (width p), piece_some p piece)) (s ∙ sym (token_end file (width (join front)) (width p)))

  -- the new items of a range
  own_items : (r : Rewrite) (b : Range) (alone : List Token) (ds : List Span) → Lexes file r.new alone ds → alone ≡ r.alone → IsNew b → join (pieces_of b) ≡ r.new → items (pieces_of b) false ≡ new_items r
  own_items r b alone ds l e n j =
      let same : l.pieces ≡ pieces_of b = one_cut l.pieces (pieces_of b) l.cut n.cut (ap (λ x. x ++ []) (l.whole ∙ sym j)) in
      let last : is_piece b.last ≡ true = (cut_second b.before (b.last ∷ b.blanks) [] n.cut).0 in
      let own_is : own r.alone ≡ tokens file 0 (pieces_of b) false = ap own (sym e ∙ l.spelled ∙ ap (λ ps. tokens file 0 ps true) same) ∙ own_range file b last n.ends n.blanks in
      sym (ap (map (read r.new)) own_is ∙ read_all file r.new [] (pieces_of b) 0 false (sym j) (sym width-nil))

  pub aligned : (rs : List Rewrite) (rest tail : List ℕ) (parts : List Part) (tail_pieces front : List (List ℕ)) (at n : ℕ) → whole ≡ front ++ old_pieces parts → at ≡ width (join front) → n ≡ length (items front (line_ends (old_pieces parts) true)) → Matches (edits rs rest) parts → Fits parts tail_pieces → TextsFit file (tokens file 0 whole true) at rs rest tail → swaps_of n parts ≡ swaps rs
  aligned [] rest tail [] tp front at n w a c m f h = absurd m
  aligned [] rest tail (Kept ps ∷ []) tp front at n w a c m f h = refl
  aligned [] rest tail (Kept ps ∷ x ∷ parts) tp front at n w a c m f h = absurd m
  aligned [] rest tail (Replaced x y ∷ parts) tp front at n w a c m f h = absurd m
  aligned (r ∷ rs) rest tail [] tp front at n w a c m f h = absurd m
  aligned (r ∷ rs) rest tail (Kept ps ∷ []) tp front at n w a c m f h = absurd m
  aligned (r ∷ rs) rest tail (Kept ps ∷ Kept qs ∷ parts) tp front at n w a c m f h = absurd m
  aligned (r ∷ rs) rest tail (Replaced x y ∷ parts) tp front at n w a c m f h = absurd m
  aligned (r ∷ rs) rest tail (Kept ps ∷ Replaced x y ∷ parts) tp front at n w a c m f h =
      let others : List (List ℕ) = old_pieces parts in
      let old : List (List ℕ) = pieces_of x in
      let is_old : IsOld x = f.1.0 in
      let is_new : IsNew y = f.1.1 in
      let range : IsRange (tokens file 0 whole true) r.from r.upto (at + width r.kept) (at + width r.kept + width r.old) = h.0.range in
      let head : Head old = head_of old is_old.begins in
      let no_line : line_ends (old ++ others) true ≡ false = line_ends_append old others true ∙ line_ends_old old (line_ends others true) is_old.begins in
      let f1 : List (List ℕ) = front ++ ps in
      let w1 : whole ≡ f1 ++ (old ++ others) = w ∙ sym (append_assoc front ps (old ++ others)) in
      let n1 : ℕ = n + length (items ps (line_ends (old ++ others) true)) in
      let c1 : n1 ≡ length (items f1 false) =
      let here : length (items ps (line_ends (old ++ others) true)) ≡ length (items ps false) = ap (λ b. length (items ps b)) no_line in
      let there : n ≡ length (items front (line_ends ps false)) = c ∙ ap (λ b. length (items front b)) (line_ends_append ps (old ++ others) true ∙ ap (line_ends ps) no_line) in
      let both : length (items f1 false) ≡ length (items front (line_ends ps false) ++ items ps false) = ap length (items_append front ps false) in
      omega (arith, here, there, both, length-append (items front (line_ends ps false)) (items ps false)) in
      let j1 : width (join f1) ≡ at + width r.kept =
      let z : width (join f1) ≡ width (join front ++ r.kept) = ap width (join_two front ps ∙ ap (λ l. join front ++ l) m.0) in
      omega (arith, z, width-append (join front) r.kept, a) in
      let w_head : whole ≡ f1 ++ head.piece ∷ (head.rest ++ others) = w1 ∙ ap (λ l. f1 ++ (l ++ others)) head.is in
      let from : r.from ≡ n1 = number_at f1 head.piece (head.rest ++ others) r.from range.first w_head head.token range.has_first range.first_written (range.begins ∙ sym j1) ∙ sym c1 in
      let f2 : List (List ℕ) = f1 ++ x.before in
      let tight : old ++ others ≡ x.before ++ (x.last ∷ others) = append_assoc x.before (x.last ∷ x.blanks) others ∙ ap (λ l. x.before ++ (x.last ∷ (l ++ others))) is_old.blanks in
      let w_last : whole ≡ f2 ++ x.last ∷ others = w1 ∙ ap (λ l. f1 ++ l) tight ∙ sym (append_assoc f1 x.before (x.last ∷ others)) in
      let j2 : width (join f2) + width x.last ≡ at + width r.kept + width r.old =
      let z : width (join f2) ≡ width (join f1 ++ join x.before) = ap width (join_two f1 x.before) in
      let o : width r.old ≡ width (join x.before ++ (x.last ++ join x.blanks)) = ap width (sym m.1 ∙ join_two x.before (x.last ∷ x.blanks)) in
      let b : width (join x.blanks) ≡ width [] = ap (λ l. width (join l)) is_old.blanks in
      omega (arith, z, o, b, width-nil, width-append (join f1) (join x.before), width-append (join x.before) (x.last ++ join x.blanks), width-append x.last (join x.blanks), j1) in
      let to : r.upto - 1 ≡ length (items f2 false) = number_to f2 x.last others (r.upto - 1) range.last w_last is_old.ends range.has_last range.last_written (range.ends ∙ sym j2) in
      let out : List Item = items old false in
      let many : length out ≡ length (items x.before false) + 1 = ap length (range_items x is_old.ends (old_blanks x is_old)) ∙ length-append (items x.before false) (record { kind = token_kind x.last; text = encode_utf8_all x.last } ∷ []) in
      let c2 : length (items f2 false) ≡ n1 + length (items x.before false) =
      let z : length (items f2 false) ≡ length (items f1 (line_ends x.before false) ++ items x.before false) = ap length (items_append f1 x.before false) in
      let s : length (items f1 (line_ends x.before false)) ≡ length (items f1 false) = ap (λ b. length (items f1 b)) (front_line x.before x.last x.blanks is_old.begins) in
      omega (arith, z, s, length-append (items f1 (line_ends x.before false)) (items x.before false), c1) in
      let upto : r.upto ≡ n1 + length out = omega (arith, to, many, c2, range.order) in
      let end : List Item = semicolon (ends_statement x.last && line_ends others true) in
      let f3 : List (List ℕ) = f1 ++ old in
      let w3 : whole ≡ f3 ++ others = w1 ∙ sym (append_assoc f1 old others) in
      let j3 : at + width r.kept + width r.old ≡ width (join f3) =
      let z : width (join f3) ≡ width (join f1 ++ r.old) = ap width (join_two f1 old ∙ ap (λ l. join f1 ++ l) m.1) in
      omega (arith, z, width-append (join f1) r.old, j1) in
      let c3 : n1 + length (out ++ end) ≡ length (items f3 (line_ends others true)) =
      let z : length (items f3 (line_ends others true)) ≡ length (items f1 (line_ends old (line_ends others true)) ++ items old (line_ends others true)) = ap length (items_append f1 old (line_ends others true)) in
      let s : length (items f1 (line_ends old (line_ends others true))) ≡ length (items f1 false) = ap (λ b. length (items f1 b)) (line_ends_old old (line_ends others true) is_old.begins) in
      let e : length (items old (line_ends others true)) ≡ length (out ++ end) = ap length (items_range x (line_ends others true) is_old.ends (old_blanks x is_old)) in
      omega (arith, z, s, e, length-append (items f1 (line_ends old (line_ends others true))) (items old (line_ends others true)), c1) in
      one_swap n1 r.from (n1 + length out) r.upto (items (pieces_of y) false) (new_items r) (swaps_of (n1 + length (out ++ end)) parts) (swaps rs) (sym from) (sym upto)
      (own_items r y h.0.stands.tokens h.0.stands.comments h.0.stands.lexes h.0.tokens is_new m.2)
      (aligned rs rest tail parts tp f3 (at + width r.kept + width r.old) (n1 + length (out ++ end)) w3 j3 c3 m.3 f.1.4 h.1)
