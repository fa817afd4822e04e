-- A part of a text, from one token to another, has these tokens when it stands alone.
use Rattle.std.proofs.Common.{◌≡◌, ℕ, ◌+◌, ◌-◌, ◌<◌, Bool, true, false, cond, ◌&&◌, List, [], ◌∷◌, ◌++◌, length, take, drop, map, Some, refl, sym, ap, ◌∙◌, subst, append_assoc, append-nil, arith}
use Rattle.std.specs.Prelude.{slice_get}
use Rattle.std.specs.List.{list_all}
use Rattle.std.specs.Str.{encode_utf8_all}
use Rattle.std.proofs.lemmas.List.{length-append, take_at, drop_at, map-append, take-map}
use Rattle.go_base.specs.declared.Span.{Span}
use Rattle.go_tokens.specs.declared.token.Token.{Token}
use Rattle.go_tokens.specs.declared.token.TokenKind.TheVariants as kinds_of
use Rattle.go_tokens.specs.Spellings.{ends_statement_kind}
use Rattle.go_tokens.specs.Pieces.{is_piece, is_good}
use Rattle.go_tokens.specs.Lexing.{join, width, Cut, token_kind, ends_statement, line_ends, token, tokens, comments, Lexes}
use Rattle.go_tokens.specs.Tokens.{kinds}
use Rattle.go_tokens.specs.Replacing.{Item, read, semicolon, items, pieces_of}
use Rattle.go_tokens.specs.Editing.{Spans, Stands}
use Rattle.go_tokens.proofs.Public.{width-append, width-nil, piece_some, tokens_ordered, join_two, cut_first, cut_second, cut_front, all_both, items_append, items_range, line_ends_append, line_ends_old, old_blanks, read_all, OldRange, old_range}
use Rattle.go_rewriting.specs.Rewriting.{own, IsRange}
use Rattle.go_rewriting.specs.Excerpts.{closing, Excerpt}
use Rattle.go_rewriting.proofs.Numbers.{token_behind, range_items, front_line, own_range}
use Rattle.go_rewriting.proofs.Parts.{kind_in, kinds_read, drop_map}
use Rattle.go_rewriting.proofs.Aligned.{token_start, token_end, Head, head_of, number_at, number_to}
use Rattle.go_rewriting.proofs.Tokens.{among_get, spans_of}

module _ (file : ℕ) (text before inner behind : List ℕ) (whole : List (List ℕ)) (cut : Cut whole []) (good : list_all is_good whole ≡ true) (is : join whole ≡ text) (parts : text ≡ before ++ (inner ++ behind)) (from upto : ℕ) (range : IsRange (tokens file 0 whole true) from upto (width before) (width before + width inner)) where
  spans : Spans (tokens file 0 whole true) (0 + width before) (0 + width before + width inner)
  spans = subst (λ n. Spans (tokens file 0 whole true) n (n + width inner)) (let z : width before ≡ 0 + width before = omega arith in z) (spans_of (0 + width (join whole)) (tokens file 0 whole true) from upto (width before) (width before + width inner) (tokens_ordered file 0 whole true) range)

  r : OldRange whole before inner behind spans.last
  r = old_range file whole [] whole before inner behind 0 cut refl (is ∙ parts) (sym width-nil) spans

  cut_here : Cut (pieces_of r.range) []
  cut_here = cut_front (pieces_of r.range) [] (join r.rest_pieces ++ []) (cut_first (pieces_of r.range) r.rest_pieces [] (cut_second r.first_pieces (pieces_of r.range ++ r.rest_pieces) [] (subst (λ x. Cut x []) r.is cut)))

  good_here : list_all is_good (pieces_of r.range) ≡ true
  good_here = (all_both (pieces_of r.range) r.rest_pieces (all_both r.first_pieces (pieces_of r.range ++ r.rest_pieces) (subst (λ x. list_all is_good x ≡ true) r.is good)).1).0

  last_piece : is_piece r.range.last ≡ true
  last_piece = (cut_second r.range.before (r.range.last ∷ r.range.blanks) [] cut_here).0

  head : Head (pieces_of r.range)
  head = head_of (pieces_of r.range) r.is_old.begins

  head_piece : is_piece head.piece ≡ true
  head_piece = (subst (λ x. Cut x []) head.is cut_here).0

  front_long : width (join r.first_pieces) ≡ width before
  front_long = ap width r.kept_is

  from_is : from ≡ length (items r.first_pieces false)
  from_is = number_at file whole cut r.first_pieces head.piece (head.rest ++ r.rest_pieces) from range.first (r.is ∙ ap (λ x. r.first_pieces ++ (x ++ r.rest_pieces)) head.is) head.token range.has_first range.first_written (range.begins ∙ sym front_long)

  many : length (items (pieces_of r.range) false) ≡ length (items r.range.before false) + 1
  many = ap length (range_items r.range r.is_old.ends (old_blanks r.range r.is_old)) ∙ length-append (items r.range.before false) (record { kind = token_kind r.range.last; text = encode_utf8_all r.range.last } ∷ [])

  inner_long : width (join r.range.before) + width r.range.last ≡ width inner
  inner_long =
      let z : width inner ≡ width (join r.range.before ++ (r.range.last ++ join r.range.blanks)) = ap width (sym r.old_is ∙ join_two r.range.before (r.range.last ∷ r.range.blanks)) in
      let b : width (join r.range.blanks) ≡ width [] = ap (λ x. width (join x)) r.is_old.blanks in
      omega (arith, z, b, width-nil, width-append (join r.range.before) (r.range.last ++ join r.range.blanks), width-append r.range.last (join r.range.blanks))

  divided : whole ≡ (r.first_pieces ++ r.range.before) ++ r.range.last ∷ r.rest_pieces
  divided =
      let tight : pieces_of r.range ++ r.rest_pieces ≡ r.range.before ++ (r.range.last ∷ r.rest_pieces) = append_assoc r.range.before (r.range.last ∷ r.range.blanks) r.rest_pieces ∙ ap (λ x. r.range.before ++ (r.range.last ∷ (x ++ r.rest_pieces))) r.is_old.blanks in
      r.is ∙ ap (λ x. r.first_pieces ++ x) tight ∙ sym (append_assoc r.first_pieces r.range.before (r.range.last ∷ r.rest_pieces))

  last_at : upto - 1 ≡ length (items (r.first_pieces ++ r.range.before) false)
  last_at =
      let z : width (join (r.first_pieces ++ r.range.before)) ≡ width (join r.first_pieces ++ join r.range.before) = ap width (join_two r.first_pieces r.range.before) in
      number_to file whole cut (r.first_pieces ++ r.range.before) r.range.last r.rest_pieces (upto - 1) range.last divided r.is_old.ends range.has_last range.last_written (omega (arith, range.ends, z, width-append (join r.first_pieces) (join r.range.before), front_long, inner_long))

  last_kind : token_kind r.range.last ≡ range.last.kind
  last_kind =
      let u : Token = token file (token_kind r.range.last) (width (join (r.first_pieces ++ r.range.before))) (width r.range.last) in
      let here : slice_get (tokens file 0 whole true) (upto - 1) ≡ Some u = ap (slice_get (tokens file 0 whole true)) last_at ∙ ap (λ x. slice_get (tokens file 0 x true) (length (items (r.first_pieces ++ r.range.before) false))) divided ∙ token_behind file (r.first_pieces ++ r.range.before) r.range.last r.rest_pieces true r.is_old.ends in
      let both : Some u ≡ Some range.last = sym here ∙ range.has_last in
      let one : u ≡ range.last = cc in
      ap (λ (t : Token). t.kind) one

  long : upto - from ≡ length (items (pieces_of r.range) false)
  long =
      let c : length (items (r.first_pieces ++ r.range.before) false) ≡ length (items r.first_pieces (line_ends r.range.before false) ++ items r.range.before false) = ap length (items_append r.first_pieces r.range.before false) in
      let s : length (items r.first_pieces (line_ends r.range.before false)) ≡ length (items r.first_pieces false) = ap (λ b. length (items r.first_pieces b)) (front_line r.range.before r.range.last r.range.blanks r.is_old.begins) in
      omega (arith, last_at, c, s, many, from_is, length-append (items r.first_pieces (line_ends r.range.before false)) (items r.range.before false), range.order)

  lexes : Lexes file inner (tokens file 0 (pieces_of r.range) true) (comments file 0 (pieces_of r.range))
  lexes = record { pieces = pieces_of r.range; whole = r.old_is; cut = cut_here; good = good_here; spelled = refl; noted = refl }

  first_at : slice_get (tokens file 0 (pieces_of r.range) true) 0 ≡ Some (token file (token_kind head.piece) (width []) (width head.piece))
  first_at = ap (λ x. slice_get (tokens file 0 x true) 0) head.is ∙ token_behind file [] head.piece head.rest true head.token

  end_at : slice_get (tokens file 0 (pieces_of r.range) true) (length (items r.range.before false)) ≡ Some (token file (token_kind r.range.last) (width (join r.range.before)) (width r.range.last))
  end_at = token_behind file r.range.before r.range.last r.range.blanks true r.is_old.ends

  inner_some : 0 < width inner
  inner_some = omega (arith, inner_long, piece_some r.range.last last_piece)

  abbrev stands : Stands file inner
  stands = record {
    before = [];
    inner = inner;
    behind = [];
    whole = sym (append-nil inner);
    blank_before = refl;
    blank_behind = refl;
    tokens = tokens file 0 (pieces_of r.range) true;
    comments = comments file 0 (pieces_of r.range);
    lexes = lexes;
    spans = record {
      first = token file (token_kind head.piece) (width []) (width head.piece);
      last = token file (token_kind r.range.last) (width (join r.range.before)) (width r.range.last);
      has_first = among_get (tokens file 0 (pieces_of r.range) true) 0 (token file (token_kind head.piece) (width []) (width head.piece)) first_at;
      has_last = among_get (tokens file 0 (pieces_of r.range) true) (length (items r.range.before false)) (token file (token_kind r.range.last) (width (join r.range.before)) (width r.range.last)) end_at;
      first_written = omega (arith, token_start file (width []) (width head.piece), token_end file (width []) (width head.piece), piece_some head.piece head_piece);
      last_written = omega (arith, token_start file (width (join r.range.before)) (width r.range.last), token_end file (width (join r.range.before)) (width r.range.last), piece_some r.range.last last_piece);
      begins = token_start file (width []) (width head.piece);
      ends = token_end file (width (join r.range.before)) (width r.range.last) ∙ (let z : width (join r.range.before) + width r.range.last ≡ width [] + width inner = omega (arith, inner_long, width-nil) in z);
      some = omega (arith, width-nil, inner_some);
    };
  }

  own_is : own (tokens file 0 (pieces_of r.range) true) ≡ tokens file 0 (pieces_of r.range) false
  own_is = own_range file r.range last_piece r.is_old.ends (old_blanks r.range r.is_old)

  own_items : map (read inner) (own (tokens file 0 (pieces_of r.range) true)) ≡ items (pieces_of r.range) false
  own_items = ap (map (read inner)) own_is ∙ read_all file inner [] (pieces_of r.range) 0 false (sym r.old_is) (sym width-nil)

  -- the items of the whole text
  around : map (read text) (tokens file 0 whole true) ≡ items r.first_pieces false ++ (items (pieces_of r.range) false ++ (semicolon (ends_statement r.range.last && line_ends r.rest_pieces true) ++ items r.rest_pieces true))
  around =
      let e : Bool = line_ends r.rest_pieces true in
      let all : List (List ℕ) = pieces_of r.range ++ r.rest_pieces in
      let line : line_ends (pieces_of r.range ++ r.rest_pieces) true ≡ false = line_ends_append (pieces_of r.range) r.rest_pieces true ∙ line_ends_old (pieces_of r.range) e r.is_old.begins in
      read_all file text [] whole 0 true (sym is) (sym width-nil)
      ∙ ap (λ x. items x true) r.is
      ∙ items_append r.first_pieces all true
      ∙ ap (λ b. items r.first_pieces b ++ items all true) line
      ∙ ap (λ x. items r.first_pieces false ++ x) (items_append (pieces_of r.range) r.rest_pieces true ∙ ap (λ x. x ++ items r.rest_pieces true) (items_range r.range e r.is_old.ends (old_blanks r.range r.is_old)) ∙ append_assoc (items (pieces_of r.range) false) (semicolon (ends_statement r.range.last && e)) (items r.rest_pieces true))

  taken : take (upto - from) (drop from (map (read text) (tokens file 0 whole true))) ≡ items (pieces_of r.range) false
  taken =
      let b : List Item = items (pieces_of r.range) false in
      let c : List Item = semicolon (ends_statement r.range.last && line_ends r.rest_pieces true) ++ items r.rest_pieces true in
      ap (λ x. take (upto - from) (drop from x)) around ∙ ap (take (upto - from)) (drop_at (items r.first_pieces false) (b ++ c) from (sym from_is)) ∙ take_at b c (upto - from) (sym long)

  texts : map (read inner) (own (tokens file 0 (pieces_of r.range) true)) ≡ take (upto - from) (drop from (map (read text) (tokens file 0 whole true)))
  texts = own_items ∙ sym taken

  kinds_same : kinds (own (tokens file 0 (pieces_of r.range) true)) ≡ take (upto - from) (drop from (kinds (tokens file 0 whole true)))
  kinds_same =
      sym (kinds_read inner (own (tokens file 0 (pieces_of r.range) true)))
      ∙ ap (map kind_in) texts
      ∙ sym (take-map kind_in (upto - from) (drop from (map (read text) (tokens file 0 whole true))))
      ∙ ap (take (upto - from)) (sym (drop_map kind_in from (map (read text) (tokens file 0 whole true))))
      ∙ ap (λ x. take (upto - from) (drop from x)) (kinds_read text (tokens file 0 whole true))

  semicolon_kinds : (b : Bool) → map kind_in (semicolon (b && true)) ≡ cond b (kinds_of.Semicolon ∷ []) []
  semicolon_kinds true = refl
  semicolon_kinds false = refl

  all_kinds : kinds (tokens file 0 (pieces_of r.range) true) ≡ take (upto - from) (drop from (kinds (tokens file 0 whole true))) ++ closing range.last
  all_kinds =
      let e : Bool = ends_statement r.range.last in
      let end : cond e (kinds_of.Semicolon ∷ []) [] ≡ closing range.last = ap (λ k. cond (ends_statement_kind k) (kinds_of.Semicolon ∷ []) []) last_kind in
      sym (kinds_read inner (tokens file 0 (pieces_of r.range) true))
      ∙ ap (map kind_in) (read_all file inner [] (pieces_of r.range) 0 true (sym r.old_is) (sym width-nil) ∙ items_range r.range true r.is_old.ends (old_blanks r.range r.is_old))
      ∙ map-append kind_in (items (pieces_of r.range) false) (semicolon (e && true))
      ∙ ap (λ x. map kind_in (items (pieces_of r.range) false) ++ x) (semicolon_kinds e ∙ end)
      ∙ ap (λ x. x ++ closing range.last) (ap (map kind_in) (sym own_items) ∙ kinds_read inner (own (tokens file 0 (pieces_of r.range) true)) ∙ kinds_same)

  pub excerpt_of : Excerpt file text (tokens file 0 whole true) from upto range.last inner
  excerpt_of = record { stands = stands; no_blank_before = refl; no_blank_behind = refl; last_is = last_kind; texts = texts; kinds_are = kinds_same; all = all_kinds }

-- the tokens from one to another, as a text of their own
pub excerpt : (file : ℕ) (text before inner behind : List ℕ) (ts : List Token) (cs : List Span) (from upto : ℕ) → Lexes file text ts cs → text ≡ before ++ (inner ++ behind) → (range : IsRange ts from upto (width before) (width before + width inner)) → Excerpt file text ts from upto range.last inner
excerpt file text before inner behind ts cs from upto l parts = subst (λ xs. (range : IsRange xs from upto (width before) (width before + width inner)) → Excerpt file text xs from upto range.last inner) (sym l.spelled) (λ range. excerpt_of file text before inner behind l.pieces l.cut l.good l.whole parts from upto range)
