-- From the places of tokens to pieces.
use Rattle.std.proofs.Common.{◌≡◌, not, Some, cond, ℕ, ◌+◌, ◌<◌, ◌≤◌, ◌⊎◌, ⊎_elim, Bool, true, false, ◌&&◌, ◌==◌, List, [], ◌∷◌, ◌++◌, map, append-nil, append_assoc, refl, sym, ap, ◌∙◌, subst, inl, inr, arith, eqb-true}
use Rattle.std.specs.List.{list_all}
use Rattle.std.specs.Option.{unwrap_or}
use Rattle.go_base.specs.declared.Span.{Span}
use Rattle.go_tokens.specs.declared.token.Token.{Token}
use Rattle.go_tokens.specs.declared.piece.PieceKind.{PieceKind}
use Rattle.go_tokens.specs.declared.piece.PieceKind.TheVariants.{Word, Operator}
use Rattle.go_tokens.specs.declared.token.TokenKind.{TokenKind}
use Rattle.go_tokens.specs.declared.token.TokenKind.TheVariants.{Semicolon}
use Rattle.go_tokens.specs.Characters.{is_white}
use Rattle.go_tokens.specs.Spellings.{same_text, spelled, punctuation, ends_statement_kind}
use Rattle.go_tokens.specs.Pieces.{begun_by, goes, kind, is_piece, is_good}
use Rattle.go_tokens.specs.Lexing.{join, width, Cut, is_token, token_kind, token_kind_as, ends_statement, line_ends, span, token, inserted, tokens_of, tokens, Lexes}
use Rattle.go_tokens.specs.Encoding.{IsText}
use Rattle.go_tokens.specs.Files.{IsLexing}
use Rattle.go_tokens.proofs.Encodings.{one_text}
use Rattle.go_tokens.specs.Replacing.{read, are_apart, is_blank, is_at_line_end, is_none, begins_with_period, is_word_kind, is_apart_behind, Part, Kept, Replaced, Range, pieces_of, begins_with_token, blanks_and_token, IsOld, IsNew, old_pieces, new_pieces, Fits}
use Rattle.go_tokens.specs.Editing.{Edits, Rest, Edit, old_text, new_text, IsAmong, IsWritten, Spans, is_blank_character, Stands, is_identifier, is_empty_text, ends_in_name, stands_apart, Allows, Matches, PartsOf, EditedLexing}
use Rattle.go_tokens.proofs.Lists.{both, either}
use Rattle.go_tokens.proofs.Widths.{width-append, width-nil, wide_fronts}
use Rattle.go_tokens.proofs.Ordered.{piece_some}
use Rattle.go_tokens.proofs.Seams.{or_left, or_right, and_both, not_false, line_end_apart}
use Rattle.go_tokens.proofs.Replace.{cut_first, cut_second}
use Rattle.go_tokens.proofs.SoFar.{join_two}
use Rattle.go_tokens.proofs.Texts.{new_lexing}

-- A written token is a piece.
pub record Found (ps : List (List ℕ)) (at : ℕ) (t : Token) : Type 0 where
  pub before : List (List ℕ)
  pub piece : List ℕ
  pub behind : List (List ℕ)
  pub is : ps ≡ before ++ piece ∷ behind
  pub token : is_token piece ≡ true
  pub kind_is : t.kind ≡ token_kind piece
  pub starts : t.span.start ≡ at + width (join before)
  pub ends : t.span.end ≡ at + width (join before) + width piece

among_append : (us vs : List Token) (t : Token) → IsAmong (us ++ vs) t → IsAmong us t ⊎ IsAmong vs t
among_append [] vs t h = inr h
among_append (u ∷ us) vs t (inl e) = inl (inl e)
among_append (u ∷ us) vs t (inr h) = ⊎_elim (λ a. inl (inr a)) (λ b. inr b) (among_append us vs t h)

place_start : (file at n : ℕ) → (span file at n).start ≡ at
unfolding span
place_start file at n = refl

place_end : (file at n : ℕ) → (span file at n).end ≡ at + n
unfolding span
place_end file at n = refl

-- An inserted semicolon.
pub record IsInserted (t : Token) : Type 0 where
  pub kind_is : t.kind ≡ Semicolon
  pub empty : t.span.end ≡ t.span.start

inserted_is : (file at : ℕ) (t : Token) → inserted file at ≡ t → IsInserted t
inserted_is file at t e = record {
  kind_is = ap (λ (u : Token). u.kind) (sym e);
  empty = ap (λ (u : Token). u.span.end) (sym e) ∙ place_end file at 0 ∙ (let z : at + 0 ≡ at = omega arith in z) ∙ sym (place_start file at 0) ∙ ap (λ (u : Token). u.span.start) e;
}

found_here : (file : ℕ) (p : List ℕ) (ps : List (List ℕ)) (at : ℕ) (e b : Bool) (t : Token) → is_token p ≡ b → IsAmong (cond b (token file (token_kind p) at (width p) ∷ (cond e (inserted file (at + width p) ∷ []) [])) []) t → Found (p ∷ ps) at t ⊎ IsInserted t
found_here file p ps at e false t f h = absurd h
found_here file p ps at e true t f (inl g) = inl (record {
  before = [];
  piece = p;
  behind = ps;
  is = refl;
  token = f;
  kind_is = ap (λ (u : Token). u.kind) (sym g);
  starts = ap (λ (u : Token). u.span.start) (sym g) ∙ place_start file at (width p) ∙ (let z : at ≡ at + width [] = omega (arith, width-nil) in z);
  ends = ap (λ (u : Token). u.span.end) (sym g) ∙ place_end file at (width p) ∙ (let z : at + width p ≡ at + width [] + width p = omega (arith, width-nil) in z);
})
found_here file p ps at true true t f (inr (inl g)) = inr (inserted_is file (at + width p) t g)
found_here file p ps at true true t f (inr (inr g)) = absurd g
found_here file p ps at false true t f (inr g) = absurd g

found_later : (p : List ℕ) (ps : List (List ℕ)) (at : ℕ) (t : Token) → Found ps (at + width p) t → Found (p ∷ ps) at t
found_later p ps at t found = record {
  before = p ∷ found.before;
  piece = found.piece;
  behind = found.behind;
  is = ap (λ l. p ∷ l) found.is;
  token = found.token;
  kind_is = found.kind_is;
  starts = omega (arith, width-nil, found.starts, width-append p (join found.before));
  ends = omega (arith, width-nil, found.ends, width-append p (join found.before));
}

pub found_or : (file : ℕ) (ps : List (List ℕ)) (at : ℕ) (e : Bool) (t : Token) → IsAmong (tokens file at ps e) t → Found ps at t ⊎ IsInserted t
found_or file [] at e t h = absurd h
found_or file (p ∷ ps) at e t h =
    ⊎_elim
    (λ here. found_here file p ps at (ends_statement p && line_ends ps e) (is_token p) t refl here)
    (λ later. ⊎_elim (λ f. inl (found_later p ps at t f)) (λ f. inr f) (found_or file ps (at + width p) e t later))
    (among_append (tokens_of file at p (line_ends ps e)) (tokens file (at + width p) ps e) t h)

pub found_in : (file : ℕ) (ps : List (List ℕ)) (at : ℕ) (e : Bool) (t : Token) → IsAmong (tokens file at ps e) t → IsWritten t → Found ps at t
found_in file ps at e t h w = ⊎_elim (λ f. f) (λ f. absurd (omega (arith, w, f.empty))) (found_or file ps at e t h)

-- Of two places where one cutting is divided, the later is behind pieces that follow the earlier.
pub record Between (front back front' back' : List (List ℕ)) : Type 0 where
  pub middle : List (List ℕ)
  pub front_is : front' ≡ front ++ middle
  pub back_is : back ≡ middle ++ back'

pub divided : (front back front' back' : List (List ℕ)) (r : List ℕ) → Cut (front ++ back) r → front ++ back ≡ front' ++ back' → width (join front) ≤ width (join front') → Between front back front' back'
divided [] back front' back' r c e le = record { middle = front'; front_is = refl; back_is = e }
divided (p ∷ front) back [] back' r c e le = absurd (omega (arith, width-nil, le, piece_some p c.0, width-append p (join front)))
divided (p ∷ front) back (q ∷ front') back' r c e le =
    let heads : p ≡ q = cc in
    let tails : front ++ back ≡ front' ++ back' = cc in
    let same : width p ≡ width q = ap width heads in
    let rest = divided front back front' back' r c.2 tails (omega (arith, width-nil, le, same, width-append p (join front), width-append q (join front'))) in
    let is = rest.front_is in
    record { middle = rest.middle; front_is = cc; back_is = rest.back_is }

-- Blanks are pieces of one byte.
blank_one : (b : List ℕ) → is_piece (32 ∷ b) ≡ true → is_blank (32 ∷ b) ≡ true
unfolding begun_by is_white goes
blank_one [] h = refl
blank_one (y ∷ b) h = cc

tab_one : (b : List ℕ) → is_piece (9 ∷ b) ≡ true → is_blank (9 ∷ b) ≡ true
unfolding begun_by is_white goes
tab_one [] h = refl
tab_one (y ∷ b) h = cc

white_one : (x : ℕ) (b : List ℕ) → is_blank_character x ≡ true → is_piece (x ∷ b) ≡ true → is_blank (x ∷ b) ≡ true
white_one x b h k = ⊎_elim
    (λ e. let is = eqb-true x 32 e in subst (λ n. is_blank (n ∷ b) ≡ true) (sym is) (blank_one b (subst (λ n. is_piece (n ∷ b) ≡ true) is k)))
    (λ e. let is = eqb-true x 9 e in subst (λ n. is_blank (n ∷ b) ≡ true) (sym is) (tab_one b (subst (λ n. is_piece (n ∷ b) ≡ true) is k)))
    (either (x == 32) (x == 9) h)

pub blank_pieces : (ps : List (List ℕ)) (r : List ℕ) → Cut ps r → list_all is_blank_character (join ps) ≡ true → list_all is_blank ps ≡ true
blank_pieces [] r c h = refl
blank_pieces ([] ∷ ps) r c h = let none = c.0 in cc
blank_pieces ((x ∷ b) ∷ ps) r c h =
    let parts = both (is_blank_character x) (list_all is_blank_character (b ++ join ps)) h in
    and_both _ _ (white_one x b parts.0 c.0) (blank_pieces ps r c.2 (all_behind b (join ps) parts.1))
  where
    all_behind : (b l : List ℕ) → list_all is_blank_character (b ++ l) ≡ true → list_all is_blank_character l ≡ true
    all_behind [] l h = h
    all_behind (y ∷ b) l h = all_behind b l (both (is_blank_character y) _ h).1

-- Whether a found token ends a statement.
at_found : (ps : List (List ℕ)) (t : Token) → (found : Found ps 0 t) → ends_statement_kind t.kind ≡ ends_statement found.piece
at_found ps t found = ap ends_statement_kind found.kind_is

one_first : (m : List (List ℕ)) (q : List ℕ) (xs : List (List ℕ)) → m ++ q ∷ xs ≡ (m ++ q ∷ []) ++ xs
one_first m q xs = sym (append_assoc m (q ∷ []) xs)

begins_same : (m : List (List ℕ)) (q : List ℕ) (xs ys : List (List ℕ)) → begins_with_token (m ++ q ∷ xs) ≡ begins_with_token (m ++ q ∷ ys)
begins_same [] q xs ys = refl
begins_same (p ∷ m) q xs ys = refl

le_or_lt : (a b : ℕ) → (a ≤ b) ⊎ (b < a)
le_or_lt a b = grind arith

-- The first token of a range is not behind its last.
in_order : (ps : List (List ℕ)) (at : ℕ) (t u : Token) → Cut ps [] → (f : Found ps at t) → (l : Found ps at u) → t.span.start < u.span.end → width (join f.before) ≤ width (join l.before)
in_order ps at t u c f l lt = ⊎_elim (λ le. le) (λ gt. absurd (behind gt)) (le_or_lt (width (join f.before)) (width (join l.before)))
  where
    too_long : (m : List (List ℕ)) → f.before ≡ l.before ++ m → l.piece ∷ l.behind ≡ m ++ f.piece ∷ f.behind → width (join l.before) < width (join f.before) → ⊥
    too_long [] e g gt = let n : width (join f.before) ≡ width (join (l.before ++ [])) = ap (λ x. width (join x)) e in let o : width (join (l.before ++ [])) ≡ width (join l.before) = ap (λ x. width (join x)) (append-nil l.before) in omega (arith, width-nil, n, o, gt)
    too_long (q ∷ m) e g gt =
        let same : l.piece ≡ q = cc in
        let k : width l.piece ≡ width q = ap width same in
        let n : width (join f.before) ≡ width (join l.before ++ (q ++ join m)) = ap width (ap join e ∙ join_two l.before (q ∷ m)) in
        omega (arith, width-nil, n, k, width-append (join l.before) (q ++ join m), width-append q (join m), f.starts, l.ends, lt)

    behind : width (join l.before) < width (join f.before) → ⊥
    behind gt =
        let d = divided l.before (l.piece ∷ l.behind) f.before (f.piece ∷ f.behind) [] (subst (λ x. Cut x []) l.is c) (sym l.is ∙ f.is) (omega (arith, width-nil, gt)) in
        too_long d.middle d.front_is d.back_is gt

-- What replaces a range, as pieces.
record NewRange (file : ℕ) (new : List ℕ) (stands : Stands file new) : Type 0 where
  range : Range
  is_new : IsNew range
  whole : join (pieces_of range) ≡ new
  last_is : ends_statement_kind stands.spans.last.kind ≡ ends_statement range.last
  kind_is : stands.spans.last.kind ≡ token_kind range.last
  no_blanks : is_empty_text stands.behind ≡ true → is_none range.blanks ≡ true

no_pieces : (ps : List (List ℕ)) (text : List ℕ) → Cut ps [] → join ps ≡ text → is_empty_text text ≡ true → is_none ps ≡ true
no_pieces [] text c e h = refl
no_pieces ([] ∷ ps) text c e h = let none = c.0 in cc
no_pieces ((x ∷ b) ∷ ps) [] c e h = cc
no_pieces ((x ∷ b) ∷ ps) (y ∷ ys) c e h = cc

new_range : (file : ℕ) (new : List ℕ) (stands : Stands file new) → NewRange file new stands
new_range file new stands = record {
  range = record { before = v.before; last = v.piece; blanks = v.behind };
  is_new = record {
    begins = subst (λ ps. blanks_and_token ps ≡ true) (sym g.is ∙ v.is) (blanks_first g.before g.piece g.behind blank_front g.token);
    ends = v.token;
    blanks = blank_back;
    cut = subst (λ ps. Cut ps []) v.is lexes.cut;
    good = subst (λ ps. list_all is_good ps ≡ true) v.is lexes.good;
  };
  whole = ap join (sym v.is) ∙ lexes.whole;
  last_is = at_found lexes.pieces stands.spans.last v;
  kind_is = v.kind_is;
  no_blanks = no_pieces v.behind stands.behind (cut_second (v.before ++ v.piece ∷ []) v.behind [] (subst (λ ps. Cut ps []) (v.is ∙ one_first v.before v.piece v.behind) lexes.cut)) back_is;
}
  where
    lexes : Lexes file new stands.tokens stands.comments
    lexes = stands.lexes

    g : Found lexes.pieces 0 stands.spans.first
    g = found_in file lexes.pieces 0 true stands.spans.first (subst (λ us. IsAmong us stands.spans.first) lexes.spelled stands.spans.has_first) stands.spans.first_written

    v : Found lexes.pieces 0 stands.spans.last
    v = found_in file lexes.pieces 0 true stands.spans.last (subst (λ us. IsAmong us stands.spans.last) lexes.spelled stands.spans.has_last) stands.spans.last_written

    front_is : join g.before ≡ stands.before
    front_is = (wide_fronts (join g.before) stands.before (join (g.piece ∷ g.behind)) (stands.inner ++ stands.behind) (omega (arith, width-nil, g.starts, stands.spans.begins)) (sym (join_two g.before (g.piece ∷ g.behind)) ∙ ap join (sym g.is) ∙ lexes.whole ∙ stands.whole)).0

    joined : join (v.before ++ v.piece ∷ []) ++ join v.behind ≡ (stands.before ++ stands.inner) ++ stands.behind
    joined = sym (join_two (v.before ++ v.piece ∷ []) v.behind) ∙ ap join (sym (one_first v.before v.piece v.behind) ∙ sym v.is) ∙ lexes.whole ∙ stands.whole ∙ sym (append_assoc stands.before stands.inner stands.behind)

    back_is : join v.behind ≡ stands.behind
    back_is =
        let n : width (join (v.before ++ v.piece ∷ [])) ≡ width (join v.before ++ (v.piece ++ [])) = ap width (join_two v.before (v.piece ∷ [])) in
        (wide_fronts (join (v.before ++ v.piece ∷ [])) (stands.before ++ stands.inner) (join v.behind) stands.behind (omega (arith, width-nil, n, width-append (join v.before) (v.piece ++ []), width-append v.piece [], width-append stands.before stands.inner, v.ends, stands.spans.ends)) joined).1

    blank_front : list_all is_blank g.before ≡ true
    blank_front = blank_pieces g.before (join (g.piece ∷ g.behind) ++ []) (cut_first g.before (g.piece ∷ g.behind) [] (subst (λ ps. Cut ps []) g.is lexes.cut)) (ap (list_all is_blank_character) front_is ∙ stands.blank_before)

    blank_back : list_all is_blank v.behind ≡ true
    blank_back = blank_pieces v.behind [] (cut_second (v.before ++ v.piece ∷ []) v.behind [] (subst (λ ps. Cut ps []) (v.is ∙ one_first v.before v.piece v.behind) lexes.cut)) (ap (list_all is_blank_character) back_is ∙ stands.blank_behind)

    blanks_first : (bs : List (List ℕ)) (p : List ℕ) (ps : List (List ℕ)) → list_all is_blank bs ≡ true → is_token p ≡ true → blanks_and_token (bs ++ p ∷ ps) ≡ true
    blanks_first [] p ps h k = or_left _ _ k
    blanks_first (b ∷ bs) p ps h k = let parts = both (is_blank b) (list_all is_blank bs) h in or_right _ _ (and_both _ _ parts.0 (blanks_first bs p ps parts.1 k))

-- A token of the kind of names is a word.
no_name : (table : List (List ℕ × TokenKind)) (w : List ℕ) → list_all (λ s. not (is_identifier s.1)) table ≡ true → is_identifier (unwrap_or (spelled table w) Semicolon) ≡ false
no_name [] w h = refl
no_name (s ∷ rest) w h = let parts = both (not (is_identifier s.1)) (list_all (λ s. not (is_identifier s.1)) rest) h in by (same_text s.0 w) (not_false (is_identifier s.1) parts.0) (no_name rest w parts.1)
  where
    by : (b : Bool) → is_identifier s.1 ≡ false → is_identifier (unwrap_or (spelled rest w) Semicolon) ≡ false → is_identifier (unwrap_or (cond b (Some s.1) (spelled rest w)) Semicolon) ≡ false
    by true h k = h
    by false h k = k

punctuation_names : list_all (λ s. not (is_identifier s.1)) punctuation ≡ true
unfolding punctuation
punctuation_names = refl

name_word : (k : PieceKind) (p : List ℕ) → is_identifier (token_kind_as k p) ≡ true → is_word_kind k ≡ true
name_word Word p h = refl
name_word Operator p h = let none = no_name punctuation p punctuation_names in cc
name_word _ p h = cc

apart_pieces : (file : ℕ) (new : List ℕ) (stands : Stands file new) (n : NewRange file new stands) (rest : List ℕ) → stands_apart file new stands rest ≡ true → is_apart_behind n.range rest ≡ true
apart_pieces file new stands n rest h =
    ⊎_elim
    (λ a. or_left _ _ (ap (λ l. are_apart l rest) n.whole ∙ a))
    (λ a.
    let b = both (ends_in_name file new stands) (begins_with_period rest) a in
    let d = both (is_identifier stands.spans.last.kind) (is_empty_text stands.behind) b.0 in
    or_right _ _ (and_both _ _ (and_both _ _ (name_word (kind n.range.last) n.range.last (ap is_identifier (sym n.kind_is) ∙ d.0)) (n.no_blanks d.1)) b.1))
    (either (are_apart new rest) _ h)

-- The old range of an edit, among the pieces from a place on.
pub record OldRange (ps : List (List ℕ)) (kept old rest : List ℕ) (last : Token) : Type 0 where
  pub first_pieces : List (List ℕ)
  pub range : Range
  pub rest_pieces : List (List ℕ)
  pub is : ps ≡ first_pieces ++ (pieces_of range ++ rest_pieces)
  pub kept_is : join first_pieces ≡ kept
  pub old_is : join (pieces_of range) ≡ old
  pub rest_is : join rest_pieces ≡ rest
  pub is_old : IsOld range
  pub last_is : ends_statement_kind last.kind ≡ ends_statement range.last

pub old_range : (file : ℕ) (whole front ps : List (List ℕ)) (kept old rest : List ℕ) (at : ℕ) → Cut whole [] → whole ≡ front ++ ps → join ps ≡ kept ++ (old ++ rest) → at ≡ width (join front) → (spans : Spans (tokens file 0 whole true) (at + width kept) (at + width kept + width old)) → OldRange ps kept old rest spans.last
old_range file whole front ps kept old rest at c w j a spans = record {
  first_pieces = m1;
  range = record { before = m2; last = l.piece; blanks = [] };
  rest_pieces = l.behind;
  is = d1.back_is ∙ ap (λ x. m1 ++ x) middle;
  kept_is = cut1.0;
  old_is = cut2.0;
  rest_is = cut2.1;
  is_old = record { begins = begins_same m2 l.piece [] l.behind ∙ ap begins_with_token (sym d2.back_is) ∙ f.token; ends = l.token; blanks = refl };
  last_is = at_found whole spans.last l;
}
  where
    f : Found whole 0 spans.first
    f = found_in file whole 0 true spans.first spans.has_first spans.first_written

    l : Found whole 0 spans.last
    l = found_in file whole 0 true spans.last spans.has_last spans.last_written

    d1 : Between front ps f.before (f.piece ∷ f.behind)
    d1 = divided front ps f.before (f.piece ∷ f.behind) [] (subst (λ x. Cut x []) w c) (sym w ∙ f.is) (omega (arith, width-nil, f.starts, spans.begins, a))

    m1 : List (List ℕ)
    m1 = d1.middle

    d2 : Between f.before (f.piece ∷ f.behind) l.before (l.piece ∷ l.behind)
    d2 = divided f.before (f.piece ∷ f.behind) l.before (l.piece ∷ l.behind) [] (subst (λ x. Cut x []) f.is c) (sym f.is ∙ l.is) (in_order whole 0 spans.first spans.last c f l (omega (arith, width-nil, spans.begins, spans.ends, spans.some)))

    m2 : List (List ℕ)
    m2 = d2.middle

    middle : f.piece ∷ f.behind ≡ (m2 ++ l.piece ∷ []) ++ l.behind
    middle = d2.back_is ∙ one_first m2 l.piece l.behind

    len1 : width (join m1) ≡ width kept
    len1 = let n : width (join f.before) ≡ width (join front ++ join m1) = ap width (ap join d1.front_is ∙ join_two front m1) in omega (arith, width-nil, n, width-append (join front) (join m1), f.starts, spans.begins, a)

    cut1 : (join m1 ≡ kept) × (join (f.piece ∷ f.behind) ≡ old ++ rest)
    cut1 = wide_fronts (join m1) kept (join (f.piece ∷ f.behind)) (old ++ rest) len1 (sym (join_two m1 (f.piece ∷ f.behind)) ∙ ap join (sym d1.back_is) ∙ j)

    len2 : width (join (m2 ++ l.piece ∷ [])) ≡ width old
    len2 =
        let n : width (join (m2 ++ l.piece ∷ [])) ≡ width (join m2 ++ (l.piece ++ [])) = ap width (join_two m2 (l.piece ∷ [])) in
        let o : width (join l.before) ≡ width (join f.before ++ join m2) = ap width (ap join d2.front_is ∙ join_two f.before m2) in
        omega (arith, width-nil, n, o, width-append (join m2) (l.piece ++ []), width-append l.piece [], width-append (join f.before) (join m2), l.ends, f.starts, spans.begins, spans.ends)

    cut2 : (join (m2 ++ l.piece ∷ []) ≡ old) × (join l.behind ≡ rest)
    cut2 = wide_fronts (join (m2 ++ l.piece ∷ [])) old (join l.behind) rest len2 (sym (join_two (m2 ++ l.piece ∷ []) l.behind) ∙ ap join (sym middle) ∙ cut1.1)

-- The parts of edits, over the pieces from a place on.
pub record PartsFrom (ps : List (List ℕ)) (edits : Edits) (tail : List ℕ) : Type 0 where
  pub parts : List Part
  pub tail_pieces : List (List ℕ)
  pub matches : Matches edits parts
  pub tail_is : join tail_pieces ≡ tail
  pub is : ps ≡ old_pieces parts
  pub new_is : join (new_pieces parts tail_pieces) ≡ new_text edits tail
  pub fits : Fits parts tail_pieces

pub parts_from : (file : ℕ) (whole : List (List ℕ)) (edits : Edits) (tail : List ℕ) (front ps : List (List ℕ)) (at : ℕ) → Cut whole [] → whole ≡ front ++ ps → join ps ≡ old_text edits → at ≡ width (join front) → Allows file (tokens file 0 whole true) at edits tail → PartsFrom ps edits tail
parts_from file whole (Rest kept) tail front ps at c w j a h =
    let alone = h.1.2 in
    let line : is_at_line_end (join alone.pieces) ≡ true = subst (λ l. is_at_line_end l ≡ true) (sym alone.whole) h.0 in
    record {
      parts = Kept ps ∷ [];
      tail_pieces = alone.pieces;
      matches = j;
      tail_is = alone.whole;
      is = sym (append-nil ps);
      new_is = join_two ps alone.pieces ∙ ap (λ l. l ++ join alone.pieces) j ∙ ap (λ l. kept ++ l) alone.whole;
      fits = (line_end_apart (join ps) (join alone.pieces) line, record { begins = line; cut = alone.cut; good = alone.good });
    }
parts_from file whole (Edit kept old new edits) tail front ps at c w j a h =
    let r = old_range file whole front ps kept old (old_text edits) at c w j a h.0 in
    let n = new_range file new h.1 in
    let m1 : List (List ℕ) = r.first_pieces in
    let pr : List (List ℕ) = pieces_of r.range in
    let pn : List (List ℕ) = pieces_of n.range in
    let w' : whole ≡ (front ++ (m1 ++ pr)) ++ r.rest_pieces = w ∙ ap (λ x. front ++ x) (r.is ∙ sym (append_assoc m1 pr r.rest_pieces)) ∙ sym (append_assoc front (m1 ++ pr) r.rest_pieces) in
    let len : width (join (front ++ (m1 ++ pr))) ≡ width (join front ++ (kept ++ old)) = ap width (join_two front (m1 ++ pr) ∙ ap (λ l. join front ++ l) (join_two m1 pr ∙ ap (λ l. l ++ join pr) r.kept_is ∙ ap (λ l. kept ++ l) r.old_is)) in
    let place : at + width kept + width old ≡ width (join (front ++ (m1 ++ pr))) = omega (arith, width-nil, len, a, width-append (join front) (kept ++ old), width-append kept old) in
    let rest = parts_from file whole edits tail (front ++ (m1 ++ pr)) r.rest_pieces (at + width kept + width old) c w' r.rest_is place h.5 in
    let news : List (List ℕ) = new_pieces rest.parts rest.tail_pieces in
    let behind : join (pn ++ news) ≡ new ++ new_text edits tail = join_two pn news ∙ ap (λ l. l ++ join news) n.whole ∙ ap (λ l. new ++ l) rest.new_is in
    let apart1 : are_apart (join m1) (join (pn ++ news)) ≡ true = ap (λ l. are_apart l (join (pn ++ news))) r.kept_is ∙ ap (are_apart kept) behind ∙ h.2 in
    let apart2 : is_apart_behind n.range (join news) ≡ true = ap (is_apart_behind n.range) rest.new_is ∙ apart_pieces file new h.1 n (new_text edits tail) h.3 in
    let cut_rest : Cut (old_pieces rest.parts) [] = subst (λ x. Cut x []) rest.is (cut_second (front ++ (m1 ++ pr)) r.rest_pieces [] (subst (λ x. Cut x []) w' c)) in
    record {
      parts = Kept m1 ∷ Replaced r.range n.range ∷ rest.parts;
      tail_pieces = rest.tail_pieces;
      matches = (r.kept_is, r.old_is, n.whole, rest.matches);
      tail_is = rest.tail_is;
      is = r.is ∙ ap (λ x. m1 ++ (pr ++ x)) rest.is;
      new_is = join_two m1 (pn ++ news) ∙ ap (λ l. l ++ join (pn ++ news)) r.kept_is ∙ ap (λ l. kept ++ l) behind;
      fits = (apart1, (r.is_old, n.is_new, apart2, (λ ends. sym r.last_is ∙ h.4 (record { pieces = old_pieces rest.parts; cut = cut_rest; whole = ap join (sym rest.is) ∙ r.rest_is; ends = ends }) ∙ n.last_is), rest.fits));
    }

pub parts_of : (file : ℕ) (edits : Edits) (tail : List ℕ) (ts : List Token) (cs : List Span) → Lexes file (old_text edits) ts cs → Allows file ts 0 edits tail → PartsOf edits tail
parts_of file edits tail ts cs lexes h =
    let from = parts_from file lexes.pieces edits tail [] lexes.pieces 0 lexes.cut refl lexes.whole (sym width-nil) (subst (λ us. Allows file us 0 edits tail) lexes.spelled h) in
    record {
      parts = from.parts;
      tail_pieces = from.tail_pieces;
      matches = from.matches;
      tail_is = from.tail_is;
      old_is = ap join (sym from.is) ∙ lexes.whole;
      new_is = from.new_is;
      cut = subst (λ ps. Cut ps []) from.is lexes.cut;
      fits = from.fits;
    }

-- The tokens of a text with edits.
pub edited : (file : ℕ) (edits : Edits) (tail : List ℕ) (ts : List Token) (cs : List Span) → Lexes file (old_text edits) ts cs → Allows file ts 0 edits tail → EditedLexing file edits tail ts
edited file edits tail ts cs lexes h =
    let of = parts_of file edits tail ts cs lexes h in
    let new = new_lexing file of.parts of.tail_pieces ts cs (subst (λ t. Lexes file t ts cs) (sym of.old_is) lexes) of.cut of.fits in
    record {
      parts = of.parts;
      tail_pieces = of.tail_pieces;
      matches = of.matches;
      tail_is = of.tail_is;
      old_is = of.old_is;
      new_is = of.new_is;
      cut = of.cut;
      fits = of.fits;
      tokens = new.tokens;
      comments = new.comments;
      lexes = subst (λ t. Lexes file t new.tokens new.comments) of.new_is new.lexes;
      old = ap (λ t. map (read t) ts) (sym of.old_is) ∙ new.old;
      new = ap (λ t. map (read t) new.tokens) (sym of.new_is) ∙ new.new;
    }

-- The same for the bytes of a file.
pub edited_file : (file : ℕ) (edits : Edits) (tail old new : List ℕ) (ts : List Token) (cs : List Span) → IsText (old_text edits) old → IsText (new_text edits tail) new → IsLexing file old ts cs → Allows file ts 0 edits tail → (e : EditedLexing file edits tail ts) × IsLexing file new e.tokens e.comments
edited_file file edits tail old new ts cs t u l a =
    let here : Lexes file (old_text edits) ts cs = subst (λ x. Lexes file x ts cs) (one_text l.text (old_text edits) old l.is_text t) l.lexes in
    let e : EditedLexing file edits tail ts = edited file edits tail ts cs here a in
    (e, record { text = new_text edits tail; is_text = u; lexes = e.lexes })
