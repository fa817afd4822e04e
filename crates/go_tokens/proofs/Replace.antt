-- The law of replaced ranges.
use Rattle.std.proofs.Common.{◌≡◌, ℕ, ◌<◌, arith, length, is_some, ⊎_elim, Bool, true, false, not, ◌&&◌, ◌||◌, ◌==◌, cond, List, [], ◌∷◌, ◌++◌, append-nil, append_assoc, refl, sym, ap, ◌∙◌, subst, eqb-true}
use Rattle.std.specs.List.{list_all}
use Rattle.std.proofs.lemmas.List.{length-append}
use Rattle.ucd_category.specs.GeneralCategory.{general_category}
use Rattle.ucd_category.specs.GeneralCategoryRows.{general_category_rows}
use Rattle.ucd_table.specs.Rows.{value_in}
use Rattle.go_tokens.specs.declared.piece.Mode.TheVariants.{InWord}
use Rattle.std.specs.Str.{encode_utf8_all}
use Rattle.go_tokens.specs.declared.piece.PieceKind.{PieceKind}
use Rattle.go_tokens.specs.declared.piece.PieceKind.TheVariants.{LineComment, Word}
use Rattle.go_tokens.specs.Characters.{is_white, is_letter, is_digit, is_in_word, is_x}
use Rattle.go_tokens.specs.Spellings.{operators, punctuation, outside_operators}
use Rattle.go_tokens.specs.Pieces.{begun, begun_by, front, after, goes, has_shape, kind, is_piece, is_good}
use Rattle.go_tokens.specs.Lexing.{join, IsLongest, Cut, is_token, is_token_kind, is_break, token_kind, ends_statement, line_ends}
use Rattle.go_tokens.specs.Replacing.{Item, semicolon, items_of, items, last_joins, are_apart, is_blank, Range, pieces_of, begins_with_token, blanks_and_token, IsOld, is_at_line_end, is_none, begins_with_period, is_word_kind, ends_in_word, is_apart_behind, Part, Kept, Replaced, old_pieces, new_pieces, Fits, spliced, IsReplaced}
use Rattle.go_tokens.proofs.Lists.{both, either, not_true, listed_all}
use Rattle.go_tokens.proofs.Shapes.{Stops, longest_stops, stops_longest}
use Rattle.go_tokens.proofs.Seams.{and_both, and_second, last_joins_behind, stops_last, dots_join, comment_goes, last_step, word_stays, goes_word, some_is}

-- Cuttings of fronts, of backs and of both.
pub join_append : (ps qs : List (List ℕ)) (r : List ℕ) → join (ps ++ qs) ++ r ≡ join ps ++ (join qs ++ r)
join_append [] qs r = refl
join_append (p ∷ ps) qs r = append_assoc p (join (ps ++ qs)) r ∙ ap (λ l. p ++ l) (join_append ps qs r) ∙ sym (append_assoc p (join ps) (join qs ++ r))

longest_front : (p r s : List ℕ) → IsLongest p (r ++ s) → IsLongest p r
longest_front p r s longest = record { by = λ longer others e h. longest.by longer (others ++ s) (sym (append_assoc longer others s) ∙ ap (λ l. l ++ s) e ∙ append_assoc p r s) h }

pub cut_front : (ps : List (List ℕ)) (r s : List ℕ) → Cut ps (r ++ s) → Cut ps r
cut_front [] r s c = tt
cut_front (p ∷ ps) r s c = (c.0, longest_front p (join ps ++ r) s (subst (IsLongest p) (sym (append_assoc (join ps) r s)) c.1), cut_front ps r s c.2)

pub cut_first : (ps qs : List (List ℕ)) (r : List ℕ) → Cut (ps ++ qs) r → Cut ps (join qs ++ r)
cut_first [] qs r c = tt
cut_first (p ∷ ps) qs r c = (c.0, subst (IsLongest p) (join_append ps qs r) c.1, cut_first ps qs r c.2)

pub cut_second : (ps qs : List (List ℕ)) (r : List ℕ) → Cut (ps ++ qs) r → Cut qs r
cut_second [] qs r c = c
cut_second (p ∷ ps) qs r c = cut_second ps qs r c.2

pub cut_both : (ps qs : List (List ℕ)) (r : List ℕ) → Cut ps (join qs ++ r) → Cut qs r → Cut (ps ++ qs) r
cut_both [] qs r c d = d
cut_both (p ∷ ps) qs r c d = (c.0, subst (IsLongest p) (sym (join_append ps qs r)) c.1, cut_both ps qs r c.2 d)

-- whether the last of some pieces is a line comment
abbrev pub is_line : PieceKind → Bool
is_line LineComment = true
is_line k = false

abbrev pub ends_in_line : List (List ℕ) → Bool
ends_in_line [] = false
ends_in_line (p ∷ []) = is_line (kind p)
ends_in_line (p ∷ q ∷ qs) = ends_in_line (q ∷ qs)

-- A piece in the middle stops where it did: by two bytes, which still stand there, but for two dots at the seam.
stops_middle : (p l rest : List ℕ) (y : ℕ) (ys : List ℕ) → l ≡ y ∷ ys → Stops p (l ++ []) → (p ≡ 46 ∷ [] → l ≡ 46 ∷ [] → (zs : List ℕ) → rest ≡ 46 ∷ zs → ⊥) → Stops p (l ++ rest)
stops_middle p l rest y ys e stops no_dots = record {
  next = λ z zs f. subst (λ n. is_piece (p ++ n ∷ []) ≡ false) (heads z zs f) (stops.next y (ys ++ []) (ap (λ k. k ++ []) e));
  dots = λ zs f g. dots ys e zs f g;
}
  where
    heads : (z : ℕ) (zs : List ℕ) → l ++ rest ≡ z ∷ zs → y ≡ z
    heads z zs f = let g : (y ∷ ys) ++ rest ≡ z ∷ zs = ap (λ k. k ++ rest) (sym e) ∙ f in cc

    dots : (ys : List ℕ) → l ≡ y ∷ ys → (zs : List ℕ) → p ≡ 46 ∷ [] → l ++ rest ≡ 46 ∷ 46 ∷ zs → ⊥
    dots [] e zs f g = let h : y ∷ rest ≡ 46 ∷ 46 ∷ zs = ap (λ k. k ++ rest) (sym e) ∙ g in no_dots f (e ∙ (let i : y ≡ 46 = cc in cc)) zs (cc)
    dots (w ∷ ws) e zs f g = let h : y ∷ w ∷ (ws ++ rest) ≡ 46 ∷ 46 ∷ zs = ap (λ k. k ++ rest) (sym e) ∙ g in stops.dots (ws ++ []) f (ap (λ k. k ++ []) e ∙ (let i : y ≡ 46 = cc in let j : w ≡ 46 = cc in cc))

apart_behind : (p q rest : List ℕ) (y : ℕ) (ys : List ℕ) → q ≡ y ∷ ys → are_apart (p ++ q) rest ≡ true → are_apart q rest ≡ true
apart_behind p q [] y ys e h = refl
apart_behind p q (z ∷ zs) y ys e h = subst (λ l. not (last_joins l z) ≡ true) (sym e) (subst (λ b. not b ≡ true) (last_joins_behind p y ys z) (subst (λ l. not (last_joins (p ++ l) z) ≡ true) e h))

pub first_byte : (p : List ℕ) → is_piece p ≡ true → (y : ℕ) × (ys : List ℕ) × (p ≡ y ∷ ys)
first_byte [] h = cc
first_byte (x ∷ b) h = (x, b, refl)

line_only : (p : List ℕ) → kind p ≡ LineComment → is_line (kind p) ≡ true
line_only p e = ap is_line e

two_dots : (p l rest zs : List ℕ) → are_apart (p ++ l) rest ≡ true → p ≡ 46 ∷ [] → l ≡ 46 ∷ [] → rest ≡ 46 ∷ zs → ⊥
two_dots p l rest zs apart e f g =
    let a : are_apart (46 ∷ 46 ∷ []) (46 ∷ zs) ≡ true = subst (λ k. are_apart k (46 ∷ zs) ≡ true) (let h : p ++ l ≡ (46 ∷ []) ++ (46 ∷ []) = cc in h) (subst (λ k. are_apart (p ++ l) k ≡ true) g apart) in
    let b = dots_join in
    cc

-- Pieces that cut a text alone do so before a seam.
pub cut_seam : (ps : List (List ℕ)) (rest : List ℕ) → Cut ps [] → list_all is_good ps ≡ true → are_apart (join ps) rest ≡ true → (ends_in_line ps ≡ true → is_at_line_end rest ≡ true) → Cut ps rest
cut_seam [] rest c g apart line = tt
cut_seam (p ∷ []) rest c g apart line =
    (c.0, stops_longest p rest c.0 (stops_last p rest c.0 (both (is_good p) true g).0 (subst (λ l. are_apart l rest ≡ true) (append-nil p) apart) (λ e. line (line_only p e))), tt)
cut_seam (p ∷ q ∷ qs) rest c g apart line =
    let first = first_byte q c.2.0 in
    let l : List ℕ = q ++ join qs in
    let e : l ≡ first.0 ∷ (first.1 ++ join qs) = ap (λ k. k ++ join qs) first.2 in
    let stops = stops_middle p l rest first.0 (first.1 ++ join qs) e (longest_stops p (l ++ []) c.1) (λ f h zs i. two_dots p l rest zs apart f h i) in
    (c.0, stops_longest p (l ++ rest) c.0 stops, cut_seam (q ∷ qs) rest c.2 (both (is_good p) _ g).1 (apart_behind p l rest first.0 (first.1 ++ join qs) e apart) line)

-- A line comment stops at a line's end alone.
is_line-true : (k : PieceKind) → is_line k ≡ true → k ≡ LineComment
is_line-true LineComment h = refl
is_line-true k h = cc

true_or : (b : Bool) → (b ≡ false → ⊥) → b ≡ true
true_or true h = refl
true_or false h = absurd (h refl)

line_stops : (ps : List (List ℕ)) (rest : List ℕ) → Cut ps rest → ends_in_line ps ≡ true → is_at_line_end rest ≡ true
line_stops [] rest c h = cc
line_stops (p ∷ []) [] c h = refl
line_stops ([] ∷ []) (y ∷ ys) c h = let none = c.0 in cc
line_stops ((x ∷ b) ∷ []) (y ∷ ys) c h = true_or (y == 10) (λ n.
    let goes_on = comment_goes x b y (is_line-true _ h) c.0 n in
    let stops = (longest_stops (x ∷ b) (y ∷ ys) c.1).next y ys refl in
    cc)
line_stops (p ∷ q ∷ qs) rest c h = line_stops (q ∷ qs) rest c.2 h

-- a text that begins with a newline begins with white space, and ends a line
newline_no_token : (p : List ℕ) → is_token (10 ∷ p) ≡ false
unfolding begun_by is_white
newline_no_token p = refl

newline_ends : (p : List ℕ) (ps : List (List ℕ)) (e : Bool) → line_ends ((10 ∷ p) ∷ ps) e ≡ true
unfolding begun_by is_white
newline_ends p ps e = refl

no_line_end : (ps qs : List (List ℕ)) → begins_with_token ps ≡ true → Cut (ps ++ qs) [] → is_at_line_end (join (ps ++ qs)) ≡ true → ⊥
no_line_end [] qs h c e = cc
no_line_end ([] ∷ ps) qs h c e = let none = c.0 in cc
no_line_end ((x ∷ b) ∷ ps) qs h c e =
    let white = newline_no_token b in
    let token : is_token (10 ∷ b) ≡ true = subst (λ n. is_token (n ∷ b) ≡ true) (eqb-true x 10 e) h in
    cc

-- What stands behind a line comment of the old text still begins a line's end in the new one.
line_kept : (parts : List Part) (tail : List (List ℕ)) → Fits parts tail → Cut (old_pieces parts) [] → is_at_line_end (join (old_pieces parts)) ≡ true → is_at_line_end (join (new_pieces parts tail)) ≡ true
line_kept [] tail f c h = f.begins
line_kept (Kept [] ∷ parts) tail f c h = line_kept parts tail f.1 c h
line_kept (Kept ([] ∷ ps) ∷ parts) tail f c h = let none = c.0 in cc
line_kept (Kept ((x ∷ b) ∷ ps) ∷ parts) tail f c h = h
line_kept (Replaced old new ∷ parts) tail f c h = absurd (no_line_end (pieces_of old) (old_pieces parts) f.0.begins c h)

-- Lists of tests.
pub all_append : (ps qs : List (List ℕ)) → list_all is_good (ps ++ qs) ≡ (list_all is_good ps && list_all is_good qs)
all_append [] qs = refl
all_append (p ∷ ps) qs = ap (λ b. is_good p && b) (all_append ps qs) ∙ and_assoc (is_good p) _ _
  where
    and_assoc : (a b c : Bool) → (a && (b && c)) ≡ ((a && b) && c)
    and_assoc true b c = refl
    and_assoc false b c = refl

pub all_both : (ps qs : List (List ℕ)) → list_all is_good (ps ++ qs) ≡ true → (list_all is_good ps ≡ true) × (list_all is_good qs ≡ true)
all_both ps qs h = both _ _ (sym (all_append ps qs) ∙ h)

pub all_join : (ps qs : List (List ℕ)) → list_all is_good ps ≡ true → list_all is_good qs ≡ true → list_all is_good (ps ++ qs) ≡ true
all_join ps qs h k = all_append ps qs ∙ and_both _ _ h k

-- Blanks.
abbrev is_plain : List ℕ → Bool
is_plain p = not (is_token p) && (not (is_break p) && not (is_line (kind p)))

blanks_plain : list_all is_plain ((32 ∷ []) ∷ (9 ∷ []) ∷ []) ≡ true
unfolding begun_by is_white is_letter is_digit operators
blanks_plain = refl

not_false : (a : Bool) → not a ≡ true → a ≡ false
not_false true h = cc
not_false false h = refl

record Plain (p : List ℕ) : Type 0 where
  no_token : is_token p ≡ false
  no_break : is_break p ≡ false
  no_line : is_line (kind p) ≡ false

blank_plain : (p : List ℕ) → is_blank p ≡ true → Plain p
blank_plain p h =
    let a = both (not (is_token p)) (not (is_break p) && not (is_line (kind p))) (listed_all is_plain ((32 ∷ []) ∷ (9 ∷ []) ∷ []) p blanks_plain h) in
    let b = both (not (is_break p)) (not (is_line (kind p))) a.1 in
    record { no_token = not_false _ a.0; no_break = not_false _ b.0; no_line = not_false _ b.1 }

-- Line ends.
pub line_ends_append : (ps qs : List (List ℕ)) (e : Bool) → line_ends (ps ++ qs) e ≡ line_ends ps (line_ends qs e)
line_ends_append [] qs e = refl
line_ends_append (p ∷ ps) qs e = ap (λ b. cond (is_token p) false (is_break p || b)) (line_ends_append ps qs e)

pub line_ends_token : (p : List ℕ) (ps : List (List ℕ)) (e : Bool) → is_token p ≡ true → line_ends (p ∷ ps) e ≡ false
line_ends_token p ps e h = ap (λ b. cond b false (is_break p || line_ends ps e)) h

pub line_ends_old : (ps : List (List ℕ)) (e : Bool) → begins_with_token ps ≡ true → line_ends ps e ≡ false
line_ends_old [] e h = cc
line_ends_old (p ∷ ps) e h = line_ends_token p ps e h

line_ends_blank : (p : List ℕ) (ps : List (List ℕ)) (e : Bool) → Plain p → line_ends (p ∷ ps) e ≡ line_ends ps e
line_ends_blank p ps e plain = ap (λ b. cond b false (is_break p || line_ends ps e)) plain.no_token ∙ ap (λ b. b || line_ends ps e) plain.no_break

line_ends_new : (ps : List (List ℕ)) (e : Bool) → blanks_and_token ps ≡ true → line_ends ps e ≡ false
line_ends_new [] e h = cc
line_ends_new (p ∷ ps) e h =
    ⊎_elim
    (λ a. line_ends_token p ps e a)
    (λ a. let b = both (is_blank p) (blanks_and_token ps) a in line_ends_blank p ps e (blank_plain p b.0) ∙ line_ends_new ps e b.1)
    (either (is_token p) _ h)

pub line_ends_blanks : (ps : List (List ℕ)) (e : Bool) → list_all is_blank ps ≡ true → line_ends ps e ≡ e
line_ends_blanks [] e h = refl
line_ends_blanks (p ∷ ps) e h = let b = both (is_blank p) (list_all is_blank ps) h in line_ends_blank p ps e (blank_plain p b.0) ∙ line_ends_blanks ps e b.1

line_ends_tail : (tail : List (List ℕ)) → Cut tail [] → is_at_line_end (join tail) ≡ true → line_ends tail true ≡ true
line_ends_tail [] c h = refl
line_ends_tail ([] ∷ ps) c h = let none = c.0 in cc
line_ends_tail ((x ∷ b) ∷ ps) c h = subst (λ n. line_ends ((n ∷ b) ∷ ps) true ≡ true) (sym (eqb-true x 10 h)) (newline_ends b ps true)

-- a line ends before a part of the new text where one did in the old text
pub line_ends_kept : (parts : List Part) (tail : List (List ℕ)) → Fits parts tail → line_ends (new_pieces parts tail) true ≡ line_ends (old_pieces parts) true
line_ends_kept [] tail f = line_ends_tail tail f.cut f.begins
line_ends_kept (Kept ps ∷ parts) tail f = line_ends_append ps (new_pieces parts tail) true ∙ ap (line_ends ps) (line_ends_kept parts tail f.1) ∙ sym (line_ends_append ps (old_pieces parts) true)
line_ends_kept (Replaced old new ∷ parts) tail f =
    line_ends_append (pieces_of new) (new_pieces parts tail) true ∙ line_ends_new (pieces_of new) _ f.1.begins ∙ sym (line_ends_append (pieces_of old) (old_pieces parts) true ∙ line_ends_old (pieces_of old) _ f.0.begins)

-- Tokens.
pub items_append : (ps qs : List (List ℕ)) (e : Bool) → items (ps ++ qs) e ≡ items ps (line_ends qs e) ++ items qs e
items_append [] qs e = refl
items_append (p ∷ ps) qs e =
    ap (λ b. items_of p b ++ items (ps ++ qs) e) (line_ends_append ps qs e)
    ∙ ap (λ l. items_of p (line_ends ps (line_ends qs e)) ++ l) (items_append ps qs e)
    ∙ sym (append_assoc (items_of p (line_ends ps (line_ends qs e))) (items ps (line_ends qs e)) (items qs e))

pub items_blanks : (ps : List (List ℕ)) (e : Bool) → list_all is_blank ps ≡ true → items ps e ≡ []
items_blanks [] e h = refl
items_blanks (p ∷ ps) e h =
    let b = both (is_blank p) (list_all is_blank ps) h in
    ap (λ t. cond t (record { kind = token_kind p; text = encode_utf8_all p } ∷ semicolon (ends_statement p && line_ends ps e)) [] ++ items ps e) (blank_plain p b.0).no_token ∙ items_blanks ps e b.1

pub token_items : (p : List ℕ) (e : Bool) → is_token p ≡ true → items_of p e ≡ record { kind = token_kind p; text = encode_utf8_all p } ∷ semicolon (ends_statement p && e)
token_items p e h = ap (λ t. cond t (record { kind = token_kind p; text = encode_utf8_all p } ∷ semicolon (ends_statement p && e)) []) h

pub no_semicolon : (b : Bool) → semicolon (b && false) ≡ []
no_semicolon true = refl
no_semicolon false = refl

-- a range has the tokens that it has alone, and a semicolon where a line ends behind it
pub items_range : (r : Range) (e : Bool) → is_token r.last ≡ true → list_all is_blank r.blanks ≡ true → items (pieces_of r) e ≡ items (pieces_of r) false ++ semicolon (ends_statement r.last && e)
items_range r e h k =
    at e ∙ sym (ap (λ l. l ++ semicolon (ends_statement r.last && e)) (at false)
    ∙ append_assoc (items r.before false) (record { kind = token_kind r.last; text = encode_utf8_all r.last } ∷ semicolon (ends_statement r.last && false)) (semicolon (ends_statement r.last && e))
    ∙ ap (λ l. items r.before false ++ (record { kind = token_kind r.last; text = encode_utf8_all r.last } ∷ (l ++ semicolon (ends_statement r.last && e)))) (no_semicolon (ends_statement r.last)))
  where
    at : (e : Bool) → items (pieces_of r) e ≡ items r.before false ++ (record { kind = token_kind r.last; text = encode_utf8_all r.last } ∷ semicolon (ends_statement r.last && e))
    at e =
        items_append r.before (r.last ∷ r.blanks) e
        ∙ ap (λ b. items r.before b ++ items (r.last ∷ r.blanks) e) (line_ends_token r.last r.blanks e h)
        ∙ ap (λ l. items r.before false ++ l)
        (ap (λ b. items_of r.last b ++ items r.blanks e) (line_ends_blanks r.blanks e k)
        ∙ ap (λ l. items_of r.last e ++ l) (items_blanks r.blanks e k)
        ∙ append-nil (items_of r.last e)
        ∙ token_items r.last e h)

-- A range ends in no line comment.
token_kind_no_line : (k : PieceKind) → is_token_kind k ≡ true → is_line k ≡ false
token_kind_no_line LineComment h = cc
token_kind_no_line k h = refl

blanks_no_line : (p : List ℕ) (bs : List (List ℕ)) → is_line (kind p) ≡ false → list_all is_blank bs ≡ true → ends_in_line (p ∷ bs) ≡ false
blanks_no_line p [] h k = h
blanks_no_line p (b ∷ bs) h k = let parts = both (is_blank b) (list_all is_blank bs) k in blanks_no_line b bs (blank_plain b parts.0).no_line parts.1

range_no_line : (before : List (List ℕ)) (p : List ℕ) (bs : List (List ℕ)) → is_token p ≡ true → list_all is_blank bs ≡ true → ends_in_line (before ++ p ∷ bs) ≡ false
range_no_line [] p bs h k = blanks_no_line p bs (token_kind_no_line (kind p) h) k
range_no_line (q ∷ []) p bs h k = range_no_line [] p bs h k
range_no_line (q ∷ r ∷ before) p bs h k = range_no_line (r ∷ before) p bs h k

-- A word stops before a period.
period_word : is_in_word 46 ≡ false
unfolding is_in_word is_letter general_category value_in general_category_rows
period_word = refl

period_no_word : kind (46 ∷ []) ≡ Word → ⊥
unfolding begun_by is_white is_letter is_digit operators punctuation outside_operators general_category value_in general_category_rows
period_no_word e = cc

period_digit : is_digit 46 ≡ false
unfolding is_digit
period_digit = refl

period_x : is_x 46 ≡ false
unfolding is_x
period_x = refl

nought_digit : is_digit 0 ≡ false
unfolding is_digit
nought_digit = refl

nought_x : is_x 0 ≡ false
unfolding is_x
nought_x = refl

period_begun : (x : ℕ) → begun x 46 ≡ begun x 0
period_begun x =
    let line : (x == 47 && 46 == 47) ≡ (x == 47 && 0 == 47) = and_second (x == 47) (46 == 47) refl ∙ sym (and_second (x == 47) (0 == 47) refl) in
    let block : (x == 47 && 46 == 42) ≡ (x == 47 && 0 == 42) = and_second (x == 47) (46 == 42) refl ∙ sym (and_second (x == 47) (0 == 42) refl) in
    let point : (x == 46 && is_digit 46) ≡ (x == 46 && is_digit 0) = and_second (x == 46) (is_digit 46) period_digit ∙ sym (and_second (x == 46) (is_digit 0) nought_digit) in
    let hex : (x == 48 && is_x 46) ≡ (x == 48 && is_x 0) = and_second (x == 48) (is_x 46) period_x ∙ sym (and_second (x == 48) (is_x 0) nought_x) in
    ap (λ l. begun_by x l (x == 47 && 46 == 42) (x == 46 && is_digit 46) (x == 48 && is_x 46)) line ∙ ap (λ l. begun_by x (x == 47 && 0 == 47) l (x == 46 && is_digit 46) (x == 48 && is_x 46)) block ∙ ap (λ l. begun_by x (x == 47 && 0 == 47) (x == 47 && 0 == 42) l (x == 48 && is_x 46)) point ∙ ap (begun_by x (x == 47 && 0 == 47) (x == 47 && 0 == 42) (x == 46 && is_digit 0)) hex

same_front : (x : ℕ) (b : List ℕ) → begun x (front (b ++ 46 ∷ [])) ≡ begun x (front b)
same_front x [] = period_begun x
same_front x (z ∷ b) = refl

word_goes : (b : List ℕ) → is_some (after InWord (b ++ 46 ∷ [])) ≡ true → ⊥
word_goes b h =
    let last = last_step InWord b 46 h in
    let stays = word_stays b last.mode last.was in
    let step = some_is (goes InWord 46) (subst (λ n. is_some (goes n 46) ≡ true) stays.0 last.goes_on) in
    let next = (goes_word step.0 46 step.1).1 in
    let none = period_word in
    cc

no_longer : (p : List ℕ) → kind p ≡ Word → is_piece (p ++ 46 ∷ []) ≡ true → ⊥
no_longer [] k h = cc
no_longer (x ∷ b) k h = word_goes b (subst (λ q. has_shape q x (b ++ 46 ∷ []) ≡ true) (same_front x b ∙ k) h)

word_stops : (p rest zs : List ℕ) → kind p ≡ Word → rest ≡ 46 ∷ zs → Stops p rest
word_stops p rest zs k e = record {
  next = λ y ys f. let same : y ≡ 46 = cc in not_true _ (λ h. no_longer p k (subst (λ n. is_piece (p ++ n ∷ []) ≡ true) same h));
  dots = λ ys f g. period_no_word (subst (λ q. kind q ≡ Word) f k);
}

longer : (ps : List (List ℕ)) (last : List ℕ) → Cut (ps ++ last ∷ []) [] → 0 < length (join (ps ++ last ∷ []))
longer [] [] c = let none = c.0 in cc
longer [] (x ∷ b) c = omega arith
longer ([] ∷ ps) last c = let none = c.0 in cc
longer ((x ∷ b) ∷ ps) last c = omega arith

not_a_period : (ps : List (List ℕ)) (last : List ℕ) → Cut (ps ++ last ∷ []) [] → kind last ≡ Word → join (ps ++ last ∷ []) ≡ 46 ∷ [] → ⊥
not_a_period [] last c k e = period_no_word (subst (λ q. kind q ≡ Word) (sym (append-nil last) ∙ e) k)
not_a_period ([] ∷ ps) last c k e = let none = c.0 in cc
not_a_period ((x ∷ b) ∷ ps) last c k e = absurd (omega (arith, ap length e, length-append b (join (ps ++ last ∷ [])), longer ps last c.2))

-- So a text that ends with a word is cut alike before one.
cut_word : (ps : List (List ℕ)) (last rest zs : List ℕ) → Cut (ps ++ last ∷ []) [] → kind last ≡ Word → rest ≡ 46 ∷ zs → Cut (ps ++ last ∷ []) rest
cut_word [] last rest zs c k e = (c.0, stops_longest last rest c.0 (word_stops last rest zs k e), tt)
cut_word (p ∷ ps) last rest zs c k e =
    let l : List ℕ = join (ps ++ last ∷ []) in
    let first = some_front l (longer ps last c.2) in
    let stops = stops_middle p l rest first.0 first.1 first.2 (longest_stops p (l ++ []) c.1) (λ f h ys i. not_a_period ps last c.2 k h) in
    (c.0, stops_longest p (l ++ rest) c.0 stops, cut_word ps last rest zs c.2 k e)
  where
    some_front : (l : List ℕ) → 0 < length l → (y : ℕ) × (ys : List ℕ) × (l ≡ y ∷ ys)
    some_front [] lt = absurd (omega (arith, lt))
    some_front (y ∷ ys) lt = (y, ys, refl)

word_kind_is : (k : PieceKind) → is_word_kind k ≡ true → k ≡ Word
word_kind_is Word h = refl
word_kind_is _ h = cc

period_is : (rest : List ℕ) → begins_with_period rest ≡ true → (zs : List ℕ) × (rest ≡ 46 ∷ zs)
period_is [] h = cc
period_is (y ∷ ys) h = (ys, ap (λ n. n ∷ ys) (eqb-true y 46 h))

none_is : (bs : List (List ℕ)) → is_none bs ≡ true → bs ≡ []
none_is [] h = refl
none_is (b ∷ bs) h = cc

cut_range : (r : Range) (rest : List ℕ) → Cut (pieces_of r) [] → list_all is_good (pieces_of r) ≡ true → is_apart_behind r rest ≡ true → (ends_in_line (pieces_of r) ≡ true → is_at_line_end rest ≡ true) → Cut (pieces_of r) rest
cut_range r rest c g apart line =
    ⊎_elim
    (λ a. cut_seam (pieces_of r) rest c g a line)
    (λ a.
    let b = both (ends_in_word r) (begins_with_period rest) a in
    let d = both (is_word_kind (kind r.last)) (is_none r.blanks) b.0 in
    let p = period_is rest b.1 in
    let none = none_is r.blanks d.1 in
    subst (λ bs. Cut (r.before ++ r.last ∷ bs) rest) (sym none) (cut_word r.before r.last rest p.0 (subst (λ bs. Cut (r.before ++ r.last ∷ bs) []) none c) (word_kind_is (kind r.last) d.0) p.1))
    (either (are_apart (join (pieces_of r)) rest) _ apart)

-- The new text is cut into the pieces of the parts.
pub new_cut : (parts : List Part) (tail : List (List ℕ)) → Fits parts tail → Cut (old_pieces parts) [] → list_all is_good (old_pieces parts) ≡ true → Cut (new_pieces parts tail) []
new_cut [] tail f c g = f.cut
new_cut (Kept ps ∷ parts) tail f c g =
    let goods = all_both ps (old_pieces parts) g in
    let first = cut_first ps (old_pieces parts) [] c in
    let second = cut_second ps (old_pieces parts) [] c in
    let old : List ℕ = join (old_pieces parts) in
    let new : List ℕ = join (new_pieces parts tail) in
    let seam = cut_seam ps new (cut_front ps [] (old ++ []) first) goods.0 f.0 (λ h. line_kept parts tail f.1 second (line_stops ps old (subst (Cut ps) (append-nil old) first) h)) in
    cut_both ps (new_pieces parts tail) [] (subst (Cut ps) (sym (append-nil new)) seam) (new_cut parts tail f.1 second goods.1)
new_cut (Replaced old new ∷ parts) tail f c g =
    let goods = all_both (pieces_of old) (old_pieces parts) g in
    let second = cut_second (pieces_of old) (old_pieces parts) [] c in
    let rest : List ℕ = join (new_pieces parts tail) in
    let no_line = range_no_line new.before new.last new.blanks f.1.ends f.1.blanks in
    let seam = cut_range new rest f.1.cut f.1.good f.2 (λ h. cc) in
    cut_both (pieces_of new) (new_pieces parts tail) [] (subst (Cut (pieces_of new)) (sym (append-nil rest)) seam) (new_cut parts tail f.4 second goods.1)

pub new_good : (parts : List Part) (tail : List (List ℕ)) → Fits parts tail → list_all is_good (old_pieces parts) ≡ true → list_all is_good (new_pieces parts tail) ≡ true
new_good [] tail f g = f.good
new_good (Kept ps ∷ parts) tail f g = let goods = all_both ps (old_pieces parts) g in all_join ps (new_pieces parts tail) goods.0 (new_good parts tail f.1 goods.1)
new_good (Replaced old new ∷ parts) tail f g = let goods = all_both (pieces_of old) (old_pieces parts) g in all_join (pieces_of new) (new_pieces parts tail) f.1.good (new_good parts tail f.4 goods.1)

-- The tokens of the old text, and of the new one.
pub old_blanks : (old : Range) → IsOld old → list_all is_blank old.blanks ≡ true
old_blanks old is = ap (list_all is_blank) is.blanks

pub old_items : (parts : List Part) (tail : List (List ℕ)) → Fits parts tail → items (old_pieces parts) true ≡ spliced (λ old new. old) parts
old_items [] tail f = refl
old_items (Kept ps ∷ parts) tail f = items_append ps (old_pieces parts) true ∙ ap (λ l. items ps (line_ends (old_pieces parts) true) ++ l) (old_items parts tail f.1)
old_items (Replaced old new ∷ parts) tail f =
    let e : Bool = line_ends (old_pieces parts) true in
    items_append (pieces_of old) (old_pieces parts) true
    ∙ ap (λ l. l ++ items (old_pieces parts) true) (items_range old e f.0.ends (old_blanks old f.0))
    ∙ append_assoc (items (pieces_of old) false) (semicolon (ends_statement old.last && e)) (items (old_pieces parts) true)
    ∙ ap (λ l. items (pieces_of old) false ++ (semicolon (ends_statement old.last && e) ++ l)) (old_items parts tail f.4)

and_same : (a b e : Bool) → (e ≡ true → a ≡ b) → (b && e) ≡ (a && e)
and_same a b true h = ap (λ c. c && true) (sym (h refl))
and_same a b false h = and_second b false refl ∙ sym (and_second a false refl)

pub new_items : (parts : List Part) (tail : List (List ℕ)) → Fits parts tail → items (new_pieces parts tail) true ≡ spliced (λ old new. new) parts ++ items tail true
new_items [] tail f = refl
new_items (Kept ps ∷ parts) tail f =
    items_append ps (new_pieces parts tail) true
    ∙ ap (λ b. items ps b ++ items (new_pieces parts tail) true) (line_ends_kept parts tail f.1)
    ∙ ap (λ l. items ps (line_ends (old_pieces parts) true) ++ l) (new_items parts tail f.1)
    ∙ sym (append_assoc (items ps (line_ends (old_pieces parts) true)) (spliced (λ old new. new) parts) (items tail true))
new_items (Replaced old new ∷ parts) tail f =
    let e : Bool = line_ends (old_pieces parts) true in
    let behind : List Item = spliced (λ old new. new) parts in
    items_append (pieces_of new) (new_pieces parts tail) true
    ∙ ap (λ b. items (pieces_of new) b ++ items (new_pieces parts tail) true) (line_ends_kept parts tail f.4)
    ∙ ap (λ l. l ++ items (new_pieces parts tail) true) (items_range new e f.1.ends f.1.blanks)
    ∙ ap (λ b. (items (pieces_of new) false ++ semicolon b) ++ items (new_pieces parts tail) true) (and_same (ends_statement old.last) (ends_statement new.last) e f.3)
    ∙ ap (λ l. (items (pieces_of new) false ++ semicolon (ends_statement old.last && e)) ++ l) (new_items parts tail f.4)
    ∙ append_assoc (items (pieces_of new) false) (semicolon (ends_statement old.last && e)) (behind ++ items tail true)
    ∙ ap (λ l. items (pieces_of new) false ++ l) (sym (append_assoc (semicolon (ends_statement old.last && e)) behind (items tail true)))
    ∙ sym (append_assoc (items (pieces_of new) false) (semicolon (ends_statement old.last && e) ++ behind) (items tail true))

pub replaced : (parts : List Part) (tail : List (List ℕ)) → Fits parts tail → Cut (old_pieces parts) [] → list_all is_good (old_pieces parts) ≡ true → IsReplaced parts tail
replaced parts tail f c g = record { cut = new_cut parts tail f c g; good = new_good parts tail f g; old = old_items parts tail f; new = new_items parts tail f }
