-- The pieces of a text in which names stand in place of holes.
use Rattle.std.proofs.Common.{◌≡◌, ℕ, suc, ◌+◌, ◌≤◌, Bool, true, false, ◌&&◌, ◌==◌, List, [], ◌∷◌, ◌++◌, length, take, drop, map, append_assoc, refl, sym, ap, ◌∙◌, subst, arith, eqb-true}
use Rattle.std.specs.List.{list_all}
use Rattle.std.specs.Str.{chars, encode_utf8_all}
use Rattle.std.proofs.lemmas.List.{length-append, take_at, drop_at, map-append}
use Rattle.go_tokens.specs.declared.piece.PieceKind.{PieceKind}
use Rattle.go_tokens.specs.declared.piece.PieceKind.TheVariants.{LineComment}
use Rattle.go_tokens.specs.declared.token.Token.{Token}
use Rattle.go_tokens.specs.declared.token.TokenKind.{TokenKind}
use Rattle.go_tokens.specs.declared.token.TokenKind.TheVariants as token
use Rattle.go_tokens.specs.Characters.{is_white}
use Rattle.go_tokens.specs.Editing.{Spans}
use Rattle.go_tokens.specs.Lexing.{join, width, IsLongest, Cut, is_token, is_token_kind, token_kind, ends_statement, line_ends, tokens}
use Rattle.go_tokens.specs.Pieces.{begun_by, goes, kind, is_piece, is_good}
use Rattle.go_tokens.specs.Replacing.{Item, semicolon, items, is_blank, Range, pieces_of, begins_with_token}
use Rattle.go_tokens.specs.Spellings.{ends_statement_kind}
use Rattle.go_tokens.specs.Tokens.{AreOrdered, span_of}
use Rattle.go_tokens.proofs.Public.{OldRange, old_range, all_both, and_both, cut_first, cut_second, items_append, items_blanks, items_range, join_two, line_ends_append, line_ends_blanks, line_ends_old, line_ends_token, old_blanks, piece_some, tokens_ordered, true_false, width-append}
use Rattle.go_rewriting.specs.Places.{Ascending, changed, ranges}
use Rattle.go_rewriting.specs.Rewriting.{IsRange}
use Rattle.go_print_laws.specs.Lexemes.{IsName}
use Rattle.extract_files.specs.Holes.{Hole, whole_text, named_text, named}
use Rattle.extract_files.proofs.Blanks.{blank_seam, blank_longest, token_seam}
use Rattle.extract_files.proofs.Numbers.{spans_of, range_items}
use Rattle.extract_files.proofs.Ranges.{numbered, range_count}

-- ---- pieces

join_append : (ps qs : List (List ℕ)) (r : List ℕ) → join (ps ++ qs) ++ r ≡ join ps ++ (join qs ++ r)
join_append ps qs r = ap (λ l. l ++ r) (join_two ps qs) ∙ append_assoc (join ps) (join qs) r

pub cut_both : (ps qs : List (List ℕ)) (r : List ℕ) → Cut ps (join qs ++ r) → Cut qs r → Cut (ps ++ qs) r
cut_both [] qs r c d = d
cut_both (p ∷ ps) qs r c d = (c.0, subst (IsLongest p) (sym (join_append ps qs r)) c.1, cut_both ps qs r c.2 d)

pub goods_both : (ps qs : List (List ℕ)) → list_all is_good ps ≡ true → list_all is_good qs ≡ true → list_all is_good (ps ++ qs) ≡ true
goods_both [] qs g h = h
goods_both (p ∷ ps) qs g h = let both = all_both (p ∷ []) ps g in and_both (is_good p) _ (first (is_good p) both.0) (goods_both ps qs both.1 h)
  where
    first : (b : Bool) → (b && true) ≡ true → b ≡ true
    first true e = refl
    first false e = e

-- what stands in front of the same
pub cancel : {A : Type 0} (a b c : List A) → a ++ c ≡ b ++ c → a ≡ b
cancel [] [] c e = refl
cancel [] (y ∷ b) c e = let n : length c ≡ length ((y ∷ b) ++ c) = ap length e in absurd (omega (arith, n, length-append (y ∷ b) c))
cancel (x ∷ a) [] c e = let n : length ((x ∷ a) ++ c) ≡ length c = ap length e in absurd (omega (arith, n, length-append (x ∷ a) c))
cancel (x ∷ a) (y ∷ b) c e =
    let heads : x ≡ y = cc in
    let tails : a ++ c ≡ b ++ c = cc in
    ap (λ l. x ∷ l) (cancel a b c tails) ∙ ap (λ n. n ∷ b) heads

-- Of two backs of one cutting the shorter is one of the longer.
pub record Back (ps qs : List (List ℕ)) : Type 0 where
  pub others : List (List ℕ)
  pub is : ps ≡ others ++ qs

pub shorter : (a ps b qs : List (List ℕ)) (r : List ℕ) → Cut (b ++ qs) r → a ++ ps ≡ b ++ qs → width (join qs) ≤ width (join ps) → Back ps qs
shorter [] ps b qs r c e le = record { others = b; is = e }
shorter (x ∷ a) ps [] [] r c e le = cc
shorter (x ∷ a) ps [] (q ∷ qs) r c e le =
    let heads : x ≡ q = cc in
    let tails : a ++ ps ≡ qs = cc in
    let n : width (join qs) ≡ width (join a ++ join ps) = ap width (ap join (sym tails) ∙ join_two a ps) in
    absurd (omega (arith, n, width-append (join a) (join ps), width-append q (join qs), le, piece_some q c.0))
shorter (x ∷ a) ps (y ∷ b) qs r c e le = let tails : a ++ ps ≡ b ++ qs = cc in shorter a ps b qs r c.2 tails le

-- the kinds of the tokens of pieces
abbrev pub kind_in : Item → TokenKind
kind_in x = x.kind

abbrev pub kinds_in : List (List ℕ) → Bool → List TokenKind
kinds_in ps e = map kind_in (items ps e)

pub kinds_append : (xs ys : List (List ℕ)) (e : Bool) → kinds_in (xs ++ ys) e ≡ kinds_in xs (line_ends ys e) ++ kinds_in ys e
kinds_append xs ys e = ap (map kind_in) (items_append xs ys e) ∙ map-append kind_in (items xs (line_ends ys e)) (items ys e)

pub length-map : {A B : Type 0} (f : A → B) (xs : List A) → length (map f xs) ≡ length xs
length-map f [] = refl
length-map f (x ∷ xs) = ap suc (length-map f xs)

-- ---- how pieces begin and end

-- blanks, and a token behind them
pub record Begins (ps : List (List ℕ)) : Type 0 where
  pub blanks : List (List ℕ)
  pub first : List ℕ
  pub others : List (List ℕ)
  pub is : ps ≡ blanks ++ first ∷ others
  pub blank : list_all is_blank blanks ≡ true
  pub token : is_token first ≡ true

-- a token that ends a statement, and blanks behind it
pub record Ends (ps : List (List ℕ)) : Type 0 where
  pub range : Range
  pub is : ps ≡ pieces_of range
  pub token : is_token range.last ≡ true
  pub piece : is_piece range.last ≡ true
  pub ends : ends_statement range.last ≡ true
  pub blank : list_all is_blank range.blanks ≡ true

-- the last piece is this one
abbrev pub EndsWith : List ℕ → List (List ℕ) → Type 0
EndsWith l [] = ⊥
EndsWith l (p ∷ []) = p ≡ l
EndsWith l (p ∷ q ∷ qs) = EndsWith l (q ∷ qs)

last_behind : (a : List (List ℕ)) (q : List ℕ) (qs : List (List ℕ)) (l : List ℕ) → EndsWith l (a ++ (q ∷ qs)) → EndsWith l (q ∷ qs)
last_behind [] q qs l e = e
last_behind (x ∷ []) q qs l e = e
last_behind (x ∷ y ∷ a) q qs l e = last_behind (y ∷ a) q qs l e

ends_more : (a ps : List (List ℕ)) → Ends ps → Ends (a ++ ps)
ends_more a ps h = record {
  range = record { before = a ++ h.range.before; last = h.range.last; blanks = h.range.blanks };
  is = ap (λ x. a ++ x) h.is ∙ sym (append_assoc a h.range.before (h.range.last ∷ h.range.blanks));
  token = h.token;
  piece = h.piece;
  ends = h.ends;
  blank = h.blank;
}

pub ends_at : (ps : List (List ℕ)) (l : List ℕ) → EndsWith l ps → is_piece l ≡ true → is_token l ≡ true → ends_statement l ≡ true → Ends ps
ends_at [] l e p t s = absurd e
ends_at (q ∷ []) l e p t s = record { range = record { before = []; last = l; blanks = [] }; is = ap (λ x. x ∷ []) e; token = t; piece = p; ends = s; blank = refl }
ends_at (q ∷ r ∷ rs) l e p t s = ends_more (q ∷ []) (r ∷ rs) (ends_at (r ∷ rs) l e p t s)

begins_at : (ps : List (List ℕ)) → begins_with_token ps ≡ true → Begins ps
begins_at [] h = cc
begins_at (p ∷ ps) h = record { blanks = []; first = p; others = ps; is = refl; blank = refl; token = h }

-- ---- a name between blanks

blank_good : is_good (32 ∷ []) ≡ true
unfolding begun_by is_white goes
blank_good = refl

blank_piece : is_piece (32 ∷ []) ≡ true
unfolding begun_by is_white goes
blank_piece = refl

abbrev name_range : List ℕ → Range
name_range n = record { before = (32 ∷ []) ∷ []; last = chars n; blanks = (32 ∷ []) ∷ [] }

abbrev name_pieces : List ℕ → List (List ℕ)
name_pieces n = (32 ∷ []) ∷ chars n ∷ (32 ∷ []) ∷ []

no_comment : (k : PieceKind) → is_token_kind k ≡ true → k ≡ LineComment → ⊥
no_comment k h e = let f : is_token_kind LineComment ≡ true = subst (λ k. is_token_kind k ≡ true) e h in cc

module _ (n : List ℕ) (is : IsName n) where
  name_ends : ends_statement (chars n) ≡ true
  name_ends = ap ends_statement_kind is.kind

  name_lines : (xs : List (List ℕ)) (e : Bool) → line_ends (name_pieces n ++ xs) e ≡ false
  name_lines xs e =
      line_ends_append ((32 ∷ []) ∷ []) (chars n ∷ (32 ∷ []) ∷ xs) e
      ∙ line_ends_blanks ((32 ∷ []) ∷ []) (line_ends (chars n ∷ (32 ∷ []) ∷ xs) e) refl
      ∙ line_ends_token (chars n) ((32 ∷ []) ∷ xs) e is.token

  name_kinds : (e : Bool) → kinds_in (name_pieces n) e ≡ token.Identifier ∷ map kind_in (semicolon (true && e))
  name_kinds e =
      let one : items (name_pieces n) false ≡ record { kind = token_kind (chars n); text = encode_utf8_all (chars n) } ∷ [] =
      range_items (name_range n) is.token refl ∙ ap (λ l. l ++ (record { kind = token_kind (chars n); text = encode_utf8_all (chars n) } ∷ [])) (items_blanks ((32 ∷ []) ∷ []) false refl) in
      ap (map kind_in) (items_range (name_range n) e is.token refl ∙ ap (λ l. l ++ semicolon (ends_statement (chars n) && e)) one ∙ ap (λ b. record { kind = token_kind (chars n); text = encode_utf8_all (chars n) } ∷ semicolon (b && e)) name_ends)
      ∙ ap (λ k. k ∷ map kind_in (semicolon (true && e))) is.kind

  name_goods : list_all is_good (name_pieces n) ≡ true
  name_goods = and_both (is_good (32 ∷ [])) _ blank_good (and_both (is_good (chars n)) _ is.good (and_both (is_good (32 ∷ [])) true blank_good refl))

  name_cut : (xs : List (List ℕ)) → Cut xs [] → Cut (name_pieces n ++ xs) []
  name_cut xs c =
      let behind : Cut ((32 ∷ []) ∷ xs) [] = (blank_piece, blank_longest (join xs ++ []), c) in
      let name : Cut (chars n ∷ (32 ∷ []) ∷ xs) [] = (is.piece, token_seam (chars n) (join xs ++ []) is.piece is.good (no_comment (kind (chars n)) is.token), behind) in
      (blank_piece, blank_longest (join (chars n ∷ (32 ∷ []) ∷ xs) ++ []), name)

newline_no_token : (p : List ℕ) → is_token (10 ∷ p) ≡ false
unfolding begun_by is_white
newline_no_token p = refl

pub no_newline : (x : ℕ) (p : List ℕ) → is_token (x ∷ p) ≡ true → (x == 10) ≡ false
no_newline x p h = by (x == 10) refl
  where
    by : (b : Bool) → (x == 10) ≡ b → b ≡ false
    by true e = absurd (true_false (is_token (x ∷ p)) h (ap (λ n. is_token (n ∷ p)) (eqb-true x 10 e) ∙ newline_no_token p))
    by false e = refl

-- pieces in front of a token are cut alike in front of a name between blanks
seam : (front os rest : List (List ℕ)) (more : List ℕ) → Cut (front ++ (os ++ rest)) [] → list_all is_good front ≡ true → begins_with_token os ≡ true → Cut front (32 ∷ more)
seam front [] rest more c g b = cc
seam front ([] ∷ os) rest more c g b = let none = (cut_second front (([] ∷ os) ++ rest) [] c).0 in cc
seam front ((x ∷ p) ∷ os) rest more c g b = blank_seam front x ((p ++ join (os ++ rest)) ++ []) more (cut_first front (((x ∷ p) ∷ os) ++ rest) [] c) (no_newline x p b) g

-- ---- one range exchanged

exchange : (ps os ys ws : List TokenKind) (from upto : ℕ) → from ≡ length ps → upto ≡ length ps + length os → take from (ps ++ (os ++ ys)) ++ (ws ++ drop upto (ps ++ (os ++ ys))) ≡ ps ++ (ws ++ ys)
exchange ps os ys ws from upto e f =
    let n : length (ps ++ os) ≡ upto = omega (arith, f, length-append ps os) in
    ap (λ l. l ++ (ws ++ drop upto (ps ++ (os ++ ys)))) (take_at ps (os ++ ys) from (sym e))
    ∙ ap (λ l. ps ++ (ws ++ l)) (ap (drop upto) (sym (append_assoc ps os ys)) ∙ drop_at (ps ++ os) ys upto n)

-- ---- all holes

-- what is asked of the text of a hole, which stands behind others from a place on
pub record TextHole (ts : List Token) (at : ℕ) (h : Hole) : Type 0 where
  pub range : IsRange ts h.from h.upto (at + width h.kept) (at + width h.kept + width h.old)
  pub name : IsName h.name
  pub closes : ends_statement_kind range.last.kind ≡ true

abbrev pub TextHoles : List Token → ℕ → List Hole → Type 0
TextHoles ts at [] = Unit {0}
TextHoles ts at (h ∷ hs) = TextHole ts at h × TextHoles ts (at + width h.kept + width h.old) hs

-- The pieces ps, behind others of the whole text and with the pieces `back` at their end: their texts, tokens and seams with the names.
pub record Filling (whole back : List (List ℕ)) (rest : List ℕ) (front ps : List (List ℕ)) (hs : List Hole) : Type 0 where
  pub old : List (List ℕ)
  pub new : List (List ℕ)
  pub is : ps ≡ old ++ back
  pub joined : join new ≡ named_text hs rest
  pub good : list_all is_good new ≡ true
  pub lines : (e : Bool) → line_ends new e ≡ line_ends old e
  pub cut : (pa : List (List ℕ)) → Cut (pa ++ ps) [] → list_all is_good pa ≡ true → Cut (pa ++ (new ++ back)) []
  pub kinds : changed (named hs) (kinds_in whole true) ≡ kinds_in front (line_ends ps true) ++ kinds_in (new ++ back) true
  pub ascend : (i : ℕ) → i ≤ length (kinds_in front (line_ends ps true)) → Ascending i (ranges (named hs)) (length (kinds_in whole true))
  pub begins : begins_with_token old ≡ true → Begins new
  pub none : old ≡ [] → new ≡ []
  pub ends : (l : List ℕ) → EndsWith l old → is_piece l ≡ true → is_token l ≡ true → ends_statement l ≡ true → Ends new

module _ (file : ℕ) (whole : List (List ℕ)) (cut : Cut whole []) (good : list_all is_good whole ≡ true) (back : List (List ℕ)) (rest behind : List ℕ) (back_is : join back ≡ behind) where
  -- how many tokens the whole has, by a front and a back
  counted : (front ps : List (List ℕ)) → whole ≡ front ++ ps → kinds_in whole true ≡ kinds_in front (line_ends ps true) ++ kinds_in ps true
  counted front ps w = ap (λ x. kinds_in x true) w ∙ kinds_append front ps true

  -- no hole is left
  unfilled : (front ps : List (List ℕ)) → whole ≡ front ++ ps → (wf : List (List ℕ)) → whole ≡ wf ++ back → join ps ≡ rest ++ behind → Filling whole back rest front ps []
  unfilled front ps w wf d j = record {
    old = b.others;
    new = b.others;
    is = b.is;
    joined = cancel (join b.others) rest behind (ap (λ l. join b.others ++ l) (sym back_is) ∙ sym (join_two b.others back) ∙ ap join (sym b.is) ∙ j);
    good = (all_both b.others back (subst (λ x. list_all is_good x ≡ true) b.is (all_both front ps (subst (λ x. list_all is_good x ≡ true) w good)).1)).0;
    lines = λ e. refl;
    cut = λ pa c g. subst (λ x. Cut (pa ++ x) []) b.is c;
    kinds = counted front ps w ∙ ap (λ x. kinds_in front (line_ends ps true) ++ kinds_in x true) b.is;
    ascend = λ i le. let n : length (kinds_in whole true) ≡ length (kinds_in front (line_ends ps true) ++ kinds_in ps true) = ap length (counted front ps w) in omega (arith, le, n, length-append (kinds_in front (line_ends ps true)) (kinds_in ps true));
    begins = begins_at b.others;
    none = λ e. e;
    ends = ends_at b.others;
  }
    where
      long : width (join back) ≤ width (join ps)
      long =
          let n : width (join ps) ≡ width (rest ++ behind) = ap width j in
          let m : width (join back) ≡ width behind = ap width back_is in
          omega (arith, n, m, width-append rest behind)

      b : Back ps back
      b = shorter front ps wf back [] (subst (λ x. Cut x []) d cut) (sym w ∙ d) long

  -- one hole in front of others that are filled
  module _ (front ps : List (List ℕ)) (w : whole ≡ front ++ ps) (h : Hole) (hs : List Hole) (at : ℕ) (a : at ≡ width (join front)) (t : TextHole (tokens file 0 whole true) at h) (last : Token) (last_is : last ≡ t.range.last)
      (r : OldRange ps h.kept h.old (whole_text hs (rest ++ behind)) last) (f : Filling whole back rest (front ++ (r.first_pieces ++ pieces_of r.range)) r.rest_pieces hs) where
    abbrev fs : List (List ℕ)
    fs = r.first_pieces

    abbrev os : List (List ℕ)
    os = pieces_of r.range

    abbrev ns : List (List ℕ)
    ns = name_pieces h.name

    abbrev e : Bool
    e = line_ends r.rest_pieces true

    old_ends : ends_statement r.range.last ≡ true
    old_ends = sym r.last_is ∙ ap (λ (u : Token). ends_statement_kind u.kind) last_is ∙ t.closes

    all_is : whole ≡ (front ++ fs) ++ (os ++ r.rest_pieces)
    all_is = w ∙ ap (λ x. front ++ x) r.is ∙ sym (append_assoc front fs (os ++ r.rest_pieces))

    back_line : line_ends (os ++ r.rest_pieces) true ≡ false
    back_line = line_ends_append os r.rest_pieces true ∙ line_ends_old os e r.is_old.begins

    -- the tokens in front, those of what is kept, those of the hole, and a semicolon behind
    abbrev in_front : List TokenKind
    in_front = kinds_in front (line_ends ps true)

    abbrev in_kept : List TokenKind
    in_kept = kinds_in fs false

    abbrev in_hole : List TokenKind
    in_hole = kinds_in os false

    abbrev end : List TokenKind
    end = map kind_in (semicolon (true && e))

    front_line_is : line_ends fs false ≡ line_ends ps true
    front_line_is = sym (ap (λ x. line_ends x true) r.is ∙ line_ends_append fs (os ++ r.rest_pieces) true ∙ ap (line_ends fs) back_line)

    passed : kinds_in (front ++ (fs ++ os)) e ≡ (in_front ++ in_kept) ++ (in_hole ++ end)
    passed =
        let line : line_ends os e ≡ false = line_ends_old os e r.is_old.begins in
        kinds_append front (fs ++ os) e
        ∙ ap (λ b. kinds_in front b ++ kinds_in (fs ++ os) e) (line_ends_append fs os e ∙ ap (line_ends fs) line ∙ front_line_is)
        ∙ ap (λ l. in_front ++ l) (kinds_append fs os e ∙ ap (λ b. kinds_in fs b ++ kinds_in os e) line
        ∙ ap (λ l. in_kept ++ l) (ap (map kind_in) (items_range r.range e r.is_old.ends (old_blanks r.range r.is_old) ∙ ap (λ b. items os false ++ semicolon (b && e)) old_ends) ∙ map-append kind_in (items os false) (semicolon (true && e))))
        ∙ sym (append_assoc in_front in_kept (in_hole ++ end))

    -- the numbers of its tokens
    place : at + width h.kept ≡ width (join (front ++ fs))
    place = let n : width (join (front ++ fs)) ≡ width (join front ++ h.kept) = ap width (join_two front fs ∙ ap (λ l. join front ++ l) r.kept_is) in omega (arith, a, n, width-append (join front) h.kept)

    front_count : length (items (front ++ fs) false) ≡ length (in_front ++ in_kept)
    front_count =
        ap length (items_append front fs false ∙ ap (λ b. items front b ++ items fs false) front_line_is)
        ∙ sym (length-map kind_in (items front (line_ends ps true) ++ items fs false)) ∙ ap length (map-append kind_in (items front (line_ends ps true)) (items fs false))

    numbers : (h.from ≡ length (items (front ++ fs) false)) × (h.upto ≡ length (items (front ++ fs) false) + length (items os false))
    numbers =
        let long : width (join os) ≡ width h.old = ap width r.old_is in
        numbered file whole cut (front ++ fs) r.range r.rest_pieces all_is r.is_old h.from h.upto (at + width h.kept) (at + width h.kept + width h.old) t.range place (omega (arith, long))

    from_is : h.from ≡ length (in_front ++ in_kept)
    from_is = numbers.0 ∙ front_count

    hole_count : length in_hole ≡ length (items r.range.before false) + 1
    hole_count = length-map kind_in (items os false) ∙ range_count r.range r.is_old

    upto_is : h.upto ≡ length (in_front ++ in_kept) + length in_hole
    upto_is = let n : length in_hole ≡ length (items os false) = length-map kind_in (items os false) in omega (arith, numbers.1, front_count, n)

    -- the tokens with the name
    new_line : line_ends (f.new ++ back) true ≡ e
    new_line = line_ends_append f.new back true ∙ f.lines (line_ends back true) ∙ sym (ap (λ x. line_ends x true) f.is ∙ line_ends_append f.old back true)

    new_kinds : kinds_in ((fs ++ (ns ++ f.new)) ++ back) true ≡ in_kept ++ (token.Identifier ∷ (end ++ kinds_in (f.new ++ back) true))
    new_kinds =
        ap (λ x. kinds_in x true) (append_assoc fs (ns ++ f.new) back)
        ∙ kinds_append fs (ns ++ (f.new ++ back)) true
        ∙ ap (λ b. kinds_in fs b ++ kinds_in (ns ++ (f.new ++ back)) true) (name_lines h.name t.name (f.new ++ back) true)
        ∙ ap (λ l. in_kept ++ l) (kinds_append ns (f.new ++ back) true ∙ ap (λ b. kinds_in ns b ++ kinds_in (f.new ++ back) true) new_line ∙ ap (λ l. l ++ kinds_in (f.new ++ back) true) (name_kinds h.name t.name e))

    filled_kinds : changed (named (h ∷ hs)) (kinds_in whole true) ≡ in_front ++ kinds_in ((fs ++ (ns ++ f.new)) ++ back) true
    filled_kinds =
        let x : List TokenKind = kinds_in (f.new ++ back) true in
        let all : changed (named hs) (kinds_in whole true) ≡ (in_front ++ in_kept) ++ (in_hole ++ (end ++ x)) =
        f.kinds ∙ ap (λ l. l ++ x) passed ∙ append_assoc (in_front ++ in_kept) (in_hole ++ end) x ∙ ap (λ l. (in_front ++ in_kept) ++ l) (append_assoc in_hole end x) in
        ap (λ l. take h.from l ++ ((token.Identifier ∷ []) ++ drop h.upto l)) all
        ∙ exchange (in_front ++ in_kept) in_hole (end ++ x) (token.Identifier ∷ []) h.from h.upto from_is upto_is
        ∙ append_assoc in_front in_kept (token.Identifier ∷ (end ++ x))
        ∙ ap (λ l. in_front ++ l) (sym new_kinds)

    filled_ascend : (i : ℕ) → i ≤ length in_front → Ascending i (ranges (named (h ∷ hs))) (length (kinds_in whole true))
    filled_ascend i le =
        let n : length (kinds_in (front ++ (fs ++ os)) e) ≡ length ((in_front ++ in_kept) ++ (in_hole ++ end)) = ap length passed in (
          omega (arith, le, from_is, length-append in_front in_kept),
          omega (arith, from_is, upto_is, hole_count),
          f.ascend h.upto (omega (arith, n, upto_is, length-append (in_front ++ in_kept) (in_hole ++ end), length-append in_hole end)),
        )

    filled_cut : (pa : List (List ℕ)) → Cut (pa ++ ps) [] → list_all is_good pa ≡ true → Cut (pa ++ ((fs ++ (ns ++ f.new)) ++ back)) []
    filled_cut pa c g =
        let ps_good : list_all is_good (fs ++ (os ++ r.rest_pieces)) ≡ true = subst (λ x. list_all is_good x ≡ true) r.is (all_both front ps (subst (λ x. list_all is_good x ≡ true) w good)).1 in
        let regrouped : Cut ((pa ++ fs) ++ (os ++ r.rest_pieces)) [] = subst (λ x. Cut x []) (ap (λ x. pa ++ x) r.is ∙ sym (append_assoc pa fs (os ++ r.rest_pieces))) c in
        let behind : Cut (f.new ++ back) [] = f.cut [] (cut_second os r.rest_pieces [] (cut_second (pa ++ fs) (os ++ r.rest_pieces) [] regrouped)) refl in
        let first : Cut (pa ++ fs) (join (ns ++ (f.new ++ back)) ++ []) = seam (pa ++ fs) os r.rest_pieces _ regrouped (goods_both pa fs g (all_both fs (os ++ r.rest_pieces) ps_good).0) r.is_old.begins in
        subst (λ x. Cut x []) (append_assoc pa fs (ns ++ (f.new ++ back)) ∙ ap (λ x. pa ++ x) (sym (append_assoc fs (ns ++ f.new) back))) (cut_both (pa ++ fs) (ns ++ (f.new ++ back)) [] first (name_cut h.name t.name (f.new ++ back) behind))

    filled_begins : (x : List (List ℕ)) → begins_with_token (x ++ (os ++ f.old)) ≡ true → Begins (x ++ (ns ++ f.new))
    filled_begins [] b = record { blanks = (32 ∷ []) ∷ []; first = chars h.name; others = (32 ∷ []) ∷ f.new; is = refl; blank = refl; token = t.name.token }
    filled_begins (y ∷ x) b = record { blanks = []; first = y; others = x ++ (ns ++ f.new); is = refl; blank = refl; token = b }

    filled_ends : (l : List ℕ) (o : List (List ℕ)) → f.old ≡ o → EndsWith l (fs ++ (os ++ o)) → is_piece l ≡ true → is_token l ≡ true → ends_statement l ≡ true → Ends (fs ++ (ns ++ f.new))
    filled_ends l [] s e p k z = record {
      range = record { before = fs ++ ((32 ∷ []) ∷ []); last = chars h.name; blanks = (32 ∷ []) ∷ [] };
      is = ap (λ x. fs ++ (ns ++ x)) (f.none s) ∙ sym (append_assoc fs ((32 ∷ []) ∷ []) (chars h.name ∷ (32 ∷ []) ∷ []));
      token = t.name.token;
      piece = t.name.piece;
      ends = name_ends h.name t.name;
      blank = refl;
    }
    filled_ends l (q ∷ qs) s e p k z = ends_more fs (ns ++ f.new) (ends_more ns f.new (f.ends l (subst (EndsWith l) (sym s) (last_behind (fs ++ os) q qs l (subst (EndsWith l) (sym (append_assoc fs os (q ∷ qs))) e))) p k z))

    some_old : fs ++ (os ++ f.old) ≡ [] → fs ++ (ns ++ f.new) ≡ []
    some_old n =
        let many : length (fs ++ (os ++ f.old)) ≡ 0 = ap length n in
        absurd (omega (arith, many, length-append fs (os ++ f.old), length-append os f.old, length-append r.range.before (r.range.last ∷ r.range.blanks)))

    step : Filling whole back rest front ps (h ∷ hs)
    step = record {
      old = fs ++ (os ++ f.old);
      new = fs ++ (ns ++ f.new);
      is = r.is ∙ ap (λ x. fs ++ (os ++ x)) f.is ∙ ap (λ x. fs ++ x) (sym (append_assoc os f.old back)) ∙ sym (append_assoc fs (os ++ f.old) back);
      joined = join_two fs (ns ++ f.new) ∙ ap (λ l. l ++ join (ns ++ f.new)) r.kept_is ∙ ap (λ l. h.kept ++ (32 ∷ (chars h.name ++ (32 ∷ l)))) f.joined;
      good = goods_both fs (ns ++ f.new) (all_both fs (os ++ r.rest_pieces) (subst (λ x. list_all is_good x ≡ true) r.is (all_both front ps (subst (λ x. list_all is_good x ≡ true) w good)).1)).0 (goods_both ns f.new (name_goods h.name t.name) f.good);
      lines = λ b. line_ends_append fs (ns ++ f.new) b ∙ ap (line_ends fs) (name_lines h.name t.name f.new b)
          ∙ sym (line_ends_append fs (os ++ f.old) b ∙ ap (line_ends fs) (line_ends_append os f.old b ∙ line_ends_old os (line_ends f.old b) r.is_old.begins));
      cut = filled_cut;
      kinds = filled_kinds;
      ascend = filled_ascend;
      begins = filled_begins fs;
      none = some_old;
      ends = λ l x p k z. filled_ends l f.old refl x p k z;
    }

  pub filling : (wf : List (List ℕ)) → whole ≡ wf ++ back → (hs : List Hole) (front ps : List (List ℕ)) (at : ℕ) → whole ≡ front ++ ps → join ps ≡ whole_text hs (rest ++ behind) → at ≡ width (join front) → TextHoles (tokens file 0 whole true) at hs → Filling whole back rest front ps hs
  filling wf d [] front ps at w j a t = unfilled front ps w wf d j
  filling wf d (h ∷ hs) front ps at w j a t =
      let ordered : AreOrdered 0 (map span_of (tokens file 0 whole true)) (0 + width (join whole)) = tokens_ordered file 0 whole true in
      let spans : Spans (tokens file 0 whole true) (at + width h.kept) (at + width h.kept + width h.old) =
      spans_of (0 + width (join whole)) (tokens file 0 whole true) h.from h.upto (at + width h.kept) (at + width h.kept + width h.old) ordered t.0.range in
      let r = old_range file whole front ps h.kept h.old (whole_text hs (rest ++ behind)) at cut w j a spans in
      let w' : whole ≡ (front ++ (r.first_pieces ++ pieces_of r.range)) ++ r.rest_pieces = w ∙ ap (λ x. front ++ x) (r.is ∙ sym (append_assoc r.first_pieces (pieces_of r.range) r.rest_pieces)) ∙ sym (append_assoc front (r.first_pieces ++ pieces_of r.range) r.rest_pieces) in
      let len : width (join (front ++ (r.first_pieces ++ pieces_of r.range))) ≡ width (join front ++ (h.kept ++ h.old)) = ap width (join_two front (r.first_pieces ++ pieces_of r.range) ∙ ap (λ l. join front ++ l) (join_two r.first_pieces (pieces_of r.range) ∙ ap (λ l. l ++ join (pieces_of r.range)) r.kept_is ∙ ap (λ l. h.kept ++ l) r.old_is)) in
      let place : at + width h.kept + width h.old ≡ width (join (front ++ (r.first_pieces ++ pieces_of r.range))) = omega (arith, len, a, width-append (join front) (h.kept ++ h.old), width-append h.kept h.old) in
      let f = filling wf d hs (front ++ (r.first_pieces ++ pieces_of r.range)) r.rest_pieces (at + width h.kept + width h.old) w' r.rest_is place t.1 in
      step front ps w h hs at a t.0 spans.last refl r f
