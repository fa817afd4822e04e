-- Statements with names in place of expressions stand.
use Rattle.std.proofs.Common.{◌≡◌, ℕ, zero, suc, ◌+◌, ◌-◌, ◌<◌, Bool, true, false, not, ◌&&◌, ◌||◌, List, [], ◌∷◌, ◌++◌, length, take, drop, map, Some, append_assoc, refl, sym, ap, ◌∙◌, subst, arith}
use Rattle.std.specs.Prelude.{slice_get}
use Rattle.std.specs.List.{list_all}
use Rattle.std.specs.Str.{chars, all_scalars}
use Rattle.std.proofs.lemmas.List.{length-append, take_at, drop_at}
use Rattle.go_tokens.specs.declared.token.Token.{Token}
use Rattle.go_tokens.specs.declared.token.TokenKind.{TokenKind}
use Rattle.go_tokens.specs.declared.token.TokenKind.TheVariants as token
use Rattle.go_tokens.specs.Characters.{is_white}
use Rattle.go_tokens.specs.Editing.{Spans, Stands, is_blank_character}
use Rattle.go_tokens.specs.Encoding.{is_plain}
use Rattle.go_tokens.specs.Lexing.{join, width, Cut, is_token, token_kind, ends_statement, line_ends, tokens, comments, Lexes}
use Rattle.go_tokens.specs.Lexing as lexing
use Rattle.go_tokens.specs.Pieces.{begun_by, is_piece, is_good}
use Rattle.go_tokens.specs.Replacing.{read, semicolon, items, is_blank, Range, pieces_of, begins_with_token}
use Rattle.go_tokens.specs.Spellings.{same_text, ends_statement_kind}
use Rattle.go_tokens.specs.Tokens.{AreOrdered, span_of, kinds}
use Rattle.go_tokens.proofs.Public.{OldRange, old_range, both, cut_first, cut_front, cut_second, items_range, join_two, line_ends_append, line_ends_old, old_blanks, piece_some, read_all, same_text-true, tokens_ordered, true_false, width-append, width-nil}
use Rattle.go_grammar.specs.Grammar.{result_words}
use Rattle.go_grammar.specs.Trees.{Trees, parts}
use Rattle.go_grammar.specs.Words.{is_word, is_among}
use Rattle.go_grammar.proofs.Public.{and_both}
use Rattle.go_rewriting.specs.Endings.{Ending}
use Rattle.go_rewriting.specs.Excerpts as excerpts
use Rattle.go_rewriting.specs.Lists.{Elsewhere, in_block, run_at}
use Rattle.go_rewriting.specs.Places.{carries, Ascending, changed, moved_by, ranges, range}
use Rattle.go_rewriting.specs.Places as places
use Rattle.go_rewriting.specs.Replacing.{moved, Run}
use Rattle.go_rewriting.specs.Rewriting.{own, IsRange}
use Rattle.extract_files.specs.Holes.{Hole, whole_text, named_text, named, named_tree, Template, IsTemplate, TemplatesStand}
use Rattle.extract_files.proofs.Filled.{kind_in, kinds_in, kinds_append, length-map, cancel, Begins, Ends, EndsWith, TextHoles, Filling, filling}
use Rattle.extract_files.proofs.Moves.{moved_start, moved_add, moved_end, narrow}
use Rattle.extract_files.proofs.Named.{Known, in_blocks, text_holes, named_run}
use Rattle.extract_files.proofs.Numbers.{get_right, spans_of, among_get, own_range, token_behind, token_start, token_end}
use Rattle.extract_files.proofs.Ranges.{numbered}

-- ---- blanks

blank_text : (ps : List (List ℕ)) → list_all is_blank ps ≡ true → list_all is_blank_character (join ps) ≡ true
blank_text [] h = refl
blank_text (p ∷ ps) h =
    let b = both (is_blank p) (list_all is_blank ps) h in
    one (same_text (32 ∷ []) p) (same_text (9 ∷ []) p) refl refl b.0 (blank_text ps b.1)
  where
    one : (s t : Bool) → same_text (32 ∷ []) p ≡ s → same_text (9 ∷ []) p ≡ t → (s || (t || false)) ≡ true → list_all is_blank_character (join ps) ≡ true → list_all is_blank_character (p ++ join ps) ≡ true
    one true t e f h k = subst (λ p. list_all is_blank_character (p ++ join ps) ≡ true) (same_text-true (32 ∷ []) p e) k
    one false true e f h k = subst (λ p. list_all is_blank_character (p ++ join ps) ≡ true) (same_text-true (9 ∷ []) p f) k
    one false false e f h k = cc

blank_no : is_token (32 ∷ []) ≡ false
unfolding begun_by is_white
blank_no = refl

tab_no : is_token (9 ∷ []) ≡ false
unfolding begun_by is_white
tab_no = refl

no_token : (p : List ℕ) → is_blank p ≡ true → is_token p ≡ false
no_token p h = one (same_text (32 ∷ []) p) (same_text (9 ∷ []) p) refl refl h
  where
    one : (s t : Bool) → same_text (32 ∷ []) p ≡ s → same_text (9 ∷ []) p ≡ t → (s || (t || false)) ≡ true → is_token p ≡ false
    one true t e f h = subst (λ p. is_token p ≡ false) (same_text-true (32 ∷ []) p e) blank_no
    one false true e f h = subst (λ p. is_token p ≡ false) (same_text-true (9 ∷ []) p f) tab_no
    one false false e f h = cc

-- what stands between blanks and a token
record Middle (bs us : List (List ℕ)) : Type 0 where
  others : List (List ℕ)
  is : us ≡ bs ++ others

middle : (bs : List (List ℕ)) (x : List ℕ) (xs us : List (List ℕ)) (l : List ℕ) (es : List (List ℕ)) → bs ++ x ∷ xs ≡ us ++ l ∷ es → list_all is_blank bs ≡ true → is_token l ≡ true → Middle bs us
middle [] x xs us l es e h t = record { others = us; is = refl }
middle (b ∷ bs) x xs [] l es e h t =
    let same : b ≡ l = cc in
    absurd (true_false (is_token l) t (subst (λ p. is_token p ≡ false) same (no_token b (both (is_blank b) (list_all is_blank bs) h).0)))
middle (b ∷ bs) x xs (u ∷ us) l es e h t =
    let same : b ≡ u = cc in
    let tails : bs ++ x ∷ xs ≡ us ++ l ∷ es = cc in
    let m = middle bs x xs us l es tails (both (is_blank b) (list_all is_blank bs) h).1 t in
    record { others = m.others; is = ap (λ l. u ∷ l) m.is ∙ ap (λ n. n ∷ (bs ++ m.others)) (sym same) }

at_last : (xs : List (List ℕ)) (l : List ℕ) → EndsWith l (xs ++ l ∷ [])
at_last [] l = refl
at_last (x ∷ []) l = refl
at_last (x ∷ y ∷ xs) l = at_last (y ∷ xs) l

-- ---- kinds

kinds_read : (text : List ℕ) (ts : List Token) → map kind_in (map (read text) ts) ≡ kinds ts
kinds_read text [] = refl
kinds_read text (t ∷ ts) = ap (λ l. t.kind ∷ l) (kinds_read text ts)

kinds_tokens : (file : ℕ) (ps : List (List ℕ)) (e : Bool) → kinds (tokens file 0 ps e) ≡ kinds_in ps e
kinds_tokens file ps e = sym (kinds_read (join ps) (tokens file 0 ps e)) ∙ ap (map kind_in) (read_all file (join ps) [] ps 0 e refl (sym width-nil))

range_kinds : (r : Range) (e : Bool) → is_token r.last ≡ true → list_all is_blank r.blanks ≡ true → ends_statement r.last ≡ true → kinds_in (pieces_of r) e ≡ kinds_in (pieces_of r) false ++ map kind_in (semicolon (true && e))
range_kinds r e t b s = ap (map kind_in) (items_range r e t b ∙ ap (λ c. items (pieces_of r) false ++ semicolon (c && e)) s) ∙ map-both (items (pieces_of r) false) (semicolon (true && e))
  where
    map-both : (xs ys : _) → map kind_in (xs ++ ys) ≡ map kind_in xs ++ map kind_in ys
    map-both [] ys = refl
    map-both (x ∷ xs) ys = ap (λ l. x.kind ∷ l) (map-both xs ys)

whole_append : (hs : List Hole) (rest behind : List ℕ) → whole_text hs rest ++ behind ≡ whole_text hs (rest ++ behind)
whole_append [] rest behind = refl
whole_append (h ∷ hs) rest behind = append_assoc h.kept (h.old ++ whole_text hs rest) behind ∙ ap (λ l. h.kept ++ l) (append_assoc h.old (whole_text hs rest) behind ∙ ap (λ l. h.old ++ l) (whole_append hs rest behind))

-- ---- the text

-- the text with the names, and where its tokens stand among those of the whole text
pub record Text (file : ℕ) (hs : List Hole) (rest : List ℕ) (ks : List TokenKind) (from upto : ℕ) : Type 0 where
  pub stands : Stands file (named_text hs rest)
  pub ka : List TokenKind
  pub kn : List TokenKind
  pub zs : List TokenKind
  pub own_kinds : kinds (own stands.tokens) ≡ kn
  pub closes : ends_statement_kind stands.spans.last.kind ≡ true
  pub all : changed (named hs) ks ≡ ka ++ (kn ++ zs)
  pub from_is : from ≡ length ka
  pub ascend : Ascending 0 (ranges (named hs)) (length ks)
  pub start : moved_by (named hs) from ≡ from
  pub finish : moved_by (named hs) upto ≡ from + length kn

module _ (file : ℕ) (text before inner behind : List ℕ) (whole : List (List ℕ)) (cut : Cut whole []) (good : list_all is_good whole ≡ true) (is : join whole ≡ text) (split : text ≡ before ++ (inner ++ behind)) (hs : List Hole) (rest : List ℕ) (inner_is : inner ≡ whole_text hs rest)
    (from upto : ℕ) (range : IsRange (tokens file 0 whole true) from upto (0 + width before) (0 + width before + width inner)) (closes : ends_statement_kind range.last.kind ≡ true) (holes : TextHoles (tokens file 0 whole true) (width before) hs) where
  ordered : AreOrdered 0 (map span_of (tokens file 0 whole true)) (0 + width (join whole))
  ordered = tokens_ordered file 0 whole true

  abbrev spans : Spans (tokens file 0 whole true) (0 + width before) (0 + width before + width inner)
  spans = spans_of (0 + width (join whole)) (tokens file 0 whole true) from upto (0 + width before) (0 + width before + width inner) ordered range

  r : OldRange whole before inner behind range.last
  r = old_range file whole [] whole before inner behind 0 cut refl (is ∙ split) (sym width-nil) spans

  abbrev pa : List (List ℕ)
  pa = r.first_pieces

  abbrev pb : List (List ℕ)
  pb = pieces_of r.range

  abbrev pc : List (List ℕ)
  pc = r.rest_pieces

  window_ends : ends_statement r.range.last ≡ true
  window_ends = sym r.last_is ∙ closes

  texts : join (pb ++ pc) ≡ whole_text hs (rest ++ behind)
  texts = join_two pb pc ∙ ap (λ l. l ++ join pc) r.old_is ∙ ap (λ l. inner ++ l) r.rest_is ∙ ap (λ l. l ++ behind) inner_is ∙ whole_append hs rest behind

  f : Filling whole pc rest pa (pb ++ pc) hs
  f = filling file whole cut good pc rest behind r.rest_is (pa ++ pb) (r.is ∙ sym (append_assoc pa pb pc)) hs pa (pb ++ pc) (width before) r.is texts (sym (ap width r.kept_is)) holes

  old_is : f.old ≡ pb
  old_is = cancel f.old pb pc (sym f.is)

  begins : Begins f.new
  begins = f.begins (ap begins_with_token old_is ∙ r.is_old.begins)

  cut_behind : Cut (pb ++ pc) []
  cut_behind = cut_second pa (pb ++ pc) [] (subst (λ x. Cut x []) r.is cut)

  last_piece : is_piece r.range.last ≡ true
  last_piece = (cut_second r.range.before (r.range.last ∷ r.range.blanks) _ (cut_first pb pc [] cut_behind)).0

  ends : Ends f.new
  ends =
      let tight : pb ≡ r.range.before ++ (r.range.last ∷ []) = ap (λ x. r.range.before ++ (r.range.last ∷ x)) r.is_old.blanks in
      f.ends r.range.last (subst (EndsWith r.range.last) (sym (old_is ∙ tight)) (at_last r.range.before r.range.last)) last_piece r.is_old.ends window_ends

  new_cut : Cut f.new []
  new_cut = cut_front f.new [] (join pc ++ []) (cut_first f.new pc [] (f.cut [] cut_behind refl))

  lexes : Lexes file (named_text hs rest) (tokens file 0 f.new true) (comments file 0 f.new)
  lexes = record { pieces = f.new; whole = f.joined; cut = new_cut; good = f.good; spelled = refl; noted = refl }

  m : Middle begins.blanks ends.range.before
  m = middle begins.blanks begins.first begins.others ends.range.before ends.range.last ends.range.blanks (sym begins.is ∙ ends.is) begins.blank ends.token

  abbrev inside : List ℕ
  inside = join m.others ++ ends.range.last

  laid : named_text hs rest ≡ join begins.blanks ++ ((join m.others ++ ends.range.last) ++ join ends.range.blanks)
  laid =
      sym f.joined ∙ ap join ends.is ∙ join_two ends.range.before (ends.range.last ∷ ends.range.blanks)
      ∙ ap (λ l. l ++ (ends.range.last ++ join ends.range.blanks)) (ap join m.is ∙ join_two begins.blanks m.others)
      ∙ append_assoc (join begins.blanks) (join m.others) (ends.range.last ++ join ends.range.blanks)
      ∙ ap (λ l. join begins.blanks ++ l) (sym (append_assoc (join m.others) ends.range.last (join ends.range.blanks)))

  first_piece : is_piece begins.first ≡ true
  first_piece = (cut_second begins.blanks (begins.first ∷ begins.others) [] (subst (λ x. Cut x []) begins.is new_cut)).0

  abbrev first_token : Token
  first_token = lexing.token file (token_kind begins.first) (width (join begins.blanks)) (width begins.first)

  abbrev last_token : Token
  last_token = lexing.token file (token_kind ends.range.last) (width (join ends.range.before)) (width ends.range.last)

  first_at : slice_get (tokens file 0 f.new true) (length (items begins.blanks false)) ≡ Some first_token
  first_at = ap (λ x. slice_get (tokens file 0 x true) (length (items begins.blanks false))) begins.is ∙ token_behind file begins.blanks begins.first begins.others true begins.token

  last_at : slice_get (tokens file 0 f.new true) (length (items ends.range.before false)) ≡ Some last_token
  last_at = ap (λ x. slice_get (tokens file 0 x true) (length (items ends.range.before false))) ends.is ∙ token_behind file ends.range.before ends.range.last ends.range.blanks true ends.token

  widths : width (join ends.range.before) + width ends.range.last ≡ width (join begins.blanks) + width (join m.others ++ ends.range.last)
  widths =
      let z : width (join ends.range.before) ≡ width (join begins.blanks ++ join m.others) = ap width (ap join m.is ∙ join_two begins.blanks m.others) in
      omega (arith, z, width-append (join begins.blanks) (join m.others), width-append (join m.others) ends.range.last)

  abbrev stands : Stands file (named_text hs rest)
  stands = record {
    before = join begins.blanks;
    inner = join m.others ++ ends.range.last;
    behind = join ends.range.blanks;
    whole = laid;
    blank_before = blank_text begins.blanks begins.blank;
    blank_behind = blank_text ends.range.blanks ends.blank;
    tokens = tokens file 0 f.new true;
    comments = comments file 0 f.new;
    lexes = lexes;
    spans = record {
      first = first_token;
      last = last_token;
      has_first = among_get (tokens file 0 f.new true) (length (items begins.blanks false)) first_token first_at;
      has_last = among_get (tokens file 0 f.new true) (length (items ends.range.before false)) last_token last_at;
      first_written = omega (arith, token_start file (width (join begins.blanks)) (width begins.first), token_end file (width (join begins.blanks)) (width begins.first), piece_some begins.first first_piece);
      last_written = omega (arith, token_start file (width (join ends.range.before)) (width ends.range.last), token_end file (width (join ends.range.before)) (width ends.range.last), piece_some ends.range.last ends.piece);
      begins = token_start file (width (join begins.blanks)) (width begins.first);
      ends = token_end file (width (join ends.range.before)) (width ends.range.last) ∙ widths;
      some = omega (arith, width-append (join m.others) ends.range.last, piece_some ends.range.last ends.piece);
    };
  }

  -- ---- its tokens among those of the text with the names

  abbrev ka : List TokenKind
  ka = kinds_in pa (line_ends (pb ++ pc) true)

  abbrev kn : List TokenKind
  kn = kinds_in f.new false

  abbrev zs : List TokenKind
  zs = map kind_in (semicolon (true && line_ends pc true)) ++ kinds_in pc true

  own_kinds : kinds (own (tokens file 0 f.new true)) ≡ kn
  own_kinds = subst (λ x. kinds (own (tokens file 0 x true)) ≡ kinds_in x false) (sym ends.is) (ap kinds (own_range file ends.range ends.piece ends.token ends.blank) ∙ kinds_tokens file (pieces_of ends.range) false)

  new_all : changed (named hs) (kinds_in whole true) ≡ ka ++ (kn ++ zs)
  new_all =
      let s : List TokenKind = map kind_in (semicolon (true && line_ends pc true)) in
      let here : kinds_in f.new (line_ends pc true) ≡ kn ++ map kind_in (semicolon (true && line_ends pc true)) =
      subst (λ x. kinds_in x (line_ends pc true) ≡ kinds_in x false ++ map kind_in (semicolon (true && line_ends pc true))) (sym ends.is) (range_kinds ends.range (line_ends pc true) ends.token ends.blank ends.ends) in
      f.kinds ∙ ap (λ l. ka ++ l) (kinds_append f.new pc true ∙ ap (λ l. l ++ kinds_in pc true) here ∙ append_assoc kn (map kind_in (semicolon (true && line_ends pc true))) (kinds_in pc true))

  old_all : kinds_in whole true ≡ ka ++ (kinds_in pb false ++ zs)
  old_all =
      ap (λ x. kinds_in x true) r.is ∙ kinds_append pa (pb ++ pc) true
      ∙ ap (λ l. ka ++ l) (kinds_append pb pc true ∙ ap (λ l. l ++ kinds_in pc true) (range_kinds r.range (line_ends pc true) r.is_old.ends (old_blanks r.range r.is_old) window_ends) ∙ append_assoc (kinds_in pb false) (map kind_in (semicolon (true && line_ends pc true))) (kinds_in pc true))

  numbers : (from ≡ length (items pa false)) × (upto ≡ length (items pa false) + length (items pb false))
  numbers =
      let a : width (join pa) ≡ width before = ap width r.kept_is in
      let b : width (join pb) ≡ width inner = ap width r.old_is in
      numbered file whole cut pa r.range pc r.is r.is_old from upto (0 + width before) (0 + width before + width inner) range (omega (arith, a)) (omega (arith, b))

  front_count : length ka ≡ length (items pa false)
  front_count =
      let line : line_ends (pb ++ pc) true ≡ false = line_ends_append pb pc true ∙ line_ends_old pb (line_ends pc true) r.is_old.begins in
      length-map kind_in (items pa (line_ends (pb ++ pc) true)) ∙ ap (λ b. length (items pa b)) line

  from_is : from ≡ length ka
  from_is = numbers.0 ∙ sym front_count

  upto_is : upto ≡ length ka + length (kinds_in pb false)
  upto_is = omega (arith, numbers.1, front_count, length-map kind_in (items pb false))

  ascend : Ascending 0 (ranges (named hs)) (length (kinds_in whole true))
  ascend = f.ascend 0 (omega arith)

  ascend_here : Ascending from (ranges (named hs)) upto
  ascend_here =
      let end : width before + width (whole_text hs rest) ≡ 0 + width before + width inner = let z : width inner ≡ width (whole_text hs rest) = ap width inner_is in omega (arith, z) in
      narrow (0 + width (join whole)) (tokens file 0 whole true) from upto (0 + width before) (0 + width before + width inner) ordered range hs (width before) from (length (kinds_in whole true)) rest holes end (omega (arith, range.order)) (f.ascend from (omega (arith, from_is)))

  start_stays : moved_by (named hs) from ≡ from
  start_stays = moved_start (named hs) from upto ascend_here

  end_moves : moved_by (named hs) upto ≡ from + length kn
  end_moves =
      let n : length (kinds_in whole true) ≡ length (ka ++ (kinds_in pb false ++ zs)) = ap length old_all in
      let long : length (kinds_in whole true) ≡ upto + length zs = omega (arith, n, upto_is, length-append ka (kinds_in pb false ++ zs), length-append (kinds_in pb false) zs) in
      let a : moved_by (named hs) (length (kinds_in whole true)) ≡ length (changed (named hs) (kinds_in whole true)) = moved_end (named hs) 0 (kinds_in whole true) ascend in
      let b : moved_by (named hs) (upto + length zs) ≡ moved_by (named hs) upto + length zs = moved_add (named hs) from upto (length zs) ascend_here in
      let c : moved_by (named hs) (length (kinds_in whole true)) ≡ moved_by (named hs) (upto + length zs) = ap (moved_by (named hs)) long in
      let d : length (changed (named hs) (kinds_in whole true)) ≡ length (ka ++ (kn ++ zs)) = ap length new_all in
      omega (arith, a, b, c, d, from_is, length-append ka (kn ++ zs), length-append kn zs)

  pub text_of : Text file hs rest (kinds_in whole true) from upto
  text_of = record {
    stands = stands;
    ka = ka;
    kn = kn;
    zs = zs;
    own_kinds = own_kinds;
    closes = ends.ends;
    all = new_all;
    from_is = from_is;
    ascend = ascend;
    start = start_stays;
    finish = end_moves;
  }

-- ---- a run elsewhere

get_left : {A : Type 0} (xs ys zs : List A) (n : ℕ) → n < length xs → slice_get (xs ++ ys) n ≡ slice_get (xs ++ zs) n
get_left [] ys zs n lt = absurd (omega (arith, lt))
get_left (x ∷ xs) ys zs zero lt = refl
get_left (x ∷ xs) ys zs (suc n) lt = get_left xs ys zs n (omega (arith, lt))

false_of : (b : Bool) → not b ≡ true → b ≡ true → ⊥
false_of true h e = cc
false_of false h e = cc

there : (ks ka kn zs next : List TokenKind) (from up : ℕ) → ks ≡ ka ++ (kn ++ zs) → from ≡ length ka → up ≡ from + length kn → excerpts.is_plain next ≡ true → Elsewhere ks (kn ++ next) from up 0
there ks ka kn zs next from up e a b plain =
    let parts = and_both (not (is_word (slice_get next 0) token.LeftBrace)) (not (is_among (slice_get next 0) result_words)) plain in
    let place : moved from 0 up ≡ length kn + 0 = omega (arith, b) in
    let end : slice_get (kn ++ next) (moved from 0 up) ≡ slice_get next 0 = ap (slice_get (kn ++ next)) place ∙ get_right kn next 0 in
    record {
      same = λ n lo hi.
          let j : moved from 0 n ≡ n - from = omega arith in
          let i : length ka + (n - from) ≡ n = omega (arith, a, lo) in
          ap (slice_get (kn ++ next)) j ∙ get_left kn next zs (n - from) (omega (arith, lo, hi, b)) ∙ sym (get_right ka (kn ++ zs) (n - from)) ∙ ap (slice_get (ka ++ (kn ++ zs))) i ∙ ap (λ l. slice_get l n) (sym e);
      edge = record {
        brace = λ h. absurd (false_of (is_word (slice_get next 0) token.LeftBrace) parts.0 (ap (λ w. is_word w token.LeftBrace) (sym end) ∙ h));
        result = λ n f closed h. absurd (false_of (is_among (slice_get next 0) result_words) parts.1 (ap (λ w. is_among w result_words) (sym end) ∙ h));
      };
    }

taken : (ks ka kn zs : List TokenKind) (from up : ℕ) → ks ≡ ka ++ (kn ++ zs) → from ≡ length ka → up ≡ from + length kn → kn ≡ take (up - from) (drop from ks)
taken ks ka kn zs from up e a b =
    let n : length kn ≡ up - from = omega (arith, b) in
    sym (ap (λ l. take (up - from) (drop from l)) e ∙ ap (take (up - from)) (drop_at ka (kn ++ zs) from (sym a)) ∙ take_at kn zs (up - from) n)

-- ---- encodings

and_true : (a b : Bool) → a ≡ true → b ≡ true → (a && b) ≡ true
and_true true b e f = f
and_true false b e f = cc

pub scalars_both : (xs ys : List ℕ) → all_scalars (xs ++ ys) ≡ true → (all_scalars xs ≡ true) × (all_scalars ys ≡ true)
scalars_both [] ys h = (refl, h)
scalars_both (x ∷ xs) ys h =
    let b = both _ (all_scalars (xs ++ ys)) h in
    let r = scalars_both xs ys b.1 in
    (and_true _ _ b.0 r.0, r.1)

pub scalars_join : (xs ys : List ℕ) → all_scalars xs ≡ true → all_scalars ys ≡ true → all_scalars (xs ++ ys) ≡ true
scalars_join [] ys h k = k
scalars_join (x ∷ xs) ys h k = let b = both _ (all_scalars xs) h in and_true _ _ b.0 (scalars_join xs ys b.1 k)

blank_scalar : all_scalars (32 ∷ []) ≡ true
blank_scalar = refl

named_scalars : (ts : List Token) (at : ℕ) (hs : List Hole) (rest : List ℕ) → TextHoles ts at hs → all_scalars (whole_text hs rest) ≡ true → all_scalars (named_text hs rest) ≡ true
named_scalars ts at [] rest t h = h
named_scalars ts at (x ∷ xs) rest t h =
    let a = scalars_both x.kept (x.old ++ whole_text xs rest) h in
    let b = scalars_both x.old (whole_text xs rest) a.1 in
    let more = named_scalars ts (at + width x.kept + width x.old) xs rest t.1 b.1 in
    scalars_join x.kept (32 ∷ (chars x.name ++ (32 ∷ named_text xs rest))) a.0
    (scalars_join (32 ∷ []) (chars x.name ++ (32 ∷ named_text xs rest)) blank_scalar (scalars_join (chars x.name) (32 ∷ named_text xs rest) t.0.name.scalars (scalars_join (32 ∷ []) (named_text xs rest) blank_scalar more)))

pub plain_both : (xs ys : List ℕ) → list_all is_plain (xs ++ ys) ≡ true → (list_all is_plain xs ≡ true) × (list_all is_plain ys ≡ true)
plain_both [] ys h = (refl, h)
plain_both (x ∷ xs) ys h =
    let b = both (is_plain x) (list_all is_plain (xs ++ ys)) h in
    let r = plain_both xs ys b.1 in
    (and_true (is_plain x) (list_all is_plain xs) b.0 r.0, r.1)

pub plain_join : (xs ys : List ℕ) → list_all is_plain xs ≡ true → list_all is_plain ys ≡ true → list_all is_plain (xs ++ ys) ≡ true
plain_join [] ys h k = k
plain_join (x ∷ xs) ys h k = let b = both (is_plain x) (list_all is_plain xs) h in and_true (is_plain x) (list_all is_plain (xs ++ ys)) b.0 (plain_join xs ys b.1 k)

named_plain : (ts : List Token) (at : ℕ) (hs : List Hole) (rest : List ℕ) → TextHoles ts at hs → list_all is_plain (whole_text hs rest) ≡ true → list_all is_plain (named_text hs rest) ≡ true
named_plain ts at [] rest t h = h
named_plain ts at (x ∷ xs) rest t h =
    let a = plain_both x.kept (x.old ++ whole_text xs rest) h in
    let b = plain_both x.old (whole_text xs rest) a.1 in
    let more = named_plain ts (at + width x.kept + width x.old) xs rest t.1 b.1 in
    plain_join x.kept (32 ∷ (chars x.name ++ (32 ∷ named_text xs rest))) a.0
    (plain_join (32 ∷ []) (chars x.name ++ (32 ∷ named_text xs rest)) refl (plain_join (chars x.name) (32 ∷ named_text xs rest) t.0.name.plain (plain_join (32 ∷ []) (named_text xs rest) refl more)))

-- ---- all of it

module _ (k : Known) (w : Template) (h : IsTemplate w) where
  abbrev ts : List Token
  ts = w.part.tokens

  abbrev before : List ℕ
  before = h.is_part.before

  spelled : w.part.tokens ≡ tokens w.part.file 0 h.is_part.lexes.pieces true
  spelled = h.is_part.lexes.spelled

  old_holes : TextHoles ts (width before) w.holes
  old_holes = text_holes k ts w.category w.tree h.run.derives (width before) w.holes h.holes

  range_there : IsRange (tokens w.part.file 0 h.is_part.lexes.pieces true) w.part.from w.part.upto (0 + width before) (0 + width before + width w.part.inner)
  range_there =
      let zero_is : width before ≡ 0 + width before = omega arith in
      subst (λ n. IsRange (tokens w.part.file 0 h.is_part.lexes.pieces true) w.part.from w.part.upto n (n + width w.part.inner)) zero_is
      (subst (λ xs. IsRange xs w.part.from w.part.upto (width before) (width before + width w.part.inner)) spelled h.is_part.range)

  old_run : Run (kinds ts) h.items (run_at w.front w.others (parts w.tree)) w.part.from w.part.upto
  old_run = subst (λ (x : places.Range). Run (kinds ts) h.items (run_at w.front w.others (parts w.tree)) x.from x.upto) h.place (k.items (kinds ts) w.category w.tree w.front w.others h.items h.run)

  ending : Ending (kinds ts) w.part.upto
  ending = k.run_ends (kinds ts) in_block (run_at w.front w.others (parts w.tree)) w.part.from w.part.upto refl (in_blocks k (kinds ts) h.items h.statements (run_at w.front w.others (parts w.tree)) w.part.from w.part.upto old_run)

  text : Text w.part.file w.holes w.rest (kinds ts) w.part.from w.part.upto
  text =
      let kinds_are : kinds ts ≡ kinds_in h.is_part.lexes.pieces true = ap kinds spelled ∙ kinds_tokens w.part.file h.is_part.lexes.pieces true in
      subst (λ ks. Text w.part.file w.holes w.rest ks w.part.from w.part.upto) (sym kinds_are)
      (text_of w.part.file w.part.text before w.part.inner h.is_part.behind h.is_part.lexes.pieces h.is_part.lexes.cut h.is_part.lexes.good h.is_part.lexes.whole h.is_part.whole w.holes w.rest h.inner w.part.from w.part.upto range_there
      (k.ranges (tokens w.part.file 0 h.is_part.lexes.pieces true) w.part.from w.part.upto (0 + width before) (0 + width before + width w.part.inner) range_there (subst (λ xs. Ending (kinds xs) w.part.upto) spelled ending))
      (subst (λ xs. TextHoles xs (width before) w.holes) spelled old_holes))

  abbrev new_tree : Trees
  new_tree = run_at w.front w.others (parts (named_tree w.holes w.tree))

  abbrev move : ℕ → ℕ
  move = moved_by (named w.holes)

  new_run : Run (changed (named w.holes) (kinds ts)) in_block new_tree w.part.from (move w.part.upto)
  new_run =
      let first = named_run k ts w.category w.tree h.run.derives (width before) w.holes w.front w.others h.items h.statements h.run h.holes text.ascend h.clear in
      let placed = subst (λ (x : places.Range). Run (changed (named w.holes) (kinds ts)) h.items new_tree (move x.from) (move x.upto)) h.place first in
      in_blocks k (changed (named w.holes) (kinds ts)) h.items h.statements new_tree w.part.from (move w.part.upto) (subst (λ n. Run (changed (named w.holes) (kinds ts)) h.items new_tree n (move w.part.upto)) text.start placed)

  words_are : text.kn ≡ take (move w.part.upto - w.part.from) (drop w.part.from (changed (named w.holes) (kinds ts)))
  words_are = taken (changed (named w.holes) (kinds ts)) text.ka text.kn text.zs w.part.from (move w.part.upto) text.all text.from_is text.finish

  run_alone : (next : List TokenKind) → excerpts.is_plain next ≡ true → Run (text.kn ++ next) in_block (carries (moved w.part.from 0) new_tree) 0 (length text.kn)
  run_alone next plain =
      let e = there (changed (named w.holes) (kinds ts)) text.ka text.kn text.zs next w.part.from (move w.part.upto) text.all text.from_is text.finish plain in
      let far : moved w.part.from 0 (move w.part.upto) ≡ length text.kn = omega (arith, text.finish) in
      subst (λ n. Run (text.kn ++ next) in_block (carries (moved w.part.from 0) new_tree) 0 n) far (k.elsewhere (changed (named w.holes) (kinds ts)) (text.kn ++ next) w.part.from (move w.part.upto) 0 e in_block new_tree refl new_run)

pub templates_stand : Known → TemplatesStand
templates_stand k w h =
    let t = text k w h in
    record {
      text = named_text w.holes w.rest;
      scalars = named_scalars w.part.tokens (width h.is_part.before) w.holes w.rest (old_holes k w h) (ap all_scalars (sym h.inner) ∙ h.scalars);
      plain = named_plain w.part.tokens (width h.is_part.before) w.holes w.rest (old_holes k w h) (ap (list_all is_plain) (sym h.inner) ∙ h.plain);
      encoded = refl;
      stands = t.stands;
      kinds_are = t.own_kinds ∙ words_are k w h;
      closes = t.closes;
      run = λ next plain. subst (λ ws. Run (ws ++ next) in_block (carries (moved w.part.from 0) (run_at w.front w.others (parts (named_tree w.holes w.tree)))) 0 (length ws)) (words_are k w h) (run_alone k w h next plain);
    }
