-- A file with calls at its windows is a rewriting of the file.
use Rattle.std.proofs.Common.{append_assoc, ◌&&◌, ◌≡◌, ℕ, suc, ◌+◌, ◌⊎◌, inl, inr, Bool, true, false, ◌==◌, ◌||◌, List, [], ◌∷◌, ◌++◌, length, Option, Some, None, refl, sym, ap, ◌∙◌, subst, arith, eqb-true}
use Rattle.std.specs.Prelude.{map, not, slice_get, if◌then◌else◌}
use Rattle.std.specs.Str.{all_scalars, chars, encode_utf8_all}
use Rattle.std.proofs.lemmas.Str.{chars-encodes}
use Rattle.go_tokens.specs.declared.token.Token.{Token}
use Rattle.go_tokens.specs.declared.token.TokenKind.{TokenKind}
use Rattle.go_tokens.specs.declared.token.TokenKind.TheVariants as token
use Rattle.go_tokens.specs.Editing.{Spans, old_text, new_text}
use Rattle.go_tokens.specs.Encoding.{IsText, are_allowed, is_plain}
use Rattle.go_tokens.specs.Characters.{is_letter}
use Rattle.go_tokens.specs.Lexing.{join, width, Cut, Lexes, tokens}
use Rattle.go_tokens.specs.Pieces.{is_good}
use Rattle.go_tokens.specs.Replacing.{are_apart, is_at_line_end, last_joins, pieces_of}
use Rattle.go_tokens.specs.Spellings.{ends_statement_kind}
use Rattle.go_tokens.specs.Tokens.{AreOrdered, kinds, span_of}
use Rattle.go_grammar.specs.declared.kind.Category.{Category}
use Rattle.go_grammar.specs.declared.kind.Category.TheVariants as category
use Rattle.go_grammar.specs.Categories.{place_of}
use Rattle.go_grammar.specs.Grammar.{rule, result_words, Derives}
use Rattle.go_grammar.specs.Trees.{Tree, node, kind_of, parts}
use Rattle.go_grammar.specs.Words.{is_word, is_among}
use Rattle.go_rewriting.specs.Endings.{Ending}
use Rattle.go_rewriting.specs.Lists.{IsRun, in_block, items_at, has_run, run_at}
use Rattle.go_rewriting.specs.Places.{range, Range}
use Rattle.go_rewriting.specs.Replacing.{Edge, Run}
use Rattle.go_rewriting.specs.Rewriting.{IsRange, Rewrite, words, TextFits, TextsFit, ChangeFits, TreeFits, TreesFit, agreeing, sites_alone, edits, behind}
use Rattle.go_rewriting.specs.Sites.{items, all_clear, local_range, run_range}
use Rattle.go_print_laws.specs.Calls.{CallsStand, call_lexemes, call_text, call_trees}
use Rattle.go_print_laws.specs.Standing.{EndsHere, StandsAsRun}
use Rattle.extract_files.specs.Enclosed.{opens, IsEnclosed, RunsAreEnclosed}
use Rattle.extract_files.specs.Files.{Window, file_text, call_chars, called_text, call_sites, IsWindow, AreWindows, StandsFor, AllStandFor, CalledFilesAreRewritten}
use Rattle.extract_files.proofs.Calls.{first_word, EndsIn, call_ends, text_ends, closed_apart}
use Rattle.extract_files.proofs.Before.{range_free}
use Rattle.extract_files.proofs.Letters.{call_begins, letter_plain, text_begins}
use Rattle.extract_files.proofs.Named.{Known, in_blocks}
use Rattle.extract_files.proofs.Numbers.{some_range, spans_of}
use Rattle.extract_files.proofs.Templates.{plain_both, plain_join, scalars_both, scalars_join}
use Rattle.go_tokens.proofs.Public.{both, join_two, old_range, tokens_ordered, width-append, width-nil}
use Rattle.std.specs.List.{list_all}

-- what is known besides
pub record Facts : Type 0 where
  pub known : Known
  pub calls : CallsStand
  pub enclosed : RunsAreEnclosed
  pub clear : (ts : List TokenKind) (c : Category) (t : Tree) (rs : List Rewrite) → Derives ts c t → all_clear t (sites_alone rs) ≡ true → agreeing rs t ≡ true

-- ---- words around a window

no_opening : (w : TokenKind) → opens w ≡ true → ends_statement_kind w ≡ true → ⊥
no_opening token.LeftBrace o e = cc
no_opening token.Colon o e = cc
no_opening token.Semicolon o e = cc
no_opening _ o e = cc

same_word : (v w : TokenKind) → Some v ≡ Some w → v ≡ w
same_word v w e = cc

-- the place in front of one
one_before : (a b n : ℕ) → suc a ≡ n → suc b ≡ n → a ≡ b
one_before a b n e f = omega (arith, e, f)

not_word : (o : Option TokenKind) → (o ≡ Some token.Var) ⊎ (o ≡ Some token.Identifier) → is_word o token.LeftBrace ≡ true → ⊥
not_word o (inl e) h = let k : is_word (Some token.Var) token.LeftBrace ≡ true = subst (λ w. is_word w token.LeftBrace ≡ true) e h in cc
not_word o (inr e) h = let k : is_word (Some token.Identifier) token.LeftBrace ≡ true = subst (λ w. is_word w token.LeftBrace ≡ true) e h in cc

no_result : (o : Option TokenKind) → (o ≡ Some token.Semicolon) ⊎ (o ≡ Some token.RightBrace) → is_among o result_words ≡ false
no_result o (inl e) = subst (λ w. is_among w result_words ≡ false) (sym e) refl
no_result o (inr e) = subst (λ w. is_among w result_words ≡ false) (sym e) refl

and_true : (a b : Bool) → a ≡ true → b ≡ true → (a && b) ≡ true
and_true true b e f = f
and_true false b e f = cc

or_true : (a b : Bool) → a ≡ true → (a || b) ≡ true
or_true true b e = refl
or_true false b e = cc

-- a row of one word, or of none
abbrev row_of : Option TokenKind → List TokenKind
row_of None = []
row_of (Some w) = w ∷ []

row_first : (o : Option TokenKind) → slice_get (row_of o) 0 ≡ o
row_first None = refl
row_first (Some w) = refl

-- ---- one window

module _ (k : Facts) (name : ℕ → List ℕ) (file : ℕ) (ts : List Token) (t : Tree) (h : Derives (kinds ts) category.File t) where
  module _ (at : ℕ) (x : Window) (y : IsWindow name ts t at x) where
    stood_derives : Derives (kinds ts) y.category y.stood
    stood_derives =
        let s = k.known.subtrees (kinds ts) category.File t y.stood x.path h y.at_path in
        let same : s.category ≡ y.category = one s.category y.category (sym s.asked ∙ y.asked) in
        subst (λ d. Derives (kinds ts) d y.stood) same s.derives
      where
        one : (c d : Category) → Some c ≡ Some d → c ≡ d
        one c d e = cc

    run : IsRun (kinds ts) y.category y.stood x.front x.others y.list
    run = record { derives = stood_derives; is_list = y.is_list; has = y.has }

    enclosed : IsEnclosed (kinds ts) x.from x.upto
    enclosed = subst (λ (r : Range). IsEnclosed (kinds ts) r.from r.upto) y.place (k.enclosed (kinds ts) y.category y.stood x.front x.others y.list y.statements run)

    old_run : Run (kinds ts) y.list (run_at x.front x.others (parts y.stood)) x.from x.upto
    old_run = subst (λ (r : Range). Run (kinds ts) y.list (run_at x.front x.others (parts y.stood)) r.from r.upto) y.place (k.known.items (kinds ts) y.category y.stood x.front x.others y.list run)

    ending : Ending (kinds ts) x.upto
    ending = k.known.run_ends (kinds ts) in_block (run_at x.front x.others (parts y.stood)) x.from x.upto refl (in_blocks k.known (kinds ts) y.list y.statements (run_at x.front x.others (parts y.stood)) x.from x.upto old_run)

    call : StandsAsRun file (call_text name x.call) (call_lexemes name x.call []) y.list (call_trees 0 x.call)
    call = k.calls file y.list name x.call y.statements y.written

    -- the call's text is that of its characters
    text_is : call.alone.text ≡ call_chars name x
    text_is = sym (chars-encodes call.alone.text call.alone.is_text.scalars) ∙ ap chars call.alone.is_text.encoded

    ends_closed : EndsIn 41 call.alone.text
    ends_closed = text_ends call.alone.text (subst (EndsIn 41) (sym call.alone.is_text.encoded) (call_ends name x.call))

    -- no window begins where this one ends
    not_adjoining : (at' : ℕ) (z : Window) → IsEnclosed (kinds ts) z.from z.upto → z.from ≡ x.upto → ⊥
    not_adjoining at' z e s =
        let place : e.place ≡ ending.place = one_before e.place ending.place x.upto (e.next ∙ s) ending.next in
        let word : e.word ≡ ending.word = same_word e.word ending.word (sym e.is ∙ ap (slice_get (kinds ts)) place ∙ ending.is) in
        no_opening e.word e.opens (ap ends_statement_kind word ∙ ending.ends)

    -- a call joins nothing in front that joins no letter
    apart_front : (more : List ℕ) → ((y : ℕ) → is_letter y ≡ true → last_joins x.kept y ≡ false) → are_apart x.kept (call.alone.text ++ more) ≡ true
    apart_front more free =
        let b = call_begins name x.call y.written in
        let c = text_begins call.alone.text (call_text name x.call) call.alone.is_text.encoded b in
        subst (λ l. are_apart x.kept (l ++ more) ≡ true) (sym c.1) (ap not (free b.letter b.good))

    -- with ranges behind it
    module _ (rs : List Rewrite) (rest tail : List ℕ) (behind_is : (behind (kinds ts) rs x.upto ≡ Some token.Semicolon) ⊎ (behind (kinds ts) rs x.upto ≡ Some token.RightBrace)) where
      abbrev rewrite : Rewrite
      rewrite = record {
        kept = x.kept;
        old = x.old;
        from = x.from;
        upto = x.upto;
        new = call.alone.text;
        alone = call.alone.stands.tokens;
        path = x.path;
        change = items x.front x.others (call_trees 0 x.call);
        next = row_of (behind (kinds ts) rs x.upto);
      }

      stands_for : StandsFor name rewrite x
      stands_for = record { kept = refl; old = refl; from = refl; upto = refl; new = text_is; bytes = call.alone.is_text.encoded; words_are = call.alone.kinds_are }

      text_fits : ((y : ℕ) → is_letter y ≡ true → last_joins x.kept y ≡ false) → TextFits file ts at rewrite (old_text (edits rs rest)) (new_text (edits rs rest) tail)
      text_fits free = record {
        range = y.at_tokens;
        stands = call.alone.stands;
        tokens = refl;
        apart_before = apart_front (new_text (edits rs rest) tail) free;
        apart_behind = or_true (are_apart call.alone.text (new_text (edits rs rest) tail)) _ (closed_apart call.alone.text ends_closed (new_text (edits rs rest) tail));
        line = λ e. k.known.ranges ts x.from x.upto _ _ y.at_tokens ending ∙ sym call.alone.closes;
      }

      word_is : (slice_get (words rewrite) 0 ≡ Some token.Var) ⊎ (slice_get (words rewrite) 0 ≡ Some token.Identifier)
      word_is = subst (λ ws. (slice_get ws 0 ≡ Some token.Var) ⊎ (slice_get ws 0 ≡ Some token.Identifier)) (sym call.alone.kinds_are) (first_word name x.call)

      ends_here : EndsHere (row_of (behind (kinds ts) rs x.upto))
      ends_here = ap (λ w. is_among w result_words) (row_first (behind (kinds ts) rs x.upto)) ∙ no_result (behind (kinds ts) rs x.upto) behind_is

      change_fits : (s : Tree) → items_at x.front (rule (place_of y.category) (kind_of s)) ≡ Some y.list → has_run x.front x.others (parts s) ≡ true → ChangeFits y.category s (words rewrite) (row_of (behind (kinds ts) rs x.upto)) (items x.front x.others (call_trees 0 x.call))
      change_fits (node kd a b ps) e r = record {
        list = y.list;
        is_list = e;
        has = r;
        run = subst (λ ws. Run (ws ++ row_of (behind (kinds ts) rs x.upto)) y.list (call_trees 0 x.call) 0 (length ws)) (sym call.alone.kinds_are) (call.run (row_of (behind (kinds ts) rs x.upto)) ends_here);
      }

      place_of_change : (s : Tree) → run_range x.front x.others (parts s) ≡ range x.from x.upto → local_range s (items x.front x.others (call_trees 0 x.call)) ≡ range x.from x.upto
      place_of_change (node kd a b ps) e = e

      edge_is : Edge (kinds ts) (words rewrite) x.from 0
      edge_is = record {
        brace = λ e. absurd (not_word (slice_get (words rewrite) 0) word_is e);
        result = λ n next closed e.
            let place : n ≡ enclosed.place = one_before n enclosed.place x.from next enclosed.next in
            let word : token.RightParenthesis ≡ enclosed.word = same_word token.RightParenthesis enclosed.word (sym closed ∙ ap (slice_get (kinds ts)) place ∙ enclosed.is) in
            absurd (let o : opens token.RightParenthesis ≡ true = ap opens word ∙ enclosed.opens in cc);
      }

      tree_fits : TreeFits category.File (kinds ts) t rewrite rs
      tree_fits = record {
        stood = y.stood;
        category = y.category;
        at_path = y.at_path;
        asked = y.asked;
        place = place_of_change y.stood y.place;
        fits = change_fits y.stood y.is_list y.has;
        behind_is = row_first (behind (kinds ts) rs x.upto);
        edge = edge_is;
      }

  -- ---- all of them

  -- in front of each window nothing joins a letter
  abbrev AllApart : List Window → Type 0
  AllApart [] = Unit {0}
  AllApart (x ∷ xs) = ((y : ℕ) → is_letter y ≡ true → last_joins x.kept y ≡ false) × AllApart xs

  module _ (whole : List (List ℕ)) (cut : Cut whole []) (good : list_all is_good whole ≡ true) (spelled : ts ≡ tokens file 0 whole true) where
    ordered : AreOrdered 0 (map span_of (tokens file 0 whole true)) (0 + width (join whole))
    ordered = tokens_ordered file 0 whole true

    all_apart : (xs : List Window) (rest : List ℕ) (front ps : List (List ℕ)) (at : ℕ) → whole ≡ front ++ ps → join ps ≡ file_text xs rest → at ≡ width (join front) → AreWindows name ts t at xs → AllApart xs
    all_apart [] rest front ps at w j a r = tt
    all_apart (x ∷ xs) rest front ps at w j a y =
        let range : IsRange (tokens file 0 whole true) x.from x.upto (at + width x.kept) (at + width x.kept + width x.old) = subst (λ us. IsRange us x.from x.upto (at + width x.kept) (at + width x.kept + width x.old)) spelled y.0.at_tokens in
        let spans : Spans (tokens file 0 whole true) (at + width x.kept) (at + width x.kept + width x.old) = spans_of (0 + width (join whole)) (tokens file 0 whole true) x.from x.upto (at + width x.kept) (at + width x.kept + width x.old) ordered range in
        let r = old_range file whole front ps x.kept x.old (file_text xs rest) at cut w j a spans in
        let w' : whole ≡ (front ++ (r.first_pieces ++ pieces_of r.range)) ++ r.rest_pieces = w ∙ ap (λ x. front ++ x) (r.is ∙ sym (append_assoc r.first_pieces (pieces_of r.range) r.rest_pieces)) ∙ sym (append_assoc front (r.first_pieces ++ pieces_of r.range) r.rest_pieces) in
        let len : width (join (front ++ (r.first_pieces ++ pieces_of r.range))) ≡ width (join front ++ (x.kept ++ x.old)) = ap width (join_two front (r.first_pieces ++ pieces_of r.range) ∙ ap (λ l. join front ++ l) (join_two r.first_pieces (pieces_of r.range) ∙ ap (λ l. l ++ join (pieces_of r.range)) r.kept_is ∙ ap (λ l. x.kept ++ l) r.old_is)) in
        let place : at + width x.kept + width x.old ≡ width (join (front ++ (r.first_pieces ++ pieces_of r.range))) = omega (arith, len, a, width-append (join front) (x.kept ++ x.old), width-append x.kept x.old) in
        let n : width (join (front ++ r.first_pieces)) ≡ width (join front ++ x.kept) = ap width (join_two front r.first_pieces ∙ ap (λ l. join front ++ l) r.kept_is) in
        let start : at + width x.kept ≡ width (join (front ++ r.first_pieces)) = omega (arith, a, n, width-append (join front) x.kept) in
        let long : width (join (pieces_of r.range)) ≡ width x.old = ap width r.old_is in
        let end : at + width x.kept + width x.old ≡ at + width x.kept + width (join (pieces_of r.range)) = omega (arith, long) in
        let e : IsEnclosed (kinds (tokens file 0 whole true)) x.from x.upto = subst (λ us. IsEnclosed (kinds us) x.from x.upto) spelled (enclosed at x y.0) in (
          (λ z l. range_free file whole cut good z l front ps x.kept x.old (file_text xs rest) spans.last w r x.from x.upto (at + width x.kept) (at + width x.kept + width x.old) range start end e),
          all_apart xs rest (front ++ (r.first_pieces ++ pieces_of r.range)) r.rest_pieces (at + width x.kept + width x.old) w' r.rest_is place y.1,
        )

  record Made (at : ℕ) (xs : List Window) (rest tail : List ℕ) : Type 0 where
    ranges : List Rewrite
    calls : AllStandFor name ranges xs
    sites : sites_alone ranges ≡ call_sites xs
    old : old_text (edits ranges rest) ≡ file_text xs rest
    new : new_text (edits ranges rest) tail ≡ called_text name xs (rest ++ tail)
    texts : TextsFit file ts at ranges rest tail
    trees : TreesFit category.File (kinds ts) t ranges

  -- what stands behind a window, after those behind it are replaced
  word_behind : (at at' : ℕ) (x : Window) (y : IsWindow name ts t at x) (xs : List Window) → AreWindows name ts t at' xs → (rs : List Rewrite) → AllStandFor name rs xs → (behind (kinds ts) rs x.upto ≡ Some token.Semicolon) ⊎ (behind (kinds ts) rs x.upto ≡ Some token.RightBrace)
  word_behind at at' x y [] a [] s = (enclosed at x y).behind
  word_behind at at' x y [] a (r ∷ rs) s = absurd s
  word_behind at at' x y (z ∷ zs) a [] s = absurd s
  word_behind at at' x y (z ∷ zs) a (r ∷ rs) s = by (x.upto == r.from) refl
    where
      by : (b : Bool) → (x.upto == r.from) ≡ b → ((if b then slice_get (words r) 0 else slice_get (kinds ts) x.upto) ≡ Some token.Semicolon) ⊎ ((if b then slice_get (words r) 0 else slice_get (kinds ts) x.upto) ≡ Some token.RightBrace)
      by true e = absurd (not_adjoining at x y at' z (enclosed at' z a.0) (sym s.0.from ∙ sym (eqb-true x.upto r.from e)))
      by false e = (enclosed at x y).behind

  -- ---- the characters

  call_scalars : (at : ℕ) (x : Window) (y : IsWindow name ts t at x) → all_scalars (call_chars name x) ≡ true
  call_scalars at x y = ap all_scalars (sym (text_is at x y)) ∙ (call at x y).alone.is_text.scalars

  call_plain : (at : ℕ) (x : Window) (y : IsWindow name ts t at x) → list_all is_plain (call_chars name x) ≡ true
  call_plain at x y =
      let b = call_begins name x.call y.written in
      let c = text_begins (call at x y).alone.text (call_text name x.call) (call at x y).alone.is_text.encoded b in
      let allowed : are_allowed (b.letter ∷ c.0) ≡ true = ap are_allowed (sym c.1) ∙ (call at x y).alone.is_text.allowed in
      ap (list_all is_plain) (sym (text_is at x y) ∙ c.1) ∙ plain_join (b.letter ∷ []) c.0 (plain_join (b.letter ∷ []) [] (one_plain b.letter (letter_plain b.letter b.good)) refl) (both (not (b.letter == 0)) (list_all is_plain c.0) allowed).1
    where
      one_plain : (n : ℕ) → is_plain n ≡ true → list_all is_plain (n ∷ []) ≡ true
      one_plain n e = ap (λ b. b && true) e

  called_scalars : (at : ℕ) (xs : List Window) (rest tail : List ℕ) → AreWindows name ts t at xs → all_scalars (file_text xs rest) ≡ true → all_scalars tail ≡ true → all_scalars (called_text name xs (rest ++ tail)) ≡ true
  called_scalars at [] rest tail a h g = scalars_join rest tail h g
  called_scalars at (x ∷ xs) rest tail a h g =
      let p = scalars_both x.kept (x.old ++ file_text xs rest) h in
      let q = scalars_both x.old (file_text xs rest) p.1 in
      scalars_join x.kept (call_chars name x ++ called_text name xs (rest ++ tail)) p.0 (scalars_join (call_chars name x) (called_text name xs (rest ++ tail)) (call_scalars at x a.0) (called_scalars (at + width x.kept + width x.old) xs rest tail a.1 q.1 g))

  called_plain : (at : ℕ) (xs : List Window) (rest tail : List ℕ) → AreWindows name ts t at xs → list_all is_plain (file_text xs rest) ≡ true → list_all is_plain tail ≡ true → list_all is_plain (called_text name xs (rest ++ tail)) ≡ true
  called_plain at [] rest tail a h g = plain_join rest tail h g
  called_plain at (x ∷ xs) rest tail a h g =
      let p = plain_both x.kept (x.old ++ file_text xs rest) h in
      let q = plain_both x.old (file_text xs rest) p.1 in
      plain_join x.kept (call_chars name x ++ called_text name xs (rest ++ tail)) p.0 (plain_join (call_chars name x) (called_text name xs (rest ++ tail)) (call_plain at x a.0) (called_plain (at + width x.kept + width x.old) xs rest tail a.1 q.1 g))

  -- a range has characters
  some_old : (n : ℕ) → AreOrdered 0 (map span_of ts) n → (at : ℕ) (x : Window) → IsWindow name ts t at x → x.old ≡ [] → ⊥
  some_old n o at x y e =
      let s = some_range n ts x.from x.upto (at + width x.kept) (at + width x.kept + width x.old) o y.at_tokens in
      let z : width x.old ≡ width [] = ap width e in
      omega (arith, s, z, width-nil)

  called_allowed : (n : ℕ) → AreOrdered 0 (map span_of ts) n → (at : ℕ) (xs : List Window) (rest tail : List ℕ) → AreWindows name ts t at xs → are_allowed (file_text xs rest) ≡ true → are_allowed tail ≡ true → list_all is_plain tail ≡ true → are_allowed (called_text name xs (rest ++ tail)) ≡ true
  called_allowed n o at [] [] tail a h g p = g
  called_allowed n o at [] (c ∷ cs) tail a h g p = let b = both (not (c == 0)) (list_all is_plain cs) h in and_true (not (c == 0)) (list_all is_plain (cs ++ tail)) b.0 (plain_join cs tail b.1 p)
  called_allowed n o at (x ∷ xs) rest tail a h g p = by x.kept x.old h (some_old n o at x a.0) (λ f. plain_join (call_chars name x) (called_text name xs (rest ++ tail)) (call_plain at x a.0) (called_plain (at + width x.kept + width x.old) xs rest tail a.1 f p))
    where
      plain_allowed : (l : List ℕ) → list_all is_plain l ≡ true → are_allowed l ≡ true
      plain_allowed [] e = refl
      plain_allowed (y ∷ ys) e = let b = both (is_plain y) (list_all is_plain ys) e in and_true (not (y == 0)) (list_all is_plain ys) (both (not (y == 0)) (not (y == 65279)) b.0).0 b.1

      by : (kept old : List ℕ) → are_allowed (kept ++ (old ++ file_text xs rest)) ≡ true → (old ≡ [] → ⊥) → (list_all is_plain (file_text xs rest) ≡ true → list_all is_plain (call_chars name x ++ called_text name xs (rest ++ tail)) ≡ true) → are_allowed (kept ++ (call_chars name x ++ called_text name xs (rest ++ tail))) ≡ true
      by [] [] h s f = absurd (s refl)
      by [] (c ∷ cs) h s f = plain_allowed (call_chars name x ++ called_text name xs (rest ++ tail)) (f (plain_both cs (file_text xs rest) (both (not (c == 0)) (list_all is_plain (cs ++ file_text xs rest)) h).1).1)
      by (c ∷ cs) old h s f =
          let b = both (not (c == 0)) (list_all is_plain (cs ++ (old ++ file_text xs rest))) h in
          let d = plain_both cs (old ++ file_text xs rest) b.1 in
          and_true (not (c == 0)) (list_all is_plain (cs ++ (call_chars name x ++ called_text name xs (rest ++ tail)))) b.0 (plain_join cs (call_chars name x ++ called_text name xs (rest ++ tail)) d.0 (f (plain_both old (file_text xs rest) d.1).1))

  made : (at : ℕ) (xs : List Window) (rest tail : List ℕ) → AreWindows name ts t at xs → AllApart xs → Made at xs rest tail
  made at [] rest tail a free = record { ranges = []; calls = tt; sites = refl; old = refl; new = refl; texts = tt; trees = tt }
  made at (x ∷ xs) rest tail a free =
      let m = made (at + width x.kept + width x.old) xs rest tail a.1 free.1 in
      let b = word_behind at (at + width x.kept + width x.old) x a.0 xs a.1 m.ranges m.calls in
      record {
        ranges = rewrite at x a.0 m.ranges rest tail b ∷ m.ranges;
        calls = (stands_for at x a.0 m.ranges rest tail b, m.calls);
        sites = ap (λ l. record { path = x.path; change = items x.front x.others (call_trees 0 x.call) } ∷ l) m.sites;
        old = ap (λ l. x.kept ++ (x.old ++ l)) m.old;
        new = ap (λ l. x.kept ++ ((call at x a.0).alone.text ++ l)) m.new ∙ ap (λ l. x.kept ++ (l ++ called_text name xs (rest ++ tail))) (text_is at x a.0);
        texts = (text_fits at x a.0 m.ranges rest tail b free.0, m.texts);
        trees = (tree_fits at x a.0 m.ranges rest tail b, m.trees);
      }

-- what is appended begins with a newline
pub tail_plain : (tail : List ℕ) → is_at_line_end tail ≡ true → are_allowed tail ≡ true → list_all is_plain tail ≡ true
tail_plain [] e h = refl
tail_plain (y ∷ ys) e h =
    let ten : is_plain y ≡ true = ap is_plain (eqb-true y 10 e) in
    and_true (is_plain y) (list_all is_plain ys) ten (both (not (y == 0)) (list_all is_plain ys) h).1

pub called_files : Facts → CalledFilesAreRewritten
called_files k w h =
    let l = h.lexes in
    let free = all_apart k w.name w.file w.tokens w.tree h.derives l.pieces l.cut l.good l.spelled w.windows w.rest [] l.pieces 0 refl l.whole (sym width-nil) h.windows in
    let m = made k w.name w.file w.tokens w.tree h.derives 0 w.windows w.rest w.tail h.windows free in
    let ordered : AreOrdered 0 (map span_of w.tokens) (0 + width (join l.pieces)) = subst (λ xs. AreOrdered 0 (map span_of xs) (0 + width (join l.pieces))) (sym l.spelled) (tokens_ordered w.file 0 l.pieces true) in
    let new_is : (before behind : List ℕ) → IsText (file_text w.windows w.rest) before → IsText w.tail behind → IsText (called_text w.name w.windows (w.rest ++ w.tail)) (encode_utf8_all (called_text w.name w.windows (w.rest ++ w.tail))) = λ before behind o n. record {
      scalars = called_scalars k w.name w.file w.tokens w.tree h.derives 0 w.windows w.rest w.tail h.windows o.scalars n.scalars;
      encoded = refl;
      allowed = called_allowed k w.name w.file w.tokens w.tree h.derives (0 + width (join l.pieces)) ordered 0 w.windows w.rest w.tail h.windows o.allowed n.allowed (tail_plain w.tail h.appended.begins n.allowed);
    } in
    let agrees : agreeing m.ranges w.tree ≡ true = k.clear (kinds w.tokens) category.File w.tree m.ranges h.derives (ap (all_clear w.tree) m.sites ∙ h.clear) in
    record {
      ranges = m.ranges;
      calls = m.calls;
      sites = m.sites;
      old = m.old;
      new = m.new;
      well_formed = record { lexes = subst (λ l. Lexes w.file l w.tokens w.comments) (sym m.old) h.lexes; derives = h.derives; texts = m.texts; trees = m.trees; agrees = agrees };
      is_text = new_is;
      as_file = λ before behind o n l f low. record {
        old_bytes = subst (λ l. IsText l before) (sym m.old) o;
        new_bytes = subst (λ l. IsText l (encode_utf8_all (called_text w.name w.windows (w.rest ++ w.tail)))) (sym m.new) (new_is before behind o n);
        lexing = l;
        tree = f;
        texts = m.texts;
        trees = m.trees;
        agrees = agrees;
        shallow = low;
        appended = h.appended;
        added_fits = h.added_fits;
      };
    }
