-- What stands in front of statements joins no letter.
use Rattle.std.proofs.Common.{◌≡◌, ℕ, zero, suc, ◌+◌, ◌⊎◌, inl, inr, Bool, true, false, not, ◌&&◌, ◌||◌, ◌==◌, cond, List, [], ◌∷◌, ◌++◌, length, append_assoc, append-nil, Some, is_some, refl, sym, ap, ◌∙◌, subst, arith, eqb-true}
use Rattle.std.specs.Prelude.{slice_get, unwrap_or}
use Rattle.std.specs.List.{list_all}
use Rattle.std.specs.Option.{option_and_then}
use Rattle.std.specs.Str.{encode_utf8_all}
use Rattle.std.proofs.lemmas.List.{length-append}
use Rattle.ucd_category.specs.GeneralCategory.{general_category}
use Rattle.ucd_category.specs.GeneralCategoryRows.{general_category_rows}
use Rattle.ucd_table.specs.Rows.{value_in}
use Rattle.go_tokens.specs.declared.piece.Mode.TheVariants.{Opened, InBlock, AfterStar, Whole}
use Rattle.go_tokens.specs.declared.piece.PieceKind.{PieceKind}
use Rattle.go_tokens.specs.declared.piece.PieceKind.TheVariants.{White, LineComment, BlockComment, Word, Number, HexNumber, Rune, Text, RawText, Operator, Stray}
use Rattle.go_tokens.specs.declared.token.Token.{Token}
use Rattle.go_tokens.specs.declared.token.TokenKind.{TokenKind}
use Rattle.go_tokens.specs.declared.token.TokenKind.TheVariants as token
use Rattle.go_tokens.specs.Characters.{is_white, is_letter, is_digit, is_in_word}
use Rattle.go_tokens.specs.Lexing.{join, width, IsLongest, Cut, is_token, token_kind, token_kind_as, tokens}
use Rattle.go_tokens.specs.Lexing as lexing
use Rattle.go_tokens.specs.Pieces.{after, begun_by, goes, has_shape, if_outside, kind, is_end, is_ended, is_piece, is_good, defect_by, unless_lexical}
use Rattle.go_tokens.specs.Replacing.{joins, last_joins, items, pieces_of, begins_with_token}
use Rattle.go_tokens.specs.Spellings.{same_text, keywords, listed, operator_kind, operators, outside_operators, punctuation, spelled}
use Rattle.go_tokens.specs.Tokens.{kinds}
use Rattle.go_tokens.proofs.Public.{OldRange, all_both, both, cut_second, items_append, join_two, line_ends_token, no_semicolon, same_text-true, token_items, true_false}
use Rattle.go_rewriting.specs.Rewriting.{IsRange}
use Rattle.extract_files.specs.Enclosed.{opens, IsEnclosed}
use Rattle.extract_files.proofs.Blanks.{line_stops}
use Rattle.extract_files.proofs.Filled.{no_newline}
use Rattle.extract_files.proofs.Letters.{letter_free}
use Rattle.extract_files.proofs.Numbers.{token_behind}
use Rattle.extract_files.proofs.Ranges.{numbered}

-- ---- last characters

abbrev last_of : List ℕ → ℕ
last_of [] = 0
last_of (x ∷ []) = x
last_of (x ∷ y ∷ ys) = last_of (y ∷ ys)

joins_last : (x : ℕ) (xs : List ℕ) (y : ℕ) → last_joins (x ∷ xs) y ≡ joins (last_of (x ∷ xs)) y
joins_last x [] y = refl
joins_last x (z ∷ zs) y = joins_last z zs y

last_behind : (a : List ℕ) (z : ℕ) (b : List ℕ) (y : ℕ) → last_joins (a ++ z ∷ b) y ≡ last_joins (z ∷ b) y
last_behind [] z b y = refl
last_behind (x ∷ []) z b y = refl
last_behind (x ∷ w ∷ a) z b y = last_behind (w ∷ a) z b y

-- ---- white space

other : {A : Type 0} (b : Bool) (u v k : A) → (u ≡ k → ⊥) → cond b u v ≡ k → (b ≡ false) × (v ≡ k)
other true u v k not_u h = absurd (not_u h)
other false u v k not_u h = (refl, h)

begun_white : (x : ℕ) (l k p h : Bool) → begun_by x l k p h ≡ White → is_white x ≡ true
unfolding begun_by
begun_white x l k p hex h0 =
    let h1 = (other l _ _ _ (λ e. cc) h0).1 in
    let h2 = (other k _ _ _ (λ e. cc) h1).1 in
    let g1 = (other hex _ _ _ (λ e. cc) h2).1 in
    let g2 = (other (x == 39) _ _ _ (λ e. cc) g1).1 in
    let h3 = (other (x == 34) _ _ _ (λ e. cc) g2).1 in
    let h4 = (other (x == 96) _ _ _ (λ e. cc) h3).1 in
    at_white (is_white x) (is_letter x) (is_digit x || p) (listed operators (x ∷ [])) h4
  where
    at_white : (a b c d : Bool) → cond a White (cond b Word (cond c Number (cond d Operator Stray))) ≡ White → a ≡ true
    at_white true b c d e = refl
    at_white false true c d e = cc
    at_white false false true d e = cc
    at_white false false false true e = cc
    at_white false false false false e = cc

either : (a b : Bool) → (a || b) ≡ true → (a ≡ true) ⊎ (b ≡ true)
either true b h = inl refl
either false b h = inr h

-- neither in a word nor a period
abbrev is_free : ℕ → Bool
is_free x = not (is_in_word x) && not (x == 46)

free_these : list_all is_free (32 ∷ 9 ∷ 10 ∷ 13 ∷ 65279 ∷ 47 ∷ []) ≡ true
unfolding is_in_word is_letter is_digit general_category value_in general_category_rows
free_these = refl

free_at : (n x : ℕ) → (x == n) ≡ true → is_free n ≡ true → is_free x ≡ true
free_at n x e f = subst (λ m. is_free m ≡ true) (sym (eqb-true x n e)) f

white_free : (x : ℕ) → is_white x ≡ true → is_free x ≡ true
unfolding is_white
white_free x h =
    let a = both (is_free 32) _ free_these in
    let b = both (is_free 9) _ a.1 in
    let c = both (is_free 10) _ b.1 in
    let d = both (is_free 13) _ c.1 in
    let e = both (is_free 65279) _ d.1 in
    by (x == 32) (x == 9) (x == 10) (x == 13) (x == 65279) refl refl refl refl refl a.0 b.0 c.0 d.0 e.0 h
  where
    by : (p q r s t : Bool) → (x == 32) ≡ p → (x == 9) ≡ q → (x == 10) ≡ r → (x == 13) ≡ s → (x == 65279) ≡ t → is_free 32 ≡ true → is_free 9 ≡ true → is_free 10 ≡ true → is_free 13 ≡ true → is_free 65279 ≡ true → (p || q || r || s || t) ≡ true → is_free x ≡ true
    by true q r s t e1 e2 e3 e4 e5 a b c d e h = free_at 32 x e1 a
    by false true r s t e1 e2 e3 e4 e5 a b c d e h = free_at 9 x e2 b
    by false false true s t e1 e2 e3 e4 e5 a b c d e h = free_at 10 x e3 c
    by false false false true t e1 e2 e3 e4 e5 a b c d e h = free_at 13 x e4 d
    by false false false false true e1 e2 e3 e4 e5 a b c d e h = free_at 65279 x e5 e
    by false false false false false e1 e2 e3 e4 e5 a b c d e h = cc

slash_free : is_free 47 ≡ true
unfolding is_in_word is_letter is_digit general_category value_in general_category_rows
slash_free = refl

not_false : (a : Bool) → not a ≡ true → a ≡ false
not_false true h = cc
not_false false h = refl

free_joins : (x y : ℕ) → is_free x ≡ true → is_letter y ≡ true → joins x y ≡ false
free_joins x y f l = let b = both (not (is_in_word x)) (not (x == 46)) f in letter_free x y l (not_false _ b.0) (not_false _ b.1)

whole_none : (b : List ℕ) → is_some (after Whole b) ≡ true → b ≡ []
unfolding goes
whole_none [] h = refl
whole_none (y ∷ ys) h = cc

-- ---- comments

whole_end : (c x : ℕ) (b : List ℕ) → x ≡ 47 → is_end (after Whole b) ≡ true → last_of (c ∷ x ∷ b) ≡ 47
unfolding goes
whole_end c x [] e h = e
whole_end c x (y ∷ ys) e h = cc

block_step : (x : ℕ) (b : List ℕ) → is_end (option_and_then (λ n. after n b) (goes InBlock x)) ≡ true → (is_end (after InBlock b) ≡ true → last_of (x ∷ b) ≡ 47) → (is_end (after AfterStar b) ≡ true → last_of (x ∷ b) ≡ 47) → last_of (x ∷ b) ≡ 47
unfolding goes
block_step x b h f g = by (x == 42) h
  where
    by : (c : Bool) → is_end (option_and_then (λ n. after n b) (cond c (Some AfterStar) (Some InBlock))) ≡ true → last_of (x ∷ b) ≡ 47
    by true h = g h
    by false h = f h

star_step : (c x : ℕ) (b : List ℕ) → is_end (option_and_then (λ n. after n b) (goes AfterStar x)) ≡ true → (is_end (after InBlock b) ≡ true → last_of (x ∷ b) ≡ 47) → (is_end (after AfterStar b) ≡ true → last_of (x ∷ b) ≡ 47) → last_of (c ∷ x ∷ b) ≡ 47
unfolding goes
star_step c x b h f g = by (x == 47) (x == 42) refl h
  where
    by : (s t : Bool) → (x == 47) ≡ s → is_end (option_and_then (λ n. after n b) (cond s (Some Whole) (cond t (Some AfterStar) (Some InBlock)))) ≡ true → last_of (c ∷ x ∷ b) ≡ 47
    by true t e h = whole_end c x b (eqb-true x 47 e) h
    by false true e h = g h
    by false false e h = f h

mutual
  block_end : (c : ℕ) (b : List ℕ) → is_end (after InBlock b) ≡ true → last_of (c ∷ b) ≡ 47
  block_end c [] h = cc
  block_end c (x ∷ b) h = block_step x b h (λ h. block_end x b h) (λ h. star_end x b h)

  star_end : (c : ℕ) (b : List ℕ) → is_end (after AfterStar b) ≡ true → last_of (c ∷ b) ≡ 47
  star_end c [] h = cc
  star_end c (x ∷ b) h = star_step c x b h (λ h. block_end x b h) (λ h. star_end x b h)

opened_step : (x : ℕ) (b : List ℕ) → is_end (option_and_then (λ n. after n b) (goes Opened x)) ≡ true → is_end (after InBlock b) ≡ true
unfolding goes
opened_step x b h = h

comment_end : (c : ℕ) (b : List ℕ) → is_end (after Opened b) ≡ true → last_of (c ∷ b) ≡ 47
comment_end c [] h = cc
comment_end c (x ∷ b) h = block_end x b (opened_step x b h)

one_ended : (a : Bool) → not (is_some (unless_lexical a)) ≡ true → a ≡ true
one_ended true h = refl
one_ended false h = cc

-- ---- tokens that open a list

-- no keyword opens one
no_keywords : list_all (λ s. not (opens s.1)) keywords ≡ true
unfolding keywords
no_keywords = refl

no_word : (ws : List (List ℕ × TokenKind)) (p : List ℕ) → list_all (λ s. not (opens s.1)) ws ≡ true → opens (unwrap_or (spelled ws p) token.Identifier) ≡ true → ⊥
no_word [] p a e = cc
no_word (s ∷ ws) p a e =
    let b = both (not (opens s.1)) (list_all (λ s. not (opens s.1)) ws) a in
    by (same_text s.0 p) b.0 (no_word ws p b.1) e
  where
    by : (c : Bool) → not (opens s.1) ≡ true → (opens (unwrap_or (spelled ws p) token.Identifier) ≡ true → ⊥) → opens (unwrap_or (cond c (Some s.1) (spelled ws p)) token.Identifier) ≡ true → ⊥
    by true n f e = true_false (opens s.1) e (not_false (opens s.1) n)
    by false n f e = f e

-- an operator ends in what is free, or opens no list, or is outside the profile
abbrev is_fine : List ℕ → Bool
is_fine w = is_free (last_of w) || (not (opens (operator_kind w)) || listed outside_operators w)

all_fine : list_all is_fine operators ≡ true
unfolding operators punctuation outside_operators is_in_word is_letter is_digit general_category value_in general_category_rows
all_fine = refl

listed_fine : (ws : List (List ℕ)) (w : List ℕ) → list_all is_fine ws ≡ true → listed ws w ≡ true → is_fine w ≡ true
listed_fine [] w a h = cc
listed_fine (v ∷ vs) w a h =
    let b = both (is_fine v) (list_all is_fine vs) a in
    by (same_text v w) refl b.0 (listed_fine vs w b.1) h
  where
    by : (c : Bool) → same_text v w ≡ c → is_fine v ≡ true → (listed vs w ≡ true → is_fine w ≡ true) → (c || listed vs w) ≡ true → is_fine w ≡ true
    by true e f g h = subst (λ w. is_fine w ≡ true) (same_text-true v w e) f
    by false e f g h = g h

inside_only : (a : Bool) → not (is_some (if_outside a)) ≡ true → a ≡ true → ⊥
inside_only true h e = cc
inside_only false h e = cc

three : (a b c : Bool) → (a || (not b || c)) ≡ true → b ≡ true → (c ≡ true → ⊥) → a ≡ true
three true b c h e f = refl
three false true true h e f = absurd (f refl)
three false true false h e f = cc
three false false c h e f = cc

operator_free : (q : List ℕ) → is_good q ≡ true → kind q ≡ Operator → listed operators q ≡ true → opens (token_kind q) ≡ true → is_free (last_of q) ≡ true
operator_free q g k h o =
    three (is_free (last_of q)) (opens (operator_kind q)) (listed outside_operators q) (listed_fine operators q all_fine h) (subst (λ k. opens (token_kind_as k q) ≡ true) k o)
    (inside_only (listed outside_operators q) (subst (λ k. not (is_some (defect_by k (is_ended k q) q)) ≡ true) k g))

-- ---- a piece in front of a token

piece_free : (k : PieceKind) (x : ℕ) (b : List ℕ) → kind (x ∷ b) ≡ k → is_piece (x ∷ b) ≡ true → is_good (x ∷ b) ≡ true → (kind (x ∷ b) ≡ LineComment → ⊥) → (is_token (x ∷ b) ≡ true → opens (token_kind (x ∷ b)) ≡ true) → is_free (last_of (x ∷ b)) ≡ true
piece_free White x b e h g n t =
    let one : b ≡ [] = whole_none b (subst (λ k. has_shape k x b ≡ true) e h) in
    subst (λ b. is_free (last_of (x ∷ b)) ≡ true) (sym one) (white_free x (begun_white x _ _ _ _ e))
piece_free LineComment x b e h g n t = absurd (n e)
piece_free BlockComment x b e h g n t =
    let ended : is_end (after Opened b) ≡ true = one_ended _ (subst (λ k. not (is_some (defect_by k (is_ended k (x ∷ b)) (x ∷ b))) ≡ true) e g) in
    subst (λ n. is_free n ≡ true) (sym (comment_end x b ended)) slash_free
piece_free Word x b e h g n t = absurd (no_word keywords (x ∷ b) no_keywords (subst (λ k. opens (token_kind_as k (x ∷ b)) ≡ true) e (t (ap lexing.is_token_kind e))))
piece_free Number x b e h g n t = let o : opens token.Integer ≡ true = subst (λ k. opens (token_kind_as k (x ∷ b)) ≡ true) e (t (ap lexing.is_token_kind e)) in cc
piece_free HexNumber x b e h g n t = let o : opens token.Integer ≡ true = subst (λ k. opens (token_kind_as k (x ∷ b)) ≡ true) e (t (ap lexing.is_token_kind e)) in cc
piece_free Rune x b e h g n t = let o : opens token.Rune ≡ true = subst (λ k. opens (token_kind_as k (x ∷ b)) ≡ true) e (t (ap lexing.is_token_kind e)) in cc
piece_free Text x b e h g n t = let o : opens token.Text ≡ true = subst (λ k. opens (token_kind_as k (x ∷ b)) ≡ true) e (t (ap lexing.is_token_kind e)) in cc
piece_free RawText x b e h g n t = let o : opens token.Text ≡ true = subst (λ k. opens (token_kind_as k (x ∷ b)) ≡ true) e (t (ap lexing.is_token_kind e)) in cc
piece_free Operator x b e h g n t = operator_free (x ∷ b) g e (subst (λ k. has_shape k x b ≡ true) e h) (t (ap lexing.is_token_kind e))
piece_free Stray x b e h g n t = let d : not (is_some (defect_by Stray (is_ended Stray (x ∷ b)) (x ∷ b))) ≡ true = subst (λ k. not (is_some (defect_by k (is_ended k (x ∷ b)) (x ∷ b))) ≡ true) e g in cc

-- ---- the text in front of a window

-- the last of some pieces
data Ended (ps : List (List ℕ)) : Type 0 where
  nothing : ps ≡ [] → Ended ps
  ended : (init : List (List ℕ)) (q : List ℕ) → ps ≡ init ++ q ∷ [] → Ended ps

ended_in : (ps : List (List ℕ)) → Ended ps
ended_in [] = nothing refl
ended_in (p ∷ ps) = by (ended_in ps)
  where
    by : Ended ps → Ended (p ∷ ps)
    by (nothing e) = ended [] p (ap (λ l. p ∷ l) e)
    by (ended init q e) = ended (p ∷ init) q (ap (λ l. p ∷ l) e)

get_kind : (ts : List Token) (n : ℕ) (t : Token) → slice_get ts n ≡ Some t → slice_get (kinds ts) n ≡ Some t.kind
get_kind [] n t e = cc
get_kind (u ∷ ts) zero t e = let same : u ≡ t = cc in ap (λ (v : Token). Some v.kind) same
get_kind (u ∷ ts) (suc n) t e = get_kind ts n t e

some_word : (v w : TokenKind) → Some v ≡ Some w → v ≡ w
some_word v w e = cc

module _ (file : ℕ) (whole : List (List ℕ)) (cut : Cut whole []) (good : list_all is_good whole ≡ true) (y : ℕ) (letter : is_letter y ≡ true) where
  -- a piece directly in front of a range
  front_free : (front : List (List ℕ)) (q : List ℕ) (os rest : List (List ℕ)) (from : ℕ) → whole ≡ front ++ q ∷ (os ++ rest) → begins_with_token os ≡ true → from ≡ length (items (front ++ q ∷ []) false) → (w : TokenKind) (place : ℕ) → suc place ≡ from → slice_get (kinds (tokens file 0 whole true)) place ≡ Some w → opens w ≡ true → last_joins q y ≡ false
  front_free front q [] rest from d b f w place n is o = cc
  front_free front q ([] ∷ os) rest from d b f w place n is o = let none = (cut_second front (q ∷ (([] ∷ os) ++ rest)) [] (subst (λ x. Cut x []) d cut)).2.0 in cc
  front_free front [] ((z ∷ zs) ∷ os) rest from d b f w place n is o = refl
  front_free front (x ∷ c) ((z ∷ zs) ∷ os) rest from d b f w place n is o =
      let here = cut_second front ((x ∷ c) ∷ (((z ∷ zs) ∷ os) ++ rest)) [] (subst (λ l. Cut l []) d cut) in
      let goods = (all_both ((x ∷ c) ∷ []) (((z ∷ zs) ∷ os) ++ rest) (all_both front ((x ∷ c) ∷ (((z ∷ zs) ∷ os) ++ rest)) (subst (λ l. list_all is_good l ≡ true) d good)).1).0 in
      let one = both (is_good (x ∷ c)) true goods in
      let free = piece_free (kind (x ∷ c)) x c refl here.0 one.0 (λ k. line_stops (x ∷ c) z _ here.0 k (no_newline z zs b) here.1) (λ t. opened t) in
      joins_last x c y ∙ free_joins (last_of (x ∷ c)) y free letter
    where
      opened : is_token (x ∷ c) ≡ true → opens (token_kind (x ∷ c)) ≡ true
      opened t =
          let last : items ((x ∷ c) ∷ []) false ≡ record { kind = token_kind (x ∷ c); text = encode_utf8_all (x ∷ c) } ∷ [] =
          append-nil _ ∙ token_items (x ∷ c) false t ∙ ap (λ l. record { kind = token_kind (x ∷ c); text = encode_utf8_all (x ∷ c) } ∷ l) (no_semicolon _) in
          let all : length (items (front ++ (x ∷ c) ∷ []) false) ≡ length (items front false) + 1 =
          ap length (items_append front ((x ∷ c) ∷ []) false ∙ ap (λ e. items front e ++ items ((x ∷ c) ∷ []) false) (line_ends_token (x ∷ c) [] false t) ∙ ap (λ l. items front false ++ l) last) ∙ length-append (items front false) (record { kind = token_kind (x ∷ c); text = encode_utf8_all (x ∷ c) } ∷ []) in
          let place_is : place ≡ length (items front false) = omega (arith, n, f, all) in
          let at = ap (λ l. slice_get (tokens file 0 l true) (length (items front false))) d ∙ token_behind file front (x ∷ c) (((z ∷ zs) ∷ os) ++ rest) true t in
          let word : slice_get (kinds (tokens file 0 whole true)) (length (items front false)) ≡ Some (token_kind (x ∷ c)) = get_kind (tokens file 0 whole true) (length (items front false)) _ at in
          let same : token_kind (x ∷ c) ≡ w = some_word (token_kind (x ∷ c)) w (sym word ∙ ap (slice_get (kinds (tokens file 0 whole true))) (sym place_is) ∙ is) in
          ap opens same ∙ o

  -- the text in front of an enclosed range joins no letter
  pub range_free : (front ps : List (List ℕ)) (kept old rest : List ℕ) (last : Token) → whole ≡ front ++ ps → (r : OldRange ps kept old rest last) → (from upto start end : ℕ) → IsRange (tokens file 0 whole true) from upto start end → start ≡ width (join (front ++ r.first_pieces)) → end ≡ start + width (join (pieces_of r.range))
      → IsEnclosed (kinds (tokens file 0 whole true)) from upto → last_joins kept y ≡ false
  range_free front ps kept old rest last w r from upto start end g s e enclosed = by (ended_in r.first_pieces)
    where
      whole_is : whole ≡ (front ++ r.first_pieces) ++ (pieces_of r.range ++ r.rest_pieces)
      whole_is = w ∙ ap (λ x. front ++ x) r.is ∙ sym (append_assoc front r.first_pieces (pieces_of r.range ++ r.rest_pieces))

      from_is : from ≡ length (items (front ++ r.first_pieces) false)
      from_is = (numbered file whole cut (front ++ r.first_pieces) r.range r.rest_pieces whole_is r.is_old from upto start end g s e).0

      joined : (init : List (List ℕ)) (q : List ℕ) → r.first_pieces ≡ init ++ q ∷ [] → kept ≡ join init ++ q
      joined init q f = sym r.kept_is ∙ ap join f ∙ join_two init (q ∷ []) ∙ ap (λ l. join init ++ l) (append-nil q)

      behind : (a q : List ℕ) → last_joins q y ≡ false → (q ≡ [] → ⊥) → last_joins (a ++ q) y ≡ false
      behind a [] e n = absurd (n refl)
      behind a (z ∷ b) e n = last_behind a z b y ∙ e

      no_piece : (q : List ℕ) → is_piece q ≡ true → q ≡ [] → ⊥
      no_piece [] h e = cc
      no_piece (z ∷ b) h e = cc

      by : Ended r.first_pieces → last_joins kept y ≡ false
      by (nothing f) = ap (λ l. last_joins l y) (sym r.kept_is ∙ ap join f)
      by (ended init q f) =
          let laid : whole ≡ (front ++ init) ++ q ∷ (pieces_of r.range ++ r.rest_pieces) =
          whole_is ∙ ap (λ l. (front ++ l) ++ (pieces_of r.range ++ r.rest_pieces)) f ∙ ap (λ l. l ++ (pieces_of r.range ++ r.rest_pieces)) (sym (append_assoc front init (q ∷ []))) ∙ append_assoc (front ++ init) (q ∷ []) (pieces_of r.range ++ r.rest_pieces) in
          let count : from ≡ length (items ((front ++ init) ++ q ∷ []) false) = from_is ∙ ap (λ l. length (items l false)) (ap (λ l. front ++ l) f ∙ sym (append_assoc front init (q ∷ []))) in
          let piece = (cut_second (front ++ init) (q ∷ (pieces_of r.range ++ r.rest_pieces)) [] (subst (λ l. Cut l []) laid cut)).0 in
          let free = front_free (front ++ init) q (pieces_of r.range) r.rest_pieces from laid r.is_old.begins count enclosed.word enclosed.place enclosed.next enclosed.is enclosed.opens in
          ap (λ l. last_joins l y) (joined init q f) ∙ behind (join init) q free (no_piece q piece)
