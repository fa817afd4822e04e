-- Pieces that cut a text do so in front of a blank, too.
use Rattle.std.proofs.Common.{◌≡◌, ℕ, ◌≤◌, ◌⊎◌, inl, inr, Bool, true, false, not, ◌&&◌, ◌||◌, ◌==◌, cond, List, [], ◌∷◌, ◌++◌, length, Option, Some, None, is_some, append_assoc, refl, sym, ap, ◌∙◌, subst, arith}
use Rattle.std.specs.List.{list_any, list_all}
use Rattle.std.specs.Option.{option_and_then}
use Rattle.std.proofs.lemmas.List.{length-append}
use Rattle.ucd_category.specs.GeneralCategory.{general_category}
use Rattle.ucd_category.specs.GeneralCategoryRows.{general_category_rows}
use Rattle.ucd_table.specs.Rows.{value_in}
use Rattle.go_tokens.specs.declared.piece.PieceKind.{PieceKind}
use Rattle.go_tokens.specs.declared.piece.PieceKind.TheVariants.{White, LineComment, BlockComment, Word, Number, HexNumber, Rune, Text, RawText, Operator, Stray}
use Rattle.go_tokens.specs.declared.piece.Mode.{Mode}
use Rattle.go_tokens.specs.declared.piece.Mode.TheVariants.{InLine, InWord, InRun, InHexRun, Whole}
use Rattle.go_tokens.specs.Characters.{is_white, is_letter, is_digit, is_in_word, is_in_run, is_exponent, is_power, is_sign, is_x}
use Rattle.go_tokens.specs.Spellings.{same_text, listed, operators, punctuation, outside_operators}
use Rattle.go_tokens.specs.Literals.{rune_elements, string_elements, is_one}
use Rattle.go_tokens.specs.Pieces.{after, begins, begun, begun_by, front, goes, has_shape, kind, is_piece, is_good, is_end, is_ended, defect_by, unless_lexical}
use Rattle.go_tokens.specs.Lexing.{join, IsLongest, Cut}
use Rattle.go_tokens.proofs.Public.{both, same_text-true, true_false}

-- ---- where a piece is

after_then : (xs ys : List ℕ) (m : Mode) → after m (xs ++ ys) ≡ option_and_then (λ n. after n ys) (after m xs)
after_then [] ys m = refl
after_then (x ∷ xs) ys m = by (goes m x) (after_then xs ys)
  where
    by : (o : Option Mode) → ((n : Mode) → after n (xs ++ ys) ≡ option_and_then (λ n. after n ys) (after n xs)) → option_and_then (λ n. after n (xs ++ ys)) o ≡ option_and_then (λ n. after n ys) (option_and_then (λ n. after n xs) o)
    by None each = refl
    by (Some n) each = each n

-- what goes on over some characters goes on over fewer
fewer : (u : List ℕ) (y : ℕ) (v : List ℕ) (m : Mode) → is_some (after m (u ++ y ∷ v)) ≡ true → is_some (after m (u ++ y ∷ [])) ≡ true
fewer [] y v m h = by (goes m y) h
  where
    by : (o : Option Mode) → is_some (option_and_then (λ n. after n v) o) ≡ true → is_some (option_and_then (λ n. Some n) o) ≡ true
    by None h = h
    by (Some n) h = refl
fewer (x ∷ u) y v m h = by (goes m x) (fewer u y v) h
  where
    by : (o : Option Mode) → ((n : Mode) → is_some (after n (u ++ y ∷ v)) ≡ true → is_some (after n (u ++ y ∷ [])) ≡ true) → is_some (option_and_then (λ n. after n (u ++ y ∷ v)) o) ≡ true → is_some (option_and_then (λ n. after n (u ++ y ∷ [])) o) ≡ true
    by None each h = h
    by (Some n) each h = each n h

none_behind : (y : ℕ) (ys : List ℕ) → is_some (after Whole (y ∷ ys)) ≡ true → ⊥
unfolding goes
none_behind y ys h = cc

none_behind_some : (u : List ℕ) (y : ℕ) (v : List ℕ) → is_some (after Whole (u ++ y ∷ v)) ≡ true → ⊥
none_behind_some [] y v h = none_behind y v h
none_behind_some (x ∷ u) y v h = none_behind x (u ++ y ∷ v) h

chosen : {A : Type 0} (b : Bool) (u v : Option A) → is_some (cond b u v) ≡ true → (b ≡ true) ⊎ ((b ≡ false) × (is_some v ≡ true))
chosen true u v h = inl refl
chosen false u v h = inr (refl, h)

blank_word : is_in_word 32 ≡ false
unfolding is_in_word is_letter is_digit general_category value_in general_category_rows
blank_word = refl

blank_run : is_in_run 32 ≡ false
unfolding is_in_run is_in_word is_letter is_digit general_category value_in general_category_rows
blank_run = refl

blank_sign : is_sign 32 ≡ false
unfolding is_sign
blank_sign = refl

and_none : (a b : Bool) → b ≡ false → (a && b) ≡ true → ⊥
and_none true b e h = true_false b h e
and_none false b e h = cc

-- no word, and no number, goes on over a blank
word_on : (x : ℕ) (u : List ℕ) → is_some (option_and_then (λ n. after n u) (goes InWord x)) ≡ true → (is_in_word x ≡ true) × (is_some (after InWord u) ≡ true)
unfolding goes
word_on x u h = by (is_in_word x) h
  where
    by : (b : Bool) → is_some (option_and_then (λ n. after n u) (cond b (Some InWord) None)) ≡ true → (b ≡ true) × (is_some (after InWord u) ≡ true)
    by true h = (refl, h)
    by false h = cc

no_word : (u us : List ℕ) → is_some (after InWord (u ++ 32 ∷ us)) ≡ true → ⊥
no_word [] us h = true_false (is_in_word 32) (word_on 32 us h).0 blank_word
no_word (x ∷ u) us h = no_word u us (word_on x (u ++ 32 ∷ us) h).1

-- a number's run goes on over one more, in some mode of a run
run_on : (e : Bool) (x : ℕ) (u : List ℕ) → is_some (option_and_then (λ n. after n u) (goes (InRun e) x)) ≡ true → ((is_in_run x ≡ true) ⊎ (is_sign x ≡ true)) × ((f : Bool) × (is_some (after (InRun f) u) ≡ true))
unfolding goes
run_on e x u h = by (is_in_run x) (is_sign x) e (is_exponent x) h
  where
    by : (a s e f : Bool) → is_some (option_and_then (λ n. after n u) (cond a (Some (InRun f)) (cond (e && s) (Some (InRun false)) None))) ≡ true → ((a ≡ true) ⊎ (s ≡ true)) × ((f : Bool) × (is_some (after (InRun f) u) ≡ true))
    by true s e f h = (inl refl, (f, h))
    by false true true f h = (inr refl, (false, h))
    by false false true f h = cc
    by false s false f h = cc

no_run : (u us : List ℕ) (e : Bool) → is_some (after (InRun e) (u ++ 32 ∷ us)) ≡ true → ⊥
no_run [] us e h = elim (run_on e 32 us h).0 [
  | inl a ↦ true_false (is_in_run 32) a blank_run
  | inr s ↦ true_false (is_sign 32) s blank_sign
]
no_run (x ∷ u) us e h = let next = (run_on e x (u ++ 32 ∷ us) h).1 in no_run u us next.0 next.1

hex_on : (e : Bool) (x : ℕ) (u : List ℕ) → is_some (option_and_then (λ n. after n u) (goes (InHexRun e) x)) ≡ true → ((is_in_run x ≡ true) ⊎ (is_sign x ≡ true)) × ((f : Bool) × (is_some (after (InHexRun f) u) ≡ true))
unfolding goes
hex_on e x u h = by (is_in_run x) (is_sign x) e (is_power x) h
  where
    by : (a s e f : Bool) → is_some (option_and_then (λ n. after n u) (cond a (Some (InHexRun f)) (cond (e && s) (Some (InHexRun false)) None))) ≡ true → ((a ≡ true) ⊎ (s ≡ true)) × ((f : Bool) × (is_some (after (InHexRun f) u) ≡ true))
    by true s e f h = (inl refl, (f, h))
    by false true true f h = (inr refl, (false, h))
    by false false true f h = cc
    by false s false f h = cc

no_hex : (u us : List ℕ) (e : Bool) → is_some (after (InHexRun e) (u ++ 32 ∷ us)) ≡ true → ⊥
no_hex [] us e h = elim (hex_on e 32 us h).0 [
  | inl a ↦ true_false (is_in_run 32) a blank_run
  | inr s ↦ true_false (is_sign 32) s blank_sign
]
no_hex (x ∷ u) us e h = let next = (hex_on e x (u ++ 32 ∷ us) h).1 in no_hex u us next.0 next.1

-- a line comment goes on over all but newlines
line_step : (x : ℕ) (u : List ℕ) → is_some (option_and_then (λ n. after n u) (goes InLine x)) ≡ true → ((x == 10) ≡ false) × (is_some (after InLine u) ≡ true)
unfolding goes
line_step x u h = by (x == 10) h
  where
    by : (b : Bool) → is_some (option_and_then (λ n. after n u) (cond b None (Some InLine))) ≡ true → (b ≡ false) × (is_some (after InLine u) ≡ true)
    by true h = cc
    by false h = (refl, h)

line_more : (x : ℕ) (u : List ℕ) → (x == 10) ≡ false → is_some (after InLine u) ≡ true → is_some (option_and_then (λ n. after n u) (goes InLine x)) ≡ true
unfolding goes
line_more x u n h = ap (λ b. is_some (option_and_then (λ n. after n u) (cond b None (Some InLine)))) n ∙ h

line_goes : (b : List ℕ) (z : ℕ) (us : List ℕ) → (z == 10) ≡ false → is_some (after InLine (b ++ 32 ∷ us)) ≡ true → is_some (after InLine (b ++ z ∷ [])) ≡ true
line_goes [] z us n h = line_more z [] n refl
line_goes (x ∷ b) z us n h = let s = line_step x (b ++ 32 ∷ us) h in line_more x (b ++ z ∷ []) s.0 (line_goes b z us n s.1)

-- no operator has a blank
abbrev has_blank : List ℕ → Bool
has_blank w = list_any (λ x. x == 32) w

without : (ws : List (List ℕ)) (w : List ℕ) → list_all (λ v. not (has_blank v)) ws ≡ true → listed ws w ≡ true → has_blank w ≡ true → ⊥
without [] w a h b = cc
without (v ∷ vs) w a h b = by (same_text v w) refl h (λ h. without vs w (both _ _ a).1 h b)
  where
    by : (t : Bool) → same_text v w ≡ t → (t || listed vs w) ≡ true → (listed vs w ≡ true → ⊥) → ⊥
    by true e h f = true_false (not (has_blank v)) (both (not (has_blank v)) (list_all (λ v. not (has_blank v)) vs) a).0 (ap (λ l. not (has_blank l)) (same_text-true v w e) ∙ ap not b)
    by false e h f = f h

no_blanks : list_all (λ v. not (has_blank v)) operators ≡ true
unfolding operators punctuation outside_operators
no_blanks = refl

blank_in : (u us : List ℕ) → has_blank (u ++ 32 ∷ us) ≡ true
blank_in [] us = refl
blank_in (x ∷ u) us = by (x == 32) (blank_in u us)
  where
    by : (b : Bool) → has_blank (u ++ 32 ∷ us) ≡ true → (b || has_blank (u ++ 32 ∷ us)) ≡ true
    by true h = refl
    by false h = h

no_operator : (x : ℕ) (u us : List ℕ) → listed operators (x ∷ (u ++ 32 ∷ us)) ≡ true → ⊥
no_operator x u us h = without operators (x ∷ (u ++ 32 ∷ us)) no_blanks h (blank_in (x ∷ u) us)

-- ---- a longer piece

-- What goes on behind a piece, and has a blank: fewer characters do so too, or it is a line comment in front of the blank.
pub data Longer (p s : List ℕ) : Type 0 where
  next : (y : ℕ) (ys : List ℕ) → s ≡ y ∷ ys → is_piece (p ++ y ∷ []) ≡ true → Longer p s
  line : s ≡ [] → kind p ≡ LineComment → ((z : ℕ) → (z == 10) ≡ false → is_piece (p ++ z ∷ []) ≡ true) → Longer p s

front_same : (b : List ℕ) (y : ℕ) (u v : List ℕ) → front (b ++ y ∷ u) ≡ front (b ++ y ∷ v)
front_same [] y u v = refl
front_same (x ∷ b) y u v = refl

shape_fewer : (k : PieceKind) (x : ℕ) (u : List ℕ) (y : ℕ) (v : List ℕ) → (k ≡ Operator → ⊥) → has_shape k x (u ++ y ∷ v) ≡ true → has_shape k x (u ++ y ∷ []) ≡ true
shape_fewer Operator x u y v f h = absurd (f refl)
shape_fewer White x u y v f h = fewer u y v (begins White) h
shape_fewer LineComment x u y v f h = fewer u y v (begins LineComment) h
shape_fewer BlockComment x u y v f h = fewer u y v (begins BlockComment) h
shape_fewer Word x u y v f h = fewer u y v (begins Word) h
shape_fewer Number x u y v f h = fewer u y v (begins Number) h
shape_fewer HexNumber x u y v f h = fewer u y v (begins HexNumber) h
shape_fewer Rune x u y v f h = fewer u y v (begins Rune) h
shape_fewer Text x u y v f h = fewer u y v (begins Text) h
shape_fewer RawText x u y v f h = fewer u y v (begins RawText) h
shape_fewer Stray x u y v f h = fewer u y v (begins Stray) h

blank_begun : (x : ℕ) → begun x 32 ≡ begun x 0
unfolding is_digit is_x
blank_begun x = refl

blank_kind : (x : ℕ) (b us : List ℕ) → begun x (front (b ++ 32 ∷ us)) ≡ begun x (front b)
blank_kind x [] us = blank_begun x
blank_kind x (y ∷ b) us = refl

-- what is ended has nothing behind it
ended_stops : (m : Mode) (b : List ℕ) (us : List ℕ) → is_end (after m b) ≡ true → is_some (after m (b ++ 32 ∷ us)) ≡ true → ⊥
ended_stops m b us e h = by (after m b) e (ap is_some (sym (after_then b (32 ∷ us) m)) ∙ h)
  where
    at : (n : Mode) → is_end (Some n) ≡ true → n ≡ Whole
    at Whole e = refl
    at _ e = cc

    by : (o : Option Mode) → is_end o ≡ true → is_some (option_and_then (λ n. after n (32 ∷ us)) o) ≡ true → ⊥
    by None e h = cc
    by (Some n) e h = none_behind 32 us (subst (λ n. is_some (after n (32 ∷ us)) ≡ true) (at n e) h)

first_ended : (a b : Bool) → not (is_some (unless_lexical (a && b))) ≡ true → a ≡ true
first_ended true b h = refl
first_ended false b h = cc

one_ended : (a : Bool) → not (is_some (unless_lexical a)) ≡ true → a ≡ true
one_ended true h = refl
one_ended false h = cc

other : {A : Type 0} (b : Bool) (u v k : A) → (u ≡ k → ⊥) → cond b u v ≡ k → (b ≡ false) × (v ≡ k)
other true u v k not_u h = absurd (not_u h)
other false u v k not_u h = (refl, h)

begun_line : (x : ℕ) (l k p h : Bool) → begun_by x l k p h ≡ LineComment → l ≡ true
unfolding begun_by
begun_line x true k p hex h = refl
begun_line x false k p hex h0 =
    let h2 = (other k _ _ _ (λ e. cc) h0).1 in
    let g1 = (other hex _ _ _ (λ e. cc) h2).1 in
    let g2 = (other (x == 39) _ _ _ (λ e. cc) g1).1 in
    let h3 = (other (x == 34) _ _ _ (λ e. cc) g2).1 in
    let h4 = (other (x == 96) _ _ _ (λ e. cc) h3).1 in
    let h5 = (other (is_white x) _ _ _ (λ e. cc) h4).1 in
    let h6 = (other (is_letter x) _ _ _ (λ e. cc) h5).1 in
    let h7 = (other (is_digit x || p) _ _ _ (λ e. cc) h6).1 in
    let h8 = (other (listed operators (x ∷ [])) _ _ _ (λ e. cc) h7).1 in
    cc

-- one more character of a line comment
line_one : (x : ℕ) (b : List ℕ) (z : ℕ) → begun x (front b) ≡ LineComment → is_some (after InLine (b ++ z ∷ [])) ≡ true → is_piece (x ∷ (b ++ z ∷ [])) ≡ true
line_one x [] z e h = absurd (and_none (x == 47) false refl (begun_line x _ _ _ _ e))
line_one x (y ∷ b) z e h = subst (λ k. has_shape k x (y ∷ (b ++ z ∷ [])) ≡ true) (sym e) h

at_seam : (k : PieceKind) (x : ℕ) (b us : List ℕ) → kind (x ∷ b) ≡ k → is_good (x ∷ b) ≡ true → has_shape k x (b ++ 32 ∷ us) ≡ true → Longer (x ∷ b) []
at_seam White x b us e g h = absurd (none_behind_some b 32 us h)
at_seam Stray x b us e g h = absurd (none_behind_some b 32 us h)
at_seam Word x b us e g h = absurd (no_word b us h)
at_seam Number x b us e g h = absurd (no_run b us false h)
at_seam HexNumber x b us e g h = absurd (no_hex b us false h)
at_seam Operator x b us e g h = absurd (no_operator x b us h)
at_seam LineComment x b us e g h = line refl e (λ z n. line_one x b z e (line_goes b z us n h))
at_seam BlockComment x b us e g h = absurd (ended_stops (begins BlockComment) b us (one_ended _ (subst (λ k. not (is_some (defect_by k (is_ended k (x ∷ b)) (x ∷ b))) ≡ true) e g)) h)
at_seam RawText x b us e g h = absurd (ended_stops (begins RawText) b us (one_ended _ (subst (λ k. not (is_some (defect_by k (is_ended k (x ∷ b)) (x ∷ b))) ≡ true) e g)) h)
at_seam Rune x b us e g h = absurd (ended_stops (begins Rune) b us (first_ended _ (is_one (rune_elements (x ∷ b))) (subst (λ k. not (is_some (defect_by k (is_ended k (x ∷ b)) (x ∷ b))) ≡ true) e g)) h)
at_seam Text x b us e g h = absurd (ended_stops (begins Text) b us (first_ended _ (is_some (string_elements (x ∷ b))) (subst (λ k. not (is_some (defect_by k (is_ended k (x ∷ b)) (x ∷ b))) ≡ true) e g)) h)

longer : (x : ℕ) (b s us : List ℕ) → is_good (x ∷ b) ≡ true → is_piece (x ∷ (b ++ (s ++ 32 ∷ us))) ≡ true → Longer (x ∷ b) s
longer x b [] us g h = at_seam (kind (x ∷ b)) x b us refl g (subst (λ k. has_shape k x (b ++ 32 ∷ us) ≡ true) (blank_kind x b us) h)
longer x b (y ∷ s) us g h =
    let k : PieceKind = begun x (front (b ++ y ∷ [])) in
    let same : begun x (front (b ++ y ∷ (s ++ 32 ∷ us))) ≡ begun x (front (b ++ y ∷ [])) = ap (begun x) (front_same b y (s ++ 32 ∷ us) []) in
    let shape : has_shape (begun x (front (b ++ y ∷ []))) x (b ++ y ∷ (s ++ 32 ∷ us)) ≡ true = subst (λ k. has_shape k x (b ++ y ∷ (s ++ 32 ∷ us)) ≡ true) same h in
    next y s refl (shape_fewer (begun x (front (b ++ y ∷ []))) x b y (s ++ 32 ∷ us) (λ e. no_operator x (b ++ y ∷ s) us (subst (λ l. listed operators (x ∷ l) ≡ true) (sym (append_assoc b (y ∷ s) (32 ∷ us))) (subst (λ k. has_shape k x (b ++ y ∷ (s ++ 32 ∷ us)) ≡ true) e shape))) shape)

-- ---- where two texts are divided

-- a goes beyond c
record Beyond (a b c d : List ℕ) : Type 0 where
  head : ℕ
  tail : List ℕ
  is : a ≡ c ++ (head ∷ tail)
  rest : (head ∷ tail) ++ b ≡ d

record Inside (a b c d : List ℕ) : Type 0 where
  others : List ℕ
  is : c ≡ a ++ others
  rest : b ≡ others ++ d

divide : (a b c d : List ℕ) → a ++ b ≡ c ++ d → Inside a b c d ⊎ Beyond a b c d
divide [] b c d e = inl (record { others = c; is = refl; rest = e })
divide (x ∷ a) b [] d e = inr (record { head = x; tail = a; is = refl; rest = e })
divide (x ∷ a) b (y ∷ c) d e =
    let heads : x ≡ y = cc in
    let tails : a ++ b ≡ c ++ d = cc in
    elim (divide a b c d tails) [
      | inl i ↦ inl (record { others = i.others; is = ap (λ l. y ∷ l) i.is ∙ ap (λ n. n ∷ (a ++ i.others)) (sym heads); rest = i.rest })
      | inr r ↦ inr (record { head = r.head; tail = r.tail; is = ap (λ l. x ∷ l) r.is ∙ ap (λ n. n ∷ (c ++ (r.head ∷ r.tail))) heads; rest = r.rest })
    ]

-- ---- the seam

one_too_long : (p : List ℕ) (y : ℕ) (ys old : List ℕ) → IsLongest p old → old ≡ y ∷ ys → is_piece (p ++ y ∷ []) ≡ true → ⊥
one_too_long p y ys old l e h =
    let n = l.by (p ++ y ∷ []) ys (append_assoc p (y ∷ []) ys ∙ ap (λ k. p ++ k) (sym e)) h in
    omega (arith, n, length-append p (y ∷ []))

longest : (p w : List ℕ) (z : ℕ) (zs more : List ℕ) → is_piece p ≡ true → is_good p ≡ true → (z == 10) ≡ false → IsLongest p (w ++ z ∷ zs) → IsLongest p (w ++ 32 ∷ more)
longest [] w z zs more h g n l = cc
longest (x ∷ b) w z zs more h g n l = record {
  by = λ big others e k. elim (divide big others (x ∷ b) (w ++ 32 ∷ more) e) [
    | inl i ↦ let many : length (x ∷ b) ≡ length (big ++ i.others) = ap length i.is in omega (arith, many, length-append big i.others)
    | inr r ↦ absurd (elim (divide (r.head ∷ r.tail) others w (32 ∷ more) r.rest) [
      | inl i ↦
          let n = l.by big (i.others ++ z ∷ zs) (ap (λ t. t ++ (i.others ++ z ∷ zs)) r.is ∙ append_assoc (x ∷ b) (r.head ∷ r.tail) (i.others ++ z ∷ zs) ∙ ap (λ t. (x ∷ b) ++ t) (sym (append_assoc (r.head ∷ r.tail) i.others (z ∷ zs)) ∙ ap (λ t. t ++ z ∷ zs) (sym i.is))) k in
          let many : length big ≡ length ((x ∷ b) ++ (r.head ∷ r.tail)) = ap length r.is in
          omega (arith, n, many, length-append (x ∷ b) (r.head ∷ r.tail))
      | inr j ↦
          let first : j.head ≡ 32 = head_of j.head 32 (j.tail ++ others) more j.rest in
          let all : big ≡ x ∷ (b ++ (w ++ 32 ∷ j.tail)) = r.is ∙ ap (λ t. (x ∷ b) ++ t) (j.is ∙ ap (λ m. w ++ m ∷ j.tail) first) in
          too_long w (longer x b w j.tail g (subst (λ t. is_piece t ≡ true) all k)) l
    ])
  ];
}
  where
    head_of : (u v : ℕ) (us vs : List ℕ) → u ∷ us ≡ v ∷ vs → u ≡ v
    head_of u v us vs e = cc

    too_long : (w : List ℕ) → Longer (x ∷ b) w → IsLongest (x ∷ b) (w ++ z ∷ zs) → ⊥
    too_long w (next y ys e h) l = one_too_long (x ∷ b) y (ys ++ z ∷ zs) (w ++ z ∷ zs) l (ap (λ t. t ++ z ∷ zs) e) h
    too_long w (line e c f) l = one_too_long (x ∷ b) z zs (w ++ z ∷ zs) l (ap (λ t. t ++ z ∷ zs) e) (f z n)

-- Pieces in front of something other than a newline are cut alike in front of a blank.
pub blank_seam : (ps : List (List ℕ)) (z : ℕ) (zs more : List ℕ) → Cut ps (z ∷ zs) → (z == 10) ≡ false → list_all is_good ps ≡ true → Cut ps (32 ∷ more)
blank_seam [] z zs more c n g = tt
blank_seam (p ∷ ps) z zs more c n g =
    let goods = both (is_good p) (list_all is_good ps) g in
    (c.0, longest p (join ps) z zs more c.0 goods.0 n c.1, blank_seam ps z zs more c.2 n goods.1)

white : (y : ℕ) → begun 32 y ≡ White
unfolding begun_by is_white
white y = refl

alone : (y : ℕ) (ys : List ℕ) → is_piece (32 ∷ y ∷ ys) ≡ true → ⊥
alone y ys h = none_behind y ys (subst (λ k. has_shape k 32 (y ∷ ys) ≡ true) (white y) h)

-- a blank is a piece, whatever stands behind it
pub blank_longest : (rest : List ℕ) → IsLongest (32 ∷ []) rest
blank_longest rest = record {
  by = λ big others e k. elim (divide big others (32 ∷ []) rest e) [
    | inl i ↦ let many : 1 ≡ length (big ++ i.others) = ap length i.is in let z : length big ≤ 1 = omega (arith, many, length-append big i.others) in z
    | inr r ↦ absurd (alone r.head r.tail (subst (λ t. is_piece t ≡ true) r.is k))
  ];
}

-- a token is cut alike in front of a blank
pub token_seam : (p more : List ℕ) → is_piece p ≡ true → is_good p ≡ true → (kind p ≡ LineComment → ⊥) → IsLongest p (32 ∷ more)
token_seam [] more h g f = cc
token_seam (x ∷ b) more h g f = record {
  by = λ big others e k. elim (divide big others (x ∷ b) (32 ∷ more) e) [
    | inl i ↦ let many : length (x ∷ b) ≡ length (big ++ i.others) = ap length i.is in omega (arith, many, length-append big i.others)
    | inr r ↦
        let first : r.head ≡ 32 = head_of r.head 32 (r.tail ++ others) more r.rest in
        let all : big ≡ x ∷ (b ++ 32 ∷ r.tail) = r.is ∙ ap (λ m. (x ∷ b) ++ m ∷ r.tail) first in
        absurd (not_line (longer x b [] r.tail g (subst (λ t. is_piece t ≡ true) all k)))
  ];
}
  where
    head_of : (u v : ℕ) (us vs : List ℕ) → u ∷ us ≡ v ∷ vs → u ≡ v
    head_of u v us vs e = cc

    not_line : Longer (x ∷ b) [] → ⊥
    not_line (next y ys e h) = cc
    not_line (line e c h) = f c

line_longer : (b : List ℕ) (z : ℕ) → (z == 10) ≡ false → is_some (after InLine b) ≡ true → is_some (after InLine (b ++ z ∷ [])) ≡ true
line_longer [] z n h = line_more z [] n refl
line_longer (x ∷ b) z n h = let s = line_step x b h in line_more x (b ++ z ∷ []) s.0 (line_longer b z n s.1)

-- a line comment ends in front of a newline alone
pub line_stops : (p : List ℕ) (z : ℕ) (zs : List ℕ) → is_piece p ≡ true → kind p ≡ LineComment → (z == 10) ≡ false → IsLongest p (z ∷ zs) → ⊥
line_stops [] z zs h k n l = cc
line_stops (x ∷ b) z zs h k n l = one_too_long (x ∷ b) z zs (z ∷ zs) l refl (line_one x b z k (line_longer b z n (subst (λ k. has_shape k x b ≡ true) k h)))
