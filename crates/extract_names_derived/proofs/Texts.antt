-- Where the texts of tokens stand behind gaps.
use Rattle.std.proofs.Common.{◌≡◌, ◌∙◌, ℕ, zero, suc, ◌+◌, ◌-◌, ◌<◌, ◌≤◌, inl, inr, Bool, true, false, List, [], ◌∷◌, refl, sym, ap, subst, length, take, drop, arith}
use Rattle.std.specs.Prelude.{slice_get, ◌++◌, nat_le, if◌then◌else◌}
use Rattle.std.proofs.lemmas.Bool.{le-leb, leb-true}
use Rattle.std.proofs.lemmas.List.{length-append, length-take-le, length-drop}
use Rattle.go_rewriting.specs.Places.{Ascending}
use Rattle.go_rewriting.specs.Replacing.{moved}
use Rattle.extract_names.specs.Gaps.{Gap, moved_by, ranges, Among, Stays}
use Rattle.extract_names_derived.specs.Texts.{with_gap, with_gaps}
use Rattle.extract_names_derived.proofs.Ascends.{ascend_order, ascend_member}

get_front : {A : Type 0} (n : ℕ) (us ws : List A) (k : ℕ) → k < n → n ≤ length us → slice_get (take n us ++ ws) k ≡ slice_get us k
get_front zero us ws k lt le = absurd (omega (arith, lt))
get_front (suc n) [] ws k lt le = absurd (omega (arith, le))
get_front (suc n) (u ∷ us) ws zero lt le = refl
get_front (suc n) (u ∷ us) ws (suc k) lt le = get_front n us ws k (omega (arith, lt)) (omega (arith, le))

pub get_left : {A : Type 0} (us ws : List A) (k : ℕ) → k < length us → slice_get (us ++ ws) k ≡ slice_get us k
get_left [] ws k lt = absurd (omega (arith, lt))
get_left (u ∷ us) ws zero lt = refl
get_left (u ∷ us) ws (suc k) lt = get_left us ws k (omega (arith, lt))

pub get_right : {A : Type 0} (us ws : List A) (k : ℕ) → slice_get (us ++ ws) (length us + k) ≡ slice_get ws k
get_right [] ws k = ap (slice_get ws) (omega arith)
get_right (u ∷ us) ws k =
    let e : length (u ∷ us) + k ≡ suc (length us + k) = omega arith in
    ap (slice_get ((u ∷ us) ++ ws)) e ∙ get_right us ws k

pub get_drop : {A : Type 0} (n : ℕ) (us : List A) (k : ℕ) → slice_get (drop n us) k ≡ slice_get us (n + k)
get_drop zero us k = ap (slice_get us) (omega arith)
get_drop (suc n) [] k = refl
get_drop (suc n) (u ∷ us) k =
    let e : suc (n + k) ≡ suc n + k = omega arith in
    get_drop n us k ∙ ap (slice_get (u ∷ us)) e

-- one gap
module _ (x : Gap) (us : List (List ℕ)) (order : x.from < x.upto) (long : x.upto ≤ length us) where
  head_long : length (take x.from us) ≡ x.from
  head_long = length-take-le x.from us (omega (arith, order, long))

  front_same : (k : ℕ) → k < x.from → slice_get (with_gap x us) k ≡ slice_get us k
  front_same k lt = get_front x.from us (x.texts ++ drop x.upto us) k lt (omega (arith, order, long))

  middle : (k : ℕ) → slice_get (with_gap x us) (x.from + k) ≡ slice_get (x.texts ++ drop x.upto us) k
  middle k = subst (λ n. slice_get (with_gap x us) (n + k) ≡ slice_get (x.texts ++ drop x.upto us) k) head_long (get_right (take x.from us) (x.texts ++ drop x.upto us) k)

  texts_stand : (k : ℕ) → k < length x.texts → slice_get (with_gap x us) (x.from + k) ≡ slice_get x.texts k
  texts_stand k lt = middle k ∙ get_left x.texts (drop x.upto us) k lt

  behind_same : (k : ℕ) → x.upto ≤ k → slice_get (with_gap x us) (moved x.upto (x.from + length x.texts) k) ≡ slice_get us k
  behind_same k le =
      let d : ℕ = k - x.upto in
      let e : moved x.upto (x.from + length x.texts) k ≡ x.from + (length x.texts + d) = omega arith in
      let f : x.upto + d ≡ k = omega (arith, le) in
      ap (slice_get (with_gap x us)) e ∙ middle (length x.texts + d) ∙ get_right x.texts (drop x.upto us) d ∙ get_drop x.upto us d ∙ ap (slice_get us) f

  gap_long : length (with_gap x us) ≡ moved x.upto (x.from + length x.texts) (length us)
  gap_long =
      let a : length (with_gap x us) ≡ length (take x.from us) + length (x.texts ++ drop x.upto us) = length-append (take x.from us) (x.texts ++ drop x.upto us) in
      let b : length (x.texts ++ drop x.upto us) ≡ length x.texts + length (drop x.upto us) = length-append x.texts (drop x.upto us) in
      let c : length (drop x.upto us) ≡ length us - x.upto = length-drop x.upto us in
      omega (arith, a, b, c, head_long)

pub low : (x : Gap) (gs : List Gap) (n : ℕ) → n ≤ x.from → moved_by (x ∷ gs) n ≡ n
low x gs n le = ap (λ b. if b then n else moved x.upto (x.from + length x.texts) (moved_by gs n)) (le-leb n x.from le)

pub high : (x : Gap) (gs : List Gap) (n : ℕ) → x.from < n → moved_by (x ∷ gs) n ≡ moved x.upto (x.from + length x.texts) (moved_by gs n)
high x gs n lt = go (nat_le n x.from) refl
  where
    go : (b : Bool) → nat_le n x.from ≡ b → (if nat_le n x.from then n else moved x.upto (x.from + length x.texts) (moved_by gs n)) ≡ moved x.upto (x.from + length x.texts) (moved_by gs n)
    go true e = absurd (omega (arith, lt, leb-true n x.from e))
    go false e = ap (λ b. if b then n else moved x.upto (x.from + length x.texts) (moved_by gs n)) e

module _ (ws : List (List ℕ)) where
  record Front (gs : List Gap) (i : ℕ) : Type 0 where
    same : (k : ℕ) → k < i → slice_get (with_gaps gs ws) k ≡ slice_get ws k
    long : i ≤ length (with_gaps gs ws)
    moves : moved_by gs (length ws) ≡ length (with_gaps gs ws)
    order : (n : ℕ) → i ≤ n → i ≤ moved_by gs n

  -- what stands in front of the gaps
  front : (gs : List Gap) (i : ℕ) → Ascending i (ranges gs) (length ws) → Front gs i
  front [] i h = record { same = λ k lt. refl; long = h; moves = refl; order = λ n le. le }
  front (x ∷ gs) i h =
      let r = front gs x.upto h.2 in
      let far : x.upto ≤ length ws = ascend_order x.upto (length ws) (ranges gs) h.2 in
      let all : length (with_gap x (with_gaps gs ws)) ≡ moved x.upto (x.from + length x.texts) (length (with_gaps gs ws)) = gap_long x (with_gaps gs ws) h.1 r.long in
      record {
        same = λ k lt. front_same x (with_gaps gs ws) h.1 r.long k (omega (arith, lt, h.0)) ∙ r.same k (omega (arith, lt, h.0, h.1));
        long = omega (arith, all, h.0);
        moves = high x gs (length ws) (omega (arith, h.1, far)) ∙ ap (moved x.upto (x.from + length x.texts)) r.moves ∙ sym all;
        order = λ n le. above n le (nat_le n x.from) refl;
      }
    where
      above : (n : ℕ) → i ≤ n → (b : Bool) → nat_le n x.from ≡ b → i ≤ moved_by (x ∷ gs) n
      above n le true e = omega (arith, low x gs n (leb-true n x.from e), le)
      above n le false e =
          let is : moved_by (x ∷ gs) n ≡ moved x.upto (x.from + length x.texts) (moved_by gs n) = ap (λ b. if b then n else moved x.upto (x.from + length x.texts) (moved_by gs n)) e in
          omega (arith, is, h.0)

  -- the text of a token in no run stays
  pub texts_stay : (gs : List Gap) (i n : ℕ) → Ascending i (ranges gs) (length ws) → Stays gs n → slice_get (with_gaps gs ws) (moved_by gs n) ≡ slice_get ws n
  texts_stay [] i n h out = refl
  texts_stay (x ∷ gs) i n h (inl lt, out) =
      let r = front gs x.upto h.2 in
      ap (slice_get (with_gap x (with_gaps gs ws))) (low x gs n (omega (arith, lt))) ∙ front_same x (with_gaps gs ws) h.1 r.long n lt ∙ r.same n (omega (arith, lt, h.1))
  texts_stay (x ∷ gs) i n h (inr le, out) =
      let r = front gs x.upto h.2 in
      ap (slice_get (with_gap x (with_gaps gs ws))) (high x gs n (omega (arith, le, h.1))) ∙ behind_same x (with_gaps gs ws) h.1 r.long (moved_by gs n) (r.order n le) ∙ texts_stay gs x.upto n h.2 out

  -- and the texts of a gap stand from its place on
  pub gap_stands : (gs : List Gap) (i : ℕ) → Ascending i (ranges gs) (length ws) → (g : Gap) → Among g gs → (k : ℕ) → k < length g.texts → slice_get (with_gaps gs ws) (moved_by gs g.from + k) ≡ slice_get g.texts k
  gap_stands [] i h g a k lt = absurd a
  gap_stands (x ∷ gs) i h g (inl e) k lt =
      let r = front gs x.upto h.2 in
      subst (λ (z : Gap). k < length z.texts → slice_get (with_gap x (with_gaps gs ws)) (moved_by (x ∷ gs) z.from + k) ≡ slice_get z.texts k) (sym e)
      (λ l. ap (λ n. slice_get (with_gap x (with_gaps gs ws)) (n + k)) (low x gs x.from (omega arith)) ∙ texts_stand x (with_gaps gs ws) h.1 r.long k l) lt
  gap_stands (x ∷ gs) i h g (inr a) k lt =
      let r = front gs x.upto h.2 in
      let m = ascend_member gs x.upto (length ws) h.2 g a in
      let at : moved_by (x ∷ gs) g.from ≡ moved x.upto (x.from + length x.texts) (moved_by gs g.from) = high x gs g.from (omega (arith, h.1, m.0)) in
      let on : x.upto ≤ moved_by gs g.from = r.order g.from m.0 in
      let e : moved_by (x ∷ gs) g.from + k ≡ moved x.upto (x.from + length x.texts) (moved_by gs g.from + k) = omega (arith, at, on) in
      ap (slice_get (with_gap x (with_gaps gs ws))) e ∙ behind_same x (with_gaps gs ws) h.1 r.long (moved_by gs g.from + k) (omega (arith, on)) ∙ gap_stands gs x.upto h.2 g a k lt

  pub texts_end : (gs : List Gap) (i : ℕ) → Ascending i (ranges gs) (length ws) → moved_by gs (length ws) ≡ length (with_gaps gs ws)
  texts_end gs i h = (front gs i h).moves
