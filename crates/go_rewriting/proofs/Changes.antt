-- Where tokens stand after changes.
use Rattle.std.proofs.Common.{◌≡◌, ℕ, zero, suc, ◌+◌, ◌-◌, ◌<◌, ◌≤◌, inl, inr, Bool, true, false, List, [], ◌∷◌, Some, refl, sym, ap, ◌∙◌, subst, length, take, drop, arith}
use Rattle.std.specs.Prelude.{slice_get, ◌++◌, nat_le, if◌then◌else◌}
use Rattle.std.proofs.lemmas.Bool.{le-leb, leb-true}
use Rattle.std.proofs.lemmas.List.{length-append, length-take-le, length-drop}
use Rattle.go_tokens.specs.declared.token.TokenKind.{TokenKind}
use Rattle.go_rewriting.specs.Replacing.{moved}
use Rattle.go_rewriting.specs.Places.{Outside, Ascending, Stays, Change, exchanged, changed, moved_by, ranges, Stand}
use Rattle.go_rewriting.proofs.Order.{ascending_order}

pub get_front : {A : Type 0} (n : ℕ) (us ws : List A) (k : ℕ) → k < n → n ≤ length us → slice_get (take n us ++ ws) k ≡ slice_get us k
get_front zero us ws k lt le = absurd (omega (arith, lt))
get_front (suc n) [] ws k lt le = absurd (omega (arith, le))
get_front (suc n) (u ∷ us) ws zero lt le = refl
get_front (suc n) (u ∷ us) ws (suc k) lt le = get_front n us ws k (omega (arith, lt)) (omega (arith, le))

pub get_left : {A : Type 0} (us ws : List A) (k : ℕ) → k < length us → slice_get (us ++ ws) k ≡ slice_get us k
get_left [] ws k lt = absurd (omega (arith, lt))
get_left (u ∷ us) ws zero lt = refl
get_left (u ∷ us) ws (suc k) lt = get_left us ws k (omega (arith, lt))

pub get_right : {A : Type 0} (us ws : List A) (k : ℕ) → slice_get (us ++ ws) (length us + k) ≡ slice_get ws k
get_right [] ws k = ap (slice_get ws) (omega arith)
get_right (u ∷ us) ws k =
    let e : length (u ∷ us) + k ≡ suc (length us + k) = omega arith in
    ap (slice_get ((u ∷ us) ++ ws)) e ∙ get_right us ws k

pub get_drop : {A : Type 0} (n : ℕ) (us : List A) (k : ℕ) → slice_get (drop n us) k ≡ slice_get us (n + k)
get_drop zero us k = ap (slice_get us) (omega arith)
get_drop (suc n) [] k = refl
get_drop (suc n) (u ∷ us) k =
    let e : suc (n + k) ≡ suc n + k = omega arith in
    get_drop n us k ∙ ap (slice_get (u ∷ us)) e

-- one change
module _ (x : Change) (us : List TokenKind) (order : x.from < x.upto) (long : x.upto ≤ length us) where
  head_long : length (take x.from us) ≡ x.from
  head_long = length-take-le x.from us (omega (arith, order, long))

  front_same : (k : ℕ) → k < x.from → slice_get (exchanged x us) k ≡ slice_get us k
  front_same k lt = get_front x.from us (x.words ++ drop x.upto us) k lt (omega (arith, order, long))

  middle : (k : ℕ) → slice_get (exchanged x us) (x.from + k) ≡ slice_get (x.words ++ drop x.upto us) k
  middle k = subst (λ n. slice_get (exchanged x us) (n + k) ≡ slice_get (x.words ++ drop x.upto us) k) head_long (get_right (take x.from us) (x.words ++ drop x.upto us) k)

  words_stand : (k : ℕ) → k < length x.words → slice_get (exchanged x us) (x.from + k) ≡ slice_get x.words k
  words_stand k lt = middle k ∙ get_left x.words (drop x.upto us) k lt

  behind_same : (k : ℕ) → x.upto ≤ k → slice_get (exchanged x us) (moved x.upto (x.from + length x.words) k) ≡ slice_get us k
  behind_same k le =
      let d : ℕ = k - x.upto in
      let e : moved x.upto (x.from + length x.words) k ≡ x.from + (length x.words + d) = omega arith in
      let f : x.upto + d ≡ k = omega (arith, le) in
      ap (slice_get (exchanged x us)) e ∙ middle (length x.words + d) ∙ get_right x.words (drop x.upto us) d ∙ get_drop x.upto us d ∙ ap (slice_get us) f

  exchanged_long : length (exchanged x us) ≡ moved x.upto (x.from + length x.words) (length us)
  exchanged_long =
      let a : length (exchanged x us) ≡ length (take x.from us) + length (x.words ++ drop x.upto us) = length-append (take x.from us) (x.words ++ drop x.upto us) in
      let b : length (x.words ++ drop x.upto us) ≡ length x.words + length (drop x.upto us) = length-append x.words (drop x.upto us) in
      let c : length (drop x.upto us) ≡ length us - x.upto = length-drop x.upto us in
      omega (arith, a, b, c, head_long)

pub low : (x : Change) (xs : List Change) (n : ℕ) → n ≤ x.from → moved_by (x ∷ xs) n ≡ n
low x xs n le = ap (λ b. if b then n else moved x.upto (x.from + length x.words) (moved_by xs n)) (le-leb n x.from le)

pub high : (x : Change) (xs : List Change) (n : ℕ) → x.from < n → moved_by (x ∷ xs) n ≡ moved x.upto (x.from + length x.words) (moved_by xs n)
high x xs n lt = go (nat_le n x.from) refl
  where
    go : (b : Bool) → nat_le n x.from ≡ b → (if nat_le n x.from then n else moved x.upto (x.from + length x.words) (moved_by xs n)) ≡ moved x.upto (x.from + length x.words) (moved_by xs n)
    go true e = absurd (omega (arith, lt, leb-true n x.from e))
    go false e = ap (λ b. if b then n else moved x.upto (x.from + length x.words) (moved_by xs n)) e

pub move_start : (xs : List Change) → moved_by xs 0 ≡ 0
move_start [] = refl
move_start (x ∷ xs) = low x xs 0 (omega arith)

module _ (ts : List TokenKind) where
  record Front (xs : List Change) (i : ℕ) : Type 0 where
    same : (k : ℕ) → k < i → slice_get (changed xs ts) k ≡ slice_get ts k
    long : i ≤ length (changed xs ts)
    moves : moved_by xs (length ts) ≡ length (changed xs ts)
    order : (n : ℕ) → i ≤ n → i ≤ moved_by xs n
    first : moved_by xs i ≡ i

  -- what stands in front of the changes, and how long all is
  front : (xs : List Change) (i : ℕ) → Ascending i (ranges xs) (length ts) → Front xs i
  front [] i h = record { same = λ k lt. refl; long = h; moves = refl; order = λ n le. le; first = refl }
  front (x ∷ xs) i h =
      let r = front xs x.upto h.2 in
      let far : x.upto ≤ length ts = ascending_order (ranges xs) x.upto (length ts) h.2 in
      let all : length (exchanged x (changed xs ts)) ≡ moved x.upto (x.from + length x.words) (length (changed xs ts)) = exchanged_long x (changed xs ts) h.1 r.long in
      record {
        same = λ k lt. front_same x (changed xs ts) h.1 r.long k (omega (arith, lt, h.0)) ∙ r.same k (omega (arith, lt, h.0, h.1));
        long = omega (arith, all, h.0);
        moves = high x xs (length ts) (omega (arith, h.1, far)) ∙ ap (moved x.upto (x.from + length x.words)) r.moves ∙ sym all;
        order = λ n le. above n le (nat_le n x.from) refl;
        first = low x xs i h.0;
      }
    where
      above : (n : ℕ) → i ≤ n → (b : Bool) → nat_le n x.from ≡ b → i ≤ moved_by (x ∷ xs) n
      above n le true e = omega (arith, low x xs n (leb-true n x.from e), le)
      above n le false e =
          let is : moved_by (x ∷ xs) n ≡ moved x.upto (x.from + length x.words) (moved_by xs n) = ap (λ b. if b then n else moved x.upto (x.from + length x.words) (moved_by xs n)) e in
          omega (arith, is, h.0)

  -- what is in no changed place stays
  pub change_stays : (xs : List Change) (i n : ℕ) → Ascending i (ranges xs) (length ts) → Outside n (ranges xs) → Stays ts (changed xs ts) (moved_by xs) n
  change_stays [] i n h out = record { same = refl; next = refl }
  change_stays (x ∷ xs) i n h (inl lt, out) =
      let r = front xs x.upto h.2 in
      record {
        same = ap (slice_get (exchanged x (changed xs ts))) (low x xs n (omega (arith, lt))) ∙ front_same x (changed xs ts) h.1 r.long n lt ∙ r.same n (omega (arith, lt, h.1));
        next = low x xs (suc n) (omega (arith, lt)) ∙ ap suc (sym (low x xs n (omega (arith, lt))));
      }
  change_stays (x ∷ xs) i n h (inr le, out) =
      let r = front xs x.upto h.2 in
      let s = change_stays xs x.upto n h.2 out in
      let on : x.upto ≤ moved_by xs n = r.order n le in
      let here : moved_by (x ∷ xs) n ≡ moved x.upto (x.from + length x.words) (moved_by xs n) = high x xs n (omega (arith, le, h.1)) in
      let there : moved_by (x ∷ xs) (suc n) ≡ moved x.upto (x.from + length x.words) (moved_by xs (suc n)) = high x xs (suc n) (omega (arith, le, h.1)) in
      record {
        same = ap (slice_get (exchanged x (changed xs ts))) here ∙ behind_same x (changed xs ts) h.1 r.long (moved_by xs n) on ∙ s.same;
        next = omega (arith, here, there, s.next, on);
      }

  -- behind the first change all stands as after the others
  pub later_same : (x : Change) (xs : List Change) (n : ℕ) → x.from < x.upto → Ascending x.upto (ranges xs) (length ts) → x.upto ≤ n → slice_get (changed (x ∷ xs) ts) (moved_by (x ∷ xs) n) ≡ slice_get (changed xs ts) (moved_by xs n)
  later_same x xs n order h le =
      let r = front xs x.upto h in
      ap (slice_get (exchanged x (changed xs ts))) (high x xs n (omega (arith, order, le))) ∙ behind_same x (changed xs ts) order r.long (moved_by xs n) (r.order n le)

  pub change_end : (xs : List Change) (i : ℕ) → Ascending i (ranges xs) (length ts) → moved_by xs (length ts) ≡ length (changed xs ts)
  change_end xs i h = (front xs i h).moves

  place_of_change : (xs : List Change) (i n : ℕ) (x : Change) → Ascending i (ranges xs) (length ts) → slice_get xs n ≡ Some x → (i ≤ x.from) × (x.from < x.upto)
  place_of_change [] i n x h e = cc
  place_of_change (y ∷ xs) i zero x h e = let same : y ≡ x = cc in (omega (arith, ap Change.from same, h.0), omega (arith, ap Change.from same, ap Change.upto same, h.1))
  place_of_change (y ∷ xs) i (suc n) x h e = let r = place_of_change xs y.upto n x h.2 e in (omega (arith, h.0, h.1, r.0), r.1)

  -- the words of a change stand at its moved place
  pub change_stands : (xs : List Change) (i n : ℕ) (x : Change) → Ascending i (ranges xs) (length ts) → slice_get xs n ≡ Some x → Stand (changed xs ts) (moved_by xs) x
  change_stands [] i n x h e = cc
  change_stands (y ∷ xs) i zero x h e =
      let same : y ≡ x = cc in
      let r = front xs y.upto h.2 in
      let here : moved_by (y ∷ xs) y.from ≡ y.from = low y xs y.from (omega arith) in
      let there : moved_by (y ∷ xs) y.upto ≡ moved y.upto (y.from + length y.words) (moved_by xs y.upto) = high y xs y.upto h.1 in
      let own : Stand (changed (y ∷ xs) ts) (moved_by (y ∷ xs)) y = record {
        words = λ k lt. ap (λ p. slice_get (exchanged y (changed xs ts)) (p + k)) here ∙ words_stand y (changed xs ts) h.1 r.long k lt;
        ends = omega (arith, here, there, r.first);
      } in
      subst (λ z. Stand (changed (y ∷ xs) ts) (moved_by (y ∷ xs)) z) same own
  change_stands (y ∷ xs) i (suc n) x h e =
      let r = front xs y.upto h.2 in
      let s = change_stands xs y.upto n x h.2 e in
      let p = place_of_change xs y.upto n x h.2 e in
      let on : y.upto ≤ moved_by xs x.from = r.order x.from p.0 in
      let here : moved_by (y ∷ xs) x.from ≡ moved y.upto (y.from + length y.words) (moved_by xs x.from) = high y xs x.from (omega (arith, h.1, p.0)) in
      let there : moved_by (y ∷ xs) x.upto ≡ moved y.upto (y.from + length y.words) (moved_by xs x.upto) = high y xs x.upto (omega (arith, h.1, p.0, p.1)) in
      record {
        words = λ k lt.
            let at : moved_by (y ∷ xs) x.from + k ≡ moved y.upto (y.from + length y.words) (moved_by xs x.from + k) = omega (arith, here, on) in
            ap (slice_get (exchanged y (changed xs ts))) at ∙ behind_same y (changed xs ts) h.1 r.long (moved_by xs x.from + k) (omega (arith, on)) ∙ s.words k lt;
        ends = omega (arith, here, there, s.ends, on);
      }
