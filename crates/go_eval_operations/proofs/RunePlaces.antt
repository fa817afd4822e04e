-- The runes of a string, one behind the other.
use Rattle.std.proofs.Common.{◌≡◌, ◌<◌, ◌≤◌, ◌+◌, ◌-◌, ℕ, zero, suc, ◌⊎◌, inl, inr, Bool, true, false, pos, List, [], ◌∷◌, Option, Some, None, drop, length, slice_get, refl, sym, ap, subst, take, ◌∙◌, ◌&&◌, nat_le, arith, length-drop}
use Rattle.std.specs.Prelude.{if◌then◌else◌, slice_index}
use Rattle.std.specs.Str.{IsUtf8, chars, is_utf8, encode_utf8_all, bytes_eq, all_scalars}
use Rattle.std.proofs.lemmas.List.{drop-drop}
use Rattle.std.proofs.lemmas.Bool.Decides.{leb_tells}
use Rattle.std.proofs.lemmas.Str.{is_utf8-from_IsUtf8, IsUtf8-from_is_utf8}
use Rattle.go_meaning.specs.Values.{Whole}
use Rattle.go_meaning.specs.Operations.{rune_at}
use Rattle.go_meaning.specs.Texts.{Rune, runes_from, runes_of, first_bytes, rune_code, rune_width}
use Rattle.go_eval_operations.specs.Places.{IsRunePlace, rune_told}

skip : (n place : ℕ) (bs : List ℕ) → n ≤ length bs → runes_from place n bs ≡ runes_from (place + n) 0 (drop n bs)
skip zero place bs h = let e : place ≡ place + 0 = omega arith in ap (λ p. runes_from p 0 bs) e
skip (suc n) place [] h = absurd (omega arith)
skip (suc n) place (b ∷ bs) h = let e : suc place + n ≡ place + suc n = omega arith in skip n (suc place) bs (omega arith) ∙ ap (λ p. runes_from p 0 (drop n bs)) e

behind : (w place b : ℕ) (bs : List ℕ) → 0 < w → w ≤ length (b ∷ bs) → runes_from (suc place) (w - 1) bs ≡ runes_from (place + w) 0 (drop w (b ∷ bs))
behind zero place b bs p q = absurd (omega arith)
behind (suc k) place b bs p q =
    let e : suc k - 1 ≡ k = omega arith in
    let f : suc place + k ≡ place + suc k = omega arith in
    ap (λ n. runes_from (suc place) n bs) e ∙ skip k (suc place) bs (omega arith) ∙ ap (λ n. runes_from n 0 (drop k bs)) f

front : (place : ℕ) (bs : List ℕ) → 0 < length bs → 0 < rune_width bs → rune_width bs ≤ length bs
    → runes_from place 0 bs ≡ record { place = place; code = rune_code bs } ∷ runes_from (place + rune_width bs) 0 (drop (rune_width bs) bs)
front place [] h p q = absurd (omega arith)
front place (b ∷ bs) h p q = ap (λ rs. record { place = place; code = rune_code (b ∷ bs) } ∷ rs) (behind (rune_width (b ∷ bs)) place b bs p q)

at_drop : (rs : List Rune) (n : ℕ) (r : Rune) (rest : List Rune) → drop n rs ≡ r ∷ rest → rune_at rs n ≡ Whole (pos r.place) ∷ Whole (pos r.code) ∷ []
at_drop [] zero r rest e = absurd cc
at_drop [] (suc n) r rest e = absurd cc
at_drop (x ∷ xs) zero r rest e = let same : x ≡ r = cc in ap (λ (y : Rune). Whole (pos y.place) ∷ Whole (pos y.code) ∷ []) same
at_drop (x ∷ xs) (suc n) r rest e = at_drop xs n r rest e

drop_next : (rs : List Rune) (n : ℕ) (r : Rune) (rest : List Rune) → drop n rs ≡ r ∷ rest → drop (suc n) rs ≡ rest
drop_next [] zero r rest e = absurd cc
drop_next [] (suc n) r rest e = absurd cc
drop_next (x ∷ xs) zero r rest e = cc
drop_next (x ∷ xs) (suc n) r rest e = drop_next xs n r rest e

drop_within : (rs : List Rune) (n : ℕ) (r : Rune) (rest : List Rune) → drop n rs ≡ r ∷ rest → n < length rs
drop_within [] zero r rest e = absurd cc
drop_within [] (suc n) r rest e = absurd cc
drop_within (x ∷ xs) zero r rest e = omega arith
drop_within (x ∷ xs) (suc n) r rest e = omega (arith, drop_within xs n r rest e)

split : (a b : ℕ) → (a ≤ b) ⊎ (b < a)
split a b = by (leb_tells a b)
  where
    by : ((nat_le a b ≡ true) × (a ≤ b)) ⊎ ((nat_le a b ≡ false) × (b < a)) → (a ≤ b) ⊎ (b < a)
    by (inl t) = inl t.1
    by (inr t) = inr t.1

drop_past : (bs : List ℕ) (n : ℕ) → length bs ≤ n → drop n bs ≡ []
drop_past [] zero h = refl
drop_past [] (suc n) h = refl
drop_past (b ∷ bs) zero h = absurd (omega arith)
drop_past (b ∷ bs) (suc n) h = drop_past bs n (omega arith)

drop_none : (rs : List Rune) (n : ℕ) → [] ≡ drop n rs → length rs ≤ n
drop_none [] n e = omega arith
drop_none (x ∷ xs) zero e = absurd cc
drop_none (x ∷ xs) (suc n) e = omega (arith, drop_none xs n e)

-- ---- places of runes

pub first_place : (bytes : List ℕ) → IsRunePlace bytes 0 0
first_place bytes = (omega arith, refl)

-- what stands at a place
begun : (bytes : List ℕ) (number place : ℕ) → IsRunePlace bytes number place → place < length bytes → 0 < rune_width (drop place bytes) → rune_width (drop place bytes) ≤ length (drop place bytes)
    → drop number (runes_of bytes) ≡ record { place = place; code = rune_code (drop place bytes) } ∷ runes_from (place + rune_width (drop place bytes)) 0 (drop (place + rune_width (drop place bytes)) bytes)
begun bytes number place i h p q =
    let some : 0 < length (drop place bytes) = omega (arith, length-drop place bytes, h) in
    let w = rune_width (drop place bytes) in
    sym i.1 ∙ front place (drop place bytes) some p q ∙ ap (λ ds. record { place = place; code = rune_code (drop place bytes) } ∷ runes_from (place + w) 0 ds) (drop-drop w place bytes)

pub rune_here : (bytes : List ℕ) (number place : ℕ) → IsRunePlace bytes number place → place < length bytes → 0 < rune_width (drop place bytes) → rune_width (drop place bytes) ≤ length (drop place bytes)
    → rune_at (runes_of bytes) number ≡ Whole (pos place) ∷ Whole (pos (rune_code (drop place bytes))) ∷ []
rune_here bytes number place i h p q = at_drop (runes_of bytes) number _ _ (begun bytes number place i h p q)

pub next_place : (bytes : List ℕ) (number place : ℕ) → IsRunePlace bytes number place → place < length bytes → 0 < rune_width (drop place bytes) → rune_width (drop place bytes) ≤ length (drop place bytes)
    → IsRunePlace bytes (suc number) (place + rune_width (drop place bytes))
next_place bytes number place i h p q =
    (omega (arith, length-drop place bytes, h, q), sym (drop_next (runes_of bytes) number _ _ (begun bytes number place i h p q)))

pub number_within : (bytes : List ℕ) (number place : ℕ) → IsRunePlace bytes number place → place < length bytes → 0 < rune_width (drop place bytes) → rune_width (drop place bytes) ≤ length (drop place bytes)
    → number < length (runes_of bytes)
number_within bytes number place i h p q = drop_within (runes_of bytes) number _ _ (begun bytes number place i h p q)

past_all : (bytes : List ℕ) (number place : ℕ) → IsRunePlace bytes number place → length bytes ≤ place → length (runes_of bytes) ≤ number
past_all bytes number place i h = drop_none (runes_of bytes) number (sym (ap (runes_from place 0) (drop_past bytes place h)) ∙ i.1)

pub all_counted : (bytes : List ℕ) (number place : ℕ) → IsRunePlace bytes number place → length bytes ≤ place → number ≤ length (runes_of bytes) → number ≡ length (runes_of bytes)
all_counted bytes number place i h k = omega (arith, past_all bytes number place i h, k)

pub place_within : (bytes : List ℕ) (number place : ℕ) → IsRunePlace bytes number place → number < length (runes_of bytes) → place < length bytes
place_within bytes number place i h = by (split (length bytes) place)
  where
    by : (length bytes ≤ place) ⊎ (place < length bytes) → place < length bytes
    by (inl l) = absurd (omega (arith, past_all bytes number place i l, h))
    by (inr l) = l

-- ---- the rune at the front

told_by : (t : Bool) (cs : List ℕ) (r : ℕ) → (if t then slice_get cs 0 else None) ≡ Some r → (t ≡ true) × (slice_index cs 0 ≡ r)
told_by true [] r e = absurd cc
told_by true (c ∷ cs) r e = (refl, cc)
told_by false cs r e = absurd cc

pub rune_is : (bs : List ℕ) (r : ℕ) → rune_told (first_bytes bs) ≡ Some r → (rune_code bs ≡ r) × (rune_width bs ≡ length (first_bytes bs))
rune_is bs r e =
    let t = told_by (is_utf8 (first_bytes bs)) (chars (first_bytes bs)) r e in
    (ap (λ b. if b then slice_index (chars (first_bytes bs)) 0 else 0xFFFD) t.0 ∙ t.1, ap (λ b. if b then length (first_bytes bs) else 1) t.0)

-- UTF-8 of some bytes has some rune
utf8_spells : (f : List ℕ) → 0 < length f → is_utf8 f ≡ true → chars f ≡ [] → ⊥
unfolding is_utf8
utf8_spells [] h e k = absurd (omega arith)
utf8_spells (b ∷ bs) h e k = let contra : (all_scalars [] && bytes_eq (encode_utf8_all []) (b ∷ bs)) ≡ true = sym (ap (λ cs. all_scalars cs && bytes_eq (encode_utf8_all cs) (b ∷ bs)) k) ∙ e in absurd cc

untold : (t : Bool) (cs : List ℕ) → (if t then slice_get cs 0 else None) ≡ None → (t ≡ false) ⊎ ((t ≡ true) × (cs ≡ []))
untold true [] e = inr (refl, refl)
untold true (c ∷ cs) e = absurd cc
untold false cs e = inl refl

pub rune_is_none : (bs : List ℕ) → 0 < length (first_bytes bs) → rune_told (first_bytes bs) ≡ None → (rune_code bs ≡ 0xFFFD) × (rune_width bs ≡ 1)
rune_is_none bs h e = by (untold (is_utf8 (first_bytes bs)) (chars (first_bytes bs)) e)
  where
    by : (is_utf8 (first_bytes bs) ≡ false) ⊎ ((is_utf8 (first_bytes bs) ≡ true) × (chars (first_bytes bs) ≡ [])) → (rune_code bs ≡ 0xFFFD) × (rune_width bs ≡ 1)
    by (inl f) = (ap (λ b. if b then slice_index (chars (first_bytes bs)) 0 else 0xFFFD) f, ap (λ b. if b then length (first_bytes bs) else 1) f)
    by (inr t) = absurd (utf8_spells (first_bytes bs) h t.0 t.1)

pub not_utf8 : (bs : List ℕ) → (IsUtf8 bs → ⊥) → None ≡ rune_told bs
not_utf8 bs h = by (is_utf8 bs) refl
  where
    by : (t : Bool) → is_utf8 bs ≡ t → None ≡ (if t then slice_get (chars bs) 0 else None)
    by true e = absurd (h (IsUtf8-from_is_utf8 bs e))
    by false e = refl

pub utf8_told : (bs text : List ℕ) (r : Option ℕ) → r ≡ slice_get (chars text) 0 → text ≡ bs → IsUtf8 bs → r ≡ rune_told bs
utf8_told bs text r e f u = e ∙ ap (λ xs. slice_get (chars xs) 0) f ∙ sym (ap (λ t. if t then slice_get (chars bs) 0 else None) (is_utf8-from_IsUtf8 bs u))

-- ---- the bytes from a place on

whole : (bs : List ℕ) (n : ℕ) → length bs ≤ n → take n bs ≡ bs
whole [] zero h = refl
whole [] (suc n) h = refl
whole (b ∷ bs) zero h = absurd (omega arith)
whole (b ∷ bs) (suc n) h = ap (λ us. b ∷ us) (whole bs n (omega arith))

rest : (bs : List ℕ) (s : ℕ) → take (length bs - s) (drop s bs) ≡ drop s bs
rest bs s = whole (drop s bs) (length bs - s) (omega (arith, length-drop s bs))

pub rune_told_at : (bytes : List ℕ) (place code width : ℕ) → place < length bytes → code ≡ rune_code (take (length bytes - place) (drop place bytes)) → width ≡ rune_width (take (length bytes - place) (drop place bytes))
    → 0 < width → width ≤ length (take (length bytes - place) (drop place bytes)) → (n : ℕ) → IsRunePlace bytes n place
    → (rune_at (runes_of bytes) n ≡ Whole (pos place) ∷ Whole (pos code) ∷ []) × (IsRunePlace bytes (n + 1) (place + width) × (n < length (runes_of bytes)))
rune_told_at bytes place code width h ec ew p q n i =
    let r = rest bytes place in
    let c : code ≡ rune_code (drop place bytes) = ec ∙ ap rune_code r in
    let w : width ≡ rune_width (drop place bytes) = ew ∙ ap rune_width r in
    let some : 0 < rune_width (drop place bytes) = subst (λ (k : ℕ). 0 < k) w p in
    let within : rune_width (drop place bytes) ≤ length (drop place bytes) = subst (λ (k : ℕ). k ≤ length (drop place bytes)) w (subst (λ (xs : List ℕ). width ≤ length xs) r q) in
    let one : suc n ≡ n + 1 = omega arith in (
      rune_here bytes n place i h some within ∙ ap (λ (k : ℕ). Whole (pos place) ∷ Whole (pos k) ∷ []) (sym c),
      (subst (λ (k : ℕ). IsRunePlace bytes k (place + width)) one (subst (λ (k : ℕ). IsRunePlace bytes (suc n) (place + k)) (sym w) (next_place bytes n place i h some within)), number_within bytes n place i h some within),
    )
