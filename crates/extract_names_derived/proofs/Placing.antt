-- How a copied run is placed: its tokens keep their order and their texts.
use Rattle.std.proofs.Common.{◌≡◌, ◌∙◌, ℕ, zero, suc, ◌+◌, ◌-◌, ◌<◌, ◌≤◌, ◌⊎◌, inl, inr, List, [], ◌∷◌, ◌++◌, length, take, drop, None, refl, sym, ap, subst, arith}
use Rattle.std.specs.Prelude.{slice_get}
use Rattle.std.proofs.lemmas.List.{length-take-le, length-drop}
use Rattle.go_rewriting.specs.Places.{Range, Ascending}
use Rattle.go_rewriting.specs.Replacing.{moved}
use Rattle.go_heads.specs.Functions.{Alone}
use Rattle.go_heads.specs.Names.{text_there, own_text}
use Rattle.extract_names.specs.Copies.{Replaced, Copy, StaysOutside, AtHole, IsKept, IsEdge}
use Rattle.extract_names.specs.Gaps.{Gap, moved_by, ranges, Among, Stays, AtEdge}
use Rattle.extract_names_derived.specs.Copies.{hole_gaps, PlacesRun, RunPlaced}
use Rattle.extract_names_derived.specs.Texts.{with_gaps}
use Rattle.extract_names_derived.proofs.Ascends.{ascend_order, ascend_member}
use Rattle.extract_names_derived.proofs.Stays.{stays_edge}
use Rattle.extract_names_derived.proofs.Texts.{low, high, get_left, get_right, get_drop, texts_stay, gap_stands, texts_end}

-- ---- moved tokens

-- each gap has a token
abbrev AllSome : List Gap → Type 0
AllSome [] = Unit {0}
AllSome (g ∷ gs) = (0 < length g.texts) × AllSome gs

above : (gs : List Gap) (i j t : ℕ) → Ascending i (ranges gs) j → AtEdge gs t → i ≤ t → i ≤ moved_by gs t
above [] i j t h e le = le
above (g ∷ gs) i j t h (inl x, e) le = omega (arith, low g gs t x, le)
above (g ∷ gs) i j t h (inr x, e) le = omega (arith, high g gs t (let lt : g.from < t = omega (arith, h.1, x) in lt), h.0)

rises : (gs : List Gap) (i j x y : ℕ) → Ascending i (ranges gs) j → AllSome gs → AtEdge gs x → AtEdge gs y → x < y → moved_by gs x < moved_by gs y
rises [] i j x y h s e f lt = lt
rises (g ∷ gs) i j x y h s (inl a, e) (inl b, f) lt = omega (arith, low g gs x a, low g gs y b, lt)
rises (g ∷ gs) i j x y h s (inl a, e) (inr b, f) lt = omega (arith, low g gs x a, high g gs y (let l : g.from < y = omega (arith, h.1, b) in l), s.0, a)
rises (g ∷ gs) i j x y h s (inr a, e) (inl b, f) lt = absurd (omega (arith, a, b, lt, h.1))
rises (g ∷ gs) i j x y h s (inr a, e) (inr b, f) lt =
    let m : g.upto ≤ moved_by gs x = above gs g.upto j x h.2 e a in
    let r : moved_by gs x < moved_by gs y = rises gs g.upto j x y h.2 s.1 e f lt in
    omega (arith, high g gs x (let l : g.from < x = omega (arith, h.1, a) in l), high g gs y (let l : g.from < y = omega (arith, h.1, b) in l), m, r)

steps_on : (gs : List Gap) (i j t : ℕ) → Ascending i (ranges gs) j → Stays gs t → moved_by gs (suc t) ≡ suc (moved_by gs t)
steps_on [] i j t h s = refl
steps_on (g ∷ gs) i j t h (inl a, s) = low g gs (suc t) (let l : suc t ≤ g.from = omega (arith, a) in l) ∙ ap suc (sym (low g gs t (let l : t ≤ g.from = omega (arith, a) in l)))
steps_on (g ∷ gs) i j t h (inr a, s) =
    let m : g.upto ≤ moved_by gs t = above gs g.upto j t h.2 (stays_edge gs t s) a in
    let r : moved_by gs (suc t) ≡ suc (moved_by gs t) = steps_on gs g.upto j t h.2 s in
    let p = high g gs (suc t) (let l : g.from < suc t = omega (arith, h.1, a) in l) in
    let q = high g gs t (let l : g.from < t = omega (arith, h.1, a) in l) in
    omega (arith, p, q, m, r)

-- ---- holes

module _ (w : ℕ → List ℕ) where
  some_holes : (hs : List Replaced) → AllSome (hole_gaps w hs)
  some_holes [] = tt
  some_holes (h ∷ hs) = (omega arith, some_holes hs)

  holes_stay : (hs : List Replaced) (t : ℕ) → StaysOutside hs t → Stays (hole_gaps w hs) t
  holes_stay [] t s = tt
  holes_stay (h ∷ hs) t s = (s.0, holes_stay hs t s.1)

  holes_edge : (hs : List Replaced) (t : ℕ) → AtHole hs t → AtEdge (hole_gaps w hs) t
  holes_edge [] t s = tt
  holes_edge (h ∷ hs) t s = (s.0, holes_edge hs t s.1)

  at_first : (hs : List Replaced) (i j : ℕ) → Ascending i (ranges (hole_gaps w hs)) j → (t : ℕ) → t ≤ i → AtHole hs t
  at_first [] i j h t le = tt
  at_first (x ∷ hs) i j h t le = (inl (omega (arith, h.0, le)), at_first hs x.upto j h.2 t (omega (arith, h.0, h.1, le)))

  at_last : (hs : List Replaced) (i j : ℕ) → Ascending i (ranges (hole_gaps w hs)) j → (t : ℕ) → j ≤ t → AtHole hs t
  at_last [] i j h t le = tt
  at_last (x ∷ hs) i j h t le = (inr (omega (arith, ascend_order x.upto j (ranges (hole_gaps w hs)) h.2, le)), at_last hs x.upto j h.2 t le)

  hole_among : (hs : List Replaced) (h : Replaced) → Among h hs → (g : Gap) × Among g (hole_gaps w hs) × (g.from ≡ h.from) × (g.upto ≡ h.upto) × (g.texts ≡ w h.parameter ∷ [])
  hole_among [] h a = absurd a
  hole_among (x ∷ hs) h (inl e) =
      subst (λ (z : Replaced). (g : Gap) × Among g (hole_gaps w (x ∷ hs)) × (g.from ≡ z.from) × (g.upto ≡ z.upto) × (g.texts ≡ w z.parameter ∷ [])) (sym e)
      (record { from = x.from; upto = x.upto; texts = w x.parameter ∷ []; means = λ i. None; declared = [] }, inl refl, refl, refl, refl)
  hole_among (x ∷ hs) h (inr a) = let r = hole_among hs h a in (r.0, inr r.1, r.2, r.3, r.4)

  hole_edge : (hs : List Replaced) (i j : ℕ) → Ascending i (ranges (hole_gaps w hs)) j → (h : Replaced) → Among h hs → AtHole hs h.from
  hole_edge [] i j o h a = absurd a
  hole_edge (x ∷ hs) i j o h (inl e) =
      subst (λ (z : Replaced). AtHole (x ∷ hs) z.from) (sym e) (inl (omega arith), at_first hs x.upto j o.2 x.from (omega (arith, o.1)))
  hole_edge (x ∷ hs) i j o h (inr a) =
      let g = hole_among hs h a in
      let m = ascend_member (hole_gaps w hs) x.upto j o.2 g.0 g.1 in
      (inr (omega (arith, m.0, g.2)), hole_edge hs x.upto j o.2 h a)

ascend_more : (i j k : ℕ) (rs : List Range) → Ascending i rs j → j ≤ k → Ascending i rs k
ascend_more i j k [] h le = omega (arith, h, le)
ascend_more i j k (r ∷ rs) h le = (h.0, h.1, ascend_more r.upto j k rs h.2 le)

get_take : {A : Type 0} (n : ℕ) (us : List A) (k : ℕ) → k < n → slice_get (take n us) k ≡ slice_get us k
get_take zero us k lt = absurd (omega (arith, lt))
get_take (suc n) [] k lt = refl
get_take (suc n) (u ∷ us) zero lt = refl
get_take (suc n) (u ∷ us) (suc k) lt = get_take n us k (omega (arith, lt))

-- ---- the run

module _ (a new : Alone) (c : Copy) (h : PlacesRun a new c) where
  abbrev w : ℕ → List ℕ
  w = own_text new

  abbrev gs : List Gap
  gs = hole_gaps w c.holes

  abbrev all : List (List ℕ)
  all = with_gaps gs a.texts

  order : c.from ≤ c.upto
  order = ascend_order c.from c.upto (ranges gs) h.apart

  edge_first : IsEdge c c.from
  edge_first = (omega arith, order, at_first w c.holes c.from c.upto h.apart c.from (omega arith))

  edge_last : IsEdge c c.upto
  edge_last = (order, omega arith, at_last w c.holes c.from c.upto h.apart c.upto (omega arith))

  moves_up : (x y : ℕ) → AtHole c.holes x → AtHole c.holes y → x < y → moved_by gs x < moved_by gs y
  moves_up x y e f lt = rises gs c.from c.upto x y h.apart (some_holes w c.holes) (holes_edge w c.holes x e) (holes_edge w c.holes y f) lt

  from_on : (x : ℕ) → IsEdge c x → c.from ≤ moved_by gs x
  from_on x e = above gs c.from c.upto x h.apart (holes_edge w c.holes x e.2) e.0

  place_rises : (x y : ℕ) → IsEdge c x → IsEdge c y → x < y → c.place x < c.place y
  place_rises x y e f lt = omega (arith, h.place x e, h.place y f, from_on x e, moves_up x y e.2 f.2 lt)

  kept_edge : (t : ℕ) → IsKept c t → IsEdge c t
  kept_edge t k = (k.0, omega (arith, k.1), outside_edge c.holes k.2)
    where
      outside_edge : (hs : List Replaced) → StaysOutside hs t → AtHole hs t
      outside_edge [] s = tt
      outside_edge (x ∷ hs) s = (by s.0, outside_edge hs s.1)
        where
          by : (t < x.from) ⊎ (x.upto ≤ t) → (t ≤ x.from) ⊎ (x.upto ≤ t)
          by (inl y) = inl (omega arith)
          by (inr y) = inr y

  -- behind a token that stays something may begin
  next_edge : (t : ℕ) → IsKept c t → IsEdge c (suc t)
  next_edge t k = (omega (arith, k.0), omega (arith, k.1), outside_next c.holes k.2)
    where
      outside_next : (hs : List Replaced) → StaysOutside hs t → AtHole hs (suc t)
      outside_next [] s = tt
      outside_next (x ∷ hs) s = (by s.0, outside_next hs s.1)
        where
          by : (t < x.from) ⊎ (x.upto ≤ t) → (suc t ≤ x.from) ⊎ (x.upto ≤ suc t)
          by (inl y) = inl (omega arith)
          by (inr y) = inr (omega arith)

  place_next : (t : ℕ) → IsKept c t → c.place (suc t) ≡ suc (c.place t)
  place_next t k = omega (arith, h.place t (kept_edge t k), h.place (suc t) (next_edge t k), from_on t (kept_edge t k), steps_on gs c.from c.upto t h.apart (holes_stay w c.holes t k.2))

  -- the texts that are placed
  far : moved_by gs c.upto ≤ length all
  far = by (end_or_before c.upto (length a.texts) h.long)
    where
      end_or_before : (x y : ℕ) → x ≤ y → (x ≡ y) ⊎ (x < y)
      end_or_before x y le = grind arith

      ends : moved_by gs (length a.texts) ≡ length all
      ends = texts_end a.texts gs c.from (ascend_more c.from c.upto (length a.texts) (ranges gs) h.apart h.long)

      by : (c.upto ≡ length a.texts) ⊎ (c.upto < length a.texts) → moved_by gs c.upto ≤ length all
      by (inl e) = omega (arith, ap (moved_by gs) e, ends)
      by (inr lt) = omega (arith, moves_up c.upto (length a.texts) (edge_last).2 (at_last w c.holes c.from c.upto h.apart (length a.texts) h.long) lt, ends)

  stands : (t k : ℕ) → c.place t ≡ moved c.from (length h.front) k → c.from ≤ k → k < moved_by gs c.upto → slice_get new.texts (c.place t) ≡ slice_get all k
  stands t k e lo hi =
      let n : ℕ = moved_by gs c.upto in
      let d : ℕ = k - c.from in
      let at : c.place t ≡ length h.front + d = omega (arith, e) in
      let there : c.from + d ≡ k = omega (arith, lo) in
      let taken : length (take n all) ≡ n = length-take-le n all far in
      let cut : length (drop c.from (take n all)) ≡ length (take n all) - c.from = length-drop c.from (take n all) in
      let within : d < length (drop c.from (take n all)) = omega (arith, taken, cut, hi, lo) in
      ap (λ us. slice_get us (c.place t)) h.texts ∙ ap (slice_get (h.front ++ (drop c.from (take n all) ++ h.back))) at ∙ get_right h.front (drop c.from (take n all) ++ h.back) d
      ∙ get_left (drop c.from (take n all)) h.back d within ∙ get_drop c.from (take n all) d ∙ ap (slice_get (take n all)) there ∙ get_take n all k hi

  long_apart : Ascending c.from (ranges gs) (length a.texts)
  long_apart = ascend_more c.from c.upto (length a.texts) (ranges gs) h.apart h.long

  place_texts : (t : ℕ) → IsKept c t → own_text new (c.place t) ≡ own_text a t
  place_texts t k =
      let e : IsEdge c t = kept_edge t k in
      ap text_there (stands t (moved_by gs t) (h.place t e) (from_on t e) (moves_up t c.upto e.2 (edge_last).2 k.1) ∙ texts_stay a.texts gs c.from t long_apart (holes_stay w c.holes t k.2))

  hole_lies : (x : Replaced) → Among x c.holes → (x.from < x.upto) × (x.from < c.upto) × IsEdge c x.from
  hole_lies x m =
      let g = hole_among w c.holes x m in
      let s = ascend_member gs c.from c.upto h.apart g.0 g.1 in
      let grows : x.from < x.upto = omega (arith, g.2, g.3, s.1) in
      let ends : x.upto ≤ c.upto = omega (arith, g.3, s.2) in
      let begins : c.from ≤ x.from = omega (arith, g.2, s.0) in
      (grows, omega (arith, grows, ends), (begins, omega (arith, grows, ends), hole_edge w c.holes c.from c.upto h.apart x m))

  place_named : (x : Replaced) → Among x c.holes → own_text new (c.place x.from) ≡ own_text new x.parameter
  place_named x m =
      let g = hole_among w c.holes x m in
      let l = hole_lies x m in
      let at : moved_by gs x.from + 0 ≡ moved_by gs x.from = omega arith in
      let here : moved_by gs x.from ≡ moved_by gs g.0.from + 0 = sym at ∙ ap (λ n. moved_by gs n + 0) (sym g.2) in
      let some : 0 < length g.0.texts = subst (λ us. 0 < length us) (sym g.4) (let z : 0 < 1 = omega arith in z) in
      ap text_there
      (stands x.from (moved_by gs x.from) (h.place x.from l.2) (from_on x.from l.2) (moves_up x.from c.upto (l.2).2 (edge_last).2 l.1) ∙ ap (slice_get all) here
      ∙ gap_stands a.texts gs c.from long_apart g.0 g.1 0 some ∙ ap (λ us. slice_get us 0) g.4)

  pub run_placed : RunPlaced a new c
  run_placed = record { rises = place_rises; edge = λ lt. (edge_first, edge_last); next = place_next; holes = hole_lies; texts = place_texts; named = place_named }
