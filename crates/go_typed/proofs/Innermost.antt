-- The innermost node over a token is the one that the walk finds.
use Rattle.std.proofs.Common.{◌≡◌, ◌∙◌, ◌⊎◌, inl, inr, ℕ, zero, suc, ◌+◌, ◌<◌, ◌≤◌, Bool, true, false, ◌++◌, length, Some, slice_get, ap, subst, refl, arith}
use Rattle.std.proofs.lemmas.List.{length-append}
use Rattle.std.specs.Prelude.{◌&&◌, nat_le, nat_lt}
use Rattle.go_typed.specs.Funcs.{is_tiled, are_tiled, size, sizes}
use Rattle.go_typed.specs.Places.{nodes, nodes_among, covers, IsInnermost, innermost, innermost_among}
use Rattle.go_typed.specs.Trees.{Typed, typed, Typeds, none, more, skip, first_of, last_of}
use Rattle.go_typed.proofs.ListPlaces.{get_right, get_left, get_within, Behind, get_either}
use Rattle.go_typed.proofs.Walks.{found, passed}

first_part : (a : Bool) (b c : Bool) → (a && b && c) ≡ true → a ≡ true
first_part true b c e = refl
first_part false b c e = cc

second_part : (a : Bool) (b c : Bool) → (a && b && c) ≡ true → b ≡ true
second_part true true c e = refl
second_part true false c e = cc
second_part false b c e = cc

third_part : (a : Bool) (b c : Bool) → (a && b && c) ≡ true → c ≡ true
third_part true true c e = e
third_part true false c e = cc
third_part false b c e = cc

is_le : (a b : ℕ) → nat_le a b ≡ true → a ≤ b
is_le a b e = grind (arith, e)

over_from : (a b t : ℕ) → (nat_le a t && nat_lt t b) ≡ true → a ≤ t
over_from a b t e = grind (arith, e)

over_to : (a b t : ℕ) → (nat_le a t && nat_lt t b) ≡ true → t < b
over_to a b t e = grind (arith, e)

over : (a b t : ℕ) → a ≤ t → t < b → (nat_le a t && nat_lt t b) ≡ true
over a b t h k = grind (arith, h, k)

module _ {T : Type 0} where
  mutual
    pub count_nodes : (x : Typed T) → length (nodes x) ≡ size x
    count_nodes (typed f i j l ps) = ap suc (count_among ps)

    pub count_among : (ps : Typeds T) → length (nodes_among ps) ≡ sizes ps
    count_among none = refl
    count_among (more p ps) =
        let a : length (nodes p) ≡ size p = count_nodes p in
        let b : length (nodes_among ps) ≡ sizes ps = count_among ps in
        let e : length (nodes p ++ nodes_among ps) ≡ length (nodes p) + length (nodes_among ps) = length-append (nodes p) (nodes_among ps) in
        omega (arith, a, b, e)
    count_among (skip ps) = count_among ps

  mutual
    -- a tree and parts begin before they end
    ends : (x : Typed T) → is_tiled x ≡ true → first_of x ≤ last_of x
    ends (typed f i j l ps) h = parts_end i j ps h

    parts_end : (i j : ℕ) (ps : Typeds T) → are_tiled i j ps ≡ true → i ≤ j
    parts_end i j none h = is_le i j h
    parts_end i j (more p ps) h =
        let a : i ≤ first_of p = is_le i (first_of p) (first_part (nat_le i (first_of p)) (is_tiled p) (are_tiled (last_of p) j ps) h) in
        let b : first_of p ≤ last_of p = ends p (second_part (nat_le i (first_of p)) (is_tiled p) (are_tiled (last_of p) j ps) h) in
        let d : last_of p ≤ j = parts_end (last_of p) j ps (third_part (nat_le i (first_of p)) (is_tiled p) (are_tiled (last_of p) j ps) h) in
        omega (arith, a, b, d)
    parts_end i j (skip ps) h = parts_end i j ps h

  mutual
    -- what is inside a tree lies inside its range
    within : (x : Typed T) (m : ℕ) (y : Typed T) → is_tiled x ≡ true → slice_get (nodes x) m ≡ Some y → (first_of x ≤ first_of y) × (last_of y ≤ last_of x)
    within (typed f i j l ps) zero y h e =
        let same : typed f i j l ps ≡ y = cc in
        (subst (λ z. i ≤ first_of z) same (omega arith), subst (λ z. last_of z ≤ j) same (omega arith))
    within (typed f i j l ps) (suc m) y h e = among i j ps m y h e

    among : (i j : ℕ) (ps : Typeds T) (m : ℕ) (y : Typed T) → are_tiled i j ps ≡ true → slice_get (nodes_among ps) m ≡ Some y → (i ≤ first_of y) × (last_of y ≤ j)
    among i j none m y h e = cc
    among i j (more p ps) m y h e =
        let a : i ≤ first_of p = is_le i (first_of p) (first_part (nat_le i (first_of p)) (is_tiled p) (are_tiled (last_of p) j ps) h) in
        let tp = second_part (nat_le i (first_of p)) (is_tiled p) (are_tiled (last_of p) j ps) h in
        let tps = third_part (nat_le i (first_of p)) (is_tiled p) (are_tiled (last_of p) j ps) h in
        let b : first_of p ≤ last_of p = ends p tp in
        let d : last_of p ≤ j = parts_end (last_of p) j ps tps in
        elim (get_either (nodes p) (nodes_among ps) m y e) [
          | inl g ↦ let w = within p m y tp g in (omega (arith, a, w.0), omega (arith, d, w.1))
          | inr g ↦ let w = among (last_of p) j ps g.place y tps g.there in (omega (arith, a, b, w.0), w.1)
        ]
    among i j (skip ps) m y h e = among i j ps m y h e

-- what a walk along parts finds: no node over the token, or the innermost one
record Found {T : Type 0} (t n : ℕ) (ps : Typeds T) : Type 0 where
  place : ℕ
  number : innermost_among t n ps ≡ n + place
  node : Typed T
  node_is : slice_get (nodes_among ps) place ≡ Some node
  stands : covers node t ≡ true
  around : (m : ℕ) (y : Typed T) → slice_get (nodes_among ps) m ≡ Some y → covers y t ≡ true → (m ≤ place) × (place < m + size y)

record Lacks {T : Type 0} (t n : ℕ) (ps : Typeds T) : Type 0 where
  number : innermost_among t n ps ≡ 0
  nowhere : (m : ℕ) (y : Typed T) → slice_get (nodes_among ps) m ≡ Some y → covers y t ≡ true → ⊥

module _ {T : Type 0} (t : ℕ) where
  whole : (f : _) (i j : ℕ) (l : _) (ps : Typeds T) → covers (typed f i j l ps) t ≡ true → Found t 1 ps ⊎ Lacks t 1 ps → IsInnermost (typed f i j l ps) t (innermost t (typed f i j l ps))
  whole f i j l ps cov (inl r) = record {
    node = r.node;
    node_is = let e : innermost_among t 1 ps ≡ suc r.place = r.number ∙ omega arith in ap (slice_get (nodes (typed f i j l ps))) e ∙ r.node_is;
    over = r.stands;
    around = λ m y e k. go m y e k;
  } where
    go : (m : ℕ) (y : Typed T) → slice_get (nodes (typed f i j l ps)) m ≡ Some y → covers y t ≡ true → (m ≤ innermost_among t 1 ps) × (innermost_among t 1 ps < m + size y)
    go zero y e k =
        let n : innermost_among t 1 ps ≡ 1 + r.place = r.number in
        let low : r.place < length (nodes_among ps) = get_within (nodes_among ps) r.place r.node r.node_is in
        let c : length (nodes_among ps) ≡ sizes ps = count_among ps in
        let same : typed f i j l ps ≡ y = cc in
        let s : suc (sizes ps) ≡ size y = ap size same in
        (omega arith, omega (arith, n, low, c, s))
    go (suc m) y e k =
        let n : innermost_among t 1 ps ≡ 1 + r.place = r.number in
        let a = r.around m y e k in
        (omega (arith, n, a.0), omega (arith, n, a.1))
  whole f i j l ps cov (inr r) = record {
    node = typed f i j l ps;
    node_is = ap (slice_get (nodes (typed f i j l ps))) r.number;
    over = cov;
    around = λ m y e k. go m y e k;
  } where
    go : (m : ℕ) (y : Typed T) → slice_get (nodes (typed f i j l ps)) m ≡ Some y → covers y t ≡ true → (m ≤ innermost_among t 1 ps) × (innermost_among t 1 ps < m + size y)
    go zero y e k =
        let n : innermost_among t 1 ps ≡ 0 = r.number in
        let same : typed f i j l ps ≡ y = cc in
        let s : suc (sizes ps) ≡ size y = ap size same in
        (omega (arith, n), omega (arith, n, s))
    go (suc m) y e k = absurd (r.nowhere m y e k)

  -- a part over the token, and what is behind it
  here : (n i j : ℕ) (p : Typed T) (ps : Typeds T) → is_tiled p ≡ true → are_tiled (last_of p) j ps ≡ true → covers p t ≡ true → IsInnermost p t (innermost t p) → Found t n (more p ps)
  here n i j p ps tp tps cov r = record {
    place = innermost t p;
    number = found t n p ps cov;
    node = r.node;
    node_is = get_left (nodes p) (nodes_among ps) (innermost t p) r.node r.node_is;
    stands = r.over;
    around = λ m y e k. go m y k (get_either (nodes p) (nodes_among ps) m y e);
  } where
    go : (m : ℕ) (y : Typed T) → covers y t ≡ true → (slice_get (nodes p) m ≡ Some y) ⊎ Behind (nodes p) (nodes_among ps) m y → (m ≤ innermost t p) × (innermost t p < m + size y)
    go m y k (inl g) = r.around m y g k
    go m y k (inr g) =
        let w = among (last_of p) j ps g.place y tps g.there in
        let a : first_of y ≤ t = over_from (first_of y) (last_of y) t k in
        let b : t < last_of p = over_to (first_of p) (last_of p) t cov in
        absurd (omega (arith, a, b, w.0))

  not_inside : (p : Typed T) (m : ℕ) (y : Typed T) → is_tiled p ≡ true → covers p t ≡ false → slice_get (nodes p) m ≡ Some y → covers y t ≡ true → ⊥
  not_inside p m y tp aside e k =
      let w = within p m y tp e in
      let a : first_of y ≤ t = over_from (first_of y) (last_of y) t k in
      let b : t < last_of y = over_to (first_of y) (last_of y) t k in
      let yes : covers p t ≡ true = over (first_of p) (last_of p) t (omega (arith, a, w.0)) (omega (arith, b, w.1)) in
      cc

  -- a part beside the token, and what is behind it
  behind : (n : ℕ) (p : Typed T) (ps : Typeds T) → is_tiled p ≡ true → covers p t ≡ false → Found t (n + size p) ps ⊎ Lacks t (n + size p) ps → Found t n (more p ps) ⊎ Lacks t n (more p ps)
  behind n p ps tp aside (inl r) = inl (record {
    place = length (nodes p) + r.place;
    number = let e : innermost_among t (n + size p) ps ≡ n + size p + r.place = r.number in let c : length (nodes p) ≡ size p = count_nodes p in passed t n p ps aside ∙ omega (arith, e, c);
    node = r.node;
    node_is = get_right (nodes p) (nodes_among ps) r.place ∙ r.node_is;
    stands = r.stands;
    around = λ m y e k. go m y k (get_either (nodes p) (nodes_among ps) m y e);
  }) where
    go : (m : ℕ) (y : Typed T) → covers y t ≡ true → (slice_get (nodes p) m ≡ Some y) ⊎ Behind (nodes p) (nodes_among ps) m y → (m ≤ length (nodes p) + r.place) × (length (nodes p) + r.place < m + size y)
    go m y k (inl g) = absurd (not_inside p m y tp aside g k)
    go m y k (inr g) = let a = r.around g.place y g.there k in let e : m ≡ length (nodes p) + g.place = g.place_is in (omega (arith, e, a.0), omega (arith, e, a.1))
  behind n p ps tp aside (inr r) = inr (record {
    number = passed t n p ps aside ∙ r.number;
    nowhere = λ m y e k. go m y k (get_either (nodes p) (nodes_among ps) m y e);
  }) where
    go : (m : ℕ) (y : Typed T) → covers y t ≡ true → (slice_get (nodes p) m ≡ Some y) ⊎ Behind (nodes p) (nodes_among ps) m y → ⊥
    go m y k (inl g) = not_inside p m y tp aside g k
    go m y k (inr g) = r.nowhere g.place y g.there k

  skipped : (n : ℕ) (ps : Typeds T) → Found t n ps ⊎ Lacks t n ps → Found t n (skip ps) ⊎ Lacks t n (skip ps)
  skipped n ps (inl r) = inl (record { place = r.place; number = r.number; node = r.node; node_is = r.node_is; stands = r.stands; around = r.around })
  skipped n ps (inr r) = inr (record { number = r.number; nowhere = r.nowhere })

  pick : (n i j : ℕ) (p : Typed T) (ps : Typeds T) (b : Bool) → covers p t ≡ b → is_tiled p ≡ true → are_tiled (last_of p) j ps ≡ true → (covers p t ≡ true → IsInnermost p t (innermost t p)) → Found t (n + size p) ps ⊎ Lacks t (n + size p) ps → Found t n (more p ps) ⊎ Lacks t n (more p ps)
  pick n i j p ps true e tp tps inside later = inl (here n i j p ps tp tps e (inside e))
  pick n i j p ps false e tp tps inside later = behind n p ps tp e later

  mutual
    pub finds_innermost : (x : Typed T) → is_tiled x ≡ true → covers x t ≡ true → IsInnermost x t (innermost t x)
    finds_innermost (typed f i j l ps) h cov = whole f i j l ps cov (looks 1 i j ps h)

    looks : (n i j : ℕ) (ps : Typeds T) → are_tiled i j ps ≡ true → Found t n ps ⊎ Lacks t n ps
    looks n i j none h = inr (record { number = refl; nowhere = λ m y e k. let impossible : ⊥ = cc in impossible })
    looks n i j (more p ps) h =
        let tp = second_part (nat_le i (first_of p)) (is_tiled p) (are_tiled (last_of p) j ps) h in
        let tps = third_part (nat_le i (first_of p)) (is_tiled p) (are_tiled (last_of p) j ps) h in
        pick n i j p ps (covers p t) refl tp tps (finds_innermost p tp) (looks (n + size p) (last_of p) j ps tps)
    looks n i j (skip ps) h = skipped n ps (looks n i j ps h)
