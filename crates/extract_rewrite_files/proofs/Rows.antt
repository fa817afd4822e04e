-- The holes of a choice, in order of place.
use Rattle.std.proofs.Common.{◌≡◌, ◌∙◌, ℕ, suc, ◌+◌, ◌-◌, ◌<◌, ◌≤◌, Bool, true, false, cond, List, [], ◌∷◌, ◌++◌, length, map, Option, Some, None, refl, ap, arith}
use Rattle.std.specs.Prelude.{slice_get}
use Rattle.std.specs.List.{AllByRecursion}
use Rattle.go_tokens.specs.declared.token.Token.{Token}
use Rattle.go_tokens.specs.Tokens.{AreOrdered, span_of}
use Rattle.go_rewriting.specs.Rewriting.{IsRange}
use Rattle.go_tree.specs.Units.{end_in, start_in}
use Rattle.go_types.specs.Trees.{TypeTree}
use Rattle.param_choose.specs.Choosing.{HoleParameter, is_parameter, parameter_with, parameters_from, type_in}
use Rattle.param_choose.specs.Holes.{Hole}
use Rattle.param_choose.specs.Members.{Member}
use Rattle.escape_check.specs.Places.{Sources}
use Rattle.extract_texts.specs.Texts.{hole_bytes}
use Rattle.extract_rewrite_files.specs.Sites.{HolesLie}
use Rattle.extract_rewrite_files.proofs.HoleCuts.{HolesInRow}
use Rattle.extract_rewrite_files.proofs.Ordered.{ends_before, ends_rise, inside_some}

-- ---- what holds of each hole holds of each parameter

pub each_place : {A : Type 0} (P : A → Type 0) (xs : List A) → ((n : ℕ) (x : A) → slice_get xs n ≡ Some x → P x) → AllByRecursion P xs
each_place P [] h = tt
each_place P (x ∷ xs) h = (h 0 x refl, each_place P xs (λ n y e. h (suc n) y e))

module _ (ms : List (Member TypeTree)) (t : Member TypeTree) where
  module _ (P : Hole TypeTree → Type 0) where
    one_parameter : (n : ℕ) (x : Hole TypeTree) (o : Option TypeTree) (ps : List (HoleParameter TypeTree)) (b : Bool) → P x → AllByRecursion (λ p. P p.hole) ps
        → AllByRecursion (λ p. P p.hole) (cond b (parameter_with t.start n x o) [] ++ ps)
    one_parameter n x o ps false h k = k
    one_parameter n x None ps true h k = k
    one_parameter n x (Some y) ps true h k = (h, k)

    pub all_parameters : (n : ℕ) (xs : List (Hole TypeTree)) → AllByRecursion P xs → AllByRecursion (λ p. P p.hole) (parameters_from ms t n xs)
    all_parameters n [] h = tt
    all_parameters n (x ∷ xs) h = one_parameter n x (type_in x.sort) (parameters_from ms t (suc n) xs) (is_parameter ms t n x) h.0 (all_parameters (suc n) xs h.1)

  -- in order by tokens
  abbrev pub Row : ℕ → ℕ → List (HoleParameter TypeTree) → Type 0
  Row i j [] = Unit {0}
  Row i j (p ∷ ps) = (i ≤ p.hole.from) × (p.hole.from < p.hole.upto) × (p.hole.upto ≤ j) × Row p.hole.upto j ps

  row_later : (i k j : ℕ) (ps : List (HoleParameter TypeTree)) → i ≤ k → Row k j ps → Row i j ps
  row_later i k j [] le h = tt
  row_later i k j (p ∷ ps) le h = (omega (arith, le, h.0), h.1, h.2, h.3)

  lie_end : (i : ℕ) (xs : List (Hole TypeTree)) (j : ℕ) → HolesLie i xs j → i ≤ j
  lie_end i [] j h = h
  lie_end i (x ∷ xs) j h = omega (arith, h.0, h.1, lie_end x.upto xs j h.2)

  one_row : (n : ℕ) (x : Hole TypeTree) (o : Option TypeTree) (ps : List (HoleParameter TypeTree)) (b : Bool) (i j : ℕ) → i ≤ x.from → x.from < x.upto → x.upto ≤ j → Row x.upto j ps
      → Row i j (cond b (parameter_with t.start n x o) [] ++ ps)
  one_row n x o ps false i j a b c h = row_later i x.upto j ps (omega (arith, a, b)) h
  one_row n x None ps true i j a b c h = row_later i x.upto j ps (omega (arith, a, b)) h
  one_row n x (Some y) ps true i j a b c h = (a, b, c, h)

  pub row_of : (n i : ℕ) (xs : List (Hole TypeTree)) (j : ℕ) → HolesLie i xs j → Row i j (parameters_from ms t n xs)
  row_of n i [] j h = tt
  row_of n i (x ∷ xs) j h =
      one_row n x (type_in x.sort) (parameters_from ms t (suc n) xs) (is_parameter ms t n x) i j h.0 h.1 (lie_end x.upto xs j h.2) (row_of (suc n) x.upto xs j h.2)

  -- and by bytes
  module _ (s : Sources) (ts : List Token) (size end : ℕ) (o : AreOrdered 0 (map span_of ts) size) where
    abbrev Ranged : HoleParameter TypeTree → Type 0
    Ranged p = IsRange ts (t.first + p.hole.from) (t.first + p.hole.upto) (hole_bytes s t p.hole).start (hole_bytes s t p.hole).end

    pub bytes_row : (ps : List (HoleParameter TypeTree)) (at i j : ℕ) → ((k : ℕ) → t.first + i ≤ k → k < length ts → at ≤ start_in (slice_get ts k)) → t.first + j ≤ length ts → end_in (slice_get ts (t.first + j - 1)) ≤ end
        → AllByRecursion Ranged ps → Row i j ps → HolesInRow s t at end ps
    bytes_row [] at i j low many high a r = tt
    bytes_row (p ∷ ps) at i j low many high a r =
        let q = a.0 in
        let from = t.first + p.hole.from in
        let upto = t.first + p.hole.upto in
        let starts : start_in (slice_get ts from) ≡ (hole_bytes s t p.hole).start = ap start_in q.has_first ∙ q.begins in
        let ends : end_in (slice_get ts (upto - 1)) ≡ (hole_bytes s t p.hole).end = ap end_in q.has_last ∙ q.ends in
        let some = r.1 in
        let le = low (t.first + p.hole.from) (omega (arith, r.0)) (inside_some ts (t.first + p.hole.from) q.first q.has_first) in
        let within = ends_rise ts 0 size o (t.first + p.hole.upto - 1) (t.first + j - 1) (omega (arith, r.2)) (omega (arith, many, r.1, r.2)) in (
          omega (arith, le, starts),
          omega (arith, within, high, ends),
          bytes_row ps (hole_bytes s t p.hole).end p.hole.upto j
              (λ k u v. let b = ends_before ts 0 size o (t.first + p.hole.upto - 1) k (omega (arith, u, some)) v in omega (arith, b, ends)) many high a.1 r.3,
        )

  -- there are no more of them than bytes
  pub count : (s : Sources) (ps : List (HoleParameter TypeTree)) (at end : ℕ) → at ≤ end → HolesInRow s t at end ps → AllByRecursion (λ p. (hole_bytes s t p.hole).start < (hole_bytes s t p.hole).end) ps → length ps + at ≤ end
  count s [] at end le h a = omega (arith, le)
  count s (p ∷ ps) at end le h a = let r = count s ps (hole_bytes s t p.hole).end end h.1 h.2 a.1 in omega (arith, r, h.0, a.0)
