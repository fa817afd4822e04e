-- The runs that a patch replaces lie one behind the other, inside the tree.
use Rattle.std.proofs.Common.{◌≡◌, ℕ, zero, suc, ◌<◌, ◌≤◌, ◌⊎◌, inl, inr, true, false, List, [], ◌∷◌, ◌++◌, refl, sym, ap, subst, arith}
use Rattle.go_grammar.specs.declared.kind.Kind.{Kind}
use Rattle.go_grammar.specs.declared.kind.Kind.TheVariants as kind
use Rattle.go_grammar.specs.Trees.{Tree, node, Trees, none, more, skip, kind_of, first, last}
use Rattle.go_rewriting.specs.Places.{Patch, Patches, keep, put, inside, done, part, run, has_items, items_behind, items_end, Range, range, places, places_in, Ascending}
use Rattle.go_scopes_events.proofs.Public.{IsLaidOut, LieIn, behind_name, lie_order, laid_grows, true_false}
use Rattle.extract_names.specs.Gaps.{Gap, ranges, Among}
use Rattle.extract_names_derived.specs.Patches.{InLists, InParts, InCase, InList}
use Rattle.extract_names_derived.proofs.Fit.{front, IsFit, AreFit, Rises, front_from, front_below}

-- ---- ranges

pub ascend_order : (i j : ℕ) (rs : List Range) → Ascending i rs j → i ≤ j
ascend_order i j [] h = h
ascend_order i j (r ∷ rs) h = omega (arith, h.0, h.1, ascend_order r.upto j rs h.2)

ascend_from : (i k j : ℕ) (rs : List Range) → i ≤ k → Ascending k rs j → Ascending i rs j
ascend_from i k j [] le h = omega (arith, h)
ascend_from i k j (r ∷ rs) le h = (omega (arith, le, h.0), h.1, h.2)

ascend_append : (i k j : ℕ) (rs ss : List Range) → Ascending i rs k → Ascending k ss j → Ascending i (rs ++ ss) j
ascend_append i k j [] ss h g = ascend_from i k j ss h g
ascend_append i k j (r ∷ rs) ss h g = (h.0, h.1, ascend_append r.upto k j rs ss h.2 g)

pub ascend_member : (gs : List Gap) (i j : ℕ) → Ascending i (ranges gs) j → (g : Gap) → Among g gs → (i ≤ g.from) × (g.from < g.upto) × (g.upto ≤ j)
ascend_member [] i j h g a = absurd a
ascend_member (x ∷ gs) i j h g (inl e) =
    let end : x.upto ≤ j = ascend_order x.upto j (ranges gs) h.2 in
    subst (λ (z : Gap). (i ≤ z.from) × (z.from < z.upto) × (z.upto ≤ j)) (sym e) (h.0, h.1, end)
ascend_member (x ∷ gs) i j h g (inr a) = let r = ascend_member gs x.upto j h.2 g a in (omega (arith, h.0, h.1, r.0), r.1, r.2)

pub record SplitGaps (gs : List Gap) (rs ss : List Range) : Type 0 where
  pub before : List Gap
  pub behind : List Gap
  pub whole : gs ≡ before ++ behind
  pub first : rs ≡ ranges before
  pub second : ss ≡ ranges behind

pub split_gaps : (gs : List Gap) (rs ss : List Range) → rs ++ ss ≡ ranges gs → SplitGaps gs rs ss
split_gaps gs [] ss e = record { before = []; behind = gs; whole = refl; first = refl; second = e }
split_gaps [] (r ∷ rs) ss e = absurd cc
split_gaps (g ∷ gs) (r ∷ rs) ss e =
    let tail : rs ++ ss ≡ ranges gs = cc in
    let head : r ≡ range g.from g.upto = cc in
    let s = split_gaps gs rs ss tail in
    record { before = g ∷ s.before; behind = s.behind; whole = ap (λ z. g ∷ z) s.whole; first = by rs (ranges s.before) head s.first; second = s.second }
  where
    by : (xs ys : List Range) → r ≡ range g.from g.upto → xs ≡ ys → r ∷ xs ≡ range g.from g.upto ∷ ys
    by xs ys h t = cc

pub no_gaps : (gs : List Gap) → [] ≡ ranges gs → gs ≡ []
no_gaps [] e = refl
no_gaps (g ∷ gs) e = absurd cc

pub among_append : (g : Gap) (gs hs : List Gap) → Among g (gs ++ hs) → Among g gs ⊎ Among g hs
among_append g [] hs a = inr a
among_append g (x ∷ gs) hs (inl e) = inl (inl e)
among_append g (x ∷ gs) hs (inr a) = by (among_append g gs hs a)
  where
    by : Among g gs ⊎ Among g hs → Among g (x ∷ gs) ⊎ Among g hs
    by (inl b) = inl (inr b)
    by (inr b) = inr b

-- ---- runs of parts

pub lie_front : (k : Kind) (i x j : ℕ) (ps : Trees) → i < j → LieIn x j ps → AreFit k i ps → LieIn (front k i) j ps
lie_front k i x j none lt h f = omega (arith, lt, front_below k i)
lie_front k i x j (more p ps) lt h f = (f.1, h.1, h.2)
lie_front k i x j (skip ps) lt h f = lie_front k i x j ps lt h f

-- where one part and so many more end
pub record RunLies (n : ℕ) (p : Tree) (ps : Trees) (j : ℕ) : Type 0 where
  pub from : last p ≤ items_end n p ps
  pub upto : items_end n p ps ≤ j
  pub others : LieIn (items_end n p ps) j (items_behind n ps)

pub run_lies : (n : ℕ) (p : Tree) (ps : Trees) (j : ℕ) → has_items n ps ≡ true → LieIn (last p) j ps → RunLies n p ps j
run_lies zero p ps j e h = record { from = omega arith; upto = lie_order (last p) j ps h; others = h }
run_lies (suc n) p none j e h = absurd (true_false false e refl)
run_lies (suc n) p (more q qs) j e h =
    let r = run_lies n q qs j e h.2 in
    let grows : first q < last q = laid_grows q h.1 in
    record { from = omega (arith, h.0, grows, r.from); upto = r.upto; others = r.others }
run_lies (suc n) p (skip ps) j e h = absurd (true_false false e refl)

pub fit_behind : (n : ℕ) (k : Kind) (i : ℕ) (ps : Trees) → has_items n ps ≡ true → AreFit k i ps → AreFit k i (items_behind n ps)
fit_behind zero k i ps e h = h
fit_behind (suc n) k i none e h = absurd (true_false false e refl)
fit_behind (suc n) k i (more p ps) e h = fit_behind n k i ps e h.3
fit_behind (suc n) k i (skip ps) e h = absurd (true_false false e refl)

pub rises_behind : (n : ℕ) (p : Tree) (ps : Trees) → has_items n ps ≡ true → Rises (suc (last p)) ps → Rises (suc (items_end n p ps)) (items_behind n ps)
rises_behind zero p ps e h = h
rises_behind (suc n) p none e h = absurd (true_false false e refl)
rises_behind (suc n) p (more q qs) e h = rises_behind n q qs e h.1
rises_behind (suc n) p (skip ps) e h = absurd (true_false false e refl)

-- ---- patches

mutual
  pub ascend_tree : (t : Tree) (q : Patch) → IsLaidOut t → IsFit t → InLists t q → Ascending (front (kind_of t) (first t)) (places t q) (last t)
  ascend_tree (node k i j ps) keep h f l = omega (arith, front_below k i, h.0)
  ascend_tree (node k i j ps) (put s) h f l = absurd l
  ascend_tree (node kind.Block i j ps) (inside qs) h f l = ascend_list kind.Block i ps qs (suc i) j (lie_front kind.Block i i j ps h.0 h.1 f.1) f.1 l
  ascend_tree (node kind.Default i j ps) (inside qs) h f l = ascend_list kind.Default i ps qs (suc i) j (lie_front kind.Default i i j ps h.0 h.1 f.1) f.1 l
  ascend_tree (node kind.Case i j ps) (inside qs) h f l = ascend_case i ps qs (suc i) j (lie_front kind.Case i i j ps h.0 h.1 f.1) f.1 l
  ascend_tree (node k i j ps) (inside qs) h f l = ascend_parts k i ps qs (front k i) j (lie_front k i (behind_name k i) j ps h.0 h.1 f.1) f.1 l.1

  pub ascend_parts : (k : Kind) (i : ℕ) (ps : Trees) (qs : Patches) (x j : ℕ) → LieIn x j ps → AreFit k i ps → InParts ps qs → Ascending x (places_in ps qs) j
  ascend_parts k i ps done x j h f l = lie_order x j ps h
  ascend_parts k i none (part q qs) x j h f l = h
  ascend_parts k i (more p ps) (part q qs) x j h f l =
      let low : x ≤ front (kind_of p) (first p) = omega (arith, h.0, front_from (kind_of p) (first p)) in
      ascend_append x (last p) j (places p q) (places_in ps qs) (ascend_from x (front (kind_of p) (first p)) (last p) (places p q) low (ascend_tree p q h.1 f.2 l.0)) (ascend_parts k i ps qs (last p) j h.2 f.3 l.1)
  ascend_parts k i (skip ps) (part q qs) x j h f l = ascend_parts k i ps qs x j h f l
  ascend_parts k i ps (run n new qs) x j h f l = absurd l

  pub ascend_case : (i : ℕ) (ps : Trees) (qs : Patches) (x j : ℕ) → LieIn x j ps → AreFit kind.Case i ps → InCase ps qs → Ascending x (places_in ps qs) j
  ascend_case i (more e ps) (part keep qs) x j h f l =
      let grows : first e < last e = laid_grows e h.1 in
      ascend_from x (last e) j (places_in ps qs) (omega (arith, h.0, grows)) (ascend_list kind.Case i ps qs (last e) j h.2 f.3 l)
  ascend_case i (more e ps) (part (put s) qs) x j h f l = absurd l
  ascend_case i (more e ps) (part (inside rs) qs) x j h f l = absurd l
  ascend_case i (more e ps) done x j h f l = absurd l
  ascend_case i (more e ps) (run n new qs) x j h f l = absurd l
  ascend_case i none qs x j h f l = absurd l
  ascend_case i (skip ps) qs x j h f l = absurd l

  pub ascend_list : (k : Kind) (i : ℕ) (ps : Trees) (qs : Patches) (x j : ℕ) → LieIn x j ps → AreFit k i ps → InList ps qs → Ascending x (places_in ps qs) j
  ascend_list k i ps done x j h f l = lie_order x j ps h
  ascend_list k i none (part q qs) x j h f l = h
  ascend_list k i (more p ps) (part q qs) x j h f l =
      let low : x ≤ front (kind_of p) (first p) = omega (arith, h.0, front_from (kind_of p) (first p)) in
      ascend_append x (last p) j (places p q) (places_in ps qs) (ascend_from x (front (kind_of p) (first p)) (last p) (places p q) low (ascend_tree p q h.1 f.2 l.0)) (ascend_list k i ps qs (last p) j h.2 f.3 l.1)
  ascend_list k i (skip ps) (part q qs) x j h f l = ascend_list k i ps qs x j h f l
  ascend_list k i none (run n new qs) x j h f l = absurd l
  ascend_list k i (skip ps) (run n new qs) x j h f l = absurd l
  ascend_list k i (more p ps) (run n new qs) x j h f l =
      let r = run_lies n p ps j l.0 h.2 in
      let grows : first p < last p = laid_grows p h.1 in
      (h.0, omega (arith, grows, r.from), ascend_list k i (items_behind n ps) qs (items_end n p ps) j r.others (fit_behind n k i ps l.0 f.3) l.3)
