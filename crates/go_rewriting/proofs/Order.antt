-- A tree's parts lie in order inside it; so what is in no replaced place is what is in no part that is replaced.
use Rattle.std.proofs.Common.{ℕ, zero, suc, ◌<◌, ◌≤◌, ◌⊎◌, inl, inr, List, [], ◌∷◌, arith}
use Rattle.std.specs.Prelude.{◌++◌}
use Rattle.go_tokens.specs.declared.token.TokenKind.{TokenKind}
use Rattle.go_grammar.specs.declared.kind.Category.{Category}
use Rattle.go_grammar.specs.Categories.{place_of}
use Rattle.go_grammar.specs.Rules.{Items, Rule, End, Then, Maybe, Unless, Many, item}
use Rattle.go_grammar.specs.Trees.{Tree, node, Trees, none, more, skip, first, last}
use Rattle.go_grammar.specs.Grammar.{rule, Derives, Spells, Goes}
use Rattle.go_grammar.proofs.Public.{words_order, gap_order, between_order, spells_order, goes_order, derives_grows}
use Rattle.go_rewriting.specs.Lists.{InOrder, Ordered}
use Rattle.go_rewriting.specs.Places.{Patch, keep, put, inside, Patches, done, part, run, items_behind, items_end, Range, places, places_in, Outside, Stays, Ascending}
use Rattle.go_rewriting.proofs.Kept.{Stay}

sooner : (ps : Trees) (i k j : ℕ) → i ≤ k → Ordered k ps j → Ordered i ps j
sooner none i k j le h = omega (arith, le, h)
sooner (more p ps) i k j le h = (omega (arith, le, h.0), h.1, h.2)
sooner (skip ps) i k j le h = sooner ps i k j le h

pub tree_order : (t : Tree) → InOrder t → first t < last t
tree_order (node k a b ps) h = h.0

pub row_order : (ps : Trees) (i j : ℕ) → Ordered i ps j → i ≤ j
row_order none i j h = h
row_order (more p ps) i j h = omega (arith, h.0, tree_order p h.1, row_order ps (last p) j h.2)
row_order (skip ps) i j h = row_order ps i j h

module _ (ts : List TokenKind) where
  mutual
    pub derives_ordered : (t : Tree) (c : Category) → Derives ts c t → InOrder t
    derives_ordered (node k a b ps) c h = (derives_grows ts (node k a b ps) c h, spells_ordered ps (rule (place_of c) k) a b h.1)

    pub spells_ordered : (ps : Trees) (r : Rule) (i j : ℕ) → Spells ts r i ps j → Ordered i ps j
    spells_ordered none r i j h = spells_order ts none r i j h
    spells_ordered (more p ps) (End ws) i j h = absurd h
    spells_ordered (skip ps) (End ws) i j h = absurd h
    spells_ordered (more p ps) (Then ws c r) i j h = (words_order ts ws i (first p) h.0, derives_ordered p c h.1, spells_ordered ps r (last p) j h.2)
    spells_ordered (skip ps) (Then ws c r) i j h = absurd h
    spells_ordered (more p ps) (Maybe ws c r) i j h = (words_order ts ws i (first p) h.0, derives_ordered p c h.1, spells_ordered ps r (last p) j h.2)
    spells_ordered (skip ps) (Maybe ws c r) i j h = sooner ps i h.0 j (words_order ts ws i h.0 h.1) (spells_ordered ps r h.0 j h.2)
    spells_ordered (more p ps) (Unless ws c us r) i j h = (words_order ts ws i (first p) h.0, derives_ordered p c h.1, spells_ordered ps r (last p) j h.2)
    spells_ordered (skip ps) (Unless ws c us r) i j h = sooner ps i h.0 j (words_order ts ws i h.0 h.1) (spells_ordered ps r h.0 j h.3)
    spells_ordered (more p ps) (Many ws l) i j h = (omega (arith, words_order ts ws i h.0 h.1, gap_order ts l h.0 (first p) h.2), derives_ordered p (item l) h.3, goes_ordered ps l (last p) j h.4)
    spells_ordered (skip ps) (Many ws l) i j h = absurd h

    pub goes_ordered : (ps : Trees) (l : Items) (i j : ℕ) → Goes ts l i ps j → Ordered i ps j
    goes_ordered none l i j h = goes_order ts none l i j h
    goes_ordered (more p ps) l i j h = (omega (arith, between_order ts l i h.0 h.1, gap_order ts l h.0 (first p) h.2), derives_ordered p (item l) h.3, goes_ordered ps l (last p) j h.4)
    goes_ordered (skip ps) l i j h = absurd h

pub both_outside : (xs ys : List Range) (n : ℕ) → Outside n xs → Outside n ys → Outside n (xs ++ ys)
both_outside [] ys n h g = g
both_outside (x ∷ xs) ys n h g = (h.0, both_outside xs ys n h.1 g)

-- items one behind the other, and what is behind so many
pub run_ordered : (n : ℕ) (p : Tree) (ps : Trees) (j : ℕ) → Ordered (last p) ps j → (last p ≤ items_end n p ps) × Ordered (items_end n p ps) (items_behind n ps) j
run_ordered zero p ps j h = (omega arith, h)
run_ordered (suc n) p none j h = (omega arith, h)
run_ordered (suc n) p (more q qs) j h = let r = run_ordered n q qs j h.2 in (omega (arith, h.0, tree_order q h.1, r.0), r.1)
run_ordered (suc n) p (skip ps) j h = (omega arith, row_order ps (last p) j h)

-- no place in front of a tree and none behind it is replaced in it
mutual
  pub places_within : (q : Patch) (t : Tree) (n : ℕ) → InOrder t → (n < first t) ⊎ (last t ≤ n) → Outside n (places t q)
  places_within keep t n h out = tt
  places_within (put s) t n h out = (out, tt)
  places_within (inside qs) (node k a b ps) n h out = places_among qs ps a b n h.1 out

  pub places_among : (qs : Patches) (ps : Trees) (i j : ℕ) (n : ℕ) → Ordered i ps j → (n < i) ⊎ (j ≤ n) → Outside n (places_in ps qs)
  places_among done ps i j n h out = tt
  places_among (part q qs) none i j n h out = tt
  places_among (part q qs) (more p ps) i j n h (inl out) =
      let in_p : first p < last p = tree_order p h.1 in
      both_outside (places p q) (places_in ps qs) n (places_within q p n h.1 (inl (omega (arith, h.0, out)))) (places_among qs ps (last p) j n h.2 (inl (omega (arith, h.0, in_p, out))))
  places_among (part q qs) (more p ps) i j n h (inr out) =
      let off : last p ≤ j = row_order ps (last p) j h.2 in
      both_outside (places p q) (places_in ps qs) n (places_within q p n h.1 (inr (omega (arith, off, out)))) (places_among qs ps (last p) j n h.2 (inr out))
  places_among (part q qs) (skip ps) i j n h out = places_among qs ps i j n h out
  places_among (run m new qs) none i j n h out = tt
  places_among (run m new qs) (more p ps) i j n h (inl out) =
      let r = run_ordered m p ps j h.2 in
      let in_p : first p < last p = tree_order p h.1 in
      (inl (omega (arith, h.0, out)), places_among qs (items_behind m ps) (items_end m p ps) j n r.1 (inl (omega (arith, h.0, in_p, r.0, out))))
  places_among (run m new qs) (more p ps) i j n h (inr out) =
      let r = run_ordered m p ps j h.2 in
      let off : items_end m p ps ≤ j = row_order (items_behind m ps) (items_end m p ps) j r.1 in
      (inr (omega (arith, off, out)), places_among qs (items_behind m ps) (items_end m p ps) j n r.1 (inr out))
  places_among (run m new qs) (skip ps) i j n h out = tt

pub ascending_order : (rs : List Range) (i j : ℕ) → Ascending i rs j → i ≤ j
ascending_order [] i j h = h
ascending_order (r ∷ rs) i j h = omega (arith, h.0, h.1, ascending_order rs r.upto j h.2)

ascending_from : (rs : List Range) (i k j : ℕ) → i ≤ k → Ascending k rs j → Ascending i rs j
ascending_from [] i k j le h = omega (arith, le, h)
ascending_from (r ∷ rs) i k j le h = (omega (arith, le, h.0), h.1, h.2)

ascending_both : (rs us : List Range) (i k j : ℕ) → Ascending i rs k → Ascending k us j → Ascending i (rs ++ us) j
ascending_both [] us i k j h g = ascending_from us i k j h g
ascending_both (r ∷ rs) us i k j h g = (h.0, h.1, ascending_both rs us r.upto k j h.2 g)

-- the replaced places lie one behind the other
mutual
  pub places_ascend : (q : Patch) (t : Tree) → InOrder t → Ascending (first t) (places t q) (last t)
  places_ascend keep t h = omega (arith, tree_order t h)
  places_ascend (put s) t h = (omega arith, tree_order t h, omega arith)
  places_ascend (inside qs) (node k a b ps) h = row_ascends qs ps a b h.1

  pub row_ascends : (qs : Patches) (ps : Trees) (i j : ℕ) → Ordered i ps j → Ascending i (places_in ps qs) j
  row_ascends done ps i j h = row_order ps i j h
  row_ascends (part q qs) none i j h = h
  row_ascends (part q qs) (more p ps) i j h = ascending_from (places p q ++ places_in ps qs) i (first p) j h.0 (ascending_both (places p q) (places_in ps qs) (first p) (last p) j (places_ascend q p h.1) (row_ascends qs ps (last p) j h.2))
  row_ascends (part q qs) (skip ps) i j h = row_ascends qs ps i j h
  row_ascends (run c new qs) none i j h = h
  row_ascends (run c new qs) (more p ps) i j h =
      let r = run_ordered c p ps j h.2 in
      let in_p : first p < last p = tree_order p h.1 in
      (h.0, omega (arith, in_p, r.0), row_ascends qs (items_behind c ps) (items_end c p ps) j r.1)
  row_ascends (run c new qs) (skip ps) i j h = row_order ps i j h

module _ (ts ts' : List TokenKind) (m : ℕ → ℕ) where
  abbrev mutual
    -- each token of the tree that is in no replaced place stays
    pub Keeps : Tree → Patch → Type 0
    Keeps t keep = Stay ts ts' m (first t) (last t)
    Keeps t (put s) = Unit {0}
    Keeps (node k a b ps) (inside qs) = KeepAll a ps qs b

    pub KeepAll : ℕ → Trees → Patches → ℕ → Type 0
    KeepAll i ps done j = Stay ts ts' m i j
    KeepAll i none (part q qs) j = Stay ts ts' m i j
    KeepAll i (more p ps) (part q qs) j = Stay ts ts' m i (first p) × Keeps p q × KeepAll (last p) ps qs j
    KeepAll i (skip ps) (part q qs) j = KeepAll i ps qs j
    KeepAll i none (run n new qs) j = Stay ts ts' m i j
    KeepAll i (more p ps) (run n new qs) j = Stay ts ts' m i (first p) × KeepAll (items_end n p ps) (items_behind n ps) qs j
    KeepAll i (skip ps) (run n new qs) j = Stay ts ts' m i j

  -- what stands in front of the next part stays
  pub stay_before : (qs : Patches) (ps : Trees) (i k j : ℕ) → Ordered k ps j → KeepAll i ps qs j → Stay ts ts' m i k
  stay_before done ps i k j h g = let off : k ≤ j = row_order ps k j h in λ n lo hi. g n lo (omega (arith, hi, off))
  stay_before (part q qs) none i k j h g = λ n lo hi. g n lo (omega (arith, hi, h))
  stay_before (part q qs) (more p ps) i k j h g = λ n lo hi. g.0 n lo (omega (arith, hi, h.0))
  stay_before (part q qs) (skip ps) i k j h g = stay_before qs ps i k j h g
  stay_before (run c new qs) none i k j h g = λ n lo hi. g n lo (omega (arith, hi, h))
  stay_before (run c new qs) (more p ps) i k j h g = λ n lo hi. g.0 n lo (omega (arith, hi, h.0))
  stay_before (run c new qs) (skip ps) i k j h g = let off : k ≤ j = row_order ps k j h in λ n lo hi. g n lo (omega (arith, hi, off))

  pub later : (qs : Patches) (ps : Trees) (i k j : ℕ) → i ≤ k → KeepAll i ps qs j → KeepAll k ps qs j
  later done ps i k j le g = λ n lo hi. g n (omega (arith, le, lo)) hi
  later (part q qs) none i k j le g = λ n lo hi. g n (omega (arith, le, lo)) hi
  later (part q qs) (more p ps) i k j le g = ((λ n lo hi. g.0 n (omega (arith, le, lo)) hi), g.1, g.2)
  later (part q qs) (skip ps) i k j le g = later qs ps i k j le g
  later (run c new qs) none i k j le g = λ n lo hi. g n (omega (arith, le, lo)) hi
  later (run c new qs) (more p ps) i k j le g = ((λ n lo hi. g.0 n (omega (arith, le, lo)) hi), g.1)
  later (run c new qs) (skip ps) i k j le g = λ n lo hi. g n (omega (arith, le, lo)) hi

  mutual
    pub keeps : (q : Patch) (t : Tree) → InOrder t → ((n : ℕ) → first t ≤ n → n < last t → Outside n (places t q) → Stays ts ts' m n) → Keeps t q
    keeps keep t h f = λ n lo hi. f n lo hi tt
    keeps (put s) t h f = tt
    keeps (inside qs) (node k a b ps) h f = keep_all qs ps a b h.1 f

    pub keep_all : (qs : Patches) (ps : Trees) (i j : ℕ) → Ordered i ps j → ((n : ℕ) → i ≤ n → n < j → Outside n (places_in ps qs) → Stays ts ts' m n) → KeepAll i ps qs j
    keep_all done ps i j h f = λ n lo hi. f n lo hi tt
    keep_all (part q qs) none i j h f = λ n lo hi. f n lo hi tt
    keep_all (part q qs) (more p ps) i j h f =
        let in_p : first p < last p = tree_order p h.1 in
        let off : last p ≤ j = row_order ps (last p) j h.2 in (
          (λ n lo hi. f n lo (omega (arith, hi, in_p, off)) (both_outside (places p q) (places_in ps qs) n (places_within q p n h.1 (inl hi)) (places_among qs ps (last p) j n h.2 (inl (omega (arith, hi, in_p)))))),
          keeps q p h.1 (λ n lo hi out. f n (omega (arith, lo, h.0)) (omega (arith, hi, off)) (both_outside (places p q) (places_in ps qs) n out (places_among qs ps (last p) j n h.2 (inl hi)))),
          keep_all qs ps (last p) j h.2 (λ n lo hi out. f n (omega (arith, lo, h.0, in_p)) hi (both_outside (places p q) (places_in ps qs) n (places_within q p n h.1 (inr lo)) out)),
        )
    keep_all (part q qs) (skip ps) i j h f = keep_all qs ps i j h f
    keep_all (run c new qs) none i j h f = λ n lo hi. f n lo hi tt
    keep_all (run c new qs) (more p ps) i j h f =
        let r = run_ordered c p ps j h.2 in
        let in_p : first p < last p = tree_order p h.1 in
        let off : items_end c p ps ≤ j = row_order (items_behind c ps) (items_end c p ps) j r.1 in (
          (λ n lo hi. f n lo (omega (arith, hi, in_p, r.0, off)) (inl hi, places_among qs (items_behind c ps) (items_end c p ps) j n r.1 (inl (omega (arith, hi, in_p, r.0))))),
          keep_all qs (items_behind c ps) (items_end c p ps) j r.1 (λ n lo hi out. f n (omega (arith, lo, h.0, in_p, r.0)) hi (inr lo, out)),
        )
    keep_all (run c new qs) (skip ps) i j h f = λ n lo hi. f n lo hi tt
