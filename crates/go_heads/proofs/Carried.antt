-- Trees whose places are moved.
use Rattle.std.proofs.Common.{◌≡◌, ℕ, ◌<◌, ◌≤◌, refl, ap, ◌∙◌, arith}
use Rattle.go_grammar.specs.Trees.{Tree, node, Trees, none, more, skip, first, last}
use Rattle.go_rewriting.specs.Lists.{InOrder, Ordered}
use Rattle.go_rewriting.specs.Places.{carry, carries}
use Rattle.go_rewriting.proofs.Public.{tree_order, row_order}

module _ (f g : ℕ → ℕ) where
  mutual
    pub carry_twice : (t : Tree) → carry f (carry g t) ≡ carry (λ n. f (g n)) t
    carry_twice (node k i j ps) = ap (λ qs. node k (f (g i)) (f (g j)) qs) (carries_twice ps)

    carries_twice : (ps : Trees) → carries f (carries g ps) ≡ carries (λ n. f (g n)) ps
    carries_twice none = refl
    carries_twice (more t ts) = ap (λ x. more x (carries f (carries g ts))) (carry_twice t) ∙ ap (λ x. more (carry (λ n. f (g n)) t) x) (carries_twice ts)
    carries_twice (skip ts) = ap skip (carries_twice ts)

  -- two functions that are the same at the places of a tree
  module _ (lo hi : ℕ) (same : (n : ℕ) → lo ≤ n → n ≤ hi → f n ≡ g n) where
    mutual
      pub carry_along : (t : Tree) → InOrder t → lo ≤ first t → last t ≤ hi → carry f t ≡ carry g t
      carry_along (node k i j ps) h from to =
          ap (λ x. node k x (f j) (carries f ps)) (same i from (omega (arith, h.0, to)))
          ∙ ap (λ x. node k (g i) x (carries f ps)) (same j (omega (arith, h.0, from)) to)
          ∙ ap (λ x. node k (g i) (g j) x) (carries_along ps i j h.1 from to)

      carries_along : (ps : Trees) (i j : ℕ) → Ordered i ps j → lo ≤ i → j ≤ hi → carries f ps ≡ carries g ps
      carries_along none i j h from to = refl
      carries_along (more t ts) i j h from to =
          let in_t : first t < last t = tree_order t h.1 in
          let rest : last t ≤ j = row_order ts (last t) j h.2 in
          ap (λ x. more x (carries f ts)) (carry_along t h.1 (omega (arith, from, h.0)) (omega (arith, rest, to)))
          ∙ ap (λ x. more (carry g t) x) (carries_along ts (last t) j h.2 (omega (arith, from, h.0, in_t)) to)
      carries_along (skip ts) i j h from to = ap skip (carries_along ts i j h from to)
