-- Nodes agree with their parts where only parts change that no such rule speaks of.
use Rattle.std.proofs.Common.{◌≡◌, ℕ, zero, suc, Bool, true, false, List, [], ◌∷◌, refl, ◌∙◌}
use Rattle.std.specs.Prelude.{◌&&◌, nat_le}
use Rattle.go_tokens.specs.declared.token.TokenKind.{TokenKind}
use Rattle.go_grammar.specs.declared.kind.Kind.{Kind}
use Rattle.go_grammar.specs.declared.kind.Kind.TheVariants as kind
use Rattle.go_grammar.specs.declared.kind.Category.{Category}
use Rattle.go_grammar.specs.Categories.{place_of}
use Rattle.go_grammar.specs.Rules.{Items, Rule, End, Then, Maybe, Unless, Many, item}
use Rattle.go_grammar.specs.Trees.{Tree, node, Trees, none, more, skip, last, parts, onto}
use Rattle.go_grammar.specs.Grammar.{rule, agrees, are_names, count, first_parts, Derives, Spells, Goes}
use Rattle.go_grammar.proofs.Public.{and_both}
use Rattle.go_rewriting.specs.Replacing.{agree, agree_all}
use Rattle.go_rewriting.specs.Places.{Patch, keep, put, inside, Patches, done, part, run, items_behind, carry, carries, become, become_all, agreed, all_agreed}
use Rattle.go_rewriting.specs.Sites.{Local, whole, items, Site, parts_of, next_patch, other_patches, nth_patch, set_patch, patches_behind, add_run, insert, patch_of, is_free, may_change, is_free_for, is_clear, is_clear_in, all_clear}
use Rattle.go_rewriting.proofs.Kept.{agrees_carried}

pub both_true : (a b : Bool) → a ≡ true → b ≡ true → a && b ≡ true
both_true true b h g = g
both_true false b h g = cc

-- the nodes of a derivation agree with their parts
module _ (ts : List TokenKind) where
  mutual
    pub derives_agree : (t : Tree) (c : Category) → Derives ts c t → agree t ≡ true
    derives_agree (node k a b ps) c h = both_true (agrees k ps) (agree_all ps) h.2 (spells_agree ps (rule (place_of c) k) a b h.1)

    spells_agree : (ps : Trees) (r : Rule) (i j : ℕ) → Spells ts r i ps j → agree_all ps ≡ true
    spells_agree none r i j h = refl
    spells_agree (more p ps) (End ws) i j h = absurd h
    spells_agree (skip ps) (End ws) i j h = absurd h
    spells_agree (more p ps) (Then ws c r) i j h = both_true (agree p) (agree_all ps) (derives_agree p c h.1) (spells_agree ps r (last p) j h.2)
    spells_agree (skip ps) (Then ws c r) i j h = absurd h
    spells_agree (more p ps) (Maybe ws c r) i j h = both_true (agree p) (agree_all ps) (derives_agree p c h.1) (spells_agree ps r (last p) j h.2)
    spells_agree (skip ps) (Maybe ws c r) i j h = spells_agree ps r h.0 j h.2
    spells_agree (more p ps) (Unless ws c us r) i j h = both_true (agree p) (agree_all ps) (derives_agree p c h.1) (spells_agree ps r (last p) j h.2)
    spells_agree (skip ps) (Unless ws c us r) i j h = spells_agree ps r h.0 j h.3
    spells_agree (more p ps) (Many ws l) i j h = both_true (agree p) (agree_all ps) (derives_agree p (item l) h.3) (goes_agree ps l (last p) j h.4)
    spells_agree (skip ps) (Many ws l) i j h = absurd h

    goes_agree : (ps : Trees) (l : Items) (i j : ℕ) → Goes ts l i ps j → agree_all ps ≡ true
    goes_agree none l i j h = refl
    goes_agree (more p ps) l i j h = both_true (agree p) (agree_all ps) (derives_agree p (item l) h.3) (goes_agree ps l (last p) j h.4)
    goes_agree (skip ps) l i j h = absurd h

free_agrees : (k : Kind) (ps : Trees) → is_free k ≡ true → agrees k ps ≡ true
free_agrees kind.NewNames ps h = cc
free_agrees kind.AssigningRange ps h = cc
free_agrees kind.DefiningRange ps h = cc
free_agrees kind.Parameters ps h = cc
free_agrees _ ps h = refl

module _ (m : ℕ → ℕ) where
  -- a row whose head keeps its patch has the first parts of a row that agrees
  first_same : (P : Trees → Bool) (n : ℕ) (q : Patch) (qs : Patches) (ps : Trees) → P (first_parts (become_all m ps qs)) ≡ true → P (first_parts (carries m ps)) ≡ true → P (first_parts (become_all m ps (set_patch (suc n) q qs))) ≡ true
  first_same P n q done none h g = h
  first_same P n q (part x qs) none h g = h
  first_same P n q (run c new qs) none h g = h
  first_same P n q done (more p ps) h g = h
  first_same P n q (part x qs) (more p ps) h g = h
  first_same P n q (run c new qs) (more p ps) h g = g
  first_same P n q done (skip ps) h g = h
  first_same P n q (part x qs) (skip ps) h g = h
  first_same P n q (run c new qs) (skip ps) h g = g

  -- a row with another patch for one part has as many parts as before, or as many as if all stay
  set_count : (P : ℕ → Bool) (n : ℕ) (w : Patch) (qs : Patches) (ps : Trees) → P (count (become_all m ps qs)) ≡ true → P (count (carries m ps)) ≡ true → P (count (become_all m ps (set_patch n w qs))) ≡ true
  set_count P zero w done none h g = h
  set_count P zero w done (more p ps) h g = h
  set_count P zero w done (skip ps) h g = h
  set_count P zero w (part x qs) none h g = h
  set_count P zero w (part x qs) (more p ps) h g = h
  set_count P zero w (part x qs) (skip ps) h g = h
  set_count P zero w (run c new qs) none h g = h
  set_count P zero w (run c new qs) (more p ps) h g = g
  set_count P zero w (run c new qs) (skip ps) h g = g
  set_count P (suc n) w done none h g = h
  set_count P (suc n) w done (more p ps) h g = set_count (λ k. P (suc k)) n w done ps h h
  set_count P (suc n) w done (skip ps) h g = set_count (λ k. P (suc k)) n w done ps h h
  set_count P (suc n) w (part x qs) none h g = h
  set_count P (suc n) w (part x qs) (more p ps) h g = set_count (λ k. P (suc k)) n w qs ps h g
  set_count P (suc n) w (part x qs) (skip ps) h g = set_count (λ k. P (suc k)) n w qs ps h g
  set_count P (suc n) w (run c new qs) none h g = h
  set_count P (suc n) w (run c new qs) (more p ps) h g = set_count (λ k. P (suc k)) n w done ps g g
  set_count P (suc n) w (run c new qs) (skip ps) h g = set_count (λ k. P (suc k)) n w done ps g g

  abbrev two : ℕ → Bool
  two n = nat_le n 2

  -- The same of the items of the first part of the first part.
  list_count : (n : ℕ) (w : Patch) (q : Patch) (t : Tree) → two (count (parts (become m t q))) ≡ true → two (count (parts (carry m t))) ≡ true → two (count (parts (become m t (inside (set_patch n w (parts_of q)))))) ≡ true
  list_count n w keep (node k a b ps) h g = set_count two n w done ps g g
  list_count n w (put s) (node k a b ps) h g = set_count two n w done ps g g
  list_count n w (inside qs) (node k a b ps) h g = set_count two n w qs ps h g

  first_count : (n : ℕ) (path : List ℕ) (x : Local) (q : Patch) (t : Tree) → two (count (first_parts (parts (become m t q)))) ≡ true → two (count (first_parts (parts (carry m t)))) ≡ true → two (count (first_parts (parts (become m t (insert (zero ∷ n ∷ path) x q))))) ≡ true
  first_count n path x q (node k a b none) h g = refl
  first_count n path x q (node k a b (skip ps)) h g = refl
  first_count n path x keep (node k a b (more p ps)) h g = list_count n (insert path x (nth_patch n done)) keep p g g
  first_count n path x (put s) (node k a b (more p ps)) h g = list_count n (insert path x (nth_patch n done)) keep p g g
  first_count n path x (inside done) (node k a b (more p ps)) h g = list_count n (insert path x (nth_patch n done)) keep p g g
  first_count n path x (inside (part q qs)) (node k a b (more p ps)) h g = list_count n (insert path x (nth_patch n (parts_of q))) q p h g
  first_count n path x (inside (run c new qs)) (node k a b (more p ps)) h g = list_count n (insert path x (nth_patch n done)) keep p g g

  range_agrees : (n : ℕ) (path : List ℕ) (x : Local) (qs : Patches) (ps : Trees) → two (count (first_parts (first_parts (become_all m ps qs)))) ≡ true → two (count (first_parts (first_parts (carries m ps)))) ≡ true → two (count (first_parts (first_parts (become_all m ps (set_patch zero (insert (zero ∷ n ∷ path) x (next_patch qs)) qs))))) ≡ true
  range_agrees n path x qs none h g = refl
  range_agrees n path x qs (skip ps) h g = refl
  range_agrees n path x done (more p ps) h g = first_count n path x keep p g g
  range_agrees n path x (part q qs) (more p ps) h g = first_count n path x q p h g
  range_agrees n path x (run c new qs) (more p ps) h g = first_count n path x keep p g g

  change_agrees : (k : Kind) (n : ℕ) (path : List ℕ) (x : Local) (qs : Patches) (ps : Trees) → may_change k n path ≡ true → agrees k (become_all m ps qs) ≡ true → agrees k (carries m ps) ≡ true → agrees k (become_all m ps (set_patch n (insert path x (nth_patch n qs)) qs)) ≡ true
  change_agrees kind.Parameters n path x qs ps e h g = cc
  change_agrees kind.NewNames zero path x qs ps e h g = cc
  change_agrees kind.NewNames (suc n) path x qs ps e h g = first_same are_names n (insert path x (nth_patch (suc n) qs)) qs ps h g
  change_agrees kind.AssigningRange zero [] x qs ps e h g = cc
  change_agrees kind.AssigningRange zero (zero ∷ []) x qs ps e h g = cc
  change_agrees kind.AssigningRange zero (zero ∷ n ∷ path) x qs ps e h g = range_agrees n path x qs ps h g
  change_agrees kind.AssigningRange zero (suc n ∷ path) x qs ps e h g = cc
  change_agrees kind.AssigningRange (suc n) path x qs ps e h g = first_same (λ z. nat_le (count (first_parts z)) 2) n (insert path x (nth_patch (suc n) qs)) qs ps h g
  change_agrees kind.DefiningRange zero [] x qs ps e h g = cc
  change_agrees kind.DefiningRange zero (zero ∷ []) x qs ps e h g = cc
  change_agrees kind.DefiningRange zero (zero ∷ n ∷ path) x qs ps e h g = range_agrees n path x qs ps h g
  change_agrees kind.DefiningRange zero (suc n ∷ path) x qs ps e h g = cc
  change_agrees kind.DefiningRange (suc n) path x qs ps e h g = first_same (λ z. nat_le (count (first_parts z)) 2) n (insert path x (nth_patch (suc n) qs)) qs ps h g
  change_agrees _ n path x qs ps e h g = refl

  next_agreed : (qs : Patches) (p : Tree) (ps : Trees) → all_agreed m (more p ps) qs ≡ true → agreed m p (next_patch qs) ≡ true
  next_agreed done p ps h = refl
  next_agreed (part q qs) p ps h = (and_both (agreed m p q) (all_agreed m ps qs) h).0
  next_agreed (run n new qs) p ps h = refl

  others_agreed : (qs : Patches) (p : Tree) (ps : Trees) → all_agreed m (more p ps) qs ≡ true → all_agreed m ps (other_patches qs) ≡ true
  others_agreed done p ps h = refl
  others_agreed (part q qs) p ps h = (and_both (agreed m p q) (all_agreed m ps qs) h).1
  others_agreed (run n new qs) p ps h = refl

  skip_agreed : (qs : Patches) (ps : Trees) → all_agreed m (skip ps) qs ≡ true → all_agreed m ps (other_patches qs) ≡ true
  skip_agreed done ps h = refl
  skip_agreed (part q qs) ps h = h
  skip_agreed (run n new qs) ps h = refl

  parts_agreed : (q : Patch) (k : Kind) (a b : ℕ) (ps : Trees) → agreed m (node k a b ps) q ≡ true → all_agreed m ps (parts_of q) ≡ true
  parts_agreed keep k a b ps h = refl
  parts_agreed (put s) k a b ps h = refl
  parts_agreed (inside qs) k a b ps h = (and_both (agrees k (become_all m ps qs)) (all_agreed m ps qs) h).1

  node_agrees : (q : Patch) (k : Kind) (a b : ℕ) (ps : Trees) → agrees k ps ≡ true → agreed m (node k a b ps) q ≡ true → agrees k (become_all m ps (parts_of q)) ≡ true
  node_agrees keep k a b ps g h = agrees_carried m k ps ∙ g
  node_agrees (put s) k a b ps g h = agrees_carried m k ps ∙ g
  node_agrees (inside qs) k a b ps g h = (and_both (agrees k (become_all m ps qs)) (all_agreed m ps qs) h).0

  nothing : (zs : Patches) → all_agreed m none zs ≡ true
  nothing done = refl
  nothing (part q zs) = refl
  nothing (run c new zs) = refl

  behind_agreed : (n : ℕ) (qs : Patches) (p : Tree) (ps : Trees) → all_agreed m (more p ps) qs ≡ true → all_agreed m (items_behind n ps) (patches_behind (suc n) qs) ≡ true
  behind_agreed zero qs p ps h = others_agreed qs p ps h
  behind_agreed (suc n) qs p none h = nothing (patches_behind n (other_patches (other_patches qs)))
  behind_agreed (suc n) qs p (more z ps) h = behind_agreed n (other_patches qs) z ps (others_agreed qs p (more z ps) h)
  behind_agreed (suc n) qs p (skip ps) h = nothing (patches_behind n (other_patches (other_patches qs)))

  pub run_agreed : (f n : ℕ) (new : Trees) (ps : Trees) (qs : Patches) → all_agreed m ps qs ≡ true → all_agreed m ps (add_run f n new qs) ≡ true
  run_agreed zero n new none qs h = refl
  run_agreed zero n new (more p ps) qs h = behind_agreed n qs p ps h
  run_agreed zero n new (skip ps) qs h = refl
  run_agreed (suc f) n new none qs h = refl
  run_agreed (suc f) n new (more p ps) qs h = both_true (agreed m p (next_patch qs)) (all_agreed m ps (add_run f n new (other_patches qs))) (next_agreed qs p ps h) (run_agreed f n new ps (other_patches qs) (others_agreed qs p ps h))
  run_agreed (suc f) n new (skip ps) qs h = run_agreed f n new ps (other_patches qs) (skip_agreed qs ps h)

  module _ (x : Local) where
    mutual
      insert_agreed : (path : List ℕ) (t : Tree) (q : Patch) → agree t ≡ true → agreed m t q ≡ true → is_clear path x t ≡ true → agreed m t (insert path x q) ≡ true
      insert_agreed [] t q g h e = local_agreed x t q g h e
        where
          local_agreed : (y : Local) (u : Tree) (z : Patch) → agree u ≡ true → agreed m u z ≡ true → is_free_for y u ≡ true → agreed m u (insert [] y z) ≡ true
          local_agreed (whole s) u z g h e = refl
          local_agreed (items f n new) (node k a b ps) z g h e = both_true (agrees k (become_all m ps (add_run f n new (parts_of z)))) (all_agreed m ps (add_run f n new (parts_of z))) (free_agrees k (become_all m ps (add_run f n new (parts_of z))) e) (run_agreed f n new ps (parts_of z) (parts_agreed z k a b ps h))
      insert_agreed (n ∷ path) (node k a b ps) q g h e =
          let old = and_both (agrees k ps) (agree_all ps) g in
          let way = and_both (may_change k n path) (is_clear_in n path x ps) e in
          let new = insert path x (nth_patch n (parts_of q)) in
          both_true (agrees k (become_all m ps (set_patch n new (parts_of q)))) (all_agreed m ps (set_patch n new (parts_of q)))
          (change_agrees k n path x (parts_of q) ps way.0 (node_agrees q k a b ps old.0 h) (agrees_carried m k ps ∙ old.0))
          (set_agreed n path ps (parts_of q) old.1 (parts_agreed q k a b ps h) way.1)

      set_agreed : (n : ℕ) (path : List ℕ) (ps : Trees) (qs : Patches) → agree_all ps ≡ true → all_agreed m ps qs ≡ true → is_clear_in n path x ps ≡ true → all_agreed m ps (set_patch n (insert path x (nth_patch n qs)) qs) ≡ true
      set_agreed n path none qs g h e = cc
      set_agreed zero path (more p ps) qs g h e =
          let old = and_both (agree p) (agree_all ps) g in
          both_true (agreed m p (insert path x (next_patch qs))) (all_agreed m ps (other_patches qs)) (insert_agreed path p (next_patch qs) old.0 (next_agreed qs p ps h) e) (others_agreed qs p ps h)
      set_agreed (suc n) path (more p ps) qs g h e =
          let old = and_both (agree p) (agree_all ps) g in
          both_true (agreed m p (next_patch qs)) (all_agreed m ps (set_patch n (insert path x (nth_patch n (other_patches qs))) (other_patches qs))) (next_agreed qs p ps h) (set_agreed n path ps (other_patches qs) old.1 (others_agreed qs p ps h) e)
      set_agreed zero path (skip ps) qs g h e = cc
      set_agreed (suc n) path (skip ps) qs g h e = set_agreed n path ps (other_patches qs) g (skip_agreed qs ps h) e

  pub sites_agreed : (t : Tree) (xs : List Site) → agree t ≡ true → all_clear t xs ≡ true → agreed m t (patch_of xs) ≡ true
  sites_agreed t [] g e = refl
  sites_agreed t (x ∷ xs) g e =
      let way = and_both (is_clear x.path x.change t) (all_clear t xs) e in
      insert_agreed x.change x.path t (patch_of xs) g (sites_agreed t xs g way.1) way.0

  -- where all nodes of the new tree agree with their parts, those on the way do
  onto_agree : (new ps : Trees) → agree_all (onto new ps) ≡ true → agree_all ps ≡ true
  onto_agree none ps h = h
  onto_agree (more p new) ps h = onto_agree new ps (and_both (agree p) (agree_all (onto new ps)) h).1
  onto_agree (skip new) ps h = onto_agree new ps h

  mutual
    pub agree_agreed : (q : Patch) (t : Tree) → agree (become m t q) ≡ true → agreed m t q ≡ true
    agree_agreed keep t h = refl
    agree_agreed (put s) t h = refl
    agree_agreed (inside qs) (node k a b ps) h =
        let both = and_both (agrees k (become_all m ps qs)) (agree_all (become_all m ps qs)) h in
        both_true (agrees k (become_all m ps qs)) (all_agreed m ps qs) both.0 (agree_row qs ps both.1)

    agree_row : (qs : Patches) (ps : Trees) → agree_all (become_all m ps qs) ≡ true → all_agreed m ps qs ≡ true
    agree_row done ps h = refl
    agree_row (part q qs) none h = refl
    agree_row (part q qs) (more p ps) h =
        let both = and_both (agree (become m p q)) (agree_all (become_all m ps qs)) h in
        both_true (agreed m p q) (all_agreed m ps qs) (agree_agreed q p both.0) (agree_row qs ps both.1)
    agree_row (part q qs) (skip ps) h = agree_row qs ps h
    agree_row (run n new qs) none h = refl
    agree_row (run n new qs) (more p ps) h = agree_row qs (items_behind n ps) (onto_agree new (become_all m (items_behind n ps) qs) h)
    agree_row (run n new qs) (skip ps) h = refl
