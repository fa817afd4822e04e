-- The patch of several places fits where each place does, and what is in none of its places is in none of theirs.
use Rattle.std.proofs.Common.{◌≡◌, ℕ, zero, suc, ◌<◌, ◌≤◌, ◌⊎◌, inl, inr, Bool, true, false, List, [], ◌∷◌, Some, refl, sym, ap, subst, arith}
use Rattle.std.specs.Prelude.{◌++◌}
use Rattle.go_tokens.specs.declared.token.TokenKind.{TokenKind}
use Rattle.go_grammar.specs.declared.kind.Kind.{Kind}
use Rattle.go_grammar.specs.declared.kind.Category.{Category}
use Rattle.go_grammar.specs.Categories.{place_of}
use Rattle.go_grammar.specs.Rules.{Items, Rule, End, Then, Maybe, Unless, Many}
use Rattle.go_grammar.specs.Trees.{Tree, node, Trees, none, more, skip, first, last}
use Rattle.go_grammar.specs.Grammar.{rule}
use Rattle.go_rewriting.specs.Replacing.{subtree_at, subtree_in, asked_at, asked_in, next_category, next_rule}
use Rattle.go_rewriting.specs.Places.{Patch, keep, put, inside, Patches, done, part, run, has_items, items_behind, items_end, Range, places, places_in, Outside, Ascending, Fits, FitAll}
use Rattle.go_rewriting.specs.Sites.{Local, whole, items, Site, parts_of, next_patch, other_patches, nth_patch, set_patch, patches_behind, add_run, insert, patch_of, run_range, local_range, range_in, site_range, site_ranges, alone, Sits, AllSit}
use Rattle.go_rewriting.specs.Lists.{InOrder, Ordered}
use Rattle.go_rewriting.proofs.Order.{tree_order, row_order, run_ordered, both_outside, places_within}

-- fitting
module _ (ts us : List TokenKind) (m : ℕ → ℕ) where
  parts_fit : (q : Patch) (c : Category) (k : Kind) (a b : ℕ) (ps : Trees) → Fits ts us m c (node k a b ps) q → FitAll ts us m (rule (place_of c) k) ps (parts_of q)
  parts_fit keep c k a b ps f = tt
  parts_fit (put s) c k a b ps f = tt
  parts_fit (inside qs) c k a b ps f = f

  next_fits : (qs : Patches) (r : Rule) (p : Tree) (ps : Trees) → FitAll ts us m r (more p ps) qs → Fits ts us m (next_category r) p (next_patch qs)
  next_fits done r p ps f = tt
  next_fits (part q qs) r p ps f = f.0
  next_fits (run n new qs) r p ps f = tt

  others_fit : (qs : Patches) (r : Rule) (p : Tree) (ps : Trees) → FitAll ts us m r (more p ps) qs → FitAll ts us m (next_rule r) ps (other_patches qs)
  others_fit done r p ps f = tt
  others_fit (part q qs) r p ps f = f.1
  others_fit (run n new qs) r p ps f = tt

  left_fit : (qs : Patches) (r : Rule) (ps : Trees) → FitAll ts us m r (skip ps) qs → FitAll ts us m (next_rule r) ps (other_patches qs)
  left_fit done r ps f = tt
  left_fit (part q qs) r ps f = f
  left_fit (run n new qs) r ps f = tt

  behind_fit : (n : ℕ) (qs : Patches) (ws : List TokenKind) (l : Items) (p : Tree) (ps : Trees) → has_items n ps ≡ true → FitAll ts us m (Many ws l) (more p ps) qs → FitAll ts us m (Many ws l) (items_behind n ps) (patches_behind (suc n) qs)
  behind_fit zero qs ws l p ps e f = others_fit qs (Many ws l) p ps f
  behind_fit (suc n) qs ws l p none e f = cc
  behind_fit (suc n) qs ws l p (more q ps) e f = behind_fit n (other_patches qs) ws l q ps e (others_fit qs (Many ws l) p (more q ps) f)
  behind_fit (suc n) qs ws l p (skip ps) e f = cc

  run_fits : (f n : ℕ) (new : Trees) (ps : Trees) (r : Rule) (qs : Patches) → FitAll ts us m r ps qs → FitAll ts us m r ps (add_run f n new done) → FitAll ts us m r ps (add_run f n new qs)
  run_fits zero n new ps (End ws) qs h g = absurd g
  run_fits zero n new ps (Then ws c r) qs h g = absurd g
  run_fits zero n new ps (Maybe ws c r) qs h g = absurd g
  run_fits zero n new ps (Unless ws c us r) qs h g = absurd g
  run_fits zero n new none (Many ws l) qs h g = absurd g
  run_fits zero n new (more p ps) (Many ws l) qs h g = (g.0, g.1, g.2, behind_fit n qs ws l p ps g.0 h)
  run_fits zero n new (skip ps) (Many ws l) qs h g = absurd g
  run_fits (suc f) n new none r qs h g = absurd g
  run_fits (suc f) n new (more p ps) r qs h g = (next_fits qs r p ps h, run_fits f n new ps (next_rule r) (other_patches qs) (others_fit qs r p ps h) g.1)
  run_fits (suc f) n new (skip ps) r qs h g = run_fits f n new ps (next_rule r) (other_patches qs) (left_fit qs r ps h) g

  local_fits : (x : Local) (t : Tree) (c : Category) (q : Patch) → Fits ts us m c t q → Fits ts us m c t (alone x) → Fits ts us m c t (insert [] x q)
  local_fits (whole s) t c q h g = g
  local_fits (items f n new) (node k a b ps) c q h g = run_fits f n new ps (rule (place_of c) k) (parts_of q) (parts_fit q c k a b ps h) g

  module _ (x : Local) (o : Tree) (d : Category) (own : Fits ts us m d o (alone x)) where
    mutual
      pub insert_fits : (path : List ℕ) (t : Tree) (c : Category) (q : Patch) → Fits ts us m c t q → subtree_at path t ≡ Some o → asked_at c path t ≡ Some d → Fits ts us m c t (insert path x q)
      insert_fits [] t c q h e f =
          let same : o ≡ t = cc in
          let cat : d ≡ c = cc in
          local_fits x t c q h (subst (λ z. Fits ts us m z t (alone x)) cat (subst (λ z. Fits ts us m d z (alone x)) same own))
      insert_fits (n ∷ path) (node k a b ps) c q h e f = set_fits n path ps (rule (place_of c) k) (parts_of q) (parts_fit q c k a b ps h) e f

      set_fits : (n : ℕ) (path : List ℕ) (ps : Trees) (r : Rule) (qs : Patches) → FitAll ts us m r ps qs → subtree_in n path ps ≡ Some o → asked_in r n path ps ≡ Some d → FitAll ts us m r ps (set_patch n (insert path x (nth_patch n qs)) qs)
      set_fits n path none r qs h e f = cc
      set_fits zero path (more p ps) r qs h e f = (insert_fits path p (next_category r) (next_patch qs) (next_fits qs r p ps h) e f, others_fit qs r p ps h)
      set_fits (suc n) path (more p ps) r qs h e f = (next_fits qs r p ps h, set_fits n path ps (next_rule r) (other_patches qs) (others_fit qs r p ps h) e f)
      set_fits zero path (skip ps) r qs h e f = cc
      set_fits (suc n) path (skip ps) r qs h e f = set_fits n path ps (next_rule r) (other_patches qs) (left_fit qs r ps h) e f

  pub sites_fit : (c : Category) (t : Tree) (xs : List Site) → AllSit ts us m c t xs → Fits ts us m c t (patch_of xs)
  sites_fit c t [] h = tt
  sites_fit c t (x ∷ xs) h = insert_fits x.change h.0.old h.0.category h.0.fits x.path t c (patch_of xs) (sites_fit c t xs h.1) h.0.stood h.0.asked

-- places
abbrev pub Ahead : ℕ → List Range → Type 0
Ahead j [] = Unit {0}
Ahead j (r ∷ rs) = (j ≤ r.from) × Ahead j rs

ahead_both : (xs ys : List Range) (j : ℕ) → Ahead j xs → Ahead j ys → Ahead j (xs ++ ys)
ahead_both [] ys j h g = g
ahead_both (x ∷ xs) ys j h g = (h.0, ahead_both xs ys j h.1 g)

ahead_left : (xs ys : List Range) (j : ℕ) → Ahead j (xs ++ ys) → Ahead j xs
ahead_left [] ys j h = tt
ahead_left (x ∷ xs) ys j h = (h.0, ahead_left xs ys j h.1)

ahead_right : (xs ys : List Range) (j : ℕ) → Ahead j (xs ++ ys) → Ahead j ys
ahead_right [] ys j h = h
ahead_right (x ∷ xs) ys j h = ahead_right xs ys j h.1

outside_left : (xs ys : List Range) (n : ℕ) → Outside n (xs ++ ys) → Outside n xs
outside_left [] ys n h = tt
outside_left (x ∷ xs) ys n h = (h.0, outside_left xs ys n h.1)

outside_right : (xs ys : List Range) (n : ℕ) → Outside n (xs ++ ys) → Outside n ys
outside_right [] ys n h = h
outside_right (x ∷ xs) ys n h = outside_right xs ys n h.1

-- a subtree lies inside
mutual
  pub sub_order : (path : List ℕ) (t o : Tree) → InOrder t → subtree_at path t ≡ Some o → (first t ≤ first o) × (last o ≤ last t) × InOrder o
  sub_order [] t o h e = let same : t ≡ o = cc in (omega (arith, ap first same), omega (arith, ap last same), subst InOrder same h)
  sub_order (n ∷ path) (node k a b ps) o h e = sub_row n path ps o a b h.1 e

  pub sub_row : (n : ℕ) (path : List ℕ) (ps : Trees) (o : Tree) (i j : ℕ) → Ordered i ps j → subtree_in n path ps ≡ Some o → (i ≤ first o) × (last o ≤ j) × InOrder o
  sub_row n path none o i j h e = cc
  sub_row zero path (more p ps) o i j h e = let r = sub_order path p o h.1 e in (omega (arith, h.0, r.0), omega (arith, r.1, row_order ps (last p) j h.2), r.2)
  sub_row (suc n) path (more p ps) o i j h e = let r = sub_row n path ps o (last p) j h.2 e in (omega (arith, h.0, tree_order p h.1, r.0), r.1, r.2)
  sub_row zero path (skip ps) o i j h e = cc
  sub_row (suc n) path (skip ps) o i j h e = sub_row n path ps o i j h e

-- is there a run
abbrev pub has_run : ℕ → ℕ → Trees → Bool
has_run f n none = false
has_run zero n (more p ps) = has_items n ps
has_run zero n (skip ps) = false
has_run (suc f) n (more p ps) = has_run f n ps
has_run (suc f) n (skip ps) = has_run f n ps

run_lies : (f n : ℕ) (ps : Trees) (i j : ℕ) → Ordered i ps j → has_run f n ps ≡ true → (i ≤ (run_range f n ps).from) × ((run_range f n ps).from < (run_range f n ps).upto) × ((run_range f n ps).upto ≤ j)
run_lies f n none i j h e = cc
run_lies zero n (more p ps) i j h e = let r = run_ordered n p ps j h.2 in (h.0, omega (arith, tree_order p h.1, r.0), row_order (items_behind n ps) (items_end n p ps) j r.1)
run_lies zero n (skip ps) i j h e = cc
run_lies (suc f) n (more p ps) i j h e = let r = run_lies f n ps (last p) j h.2 e in (omega (arith, h.0, tree_order p h.1, r.0), r.1, r.2)
run_lies (suc f) n (skip ps) i j h e = run_lies f n ps i j h e

abbrev pub has_local : Local → Tree → Bool
has_local (whole s) t = true
has_local (items f n new) (node k a b ps) = has_run f n ps

local_lies : (x : Local) (t : Tree) → InOrder t → has_local x t ≡ true → (first t ≤ (local_range t x).from) × ((local_range t x).from < (local_range t x).upto) × ((local_range t x).upto ≤ last t)
local_lies (whole s) t h e = (omega arith, tree_order t h, omega arith)
local_lies (items f n new) (node k a b ps) h e = run_lies f n ps a b h.1 e

module _ (ts us : List TokenKind) (m : ℕ → ℕ) where
  pub fits_run : (f n : ℕ) (new : Trees) (ps : Trees) (r : Rule) → FitAll ts us m r ps (add_run f n new done) → has_run f n ps ≡ true
  fits_run zero n new ps (End ws) g = absurd g
  fits_run zero n new ps (Then ws c r) g = absurd g
  fits_run zero n new ps (Maybe ws c r) g = absurd g
  fits_run zero n new ps (Unless ws c us r) g = absurd g
  fits_run zero n new none (Many ws l) g = absurd g
  fits_run zero n new (more p ps) (Many ws l) g = g.0
  fits_run zero n new (skip ps) (Many ws l) g = absurd g
  fits_run (suc f) n new none r g = absurd g
  fits_run (suc f) n new (more p ps) r g = fits_run f n new ps (next_rule r) g.1
  fits_run (suc f) n new (skip ps) r g = fits_run f n new ps (next_rule r) g

  fits_local : (x : Local) (t : Tree) (c : Category) → Fits ts us m c t (alone x) → has_local x t ≡ true
  fits_local (whole s) t c g = refl
  fits_local (items f n new) (node k a b ps) c g = fits_run f n new ps (rule (place_of c) k) g

-- what is replaced of a row, from its head on
ahead_next : (qs : Patches) (p : Tree) (ps : Trees) (j : ℕ) → Ahead j (places_in (more p ps) qs) → Ahead j (places p (next_patch qs))
ahead_next done p ps j h = tt
ahead_next (part q qs) p ps j h = ahead_left (places p q) (places_in ps qs) j h
ahead_next (run n new qs) p ps j h = tt

ahead_others : (qs : Patches) (p : Tree) (ps : Trees) (j : ℕ) → Ahead j (places_in (more p ps) qs) → Ahead j (places_in ps (other_patches qs))
ahead_others done p ps j h = tt
ahead_others (part q qs) p ps j h = ahead_right (places p q) (places_in ps qs) j h
ahead_others (run n new qs) p ps j h = tt

ahead_skip : (qs : Patches) (ps : Trees) (j : ℕ) → Ahead j (places_in (skip ps) qs) → Ahead j (places_in ps (other_patches qs))
ahead_skip done ps j h = tt
ahead_skip (part q qs) ps j h = h
ahead_skip (run n new qs) ps j h = tt

ahead_parts : (q : Patch) (k : Kind) (a b : ℕ) (ps : Trees) (j : ℕ) → Ahead j (places (node k a b ps) q) → Ahead j (places_in ps (parts_of q))
ahead_parts keep k a b ps j h = tt
ahead_parts (put s) k a b ps j h = tt
ahead_parts (inside qs) k a b ps j h = h

out_row : (qs : Patches) (p : Tree) (ps : Trees) (j v : ℕ) → first p < j → Ahead j (places_in (more p ps) qs) → Outside v (places p (next_patch qs)) → Outside v (places_in ps (other_patches qs)) → Outside v (places_in (more p ps) qs)
out_row done p ps j v lt h a b = tt
out_row (part q qs) p ps j v lt h a b = both_outside (places p q) (places_in ps qs) v a b
out_row (run n new qs) p ps j v lt h a b = absurd (omega (arith, lt, h.0))

out_skip : (qs : Patches) (ps : Trees) (v : ℕ) → Outside v (places_in ps (other_patches qs)) → Outside v (places_in (skip ps) qs)
out_skip done ps v h = tt
out_skip (part q qs) ps v h = h
out_skip (run n new qs) ps v h = tt

out_node : (q : Patch) (k : Kind) (a b : ℕ) (ps : Trees) (j v : ℕ) → a < j → Ahead j (places (node k a b ps) q) → Outside v (places_in ps (parts_of q)) → Outside v (places (node k a b ps) q)
out_node keep k a b ps j v lt h o = tt
out_node (put s) k a b ps j v lt h o = absurd (omega (arith, lt, h.0))
out_node (inside qs) k a b ps j v lt h o = o

-- behind a run
out_behind : (n : ℕ) (qs : Patches) (p : Tree) (ps : Trees) (j v : ℕ) → InOrder p → Ordered (last p) ps j → has_items n ps ≡ true → Ahead (items_end n p ps) (places_in (more p ps) qs) → (v < first p) ⊎ (items_end n p ps ≤ v) → Outside v (places_in (items_behind n ps) (patches_behind (suc n) qs)) → Outside v (places_in (more p ps) qs)
out_behind n done p ps j v i h e a out o = tt
out_behind n (run c new qs) p ps j v i h e a out o = absurd (omega (arith, a.0, tree_order p i, (run_ordered n p ps j h).0))
out_behind zero (part q qs) p ps j v i h e a out o = both_outside (places p q) (places_in ps qs) v (places_within q p v i out) o
out_behind (suc n) (part q qs) p none j v i h e a out o = cc
out_behind (suc n) (part q qs) p (skip ps) j v i h e a out o = cc
out_behind (suc n) (part q qs) p (more z ps) j v i h e a (inl lt) o =
    both_outside (places p q) (places_in (more z ps) qs) v (places_within q p v i (inl lt)) (out_behind n qs z ps j v h.1 h.2 e (ahead_right (places p q) (places_in (more z ps) qs) (items_end n z ps) a) (inl (omega (arith, lt, tree_order p i, h.0))) o)
out_behind (suc n) (part q qs) p (more z ps) j v i h e a (inr le) o =
    let far : last z ≤ items_end n z ps = (run_ordered n z ps j h.2).0 in
    both_outside (places p q) (places_in (more z ps) qs) v (places_within q p v i (inr (omega (arith, le, far, tree_order z h.1, h.0)))) (out_behind n qs z ps j v h.1 h.2 e (ahead_right (places p q) (places_in (more z ps) qs) (items_end n z ps) a) (inr le) o)

pub out_run : (f n : ℕ) (new : Trees) (ps : Trees) (i j : ℕ) (qs : Patches) (v : ℕ) → Ordered i ps j → has_run f n ps ≡ true → Ahead (run_range f n ps).upto (places_in ps qs) → Outside v (places_in ps (add_run f n new qs)) → ((v < (run_range f n ps).from) ⊎ ((run_range f n ps).upto ≤ v)) × Outside v (places_in ps qs)
out_run f n new none i j qs v h e a o = cc
out_run zero n new (more p ps) i j qs v h e a o = (o.0, out_behind n qs p ps j v h.1 h.2 e a o.0 o.1)
out_run zero n new (skip ps) i j qs v h e a o = cc
out_run (suc f) n new (more p ps) i j qs v h e a o =
    let far = run_lies f n ps (last p) j h.2 e in
    let r = out_run f n new ps (last p) j (other_patches qs) v h.2 e (ahead_others qs p ps (run_range f n ps).upto a) (outside_right (places p (next_patch qs)) (places_in ps (add_run f n new (other_patches qs))) v o) in
    (r.0, out_row qs p ps (run_range f n ps).upto v (omega (arith, tree_order p h.1, far.0, far.1)) a (outside_left (places p (next_patch qs)) (places_in ps (add_run f n new (other_patches qs))) v o) r.1)
out_run (suc f) n new (skip ps) i j qs v h e a o =
    let r = out_run f n new ps i j (other_patches qs) v h e (ahead_skip qs ps (run_range f n ps).upto a) o in
    (r.0, out_skip qs ps v r.1)

out_local : (x : Local) (t : Tree) (q : Patch) (v : ℕ) → InOrder t → has_local x t ≡ true → Ahead (local_range t x).upto (places t q) → Outside v (places t (insert [] x q)) → ((v < (local_range t x).from) ⊎ ((local_range t x).upto ≤ v)) × Outside v (places t q)
out_local (whole s) t q v h e a o = (o.0, places_within q t v h o.0)
out_local (items f n new) (node k a b ps) q v h e l o =
    let far = run_lies f n ps a b h.1 e in
    let r = out_run f n new ps a b (parts_of q) v h.1 e (ahead_parts q k a b ps (run_range f n ps).upto l) o in
    (r.0, out_node q k a b ps (run_range f n ps).upto v (omega (arith, far.0, far.1)) l r.1)

module _ (x : Local) (s : Tree) (has : has_local x s ≡ true) where
  mutual
    pub insert_out : (path : List ℕ) (t : Tree) (q : Patch) (v : ℕ) → InOrder t → subtree_at path t ≡ Some s → Ahead (local_range s x).upto (places t q) → Outside v (places t (insert path x q)) → ((v < (local_range s x).from) ⊎ ((local_range s x).upto ≤ v)) × Outside v (places t q)
    insert_out [] t q v h e a o =
        let same : s ≡ t = cc in
        let r = out_local x t q v h (subst (λ z. has_local x z ≡ true) same has) (subst (λ z. Ahead (local_range z x).upto (places t q)) same a) o in
        (subst (λ z. (v < (local_range z x).from) ⊎ ((local_range z x).upto ≤ v)) (sym same) r.0, r.1)
    insert_out (n ∷ path) (node k a b ps) q v h e l o =
        let at = sub_row n path ps s a b h.1 e in
        let far = local_lies x s at.2 has in
        let r = set_out n path ps a b (parts_of q) v h.1 e (ahead_parts q k a b ps (local_range s x).upto l) o in
        (r.0, out_node q k a b ps (local_range s x).upto v (omega (arith, at.0, far.0, far.1)) l r.1)

    set_out : (n : ℕ) (path : List ℕ) (ps : Trees) (i j : ℕ) (qs : Patches) (v : ℕ) → Ordered i ps j → subtree_in n path ps ≡ Some s → Ahead (local_range s x).upto (places_in ps qs) → Outside v (places_in ps (set_patch n (insert path x (nth_patch n qs)) qs)) → ((v < (local_range s x).from) ⊎ ((local_range s x).upto ≤ v)) × Outside v (places_in ps qs)
    set_out n path none i j qs v h e a o = cc
    set_out zero path (more p ps) i j qs v h e a o =
        let at = sub_order path p s h.1 e in
        let far = local_lies x s at.2 has in
        let r = insert_out path p (next_patch qs) v h.1 e (ahead_next qs p ps (local_range s x).upto a) (outside_left (places p (insert path x (next_patch qs))) (places_in ps (other_patches qs)) v o) in
        (r.0, out_row qs p ps (local_range s x).upto v (omega (arith, at.0, far.0, far.1)) a r.1 (outside_right (places p (insert path x (next_patch qs))) (places_in ps (other_patches qs)) v o))
    set_out (suc n) path (more p ps) i j qs v h e a o =
        let at = sub_row n path ps s (last p) j h.2 e in
        let far = local_lies x s at.2 has in
        let others = set_patch n (insert path x (nth_patch n (other_patches qs))) (other_patches qs) in
        let r = set_out n path ps (last p) j (other_patches qs) v h.2 e (ahead_others qs p ps (local_range s x).upto a) (outside_right (places p (next_patch qs)) (places_in ps others) v o) in
        (r.0, out_row qs p ps (local_range s x).upto v (omega (arith, tree_order p h.1, at.0, far.0, far.1)) a (outside_left (places p (next_patch qs)) (places_in ps others) v o) r.1)
    set_out zero path (skip ps) i j qs v h e a o = cc
    set_out (suc n) path (skip ps) i j qs v h e a o =
        let r = set_out n path ps i j (other_patches qs) v h e (ahead_skip qs ps (local_range s x).upto a) o in
        (r.0, out_skip qs ps v r.1)

-- where the places begin
ahead_lower : (rs : List Range) (i j : ℕ) → i ≤ j → Ahead j rs → Ahead i rs
ahead_lower [] i j le h = tt
ahead_lower (r ∷ rs) i j le h = (omega (arith, le, h.0), ahead_lower rs i j le h.1)

ahead_behind : (n : ℕ) (qs : Patches) (p : Tree) (ps : Trees) (j : ℕ) → has_items n ps ≡ true → Ahead j (places_in (more p ps) qs) → Ahead j (places_in (items_behind n ps) (patches_behind (suc n) qs))
ahead_behind zero qs p ps j e h = ahead_others qs p ps j h
ahead_behind (suc n) qs p none j e h = cc
ahead_behind (suc n) qs p (more z ps) j e h = ahead_behind n (other_patches qs) z ps j e (ahead_others qs p (more z ps) j h)
ahead_behind (suc n) qs p (skip ps) j e h = cc

ahead_run : (f n : ℕ) (new : Trees) (ps : Trees) (qs : Patches) (j : ℕ) → has_run f n ps ≡ true → j ≤ (run_range f n ps).from → Ahead j (places_in ps qs) → Ahead j (places_in ps (add_run f n new qs))
ahead_run f n new none qs j e le h = cc
ahead_run zero n new (more p ps) qs j e le h = (le, ahead_behind n qs p ps j e h)
ahead_run zero n new (skip ps) qs j e le h = cc
ahead_run (suc f) n new (more p ps) qs j e le h = ahead_both (places p (next_patch qs)) (places_in ps (add_run f n new (other_patches qs))) j (ahead_next qs p ps j h) (ahead_run f n new ps (other_patches qs) j e le (ahead_others qs p ps j h))
ahead_run (suc f) n new (skip ps) qs j e le h = ahead_run f n new ps (other_patches qs) j e le (ahead_skip qs ps j h)

ahead_local : (x : Local) (t : Tree) (q : Patch) (j : ℕ) → has_local x t ≡ true → j ≤ (local_range t x).from → Ahead j (places t q) → Ahead j (places t (insert [] x q))
ahead_local (whole s) t q j e le h = (le, tt)
ahead_local (items f n new) (node k a b ps) q j e le h = ahead_run f n new ps (parts_of q) j e le (ahead_parts q k a b ps j h)

module _ (x : Local) (s : Tree) (has : has_local x s ≡ true) (j : ℕ) (le : j ≤ (local_range s x).from) where
  mutual
    insert_ahead : (path : List ℕ) (t : Tree) (q : Patch) → subtree_at path t ≡ Some s → Ahead j (places t q) → Ahead j (places t (insert path x q))
    insert_ahead [] t q e h =
        let same : s ≡ t = cc in
        ahead_local x t q j (subst (λ z. has_local x z ≡ true) same has) (subst (λ z. j ≤ (local_range z x).from) same le) h
    insert_ahead (n ∷ path) (node k a b ps) q e h = set_ahead n path ps (parts_of q) e (ahead_parts q k a b ps j h)

    set_ahead : (n : ℕ) (path : List ℕ) (ps : Trees) (qs : Patches) → subtree_in n path ps ≡ Some s → Ahead j (places_in ps qs) → Ahead j (places_in ps (set_patch n (insert path x (nth_patch n qs)) qs))
    set_ahead n path none qs e h = cc
    set_ahead zero path (more p ps) qs e h = ahead_both (places p (insert path x (next_patch qs))) (places_in ps (other_patches qs)) j (insert_ahead path p (next_patch qs) e (ahead_next qs p ps j h)) (ahead_others qs p ps j h)
    set_ahead (suc n) path (more p ps) qs e h = ahead_both (places p (next_patch qs)) (places_in ps (set_patch n (insert path x (nth_patch n (other_patches qs))) (other_patches qs))) j (ahead_next qs p ps j h) (set_ahead n path ps (other_patches qs) e (ahead_others qs p ps j h))
    set_ahead zero path (skip ps) qs e h = cc
    set_ahead (suc n) path (skip ps) qs e h = set_ahead n path ps (other_patches qs) e (ahead_skip qs ps j h)

module _ (ts us : List TokenKind) (m : ℕ → ℕ) (c : Category) (t : Tree) where
  range_is : (x : Site) (h : Sits ts us m c t x) → site_range t x ≡ local_range h.old x.change
  range_is x h = ap (λ z. range_in z x.change) h.stood

  sites_ahead : (xs : List Site) (i j : ℕ) → AllSit ts us m c t xs → Ascending i (site_ranges t xs) j → Ahead i (places t (patch_of xs))
  sites_ahead [] i j h a = tt
  sites_ahead (x ∷ xs) i j h a =
      let has = fits_local ts us m x.change h.0.old h.0.category h.0.fits in
      let le : i ≤ (local_range h.0.old x.change).from = subst (λ r. i ≤ r.from) (range_is x h.0) a.0 in
      insert_ahead x.change h.0.old has i le x.path t (patch_of xs) h.0.stood (ahead_lower (places t (patch_of xs)) i (site_range t x).upto (omega (arith, a.0, a.1)) (sites_ahead xs (site_range t x).upto j h.1 a.2))

  pub sites_out : (xs : List Site) (i j v : ℕ) → InOrder t → AllSit ts us m c t xs → Ascending i (site_ranges t xs) j → Outside v (places t (patch_of xs)) → Outside v (site_ranges t xs)
  sites_out [] i j v o h a out = tt
  sites_out (x ∷ xs) i j v o h a out =
      let has = fits_local ts us m x.change h.0.old h.0.category h.0.fits in
      let ahead = sites_ahead xs (site_range t x).upto j h.1 a.2 in
      let r = insert_out x.change h.0.old has x.path t (patch_of xs) v o h.0.stood (subst (λ z. Ahead z.upto (places t (patch_of xs))) (range_is x h.0) ahead) out in
      (subst (λ z. (v < z.from) ⊎ (z.upto ≤ v)) (sym (range_is x h.0)) r.0, sites_out xs (site_range t x).upto j v o h.1 a.2 r.1)
