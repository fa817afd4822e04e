-- Names in place of expressions, one behind the other: these expressions are what the patch replaces.
use Rattle.std.proofs.Common.{◌≡◌, ◌∙◌, ℕ, zero, suc, ◌<◌, ◌≤◌, Bool, false, List, [], ◌∷◌, ◌++◌, Some, refl, sym, ap, subst, arith}
use Rattle.std.specs.List.{AllByRecursion}
use Rattle.go_grammar.specs.declared.kind.Kind.{Kind}
use Rattle.go_grammar.specs.Trees.{Tree, node, Trees, none, more, skip, first, last}
use Rattle.go_rewriting.specs.Lists.{InOrder, Ordered}
use Rattle.go_rewriting.specs.Places.{Patch, Patches, keep, put, inside, done, part, run, Range, range, places, places_in, Ascending}
use Rattle.go_rewriting.specs.Replacing.{subtree_at, subtree_in}
use Rattle.go_rewriting.specs.Sites.{whole, parts_of, next_patch, other_patches, nth_patch, set_patch, insert}
use Rattle.extract_names_derived.specs.Holes.{gives_operands, name_over, HolesIn, HolesInRow, HolesInList}
use Rattle.extract_names_holes.specs.Spots.{Spot, SpotStands, spot_patches, spot_ranges, ReplacesSpots}
use Rattle.extract_names_holes.proofs.Inserted.{spots_inside}

-- ---- ranges

pub ascend_order : (i j : ℕ) (rs : List Range) → Ascending i rs j → i ≤ j
ascend_order i j [] h = h
ascend_order i j (r ∷ rs) h = omega (arith, h.0, h.1, ascend_order r.upto j rs h.2)

pub ascend_from : (i k j : ℕ) (rs : List Range) → i ≤ k → Ascending k rs j → Ascending i rs j
ascend_from i k j [] le h = omega (arith, le, h)
ascend_from i k j (r ∷ rs) le h = (omega (arith, le, h.0), h.1, h.2)

pub ascend_append : (i k j : ℕ) (rs ss : List Range) → Ascending i rs k → Ascending k ss j → Ascending i (rs ++ ss) j
ascend_append i k j [] ss h g = ascend_from i k j ss h g
ascend_append i k j (r ∷ rs) ss h g = (h.0, h.1, ascend_append r.upto k j rs ss h.2 g)

pub ascend_left : (rs ss : List Range) (u j : ℕ) → Ascending u (rs ++ ss) j → Ascending u rs j
ascend_left [] ss u j h = ascend_order u j ss h
ascend_left (r ∷ rs) ss u j h = (h.0, h.1, ascend_left rs ss r.upto j h.2)

-- Places that end in front of where they begin are none.
none_there : (rs : List Range) (a b u j : ℕ) → Ascending a rs b → b ≤ u → Ascending u rs j → rs ≡ []
none_there [] a b u j h le g = refl
none_there (r ∷ rs) a b u j h le g = absurd (omega (arith, h.1, ascend_order r.upto b rs h.2, le, g.0))

-- ---- nothing but single parts is replaced

abbrev mutual
  pub Single : Tree → Patch → Type 0
  Single t keep = Unit {0}
  Single t (put s) = Unit {0}
  Single (node k i j ps) (inside qs) = Singles ps qs

  pub Singles : Trees → Patches → Type 0
  Singles ps done = Unit {0}
  Singles none (part q qs) = Unit {0}
  Singles (more p ps) (part q qs) = Single p q × Singles ps qs
  Singles (skip ps) (part q qs) = Singles ps qs
  Singles ps (run n new qs) = ⊥

module _ (v : ℕ → ℕ) where
  mutual
    holes_single : (o : Bool) (t : Tree) (q : Patch) → HolesIn v o t q → Single t q
    holes_single o t keep h = tt
    holes_single o t (put s) h = tt
    holes_single o (node k i j ps) (inside qs) h = row_single o k 0 ps qs h.1

    row_single : (o : Bool) (k : Kind) (n : ℕ) (ps : Trees) (qs : Patches) → HolesInRow v o k n ps qs → Singles ps qs
    row_single o k n ps done h = tt
    row_single o k n none (part q qs) h = tt
    row_single o k n (more p ps) (part keep qs) h = (tt, row_single o k (suc n) ps qs h)
    row_single o k n (more p ps) (part (put s) qs) h = (tt, row_single o k (suc n) ps qs h.3)
    row_single o k n (more p ps) (part (inside ts) qs) h = (holes_single (gives_operands k n) p (inside ts) h.0, row_single o k (suc n) ps qs h.1)
    row_single o k n (skip ps) (part q qs) h = row_single o k (suc n) ps qs h
    row_single o k n ps (run m new qs) h = absurd h

  pub list_single : (ps : Trees) (qs : Patches) → HolesInList v ps qs → Singles ps qs
  list_single ps done h = tt
  list_single none (part q qs) h = tt
  list_single (more p ps) (part q qs) h = (holes_single false p q h.0, list_single ps qs h.1)
  list_single (skip ps) (part q qs) h = list_single ps qs h
  list_single ps (run m new qs) h = absurd h

-- ---- in order

pub tree_grows : (t : Tree) → InOrder t → first t < last t
tree_grows (node k a b ps) h = h.0

pub row_order : (i j : ℕ) (ps : Trees) → Ordered i ps j → i ≤ j
row_order i j none h = h
row_order i j (more p ps) h = omega (arith, h.0, tree_grows p h.1, row_order (last p) j ps h.2)
row_order i j (skip ps) h = row_order i j ps h

-- a subtree lies inside
mutual
  pub sub_order : (path : List ℕ) (t s : Tree) → InOrder t → subtree_at path t ≡ Some s → (first t ≤ first s) × (first s < last s) × (last s ≤ last t)
  sub_order [] t s h e = let same : t ≡ s = cc in subst (λ z. (first t ≤ first z) × (first z < last z) × (last z ≤ last t)) same (omega arith, tree_grows t h, omega arith)
  sub_order (n ∷ path) (node k a b ps) s h e = sub_row n path ps s a b h.1 e

  pub sub_row : (n : ℕ) (path : List ℕ) (ps : Trees) (s : Tree) (i j : ℕ) → Ordered i ps j → subtree_in n path ps ≡ Some s → (i ≤ first s) × (first s < last s) × (last s ≤ j)
  sub_row n path none s i j h e = absurd cc
  sub_row zero path (more p ps) s i j h e = let r = sub_order path p s h.1 e in (omega (arith, h.0, r.0), r.1, omega (arith, r.2, row_order (last p) j ps h.2))
  sub_row (suc n) path (more p ps) s i j h e = let r = sub_row n path ps s (last p) j h.2 e in (omega (arith, h.0, tree_grows p h.1, r.0), r.1, r.2)
  sub_row zero path (skip ps) s i j h e = absurd cc
  sub_row (suc n) path (skip ps) s i j h e = sub_row n path ps s i j h e

-- what is replaced lies inside too
mutual
  pub tree_ascends : (t : Tree) (q : Patch) → InOrder t → Single t q → Ascending (first t) (places t q) (last t)
  tree_ascends t keep h s = let r = tree_grows t h in omega (arith, r)
  tree_ascends t (put u) h s = (omega arith, tree_grows t h, omega arith)
  tree_ascends (node k a b ps) (inside qs) h s = row_ascends a b ps qs h.1 s

  pub row_ascends : (i j : ℕ) (ps : Trees) (qs : Patches) → Ordered i ps j → Singles ps qs → Ascending i (places_in ps qs) j
  row_ascends i j ps done h s = row_order i j ps h
  row_ascends i j none (part q qs) h s = h
  row_ascends i j (more p ps) (part q qs) h s = ascend_append i (last p) j (places p q) (places_in ps qs) (ascend_from i (first p) (last p) (places p q) h.0 (tree_ascends p q h.1 s.0)) (row_ascends (last p) j ps qs h.2 s.1)
  row_ascends i j (skip ps) (part q qs) h s = row_ascends i j ps qs h s
  row_ascends i j ps (run n new qs) h s = absurd s

-- ---- rows from their heads on

pub row_next : (p : Tree) (ps : Trees) (qs : Patches) → Singles (more p ps) qs → Single p (next_patch qs)
row_next p ps done s = tt
row_next p ps (part q qs) s = s.0
row_next p ps (run n new qs) s = absurd s

pub row_other : (p : Tree) (ps : Trees) (qs : Patches) → Singles (more p ps) qs → Singles ps (other_patches qs)
row_other p ps done s = tt
row_other p ps (part q qs) s = s.1
row_other p ps (run n new qs) s = absurd s

pub row_skip : (ps : Trees) (qs : Patches) → Singles (skip ps) qs → Singles ps (other_patches qs)
row_skip ps done s = tt
row_skip ps (part q qs) s = s
row_skip ps (run n new qs) s = absurd s

pub skip_places : (ps : Trees) (qs : Patches) → Singles (skip ps) qs → places_in ps (other_patches qs) ≡ places_in (skip ps) qs
skip_places ps done s = refl
skip_places ps (part q qs) s = refl
skip_places ps (run n new qs) s = absurd s

pub node_parts : (k : Kind) (a b : ℕ) (ps : Trees) (q : Patch) → Single (node k a b ps) q → Singles ps (parts_of q)
node_parts k a b ps keep s = tt
node_parts k a b ps (put t) s = tt
node_parts k a b ps (inside qs) s = s

-- A part in front of all places has none.
module _ (p : Tree) (ps : Trees) (u j : ℕ) (order : InOrder p) (le : last p ≤ u) where
  next_none : (qs : Patches) → Singles (more p ps) qs → Ascending u (places_in (more p ps) qs) j → places p (next_patch qs) ≡ []
  next_none done s h = refl
  next_none (part q qs) s h = none_there (places p q) (first p) (last p) u j (tree_ascends p q order s.0) le (ascend_left (places p q) (places_in ps qs) u j h)
  next_none (run n new qs) s h = absurd s

  pub others_all : (qs : Patches) → Singles (more p ps) qs → Ascending u (places_in (more p ps) qs) j → places_in ps (other_patches qs) ≡ places_in (more p ps) qs
  others_all done s h = refl
  others_all (part q qs) s h = ap (λ rs. rs ++ places_in ps qs) (sym (next_none (part q qs) s h))
  others_all (run n new qs) s h = absurd s

-- ---- one more place

module _ (t' : Tree) (new : Tree) (j : ℕ) where
  abbrev pub own : Range
  own = range (first t') (last t')

  -- A node that is not replaced has the places of its parts.
  pub node_places : (k : Kind) (a b : ℕ) (ps : Trees) (q : Patch) → (a ≤ first t') × (first t' < last t') × (last t' ≤ b) → Ascending (last t') (places (node k a b ps) q) j → places (node k a b ps) q ≡ places_in ps (parts_of q)
  node_places k a b ps keep w h = refl
  node_places k a b ps (put s) w h = absurd (omega (arith, h.0, w.0, w.1))
  node_places k a b ps (inside qs) w h = refl

  mutual
    insert_places : (path : List ℕ) (t : Tree) (q : Patch) → InOrder t → Single t q → subtree_at path t ≡ Some t' → Ascending (last t') (places t q) j → places t (insert path (whole new) q) ≡ own ∷ places t q
    insert_places [] t q o s e h =
        let same : t ≡ t' = cc in
        let empty : places t q ≡ [] = none_there (places t q) (first t) (last t) (last t) j (tree_ascends t q o s) (omega arith) (subst (λ z. Ascending (last z) (places t q) j) (sym same) h) in
        ap (λ z. range (first z) (last z) ∷ []) same ∙ ap (λ z. own ∷ z) (sym empty)
    insert_places (n ∷ path) (node k a b ps) q o s e h =
        let same = node_places k a b ps q (sub_row n path ps t' a b o.1 e) h in
        set_places n path ps (parts_of q) a b o.1 (node_parts k a b ps q s) e (subst (λ z. Ascending (last t') z j) same h) ∙ ap (λ z. own ∷ z) (sym same)

    pub set_places : (n : ℕ) (path : List ℕ) (ps : Trees) (qs : Patches) (y c : ℕ) → Ordered y ps c → Singles ps qs → subtree_in n path ps ≡ Some t' → Ascending (last t') (places_in ps qs) j
        → places_in ps (set_patch n (insert path (whole new) (nth_patch n qs)) qs) ≡ own ∷ places_in ps qs
    set_places n path none qs y c o s e h = absurd cc
    set_places zero path (more p ps) done y c o s e h = ap (λ z. z ++ []) (insert_places path p keep o.1 tt e h)
    set_places zero path (more p ps) (part q qs) y c o s e h = ap (λ z. z ++ places_in ps qs) (insert_places path p q o.1 s.0 e (ascend_left (places p q) (places_in ps qs) (last t') j h))
    set_places zero path (more p ps) (run m x qs) y c o s e h = absurd s
    set_places (suc n) path (more p ps) qs y c o s e h =
        let w = sub_row n path ps t' (last p) c o.2 e in
        let le : last p ≤ last t' = omega (arith, w.0, w.1) in
        let same : places_in ps (other_patches qs) ≡ places_in (more p ps) qs = others_all p ps (last t') j o.1 le qs s h in
        let empty : places p (next_patch qs) ≡ [] = next_none p ps (last t') j o.1 le qs s h in
        ap (λ z. z ++ places_in ps (set_patch n (insert path (whole new) (nth_patch n (other_patches qs))) (other_patches qs))) empty
        ∙ set_places n path ps (other_patches qs) (last p) c o.2 (row_other p ps qs s) e (subst (λ z. Ascending (last t') z j) (sym same) h) ∙ ap (λ z. own ∷ z) same
    set_places zero path (skip ps) qs y c o s e h = absurd cc
    set_places (suc n) path (skip ps) done y c o s e h = set_places n path ps done y c o tt e h
    set_places (suc n) path (skip ps) (part q qs) y c o s e h = set_places n path ps qs y c o s e h
    set_places (suc n) path (skip ps) (run m x qs) y c o s e h = absurd s

-- ---- all

pub spots_placed : (v : ℕ → ℕ) (ps : Trees) (ss : List Spot) → AllByRecursion (SpotStands ps) ss → (i x j : ℕ) → Ordered i ps j → Ascending x (spot_ranges ss) j → places_in ps (spot_patches v ss) ≡ spot_ranges ss
spots_placed v ps [] h i x j o a = refl
spots_placed v ps (s ∷ ss) h i x j o a =
    let g = h.0 in
    let tail : places_in ps (spot_patches v ss) ≡ spot_ranges ss = spots_placed v ps ss h.1 i s.upto j o a.2 in
    let behind : Ascending (last g.stood) (places_in ps (spot_patches v ss)) j = subst (λ z. Ascending z (places_in ps (spot_patches v ss)) j) (sym g.ends) (subst (λ z. Ascending s.upto z j) (sym tail) a.2) in
    let single : Singles ps (spot_patches v ss) = list_single v ps (spot_patches v ss) (spots_inside v ps ss h.1) in
    set_places g.stood (name_over (v s.from)) j s.statement (s.part ∷ s.path) ps (spot_patches v ss) i j o single g.at_path behind
    ∙ ap (λ z. range (first g.stood) (last g.stood) ∷ z) tail ∙ ap (λ z. range z (last g.stood) ∷ spot_ranges ss) g.begins ∙ ap (λ z. range s.from z ∷ spot_ranges ss) g.ends

pub replaces : (v : ℕ → ℕ) (ps : Trees) (ss : List Spot) → AllByRecursion (SpotStands ps) ss → ReplacesSpots v ps ss
replaces v ps ss h = record { inside = spots_inside v ps ss h; places = λ i j o a. spots_placed v ps ss h i i j o a }
