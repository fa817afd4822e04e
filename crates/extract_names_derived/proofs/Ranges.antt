-- Runs that paths lead to, as one patch: the places of the patch are those of the runs.
use Rattle.std.proofs.Common.{◌≡◌, ◌∙◌, ℕ, zero, suc, ◌<◌, ◌≤◌, true, false, List, [], ◌∷◌, ◌++◌, Some, refl, sym, ap, subst, arith}
use Rattle.go_tokens.specs.declared.token.TokenKind.{TokenKind}
use Rattle.go_grammar.specs.declared.kind.Category.TheVariants as category
use Rattle.go_grammar.specs.declared.kind.Kind.{Kind}
use Rattle.go_grammar.specs.declared.kind.Kind.TheVariants as kind
use Rattle.go_grammar.specs.declared.kind.Sort.TheVariants as sort
use Rattle.go_grammar.specs.Trees.{Tree, node, Trees, none, more, skip, kind_of, first, last}
use Rattle.go_grammar.specs.Grammar.{Derives}
use Rattle.go_rewriting.specs.Lists.{has_run}
use Rattle.go_rewriting.specs.Places.{Patch, Patches, keep, put, inside, done, part, run, has_items, items_behind, items_end, Range, range, places, places_in, Ascending}
use Rattle.go_rewriting.specs.Replacing.{subtree_at, subtree_in}
use Rattle.go_rewriting.specs.Sites.{Local, items, Site, parts_of, next_patch, other_patches, nth_patch, set_patch, patches_behind, add_run, insert, patch_of, run_range, local_range, range_in, site_range, site_ranges}
use Rattle.go_scopes_events.proofs.Public.{IsLaidOut, LieIn, derives_laid, behind_name, lie_order, laid_grows, true_false}
use Rattle.go_scopes_bodies.specs.Listed.{holds_statements}
use Rattle.extract_names_derived.specs.Patches.{InLists, InParts, InCase, InList, in_front, ReplaceRuns, PatchesRuns}
use Rattle.extract_names_derived.proofs.Ascends.{ascend_order, ascend_tree, run_lies}
use Rattle.extract_names_derived.proofs.Fit.{front, IsFit, AreFit, derives_fit}
use Rattle.extract_names_derived.proofs.Paths.{Holds, function_holds, sites_in}

-- ---- ranges in order

none_left : (rs ss : List Range) (a b u j : ℕ) → Ascending a rs b → b ≤ u → Ascending u (rs ++ ss) j → rs ≡ []
none_left [] ss a b u j h le g = refl
none_left (r ∷ rs) ss a b u j h le g = absurd (omega (arith, h.1, ascend_order r.upto b rs h.2, le, g.0))

ascend_left : (rs ss : List Range) (u j : ℕ) → Ascending u (rs ++ ss) j → Ascending u rs j
ascend_left [] ss u j h = ascend_order u j ss h
ascend_left (r ∷ rs) ss u j h = (h.0, h.1, ascend_left rs ss r.upto j h.2)

-- ---- rows of patches

-- each part has such a patch
abbrev InRow : Trees → Patches → Type 0
InRow ps done = Unit {0}
InRow none (part q qs) = Unit {0}
InRow (more p ps) (part q qs) = InLists p q × InRow ps qs
InRow (skip ps) (part q qs) = InRow ps qs
InRow ps (run n new qs) = Unit {0}

list_row : (ps : Trees) (qs : Patches) → InList ps qs → InRow ps qs
list_row ps done l = tt
list_row none (part q qs) l = tt
list_row (more p ps) (part q qs) l = (l.0, list_row ps qs l.1)
list_row (skip ps) (part q qs) l = list_row ps qs l
list_row ps (run n new qs) l = tt

parts_row : (ps : Trees) (qs : Patches) → InParts ps qs → InRow ps qs
parts_row ps done l = tt
parts_row none (part q qs) l = tt
parts_row (more p ps) (part q qs) l = (l.0, parts_row ps qs l.1)
parts_row (skip ps) (part q qs) l = parts_row ps qs l
parts_row ps (run n new qs) l = tt

case_row : (ps : Trees) (qs : Patches) → InCase ps qs → InRow ps qs
case_row (more p ps) (part keep qs) l = (tt, list_row ps qs l)
case_row (more p ps) (part (put s) qs) l = absurd l
case_row (more p ps) (part (inside rs) qs) l = absurd l
case_row (more p ps) done l = absurd l
case_row (more p ps) (run n new qs) l = absurd l
case_row none qs l = absurd l
case_row (skip ps) qs l = absurd l

node_row : (k : Kind) (i j : ℕ) (ps : Trees) (q : Patch) → InLists (node k i j ps) q → InRow ps (parts_of q)
node_row k i j ps keep l = tt
node_row k i j ps (put s) l = absurd l
node_row kind.Block i j ps (inside qs) l = list_row ps qs l
node_row kind.Default i j ps (inside qs) l = list_row ps qs l
node_row kind.Case i j ps (inside qs) l = case_row ps qs l
node_row k i j ps (inside qs) l = parts_row ps qs l.1

node_places : (k : Kind) (i j : ℕ) (ps : Trees) (q : Patch) → InLists (node k i j ps) q → places (node k i j ps) q ≡ places_in ps (parts_of q)
node_places k i j ps keep l = refl
node_places k i j ps (put s) l = absurd l
node_places k i j ps (inside qs) l = refl

row_other : (p : Tree) (ps : Trees) (qs : Patches) → InRow (more p ps) qs → InRow ps (other_patches qs)
row_other p ps done l = tt
row_other p ps (part q qs) l = l.1
row_other p ps (run n new qs) l = tt

row_next : (p : Tree) (ps : Trees) (qs : Patches) → InRow (more p ps) qs → InLists p (next_patch qs)
row_next p ps done l = tt
row_next p ps (part q qs) l = l.0
row_next p ps (run n new qs) l = tt

row_skip : (ps : Trees) (qs : Patches) → InRow (skip ps) qs → InRow ps (other_patches qs)
row_skip ps done l = tt
row_skip ps (part q qs) l = l
row_skip ps (run n new qs) l = tt

skip_places : (ps : Trees) (qs : Patches) → places_in ps (other_patches qs) ≡ places_in (skip ps) qs
skip_places ps done = refl
skip_places ps (part q qs) = refl
skip_places ps (run n new qs) = refl

-- A part in front of all places has none.
module _ (p : Tree) (ps : Trees) (u j : ℕ) (laid : IsLaidOut p) (fit : IsFit p) (le : last p ≤ u) where
  next_none : (qs : Patches) → InRow (more p ps) qs → Ascending u (places_in (more p ps) qs) j → places p (next_patch qs) ≡ []
  next_none done l h = refl
  next_none (part q qs) l h = none_left (places p q) (places_in ps qs) (front (kind_of p) (first p)) (last p) u j (ascend_tree p q laid fit l.0) le h
  next_none (run n new qs) l h = refl

  others_all : (qs : Patches) → InRow (more p ps) qs → Ascending u (places_in (more p ps) qs) j → places_in ps (other_patches qs) ≡ places_in (more p ps) qs
  others_all done l h = refl
  others_all (part q qs) l h = ap (λ rs. rs ++ places_in ps qs) (sym (next_none (part q qs) l h))
  others_all (run n new qs) l h = absurd (omega (arith, h.0, le, laid_grows p laid))

behind_places : (n : ℕ) (p : Tree) (ps : Trees) (qs : Patches) (k : Kind) (i x e j : ℕ) → LieIn x e (more p ps) → AreFit k i (more p ps) → InRow (more p ps) qs → has_items n ps ≡ true
    → Ascending (items_end n p ps) (places_in (more p ps) qs) j
    → places_in (items_behind n ps) (patches_behind (suc n) qs) ≡ places_in (more p ps) qs
behind_places zero p ps qs k i x e j h f l has a = others_all p ps (last p) j h.1 f.2 (omega arith) qs l a
behind_places (suc n) p none qs k i x e j h f l has a = absurd (true_false false has refl)
behind_places (suc n) p (skip ps) qs k i x e j h f l has a = absurd (true_false false has refl)
behind_places (suc n) p (more r rs) qs k i x e j h f l has a =
    let far = run_lies n r rs e has h.2.2 in
    let grows : first r < last r = laid_grows r h.2.1 in
    let le : last p ≤ items_end n r rs = omega (arith, h.2.0, grows, far.from) in
    let same : places_in (more r rs) (other_patches qs) ≡ places_in (more p (more r rs)) qs = others_all p (more r rs) (items_end n r rs) j h.1 f.2 le qs l a in
    behind_places n r rs (other_patches qs) k i (last p) e j h.2 f.3 (row_other p (more r rs) qs l) has (subst (λ z. Ascending (items_end n r rs) z j) (sym same) a) ∙ same

-- ---- a run

run_places : (n : ℕ) (new ps : Trees) (qs : Patches) (k : Kind) (i x e j : ℕ) → LieIn x e ps → AreFit k i ps → InRow ps qs → has_run 0 n ps ≡ true → Ascending (run_range 0 n ps).upto (places_in ps qs) j
    → places_in ps (add_run 0 n new qs) ≡ run_range 0 n ps ∷ places_in ps qs
run_places n new none qs k i x e j h f l has a = absurd (true_false false has refl)
run_places n new (skip ps) qs k i x e j h f l has a = absurd (true_false false has refl)
run_places n new (more p ps) qs k i x e j h f l has a = ap (λ z. range (first p) (items_end n p ps) ∷ z) (behind_places n p ps qs k i x e j h f l has a)

run_inside : (f n : ℕ) (ps : Trees) (x e : ℕ) → LieIn x e ps → has_run f n ps ≡ true → (x ≤ (run_range f n ps).from) × ((run_range f n ps).from < (run_range f n ps).upto) × ((run_range f n ps).upto ≤ e)
run_inside f n none x e h has = absurd (true_false false has refl)
run_inside zero n (more p ps) x e h has =
    let far = run_lies n p ps e has h.2 in
    let grows : first p < last p = laid_grows p h.1 in
    (h.0, omega (arith, grows, far.from), far.upto)
run_inside (suc f) n (more p ps) x e h has =
    let r = run_inside f n ps (last p) e h.2 has in
    let grows : first p < last p = laid_grows p h.1 in
    (omega (arith, h.0, grows, r.0), r.1, r.2)
run_inside zero n (skip ps) x e h has = absurd (true_false false has refl)
run_inside (suc f) n (skip ps) x e h has = run_inside f n ps x e h has

case_places : (n : ℕ) (new ps : Trees) (qs : Patches) (i x e j : ℕ) → LieIn x e ps → AreFit kind.Case i ps → InRow ps qs → has_run 1 n ps ≡ true → Ascending (run_range 1 n ps).upto (places_in ps qs) j
    → places_in ps (add_run 1 n new qs) ≡ run_range 1 n ps ∷ places_in ps qs
case_places n new none qs i x e j h f l has a = absurd (true_false false has refl)
case_places n new (skip ps) qs i x e j h f l has a =
    run_places n new ps (other_patches qs) kind.Case i x e j h f (row_skip ps qs l) has (subst (λ z. Ascending (run_range 0 n ps).upto z j) (sym (skip_places ps qs)) a) ∙ ap (λ z. run_range 0 n ps ∷ z) (skip_places ps qs)
case_places n new (more p ps) qs i x e j h f l has a =
    let r = run_inside 0 n ps (last p) e h.2 has in
    let le : last p ≤ (run_range 0 n ps).upto = omega (arith, r.0, r.1) in
    let same : places_in ps (other_patches qs) ≡ places_in (more p ps) qs = others_all p ps (run_range 0 n ps).upto j h.1 f.2 le qs l a in
    let empty : places p (next_patch qs) ≡ [] = next_none p ps (run_range 0 n ps).upto j h.1 f.2 le qs l a in
    ap (λ z. z ++ places_in ps (add_run 0 n new (other_patches qs))) empty
    ∙ run_places n new ps (other_patches qs) kind.Case i (last p) e j h.2 f.3 (row_other p ps qs l) has (subst (λ z. Ascending (run_range 0 n ps).upto z j) (sym same) a) ∙ ap (λ z. run_range 0 n ps ∷ z) same

local_places : (k : Kind) (b e : ℕ) (ps : Trees) (n : ℕ) (new : Trees) (q : Patch) (j : ℕ) → holds_statements k ≡ true → IsLaidOut (node k b e ps) → IsFit (node k b e ps) → has_run (in_front k) n ps ≡ true → InLists (node k b e ps) q
    → Ascending (run_range (in_front k) n ps).upto (places (node k b e ps) q) j → places (node k b e ps) (insert [] (items (in_front k) n new) q) ≡ run_range (in_front k) n ps ∷ places (node k b e ps) q
local_places kind.Block b e ps n new q j o h f has l a =
    let same = node_places kind.Block b e ps q l in
    run_places n new ps (parts_of q) kind.Block b b e j h.1 f.1 (node_row kind.Block b e ps q l) has (subst (λ z. Ascending (run_range 0 n ps).upto z j) same a) ∙ ap (λ z. run_range 0 n ps ∷ z) (sym same)
local_places kind.Default b e ps n new q j o h f has l a =
    let same = node_places kind.Default b e ps q l in
    run_places n new ps (parts_of q) kind.Default b b e j h.1 f.1 (node_row kind.Default b e ps q l) has (subst (λ z. Ascending (run_range 0 n ps).upto z j) same a) ∙ ap (λ z. run_range 0 n ps ∷ z) (sym same)
local_places kind.Case b e ps n new q j o h f has l a =
    let same = node_places kind.Case b e ps q l in
    case_places n new ps (parts_of q) b b e j h.1 f.1 (node_row kind.Case b e ps q l) has (subst (λ z. Ascending (run_range 1 n ps).upto z j) same a) ∙ ap (λ z. run_range 1 n ps ∷ z) (sym same)
local_places k b e ps n new q j o h f has l a = absurd (true_false false o refl)

-- ---- on the way

name_above : (k : Kind) (i : ℕ) → i ≤ behind_name k i
name_above kind.FunctionDeclaration i = omega arith
name_above (kind.Specification sort.Type) i = omega arith
name_above kind.DeclaredName i = omega arith
name_above kind.Name i = omega arith
name_above k i = omega arith

module _ (s : Tree) (r : Range) (r_inside : IsLaidOut s → (first s ≤ r.from) × (r.from < r.upto) × (r.upto ≤ last s)) where
  mutual
    -- where the run lies
    tree_inside : (path : List ℕ) (t : Tree) → IsLaidOut t → subtree_at path t ≡ Some s → (first t ≤ r.from) × (r.from < r.upto) × (r.upto ≤ last t)
    tree_inside [] t h e = let same : t ≡ s = cc in subst (λ z. (first z ≤ r.from) × (r.from < r.upto) × (r.upto ≤ last z)) (sym same) (r_inside (subst IsLaidOut same h))
    tree_inside (n ∷ path) (node k i j ps) h e = let w = row_inside n path ps (behind_name k i) j h.1 e in (omega (arith, name_above k i, w.0), w.1, w.2)

    row_inside : (n : ℕ) (path : List ℕ) (ps : Trees) (x j : ℕ) → LieIn x j ps → subtree_in n path ps ≡ Some s → (x ≤ r.from) × (r.from < r.upto) × (r.upto ≤ j)
    row_inside n path none x j h e = absurd cc
    row_inside zero path (more p ps) x j h e = let w = tree_inside path p h.1 e in (omega (arith, h.0, w.0), w.1, omega (arith, w.2, lie_order (last p) j ps h.2))
    row_inside (suc n) path (more p ps) x j h e = let w = row_inside n path ps (last p) j h.2 e in (omega (arith, h.0, laid_grows p h.1, w.0), w.1, w.2)
    row_inside zero path (skip ps) x j h e = absurd cc
    row_inside (suc n) path (skip ps) x j h e = row_inside n path ps x j h e

  module _ (x : Local) (j : ℕ) (local : (q : Patch) → IsLaidOut s → IsFit s → InLists s q → Ascending r.upto (places s q) j → places s (insert [] x q) ≡ r ∷ places s q) where
    mutual
      insert_places : (path : List ℕ) (t : Tree) (q : Patch) → IsLaidOut t → IsFit t → InLists t q → subtree_at path t ≡ Some s → Ascending r.upto (places t q) j → places t (insert path x q) ≡ r ∷ places t q
      insert_places [] t q h f l e a =
          let same : t ≡ s = cc in
          subst (λ z. IsLaidOut z → IsFit z → InLists z q → Ascending r.upto (places z q) j → places z (insert [] x q) ≡ r ∷ places z q) (sym same) (local q) h f l a
      insert_places (n ∷ path) (node k b c ps) q h f l e a =
          let same = node_places k b c ps q l in
          set_places n path k b ps (parts_of q) (behind_name k b) c h.1 f.1 (node_row k b c ps q l) e (subst (λ z. Ascending r.upto z j) same a) ∙ ap (λ z. r ∷ z) (sym same)

      set_places : (n : ℕ) (path : List ℕ) (k : Kind) (i : ℕ) (ps : Trees) (qs : Patches) (y c : ℕ) → LieIn y c ps → AreFit k i ps → InRow ps qs → subtree_in n path ps ≡ Some s → Ascending r.upto (places_in ps qs) j
          → places_in ps (set_patch n (insert path x (nth_patch n qs)) qs) ≡ r ∷ places_in ps qs
      set_places n path k i none qs y c h f l e a = absurd cc
      set_places zero path k i (more p ps) done y c h f l e a = ap (λ z. z ++ []) (insert_places path p keep h.1 f.2 tt e a)
      set_places zero path k i (more p ps) (part q qs) y c h f l e a = ap (λ z. z ++ places_in ps qs) (insert_places path p q h.1 f.2 l.0 e (ascend_left (places p q) (places_in ps qs) r.upto j a))
      set_places zero path k i (more p ps) (run m new qs) y c h f l e a = let w = tree_inside path p h.1 e in absurd (omega (arith, a.0, w.0, w.1))
      set_places (suc n) path k i (more p ps) qs y c h f l e a =
          let w = row_inside n path ps (last p) c h.2 e in
          let le : last p ≤ r.upto = omega (arith, w.0, w.1) in
          let same : places_in ps (other_patches qs) ≡ places_in (more p ps) qs = others_all p ps r.upto j h.1 f.2 le qs l a in
          let empty : places p (next_patch qs) ≡ [] = next_none p ps r.upto j h.1 f.2 le qs l a in
          ap (λ z. z ++ places_in ps (set_patch n (insert path x (nth_patch n (other_patches qs))) (other_patches qs))) empty
          ∙ set_places n path k i ps (other_patches qs) (last p) c h.2 f.3 (row_other p ps qs l) e (subst (λ z. Ascending r.upto z j) (sym same) a) ∙ ap (λ z. r ∷ z) same
      set_places zero path k i (skip ps) qs y c h f l e a = absurd cc
      set_places (suc n) path k i (skip ps) qs y c h f l e a =
          set_places n path k i ps (other_patches qs) y c h f (row_skip ps qs l) e (subst (λ z. Ascending r.upto z j) (sym (skip_places ps qs)) a) ∙ ap (λ z. r ∷ z) (skip_places ps qs)

-- ---- all

mutual
  laid_at : (path : List ℕ) (t s : Tree) → IsLaidOut t → subtree_at path t ≡ Some s → IsLaidOut s
  laid_at [] t s f e = let same : t ≡ s = cc in subst IsLaidOut same f
  laid_at (n ∷ path) (node k i j ps) s f e = laid_in n path ps (behind_name k i) j s f.1 e

  laid_in : (n : ℕ) (path : List ℕ) (ps : Trees) (x j : ℕ) (s : Tree) → LieIn x j ps → subtree_in n path ps ≡ Some s → IsLaidOut s
  laid_in n path none x j s f e = absurd cc
  laid_in zero path (more p ps) x j s f e = laid_at path p s f.1 e
  laid_in (suc n) path (more p ps) x j s f e = laid_in n path ps (last p) j s f.2 e
  laid_in zero path (skip ps) x j s f e = absurd cc
  laid_in (suc n) path (skip ps) x j s f e = laid_in n path ps x j s f e

pub sites_placed : (t : Tree) (xs : List Site) (i j : ℕ) → Holds (kind_of t) → IsLaidOut t → IsFit t → ReplaceRuns t xs → Ascending i (site_ranges t xs) j → places t (patch_of xs) ≡ site_ranges t xs
sites_placed t [] i j o h f r a = refl
sites_placed t (x ∷ xs) i j o h f r a =
    let g = r.0 in
    let s : Tree = node g.kind g.first g.last g.parts in
    let n = in_front g.kind in
    let there : site_range t x ≡ run_range n g.number g.parts = ap (λ z. range_in z x.change) g.stood ∙ ap (local_range s) g.change in
    let tail : places t (patch_of xs) ≡ site_ranges t xs = sites_placed t xs (site_range t x).upto j o h f r.1 a.2 in
    let behind : Ascending (run_range n g.number g.parts).upto (places t (patch_of xs)) j = subst (λ z. Ascending z.upto (places t (patch_of xs)) j) there (subst (λ z. Ascending (site_range t x).upto z j) (sym tail) a.2) in
    ap (λ c. places t (insert x.path c (patch_of xs))) g.change
    ∙ insert_places s (run_range n g.number g.parts) (λ y. let w = run_inside n g.number g.parts (behind_name g.kind g.first) g.last y.1 g.has in (omega (arith, name_above g.kind g.first, w.0), w.1, w.2)) (items n g.number g.new) j
    (λ q y z l b. local_places g.kind g.first g.last g.parts g.number g.new q j g.list y z g.has l b) x.path t (patch_of xs) h f (sites_in t xs o f r.1) g.stood behind
    ∙ ap (λ z. run_range n g.number g.parts ∷ z) tail ∙ ap (λ z. z ∷ site_ranges t xs) (sym there)

pub function_patched : (ts : List TokenKind) (t : Tree) (xs : List Site) (j : ℕ) → Derives ts category.Declaration t → kind_of t ≡ kind.FunctionDeclaration → ReplaceRuns t xs → Ascending 0 (site_ranges t xs) j → PatchesRuns t xs
function_patched ts t xs j d k r a =
    let o : Holds (kind_of t) = subst Holds (sym k) function_holds in
    let f : IsFit t = derives_fit ts t category.Declaration d in
    record { lists = sites_in t xs o f r; places = sites_placed t xs 0 j o (derives_laid ts t category.Declaration d) f r a }
