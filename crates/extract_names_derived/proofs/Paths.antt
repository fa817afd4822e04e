-- Runs that paths lead to, as one patch: it replaces runs in lists alone.
use Rattle.std.proofs.Common.{◌≡◌, ◌∙◌, ℕ, zero, suc, true, false, List, [], ◌∷◌, Some, refl, sym, ap, subst}
use Rattle.go_grammar.specs.declared.kind.Kind.{Kind}
use Rattle.go_grammar.specs.declared.kind.Kind.TheVariants as kind
use Rattle.go_grammar.specs.Trees.{Tree, node, Trees, none, more, skip, kind_of}
use Rattle.go_rewriting.specs.Lists.{has_run}
use Rattle.go_rewriting.specs.Places.{Patch, Patches, keep, put, inside, done, part, run, has_items, items_behind}
use Rattle.go_rewriting.specs.Replacing.{subtree_at, subtree_in}
use Rattle.go_rewriting.specs.Sites.{Local, items, Site, parts_of, next_patch, other_patches, nth_patch, set_patch, patches_behind, add_run, insert, patch_of}
use Rattle.go_tree.specs.Events.{is_more}
use Rattle.go_scopes_events.proofs.Public.{is_top, true_false}
use Rattle.go_scopes_bodies.specs.Listed.{AreStatements, holds_statements}
use Rattle.extract_names.specs.Pieces.{leads_to_lists}
use Rattle.extract_names_derived.specs.Patches.{InLists, InParts, InCase, InList, in_front, ReplaceRuns}
use Rattle.extract_names_derived.proofs.Fit.{is_if, may_hold, IsFit, AreFit, CaseFits, part_inner}

-- The parts of the kind are no functions.
abbrev pub Holds : Kind → Type 0
Holds k = (l : Kind) → may_hold k l ≡ true → is_top l ≡ false

parts_other : (p : Tree) (ps : Trees) (qs : Patches) → InParts (more p ps) qs → InParts ps (other_patches qs)
parts_other p ps done l = tt
parts_other p ps (part q qs) l = l.1
parts_other p ps (run n new qs) l = absurd l

parts_next : (p : Tree) (ps : Trees) (qs : Patches) → InParts (more p ps) qs → InLists p (next_patch qs)
parts_next p ps done l = tt
parts_next p ps (part q qs) l = l.0
parts_next p ps (run n new qs) l = absurd l

parts_skip : (ps : Trees) (qs : Patches) → InParts (skip ps) qs → InParts ps (other_patches qs)
parts_skip ps done l = tt
parts_skip ps (part q qs) l = l
parts_skip ps (run n new qs) l = absurd l

-- ---- a run in a list

list_other : (p : Tree) (ps : Trees) (qs : Patches) → InList (more p ps) qs → InList ps (other_patches qs)
list_other p ps done l = tt
list_other p ps (part q qs) l = l.1
list_other p ps (run n new qs) l = tt

list_next : (p : Tree) (ps : Trees) (qs : Patches) → InList (more p ps) qs → InLists p (next_patch qs)
list_next p ps done l = tt
list_next p ps (part q qs) l = l.0
list_next p ps (run n new qs) l = tt

list_skip : (ps : Trees) (qs : Patches) → InList (skip ps) qs → InList ps (other_patches qs)
list_skip ps done l = tt
list_skip ps (part q qs) l = l
list_skip ps (run n new qs) l = absurd l

list_behind : (n : ℕ) (p : Tree) (ps : Trees) (qs : Patches) → has_items n ps ≡ true → InList (more p ps) qs → InList (items_behind n ps) (patches_behind (suc n) qs)
list_behind zero p ps qs e l = list_other p ps qs l
list_behind (suc n) p none qs e l = absurd (true_false false e refl)
list_behind (suc n) p (more r rs) qs e l = list_behind n r rs (other_patches qs) e (list_other p (more r rs) qs l)
list_behind (suc n) p (skip ps) qs e l = absurd (true_false false e refl)

run_in : (n : ℕ) (new ps : Trees) (qs : Patches) → has_run 0 n ps ≡ true → is_more new ≡ true → AreStatements new → InList ps qs → InList ps (add_run 0 n new qs)
run_in n new none qs e m s l = absurd (true_false false e refl)
run_in n new (more p ps) qs e m s l = (e, m, s, list_behind n p ps qs e l)
run_in n new (skip ps) qs e m s l = absurd (true_false false e refl)

block_parts : (i j : ℕ) (ps : Trees) (q : Patch) → InLists (node kind.Block i j ps) q → InList ps (parts_of q)
block_parts i j ps keep l = tt
block_parts i j ps (put s) l = absurd l
block_parts i j ps (inside qs) l = l

default_parts : (i j : ℕ) (ps : Trees) (q : Patch) → InLists (node kind.Default i j ps) q → InList ps (parts_of q)
default_parts i j ps keep l = tt
default_parts i j ps (put s) l = absurd l
default_parts i j ps (inside qs) l = l

case_run : (i : ℕ) (n : ℕ) (new ps : Trees) (q : Patch) (j : ℕ) → CaseFits i ps → has_run 1 n ps ≡ true → is_more new ≡ true → AreStatements new → InLists (node kind.Case i j ps) q → InCase ps (add_run 1 n new (parts_of q))
case_run i n new none q j f e m s l = absurd f
case_run i n new (skip ps) q j f e m s l = absurd f
case_run i n new (more p ps) keep j f e m s l = run_in n new ps done e m s tt
case_run i n new (more p ps) (put t) j f e m s l = absurd l
case_run i n new (more p ps) (inside (part keep qs)) j f e m s l = run_in n new ps qs e m s l
case_run i n new (more p ps) (inside (part (put t) qs)) j f e m s l = absurd l
case_run i n new (more p ps) (inside (part (inside rs) qs)) j f e m s l = absurd l
case_run i n new (more p ps) (inside done) j f e m s l = absurd l
case_run i n new (more p ps) (inside (run k t qs)) j f e m s l = absurd l

local_in : (k : Kind) (i j : ℕ) (ps : Trees) (n : ℕ) (new : Trees) (q : Patch) → holds_statements k ≡ true → IsFit (node k i j ps) → has_run (in_front k) n ps ≡ true → is_more new ≡ true → AreStatements new
    → InLists (node k i j ps) q → InLists (node k i j ps) (insert [] (items (in_front k) n new) q)
local_in kind.Block i j ps n new q h f e m s l = run_in n new ps (parts_of q) e m s (block_parts i j ps q l)
local_in kind.Default i j ps n new q h f e m s l = run_in n new ps (parts_of q) e m s (default_parts i j ps q l)
local_in kind.Case i j ps n new q h f e m s l = case_run i n new ps q j f.0 e m s l
local_in k i j ps n new q h f e m s l = absurd (true_false false h refl)

-- ---- on the way

if_leads : (k : Kind) → is_if k ≡ true → leads_to_lists k ≡ true
if_leads kind.If e = refl
if_leads k e = absurd (true_false false e refl)

part_leads : (k l : Kind) → may_hold k l ≡ true → is_top l ≡ false → leads_to_lists l ≡ true → leads_to_lists k ≡ true
part_leads k kind.FunctionDeclaration e top h = absurd (true_false true refl top)
part_leads k kind.Block e top h = e
part_leads k kind.If e top h = e
part_leads k kind.Else e top h = if_leads k e
part_leads k kind.Switch e top h = e
part_leads k kind.Case e top h = e
part_leads k kind.Default e top h = e
part_leads k kind.For e top h = e
part_leads k l e top h = absurd (true_false false h refl)

list_leads : (k : Kind) → holds_statements k ≡ true → leads_to_lists k ≡ true
list_leads kind.Block h = refl
list_leads kind.Case h = refl
list_leads kind.Default h = refl
list_leads k h = absurd (true_false false h refl)

pub holds_part : (k l : Kind) → Holds k → may_hold k l ≡ true → Holds l
holds_part k l h e x y = part_inner l x (h l e) y

module _ (s : Tree) (lead : leads_to_lists (kind_of s) ≡ true) where
  mutual
    path_leads : (path : List ℕ) (t : Tree) → Holds (kind_of t) → IsFit t → subtree_at path t ≡ Some s → leads_to_lists (kind_of t) ≡ true
    path_leads [] t o f e = let same : t ≡ s = cc in ap (λ z. leads_to_lists (kind_of z)) same ∙ lead
    path_leads (n ∷ path) (node k i j ps) o f e = row_leads n path k i ps o f.1 e

    row_leads : (n : ℕ) (path : List ℕ) (k : Kind) (i : ℕ) (ps : Trees) → Holds k → AreFit k i ps → subtree_in n path ps ≡ Some s → leads_to_lists k ≡ true
    row_leads n path k i none o f e = absurd cc
    row_leads zero path k i (more p ps) o f e = part_leads k (kind_of p) f.0 (o (kind_of p) f.0) (path_leads path p (holds_part k (kind_of p) o f.0) f.2 e)
    row_leads (suc n) path k i (more p ps) o f e = row_leads n path k i ps o f.3 e
    row_leads zero path k i (skip ps) o f e = absurd cc
    row_leads (suc n) path k i (skip ps) o f e = row_leads n path k i ps o f e

  module _ (x : Local) (local : (q : Patch) → InLists s q → InLists s (insert [] x q)) where
    mutual
      insert_in : (path : List ℕ) (t : Tree) (q : Patch) → Holds (kind_of t) → IsFit t → subtree_at path t ≡ Some s → InLists t q → InLists t (insert path x q)
      insert_in [] t q o f e l = let same : t ≡ s = cc in subst (λ z. InLists z q → InLists z (insert [] x q)) (sym same) (local q) l
      insert_in (n ∷ path) (node kind.Block i j ps) q o f e l = set_list n path kind.Block i ps (parts_of q) o f.1 e (block_parts i j ps q l)
      insert_in (n ∷ path) (node kind.Default i j ps) q o f e l = set_list n path kind.Default i ps (parts_of q) o f.1 e (default_parts i j ps q l)
      insert_in (n ∷ path) (node kind.Case i j ps) q o f e l = set_case n path i j ps q o f.0 f.1 e l
      insert_in (n ∷ path) (node k i j ps) q o f e l = (row_leads n path k i ps o f.1 e, set_parts n path k i ps (parts_of q) o f.1 e (by q l))
        where
          by : (q : Patch) → InLists (node k i j ps) q → InParts ps (parts_of q)
          by keep l = tt
          by (put s) l = absurd l
          by (inside qs) l = l.1

      set_list : (n : ℕ) (path : List ℕ) (k : Kind) (i : ℕ) (ps : Trees) (qs : Patches) → Holds k → AreFit k i ps → subtree_in n path ps ≡ Some s → InList ps qs → InList ps (set_patch n (insert path x (nth_patch n qs)) qs)
      set_list n path k i none qs o f e l = absurd cc
      set_list zero path k i (more p ps) qs o f e l = (insert_in path p (next_patch qs) (holds_part k (kind_of p) o f.0) f.2 e (list_next p ps qs l), list_other p ps qs l)
      set_list (suc n) path k i (more p ps) qs o f e l = (list_next p ps qs l, set_list n path k i ps (other_patches qs) o f.3 e (list_other p ps qs l))
      set_list zero path k i (skip ps) qs o f e l = absurd cc
      set_list (suc n) path k i (skip ps) qs o f e l = set_list n path k i ps (other_patches qs) o f e (list_skip ps qs l)

      set_case : (n : ℕ) (path : List ℕ) (i j : ℕ) (ps : Trees) (q : Patch) → Holds kind.Case → CaseFits i ps → AreFit kind.Case i ps → subtree_in n path ps ≡ Some s → InLists (node kind.Case i j ps) q
          → InCase ps (set_patch n (insert path x (nth_patch n (parts_of q))) (parts_of q))
      set_case n path i j none q o c f e l = absurd c
      set_case n path i j (skip ps) q o c f e l = absurd c
      set_case zero path i j (more p ps) q o c f e l = absurd (true_false (leads_to_lists (kind_of p)) (path_leads path p (holds_part kind.Case (kind_of p) o f.0) f.2 e) c.0)
      set_case (suc n) path i j (more p ps) keep o c f e l = set_list n path kind.Case i ps done o f.3 e tt
      set_case (suc n) path i j (more p ps) (put t) o c f e l = absurd l
      set_case (suc n) path i j (more p ps) (inside (part keep qs)) o c f e l = set_list n path kind.Case i ps qs o f.3 e l
      set_case (suc n) path i j (more p ps) (inside (part (put t) qs)) o c f e l = absurd l
      set_case (suc n) path i j (more p ps) (inside (part (inside rs) qs)) o c f e l = absurd l
      set_case (suc n) path i j (more p ps) (inside done) o c f e l = absurd l
      set_case (suc n) path i j (more p ps) (inside (run k t qs)) o c f e l = absurd l

      set_parts : (n : ℕ) (path : List ℕ) (k : Kind) (i : ℕ) (ps : Trees) (qs : Patches) → Holds k → AreFit k i ps → subtree_in n path ps ≡ Some s → InParts ps qs → InParts ps (set_patch n (insert path x (nth_patch n qs)) qs)
      set_parts n path k i none qs o f e l = absurd cc
      set_parts zero path k i (more p ps) qs o f e l = (insert_in path p (next_patch qs) (holds_part k (kind_of p) o f.0) f.2 e (parts_next p ps qs l), parts_other p ps qs l)
      set_parts (suc n) path k i (more p ps) qs o f e l = (parts_next p ps qs l, set_parts n path k i ps (other_patches qs) o f.3 e (parts_other p ps qs l))
      set_parts zero path k i (skip ps) qs o f e l = absurd cc
      set_parts (suc n) path k i (skip ps) qs o f e l = set_parts n path k i ps (other_patches qs) o f e (parts_skip ps qs l)

-- ---- all

-- the node that a path leads to is fit
mutual
  fit_at : (path : List ℕ) (t s : Tree) → IsFit t → subtree_at path t ≡ Some s → IsFit s
  fit_at [] t s f e = let same : t ≡ s = cc in subst IsFit same f
  fit_at (n ∷ path) (node k i j ps) s f e = fit_in n path k i ps s f.1 e

  fit_in : (n : ℕ) (path : List ℕ) (k : Kind) (i : ℕ) (ps : Trees) (s : Tree) → AreFit k i ps → subtree_in n path ps ≡ Some s → IsFit s
  fit_in n path k i none s f e = absurd cc
  fit_in zero path k i (more p ps) s f e = fit_at path p s f.2 e
  fit_in (suc n) path k i (more p ps) s f e = fit_in n path k i ps s f.3 e
  fit_in zero path k i (skip ps) s f e = absurd cc
  fit_in (suc n) path k i (skip ps) s f e = fit_in n path k i ps s f e

pub sites_in : (t : Tree) (xs : List Site) → Holds (kind_of t) → IsFit t → ReplaceRuns t xs → InLists t (patch_of xs)
sites_in t [] o f r = tt
sites_in t (x ∷ xs) o f r =
    let h = r.0 in
    let s : Tree = node h.kind h.first h.last h.parts in
    let fit : IsFit s = fit_at x.path t s f h.stood in
    subst (λ c. InLists t (insert x.path c (patch_of xs))) (sym h.change)
    (insert_in s (list_leads h.kind h.list) (items (in_front h.kind) h.number h.new) (λ q l. local_in h.kind h.first h.last h.parts h.number h.new q h.list fit h.has h.some h.statements l) x.path t (patch_of xs) o f h.stood
    (sites_in t xs o f r.1))

pub function_holds : Holds kind.FunctionDeclaration
function_holds kind.File h = absurd (true_false false h refl)
function_holds kind.FunctionDeclaration h = absurd (true_false false h refl)
function_holds kind.Block h = refl
function_holds l h = refl
