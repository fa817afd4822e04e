-- Several places, each found by a path from the top, as one patch.
use Rattle.std.specs.Prelude.{◌≡◌, ℕ, zero, suc, ◌+◌, ◌<◌, ◌≤◌, length, slice_get, Bool, true, false, ◌&&◌, List, [], ◌∷◌, ◌++◌, Option, Some, None}
use Rattle.go_tokens.specs.declared.token.TokenKind.{TokenKind}
use Rattle.go_grammar.specs.declared.kind.Kind.{Kind}
use Rattle.go_grammar.specs.declared.kind.Kind.TheVariants as kind
use Rattle.go_grammar.specs.declared.kind.Category.{Category}
use Rattle.go_grammar.specs.Trees.{Tree, node, Trees, none, more, skip, first, last, weight, depth, depths}
use Rattle.go_grammar.specs.Grammar.{Derives}
use Rattle.go_rewriting.specs.Replacing.{Edge, subtree_at, asked_at}
use Rattle.go_rewriting.specs.Places.{carry, become, Patch, keep, put, inside, Patches, done, part, run, Range, range, items_end, Ascending, agreed, Fits, Change, changed, moved_by, ranges}

-- what becomes of a node
pub data Local : Type 0 where
  -- this tree stands in its place
  whole : Tree → Local
  -- behind so many of its parts, these items stand in place of one and so many more
  items : ℕ → ℕ → Trees → Local

-- a path to a node, and what becomes of that
pub record Site : Type 0 where
  pub path : List ℕ
  pub change : Local

abbrev pub parts_of : Patch → Patches
parts_of keep = done
parts_of (put s) = done
parts_of (inside qs) = qs

abbrev pub next_patch : Patches → Patch
next_patch done = keep
next_patch (part q qs) = q
next_patch (run n new qs) = keep

abbrev pub other_patches : Patches → Patches
other_patches done = done
other_patches (part q qs) = qs
other_patches (run n new qs) = done

-- the patch of the part with this number
abbrev pub nth_patch : ℕ → Patches → Patch
nth_patch zero qs = next_patch qs
nth_patch (suc n) qs = nth_patch n (other_patches qs)

-- the patches with another for the part with this number
abbrev pub set_patch : ℕ → Patch → Patches → Patches
set_patch zero q qs = part q (other_patches qs)
set_patch (suc n) q qs = part (next_patch qs) (set_patch n q (other_patches qs))

-- the patches of the parts behind so many
abbrev pub patches_behind : ℕ → Patches → Patches
patches_behind zero qs = qs
patches_behind (suc n) qs = patches_behind n (other_patches qs)

-- the patches with a run behind so many parts
abbrev pub add_run : ℕ → ℕ → Trees → Patches → Patches
add_run zero n new qs = run n new (patches_behind (suc n) qs)
add_run (suc f) n new qs = part (next_patch qs) (add_run f n new (other_patches qs))

-- a patch with what becomes of a node in front of all the places that it has
abbrev pub insert : List ℕ → Local → Patch → Patch
insert [] (whole s) q = put s
insert [] (items f n new) q = inside (add_run f n new (parts_of q))
insert (n ∷ path) x q = inside (set_patch n (insert path x (nth_patch n (parts_of q))) (parts_of q))

-- the patch of places that are given in their order
abbrev pub patch_of : List Site → Patch
patch_of [] = keep
patch_of (x ∷ xs) = insert x.path x.change (patch_of xs)

-- the place of a run
abbrev pub run_range : ℕ → ℕ → Trees → Range
run_range f n none = range 0 0
run_range zero n (more p ps) = range (first p) (items_end n p ps)
run_range zero n (skip ps) = range 0 0
run_range (suc f) n (more p ps) = run_range f n ps
run_range (suc f) n (skip ps) = run_range f n ps

-- the place of what becomes of a node
abbrev pub local_range : Tree → Local → Range
local_range t (whole s) = range (first t) (last t)
local_range (node k a b ps) (items f n new) = run_range f n ps

abbrev pub range_in : Option Tree → Local → Range
range_in None x = range 0 0
range_in (Some t) x = local_range t x

abbrev pub site_range : Tree → Site → Range
site_range t x = range_in (subtree_at x.path t) x.change

abbrev pub site_ranges : Tree → List Site → List Range
site_ranges t [] = []
site_ranges t (x ∷ xs) = site_range t x ∷ site_ranges t xs

-- what becomes of the node, as a patch of it
abbrev pub alone : Local → Patch
alone x = insert [] x keep

-- At the end of the path stands a node, and what becomes of it is a text of what is asked for there.
pub record Sits (ts us : List TokenKind) (m : ℕ → ℕ) (c : Category) (t : Tree) (x : Site) : Type 0 where
  pub old : Tree
  pub category : Category
  pub stood : subtree_at x.path t ≡ Some old
  pub asked : asked_at c x.path t ≡ Some category
  pub fits : Fits ts us m category old (alone x.change)

abbrev pub AllSit : List TokenKind → List TokenKind → (ℕ → ℕ) → Category → Tree → List Site → Type 0
AllSit ts us m c t [] = Unit {0}
AllSit ts us m c t (x ∷ xs) = Sits ts us m c t x × AllSit ts us m c t xs

-- does nothing about the node's parts have to agree
abbrev pub is_free : Kind → Bool
is_free kind.NewNames = false
is_free kind.AssigningRange = false
is_free kind.DefiningRange = false
is_free kind.Parameters = false
is_free k = true

-- May what this path leads to, from the part with this number on, change as it likes? How many operands a range assigns
-- doesn't change below one of them.
abbrev pub may_change : Kind → ℕ → List ℕ → Bool
may_change kind.Parameters n path = false
may_change kind.AssigningRange zero (zero ∷ n ∷ path) = true
may_change kind.DefiningRange zero (zero ∷ n ∷ path) = true
may_change k zero path = is_free k
may_change k (suc n) path = true

-- may what becomes of the node do so whatever the items are
abbrev pub is_free_for : Local → Tree → Bool
is_free_for (whole s) t = true
is_free_for (items f n new) (node k a b ps) = is_free k

abbrev mutual
  -- the nodes on the path agree with their parts whatever becomes of the node at its end
  pub is_clear : List ℕ → Local → Tree → Bool
  is_clear [] x t = is_free_for x t
  is_clear (n ∷ path) x (node k a b ps) = may_change k n path && is_clear_in n path x ps

  pub is_clear_in : ℕ → List ℕ → Local → Trees → Bool
  is_clear_in n path x none = false
  is_clear_in zero path x (more p ps) = is_clear path x p
  is_clear_in (suc n) path x (more p ps) = is_clear_in n path x ps
  is_clear_in zero path x (skip ps) = false
  is_clear_in (suc n) path x (skip ps) = is_clear_in n path x ps

abbrev pub all_clear : Tree → List Site → Bool
all_clear t [] = true
all_clear t (x ∷ xs) = is_clear x.path x.change t && all_clear t xs

abbrev pub local_depth : Local → Tree → ℕ
local_depth (whole s) t = depth s
local_depth (items f n new) (node k a b ps) = weight k + depths new

abbrev mutual
  -- the levels down to the deepest node of the new text at the end of the path
  pub levels : List ℕ → Local → Tree → ℕ
  levels [] x t = local_depth x t
  levels (n ∷ path) x (node k a b ps) = weight k + levels_in n path x ps

  pub levels_in : ℕ → List ℕ → Local → Trees → ℕ
  levels_in n path x none = 0
  levels_in zero path x (more p ps) = levels path x p
  levels_in (suc n) path x (more p ps) = levels_in n path x ps
  levels_in zero path x (skip ps) = 0
  levels_in (suc n) path x (skip ps) = levels_in n path x ps

-- no new text makes more levels than these
abbrev pub AllWithin : ℕ → Tree → List Site → Type 0
AllWithin d t [] = Unit {0}
AllWithin d t (x ∷ xs) = (levels x.path x.change t ≤ d) × AllWithin d t xs

-- the tree with what becomes of these sites, where the changes have moved it to
abbrev pub with_sites : List Change → List Site → Tree → Tree
with_sites xs ss t = become (moved_by xs) t (patch_of ss)

-- These changes of the tokens are at the places of the sites, in order, and each new text is one of what is asked for at its
-- place; and the nodes on the way agree with their parts.
pub record AreSites (ts : List TokenKind) (xs : List Change) (c : Category) (t : Tree) (ss : List Site) : Type 0 where
  pub places : ranges xs ≡ site_ranges t ss
  pub ascend : Ascending 0 (ranges xs) (length ts)
  pub sit : AllSit ts (changed xs ts) (moved_by xs) c t ss
  pub agrees : agreed (moved_by xs) t (patch_of ss) ≡ true

-- A change among others: its words don't join what stands in front, and behind them, after all changes, stands the first of
-- the tokens ws.
pub record IsChange (ts : List TokenKind) (xs : List Change) (n : ℕ) (x : Change) (ws : List TokenKind) : Type 0 where
  pub ascend : Ascending 0 (ranges xs) (length ts)
  pub among : slice_get xs n ≡ Some x
  pub edge : Edge ts x.words x.from 0
  pub some : 0 < length x.words
  pub behind : slice_get (changed xs ts) (moved_by xs x.upto) ≡ slice_get ws 0

-- where a place in the words of a change stands among the new tokens
abbrev pub into : List Change → Change → ℕ → ℕ
into xs x k = moved_by xs x.from + k

-- The tree u is one of the category over the words of the change, with ws behind them, and the change is at the place of t.
pub record NewText (x : Change) (ws : List TokenKind) (c : Category) (t u : Tree) : Type 0 where
  pub from : first t ≡ x.from
  pub upto : last t ≡ x.upto
  pub derives : Derives (x.words ++ ws) c u
  pub begins : first u ≡ 0
  pub ends : last u ≡ length x.words

abbrev pub NewTextFits : List TokenKind → List Change → Change → Category → Tree → Tree → Type 0
NewTextFits ts xs x c t u = Fits ts (changed xs ts) (moved_by xs) c t (put (carry (into xs x) u))
