-- The subtrees of a derivation, and the runs of items in it.
use Rattle.std.proofs.Common.{◌≡◌, ℕ, zero, suc, ◌<◌, ◌≤◌, true, List, [], ◌∷◌, Some, refl, sym, ap, ◌∙◌, subst, arith}
use Rattle.go_tokens.specs.declared.token.TokenKind.{TokenKind}
use Rattle.go_grammar.specs.declared.kind.Kind.{Kind}
use Rattle.go_grammar.specs.declared.kind.Category.{Category}
use Rattle.go_grammar.specs.Categories.{place_of}
use Rattle.go_grammar.specs.Rules.{Items, Rule, End, Then, Maybe, Unless, Many, item}
use Rattle.go_grammar.specs.Trees.{Tree, node, Trees, none, more, skip, first, last, parts}
use Rattle.go_grammar.specs.Grammar.{rule, Derives, Spells, Goes}
use Rattle.go_grammar.proofs.Public.{words_order, gap_order, between_order, spells_order, goes_order, derives_grows}
use Rattle.go_rewriting.specs.Replacing.{Edge, subtree_at, subtree_in, asked_at, asked_in, Run}
use Rattle.go_rewriting.specs.Places.{done, has_items, items_behind, items_end, Range, range, FitAll}
use Rattle.go_rewriting.specs.Sites.{patches_behind, add_run, run_range}
use Rattle.go_rewriting.specs.Lists.{Ordered, Subtree, items_at, has_run, so_many, run_at, IsRun, RunStands}
use Rattle.go_rewriting.proofs.Order.{derives_ordered}

module _ (ts : List TokenKind) where
  -- the same of a row of parts from i up to j
  record Inside (r : Rule) (n : ℕ) (path : List ℕ) (ps : Trees) (i j : ℕ) (s : Tree) : Type 0 where
    category : Category
    asked : asked_in r n path ps ≡ Some category
    derives : Derives ts category s
    begins : i ≤ first s
    some : first s < last s
    ends : last s ≤ j
    tiled : Ordered (first s) (parts s) (last s)

  here : (path : List ℕ) (p : Tree) (ps : Trees) (c : Category) (r : Rule) (i j : ℕ) (s : Tree) → asked_in r zero path (more p ps) ≡ asked_at c path p → i ≤ first p → last p ≤ j → Subtree ts c p path s → Inside r zero path (more p ps) i j s
  here path p ps c r i j s same lo hi x = record { category = x.category; asked = same ∙ x.asked; derives = x.derives; begins = omega (arith, lo, x.begins); some = x.some; ends = omega (arith, hi, x.ends); tiled = x.tiled }

  there : (path : List ℕ) (n : ℕ) (p : Tree) (ps : Trees) (c : Category) (r r' : Rule) (i j : ℕ) (s : Tree) → asked_in r (suc n) path (more p ps) ≡ asked_in r' n path ps → Derives ts c p → i ≤ first p → Inside r' n path ps (last p) j s → Inside r (suc n) path (more p ps) i j s
  there path n p ps c r r' i j s same h lo x = record { category = x.category; asked = same ∙ x.asked; derives = x.derives; begins = omega (arith, lo, derives_grows ts p c h, x.begins); some = x.some; ends = x.ends; tiled = x.tiled }

  mutual
    pub subtree_of : (path : List ℕ) (t : Tree) (c : Category) (s : Tree) → Derives ts c t → subtree_at path t ≡ Some s → Subtree ts c t path s
    subtree_of [] (node k a b ps) c s h e =
        let same : node k a b ps ≡ s = cc in
        subst (λ x. Subtree ts c (node k a b ps) [] x) same (record { category = c; asked = refl; derives = h; begins = omega arith; some = derives_grows ts (node k a b ps) c h; ends = omega arith; tiled = (derives_ordered ts (node k a b ps) c h).1 })
    subtree_of (n ∷ path) (node k a b ps) c s h e =
        let r = part_of n path ps (rule (place_of c) k) a b s h.1 e in
        record { category = r.category; asked = r.asked; derives = r.derives; begins = r.begins; some = r.some; ends = r.ends; tiled = r.tiled }

    part_of : (n : ℕ) (path : List ℕ) (ps : Trees) (r : Rule) (i j : ℕ) (s : Tree) → Spells ts r i ps j → subtree_in n path ps ≡ Some s → Inside r n path ps i j s
    part_of n path none r i j s h e = cc
    part_of n path (more p ps) (End ws) i j s h e = absurd h
    part_of n path (skip ps) (End ws) i j s h e = absurd h
    part_of zero path (more p ps) (Then ws c r) i j s h e = here path p ps c (Then ws c r) i j s refl (words_order ts ws i (first p) h.0) (spells_order ts ps r (last p) j h.2) (subtree_of path p c s h.1 e)
    part_of (suc n) path (more p ps) (Then ws c r) i j s h e = there path n p ps c (Then ws c r) r i j s refl h.1 (words_order ts ws i (first p) h.0) (part_of n path ps r (last p) j s h.2 e)
    part_of n path (skip ps) (Then ws c r) i j s h e = absurd h
    part_of zero path (more p ps) (Maybe ws c r) i j s h e = here path p ps c (Maybe ws c r) i j s refl (words_order ts ws i (first p) h.0) (spells_order ts ps r (last p) j h.2) (subtree_of path p c s h.1 e)
    part_of (suc n) path (more p ps) (Maybe ws c r) i j s h e = there path n p ps c (Maybe ws c r) r i j s refl h.1 (words_order ts ws i (first p) h.0) (part_of n path ps r (last p) j s h.2 e)
    part_of zero path (skip ps) (Maybe ws c r) i j s h e = cc
    part_of (suc n) path (skip ps) (Maybe ws c r) i j s h e =
        let x = part_of n path ps r h.0 j s h.2 e in
        record { category = x.category; asked = x.asked; derives = x.derives; begins = omega (arith, words_order ts ws i h.0 h.1, x.begins); some = x.some; ends = x.ends; tiled = x.tiled }
    part_of zero path (more p ps) (Unless ws c us r) i j s h e = here path p ps c (Unless ws c us r) i j s refl (words_order ts ws i (first p) h.0) (spells_order ts ps r (last p) j h.2) (subtree_of path p c s h.1 e)
    part_of (suc n) path (more p ps) (Unless ws c us r) i j s h e = there path n p ps c (Unless ws c us r) r i j s refl h.1 (words_order ts ws i (first p) h.0) (part_of n path ps r (last p) j s h.2 e)
    part_of zero path (skip ps) (Unless ws c us r) i j s h e = cc
    part_of (suc n) path (skip ps) (Unless ws c us r) i j s h e =
        let x = part_of n path ps r h.0 j s h.3 e in
        record { category = x.category; asked = x.asked; derives = x.derives; begins = omega (arith, words_order ts ws i h.0 h.1, x.begins); some = x.some; ends = x.ends; tiled = x.tiled }
    part_of zero path (more p ps) (Many ws l) i j s h e = here path p ps (item l) (Many ws l) i j s refl (omega (arith, words_order ts ws i h.0 h.1, gap_order ts l h.0 (first p) h.2)) (goes_order ts ps l (last p) j h.4) (subtree_of path p (item l) s h.3 e)
    part_of (suc n) path (more p ps) (Many ws l) i j s h e = there path n p ps (item l) (Many ws l) (Many ws l) i j s refl h.3 (omega (arith, words_order ts ws i h.0 h.1, gap_order ts l h.0 (first p) h.2)) (item_of n path ps ws l (last p) j s h.4 e)
    part_of n path (skip ps) (Many ws l) i j s h e = absurd h

    item_of : (n : ℕ) (path : List ℕ) (ps : Trees) (ws : List TokenKind) (l : Items) (i j : ℕ) (s : Tree) → Goes ts l i ps j → subtree_in n path ps ≡ Some s → Inside (Many ws l) n path ps i j s
    item_of n path none ws l i j s h e = cc
    item_of zero path (more p ps) ws l i j s h e = here path p ps (item l) (Many ws l) i j s refl (omega (arith, between_order ts l i h.0 h.1, gap_order ts l h.0 (first p) h.2)) (goes_order ts ps l (last p) j h.4) (subtree_of path p (item l) s h.3 e)
    item_of (suc n) path (more p ps) ws l i j s h e = there path n p ps (item l) (Many ws l) (Many ws l) i j s refl h.3 (omega (arith, between_order ts l i h.0 h.1, gap_order ts l h.0 (first p) h.2)) (item_of n path ps ws l (last p) j s h.4 e)
    item_of n path (skip ps) ws l i j s h e = absurd h

  -- items that stand one behind the other
  items_run : (n : ℕ) (p : Tree) (ps : Trees) (l : Items) (j : ℕ) → Derives ts (item l) p → Goes ts l (last p) ps j → has_items n ps ≡ true → Run ts l (more p (so_many n ps)) (first p) (items_end n p ps)
  items_run zero p ps l j d h e = (refl, d, refl)
  items_run (suc n) p none l j d h e = cc
  items_run (suc n) p (more q qs) l j d h e = (refl, d, h.0, h.1, h.2, items_run n q qs l j h.3 h.4 e)
  items_run (suc n) p (skip qs) l j d h e = cc

  goes_run : (f n : ℕ) (ps : Trees) (l : Items) (i j : ℕ) → Goes ts l i ps j → has_run f n ps ≡ true → Run ts l (run_at f n ps) (run_range f n ps).from (run_range f n ps).upto
  goes_run f n none l i j h e = cc
  goes_run zero n (more p ps) l i j h e = items_run n p ps l j h.3 h.4 e
  goes_run (suc f) n (more p ps) l i j h e = goes_run f n ps l (last p) j h.4 e
  goes_run f n (skip ps) l i j h e = absurd h

  pub run_of : (f n : ℕ) (ps : Trees) (r : Rule) (l : Items) (i j : ℕ) → Spells ts r i ps j → items_at f r ≡ Some l → has_run f n ps ≡ true → Run ts l (run_at f n ps) (run_range f n ps).from (run_range f n ps).upto
  run_of f n none r l i j h at e = cc
  run_of f n (more p ps) (End ws) l i j h at e = absurd h
  run_of f n (skip ps) (End ws) l i j h at e = absurd h
  run_of zero n (more p ps) (Then ws c r) l i j h at e = cc
  run_of (suc f) n (more p ps) (Then ws c r) l i j h at e = run_of f n ps r l (last p) j h.2 at e
  run_of f n (skip ps) (Then ws c r) l i j h at e = absurd h
  run_of zero n (more p ps) (Maybe ws c r) l i j h at e = cc
  run_of (suc f) n (more p ps) (Maybe ws c r) l i j h at e = run_of f n ps r l (last p) j h.2 at e
  run_of zero n (skip ps) (Maybe ws c r) l i j h at e = cc
  run_of (suc f) n (skip ps) (Maybe ws c r) l i j h at e = run_of f n ps r l h.0 j h.2 at e
  run_of zero n (more p ps) (Unless ws c us r) l i j h at e = cc
  run_of (suc f) n (more p ps) (Unless ws c us r) l i j h at e = run_of f n ps r l (last p) j h.2 at e
  run_of zero n (skip ps) (Unless ws c us r) l i j h at e = cc
  run_of (suc f) n (skip ps) (Unless ws c us r) l i j h at e = run_of f n ps r l h.0 j h.3 at e
  run_of zero n (more p ps) (Many ws k) l i j h at e =
      let same : k ≡ l = cc in
      subst (λ x. Run ts x (more p (so_many n ps)) (first p) (items_end n p ps)) same (items_run n p ps k j h.3 h.4 e)
  run_of (suc f) n (more p ps) (Many ws k) l i j h at e =
      let same : k ≡ l = cc in
      subst (λ x. Run ts x (run_at f n ps) (run_range f n ps).from (run_range f n ps).upto) same (goes_run f n ps k (last p) j h.4 e)
  run_of f n (skip ps) (Many ws k) l i j h at e = absurd h

  -- the items behind so many parts of a node
  pub node_run : (f n : ℕ) (k : Kind) (a b : ℕ) (ps : Trees) (c : Category) (l : Items) → Derives ts c (node k a b ps) → items_at f (rule (place_of c) k) ≡ Some l → has_run f n ps ≡ true → Run ts l (run_at f n ps) (run_range f n ps).from (run_range f n ps).upto
  node_run f n k a b ps c l h at e = run_of f n ps (rule (place_of c) k) l a b h.1 at e

  pub run_in : (f n : ℕ) (t : Tree) (c : Category) (l : Items) → IsRun ts c t f n l → RunStands ts t f n l
  run_in f n (node k a b ps) c l h = node_run f n k a b ps c l h.derives h.is_list h.has

  -- a run has a token
  pub run_grows : (l : Items) (new : Trees) (a b : ℕ) → Run ts l new a b → a < b
  run_grows l none a b r = absurd r
  run_grows l (skip ps) a b r = absurd r
  run_grows l (more p none) a b r = omega (arith, r.0, r.2, derives_grows ts p (item l) r.1)
  run_grows l (more p (skip qs)) a b r = absurd r
  run_grows l (more p (more q qs)) a b r = omega (arith, r.0, derives_grows ts p (item l) r.1, between_order ts l (last p) r.2 r.3, gap_order ts l r.2 (first q) r.4, run_grows l (more q qs) (first q) b r.5)

  -- what becomes of so many items fits where it is a run of what is listed there
  module _ (us : List TokenKind) (m : ℕ → ℕ) (new : Trees) (l : Items) where
    behind_done : (n : ℕ) → patches_behind n done ≡ done
    behind_done zero = refl
    behind_done (suc n) = behind_done n

    pub run_fits_at : (f n : ℕ) (ps : Trees) (r : Rule) (i j : ℕ) → items_at f r ≡ Some l → has_run f n ps ≡ true → run_range f n ps ≡ range i j → Run us l new (m i) (m j) → Edge ts us i (m i) → FitAll ts us m r ps (add_run f n new done)
    run_fits_at f n none r i j e h place is edge = cc
    run_fits_at zero n (more p ps) (End ws) i j e h place is edge = cc
    run_fits_at zero n (more p ps) (Then ws c r) i j e h place is edge = cc
    run_fits_at zero n (more p ps) (Maybe ws c r) i j e h place is edge = cc
    run_fits_at zero n (more p ps) (Unless ws c us' r) i j e h place is edge = cc
    run_fits_at zero n (more p ps) (Many ws k) i j e h place is edge =
        let same : l ≡ k = cc in
        let from : first p ≡ i = ap Range.from place in
        let upto : items_end n p ps ≡ j = ap Range.upto place in
        let stands : Run us k new (m (first p)) (m (items_end n p ps)) = subst (λ x. Run us x new (m (first p)) (m (items_end n p ps))) same (subst (λ x. Run us l new (m (first p)) (m x)) (sym upto) (subst (λ x. Run us l new (m x) (m j)) (sym from) is)) in
        (h, stands, subst (λ x. Edge ts us x (m x)) (sym from) edge, subst (λ z. FitAll ts us m (Many ws k) (items_behind n ps) z) (sym (behind_done n)) tt)
    run_fits_at zero n (skip ps) r i j e h place is edge = cc
    run_fits_at (suc f) n (more p ps) (End ws) i j e h place is edge = cc
    run_fits_at (suc f) n (more p ps) (Then ws c r) i j e h place is edge = (tt, run_fits_at f n ps r i j e h place is edge)
    run_fits_at (suc f) n (more p ps) (Maybe ws c r) i j e h place is edge = (tt, run_fits_at f n ps r i j e h place is edge)
    run_fits_at (suc f) n (more p ps) (Unless ws c us' r) i j e h place is edge = (tt, run_fits_at f n ps r i j e h place is edge)
    run_fits_at (suc f) n (more p ps) (Many ws k) i j e h place is edge = (tt, run_fits_at f n ps (Many ws k) i j e h place is edge)
    run_fits_at (suc f) n (skip ps) (End ws) i j e h place is edge = cc
    run_fits_at (suc f) n (skip ps) (Then ws c r) i j e h place is edge = run_fits_at f n ps r i j e h place is edge
    run_fits_at (suc f) n (skip ps) (Maybe ws c r) i j e h place is edge = run_fits_at f n ps r i j e h place is edge
    run_fits_at (suc f) n (skip ps) (Unless ws c us' r) i j e h place is edge = run_fits_at f n ps r i j e h place is edge
    run_fits_at (suc f) n (skip ps) (Many ws k) i j e h place is edge = run_fits_at f n ps (Many ws k) i j e h place is edge
