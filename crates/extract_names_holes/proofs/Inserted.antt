-- A name in place of an expression that a path leads to, and others in the places that have one already: nothing else is replaced.
use Rattle.std.proofs.Common.{◌≡◌, ◌∙◌, ℕ, zero, suc, ◌+◌, Bool, true, false, List, [], ◌∷◌, Some, sym, ap, subst, arith}
use Rattle.std.specs.List.{AllByRecursion}
use Rattle.go_grammar.specs.declared.kind.Kind.{Kind}
use Rattle.go_grammar.specs.Trees.{Tree, node, Trees, none, more, skip, kind_of, first}
use Rattle.go_rewriting.specs.Places.{Patch, Patches, keep, put, inside, done, part, run}
use Rattle.go_rewriting.specs.Replacing.{subtree_at, subtree_in}
use Rattle.go_rewriting.specs.Sites.{Local, whole, parts_of, next_patch, other_patches, nth_patch, set_patch, insert}
use Rattle.go_scopes_events.proofs.Public.{and_both}
use Rattle.extract_names_derived.specs.Holes.{may_be_replaced, gives_operands, may_hold_holes, is_simple_part, name_over, HolesIn, HolesInRow, HolesInList}
use Rattle.go_function_holes.specs.Ways.{may_be_named, part_named}
use Rattle.extract_names_holes.specs.Spots.{Spot, SpotStands, spot_patches}

module _ (v : ℕ → ℕ) where
  -- ---- what is replaced of a row of parts, from its head on

  -- of the parts of a node that stays
  abbrev Held : Bool → Tree → Patch → Type 0
  Held o (node k i j ps) q = HolesInRow v o k 0 ps (parts_of q)

  row_next : (o : Bool) (k : Kind) (m : ℕ) (p : Tree) (ps : Trees) (qs : Patches) → HolesInRow v o k m (more p ps) qs → Held (gives_operands k m) p (next_patch qs)
  row_next o k m (node l a b rs) ps done h = tt
  row_next o k m (node l a b rs) ps (part keep qs) h = tt
  row_next o k m (node l a b rs) ps (part (put s) qs) h = tt
  row_next o k m (node l a b rs) ps (part (inside ts) qs) h = h.0.1
  row_next o k m p ps (run n new qs) h = absurd h

  row_other : (o : Bool) (k : Kind) (m : ℕ) (p : Tree) (ps : Trees) (qs : Patches) → HolesInRow v o k m (more p ps) qs → HolesInRow v o k (suc m) ps (other_patches qs)
  row_other o k m p ps done h = tt
  row_other o k m p ps (part keep qs) h = h
  row_other o k m p ps (part (put s) qs) h = h.3
  row_other o k m p ps (part (inside ts) qs) h = h.1
  row_other o k m p ps (run n new qs) h = absurd h

  row_skip : (o : Bool) (k : Kind) (m : ℕ) (ps : Trees) (qs : Patches) → HolesInRow v o k m (skip ps) qs → HolesInRow v o k (suc m) ps (other_patches qs)
  row_skip o k m ps done h = tt
  row_skip o k m ps (part q qs) h = h
  row_skip o k m ps (run n new qs) h = absurd h

  row_again : (o : Bool) (k : Kind) (m : ℕ) (p : Tree) (ps : Trees) (qs rest : Patches) → HolesInRow v o k m (more p ps) qs → HolesInRow v o k (suc m) ps rest → HolesInRow v o k m (more p ps) (part (next_patch qs) rest)
  row_again o k m p ps done rest h g = g
  row_again o k m p ps (part keep qs) rest h g = g
  row_again o k m p ps (part (put s) qs) rest h g = (h.0, h.1, h.2, g)
  row_again o k m p ps (part (inside ts) qs) rest h g = (h.0, g)
  row_again o k m p ps (run n new qs) rest h g = absurd h

  -- ---- of a list

  list_next : (p : Tree) (ps : Trees) (qs : Patches) → HolesInList v (more p ps) qs → Held false p (next_patch qs)
  list_next (node l a b rs) ps done h = tt
  list_next (node l a b rs) ps (part keep qs) h = tt
  list_next (node l a b rs) ps (part (put s) qs) h = tt
  list_next (node l a b rs) ps (part (inside ts) qs) h = h.0.1
  list_next p ps (run n new qs) h = absurd h

  list_other : (p : Tree) (ps : Trees) (qs : Patches) → HolesInList v (more p ps) qs → HolesInList v ps (other_patches qs)
  list_other p ps done h = tt
  list_other p ps (part q qs) h = h.1
  list_other p ps (run n new qs) h = absurd h

  list_skip : (ps : Trees) (qs : Patches) → HolesInList v (skip ps) qs → HolesInList v ps (other_patches qs)
  list_skip ps done h = tt
  list_skip ps (part q qs) h = h
  list_skip ps (run n new qs) h = absurd h

  list_again : (p : Tree) (ps : Trees) (qs rest : Patches) → HolesInList v (more p ps) qs → HolesInList v ps rest → HolesInList v (more p ps) (part (next_patch qs) rest)
  list_again p ps done rest h g = (tt, g)
  list_again p ps (part q qs) rest h g = (h.0, g)
  list_again p ps (run n new qs) rest h g = absurd h

  -- ---- a name at the end of the path

  module _ (stood : Tree) (x : ℕ) (begins : first stood ≡ x) where
    abbrev new : Local
    new = whole (name_over (v x))

    mutual
      insert_holes : (n : ℕ) (path : List ℕ) (o : Bool) (t : Tree) (q : Patch) → may_be_named o (n ∷ path) t ≡ true → subtree_at (n ∷ path) t ≡ Some stood → Held o t q → HolesIn v o t (insert (n ∷ path) new q)
      insert_holes n path o (node k i j ps) q e f h =
          let b = and_both (may_hold_holes k) (part_named o k n n path ps) e in
          (b.0, row_holes n n 0 path o k ps (parts_of q) (omega arith) b.1 f h)

      row_holes : (n m s : ℕ) (path : List ℕ) (o : Bool) (k : Kind) (ps : Trees) (qs : Patches) → m ≡ s + n → part_named o k m n path ps ≡ true → subtree_in n path ps ≡ Some stood → HolesInRow v o k s ps qs
          → HolesInRow v o k s ps (set_patch n (insert path new (nth_patch n qs)) qs)
      row_holes n m s path o k none qs is e f h = absurd cc
      row_holes zero m s [] o k (more p ps) qs is e f h =
          let same : p ≡ stood = cc in
          let at : m ≡ s = omega (arith, is) in
          let b = and_both (may_be_replaced o k m) (is_simple_part (kind_of p)) e in
          (subst (λ z. may_be_replaced o k z ≡ true) at b.0, b.1, ap (λ z. name_over (v z)) (sym (ap first same ∙ begins)), row_other o k s p ps qs h)
      row_holes zero m s (n ∷ path) o k (more p ps) qs is e f h =
          let at : m ≡ s = omega (arith, is) in
          (insert_holes n path (gives_operands k s) p (next_patch qs) (subst (λ z. may_be_named (gives_operands k z) (n ∷ path) p ≡ true) at e) f (row_next o k s p ps qs h), row_other o k s p ps qs h)
      row_holes (suc n) m s path o k (more p ps) qs is e f h =
          row_again o k s p ps qs (set_patch n (insert path new (nth_patch n (other_patches qs))) (other_patches qs)) h
          (row_holes n m (suc s) path o k ps (other_patches qs) (omega (arith, is)) e f (row_other o k s p ps qs h))
      row_holes zero m s path o k (skip ps) qs is e f h = absurd cc
      row_holes (suc n) m s path o k (skip ps) qs is e f h = row_holes n m (suc s) path o k ps (other_patches qs) (omega (arith, is)) e f (row_skip o k s ps qs h)

    list_holes : (n i : ℕ) (path : List ℕ) (top : Tree) (ps : Trees) (qs : Patches) → may_be_named false (i ∷ path) top ≡ true → subtree_in n [] ps ≡ Some top → subtree_in n (i ∷ path) ps ≡ Some stood → HolesInList v ps qs
        → HolesInList v ps (set_patch n (insert (i ∷ path) new (nth_patch n qs)) qs)
    list_holes n i path top none qs e g f h = absurd cc
    list_holes zero i path top (more p ps) qs e g f h =
        let same : top ≡ p = cc in
        (insert_holes i path false p (next_patch qs) (subst (λ z. may_be_named false (i ∷ path) z ≡ true) same e) f (list_next p ps qs h), list_other p ps qs h)
    list_holes (suc n) i path top (more p ps) qs e g f h =
        list_again p ps qs (set_patch n (insert (i ∷ path) new (nth_patch n (other_patches qs))) (other_patches qs)) h (list_holes n i path top ps (other_patches qs) e g f (list_other p ps qs h))
    list_holes zero i path top (skip ps) qs e g f h = absurd cc
    list_holes (suc n) i path top (skip ps) qs e g f h = list_holes n i path top ps (other_patches qs) e g f (list_skip ps qs h)

  -- ---- all

  pub spots_inside : (ps : Trees) (ss : List Spot) → AllByRecursion (SpotStands ps) ss → HolesInList v ps (spot_patches v ss)
  spots_inside ps [] h = tt
  spots_inside ps (s ∷ ss) h = let a = h.0 in list_holes a.stood s.from a.begins s.statement s.part s.path a.top ps (spot_patches v ss) a.named a.at_statement a.at_path (spots_inside ps ss h.1)
