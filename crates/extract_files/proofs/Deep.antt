-- Trees of which only nodes change that are at least two levels below the top.
use Rattle.std.proofs.Common.{◌≡◌, ℕ, zero, suc, Bool, true, false, ◌&&◌, List, [], ◌∷◌, refl, ap, ◌∙◌}
use Rattle.go_tokens.proofs.Public.{both, and_both}
use Rattle.go_grammar.specs.Trees.{Tree, node, Trees, none, more, skip, kind_of, first, last, parts}
use Rattle.go_rewriting.specs.Lists.{has_run}
use Rattle.go_rewriting.specs.Places.{Patch, keep, put, inside, Patches, done, part, run, has_items, items_end, become, become_all, range, Range, Change}
use Rattle.go_rewriting.specs.Sites.{parts_of, next_patch, other_patches, set_patch, patch_of, run_range}
use Rattle.extract_files.specs.Holes.{Hole, name_sites}

-- the node stays
abbrev deep : Patch → Bool
deep keep = true
deep (put s) = false
deep (inside qs) = true

abbrev all_deep : Patches → Bool
all_deep done = true
all_deep (part q qs) = deep q && all_deep qs
all_deep (run n new qs) = false

-- the node and its parts stay
abbrev pub below : Patch → Bool
below keep = true
below (put s) = false
below (inside qs) = all_deep qs

other_deep : (qs : Patches) → all_deep qs ≡ true → all_deep (other_patches qs) ≡ true
other_deep done d = refl
other_deep (part q qs) d = (both (deep q) (all_deep qs) d).1
other_deep (run n new qs) d = cc

next_deep : (qs : Patches) → all_deep qs ≡ true → deep (next_patch qs) ≡ true
next_deep done d = refl
next_deep (part q qs) d = (both (deep q) (all_deep qs) d).0
next_deep (run n new qs) d = cc

set_deep : (n : ℕ) (q : Patch) (qs : Patches) → deep q ≡ true → all_deep qs ≡ true → all_deep (set_patch n q qs) ≡ true
set_deep zero q qs e d = and_both (deep q) (all_deep (other_patches qs)) e (other_deep qs d)
set_deep (suc n) q qs e d = and_both (deep (next_patch qs)) (all_deep (set_patch n q (other_patches qs))) (next_deep qs d) (set_deep n q (other_patches qs) e (other_deep qs d))

below_parts : (q : Patch) → below q ≡ true → all_deep (parts_of q) ≡ true
below_parts keep d = refl
below_parts (put s) d = cc
below_parts (inside qs) d = d

-- names stand below
pub names_below : (xs : List Change) (hs : List Hole) → below (patch_of (name_sites xs hs)) ≡ true
names_below xs [] = refl
names_below xs (h ∷ hs) = set_deep h.statement _ (parts_of (patch_of (name_sites xs hs))) refl (below_parts (patch_of (name_sites xs hs)) (names_below xs hs))

-- ---- rows

more_is : (m : ℕ → ℕ) (p : Tree) (ps : Trees) (qs : Patches) → all_deep qs ≡ true → become_all m (more p ps) qs ≡ more (become m p (next_patch qs)) (become_all m ps (other_patches qs))
more_is m p ps done d = refl
more_is m p ps (part q qs) d = refl
more_is m p ps (run n new qs) d = cc

skip_is : (m : ℕ → ℕ) (ps : Trees) (qs : Patches) → all_deep qs ≡ true → become_all m (skip ps) qs ≡ skip (become_all m ps (other_patches qs))
skip_is m ps done d = refl
skip_is m ps (part q qs) d = refl
skip_is m ps (run n new qs) d = cc

none_is : (m : ℕ → ℕ) (qs : Patches) → all_deep qs ≡ true → become_all m none qs ≡ none
none_is m done d = refl
none_is m (part q qs) d = refl
none_is m (run n new qs) d = cc

first_is : (m : ℕ → ℕ) (t : Tree) (q : Patch) → deep q ≡ true → first (become m t q) ≡ m (first t)
first_is m (node k a b ps) keep d = refl
first_is m (node k a b ps) (put s) d = cc
first_is m (node k a b ps) (inside qs) d = refl

last_is : (m : ℕ → ℕ) (t : Tree) (q : Patch) → deep q ≡ true → last (become m t q) ≡ m (last t)
last_is m (node k a b ps) keep d = refl
last_is m (node k a b ps) (put s) d = cc
last_is m (node k a b ps) (inside qs) d = refl

pub kind_is : (m : ℕ → ℕ) (t : Tree) (q : Patch) → below q ≡ true → kind_of (become m t q) ≡ kind_of t
kind_is m (node k a b ps) keep d = refl
kind_is m (node k a b ps) (put s) d = cc
kind_is m (node k a b ps) (inside qs) d = refl

parts_are : (m : ℕ → ℕ) (t : Tree) (q : Patch) → below q ≡ true → parts (become m t q) ≡ become_all m (parts t) (parts_of q)
parts_are m (node k a b ps) keep d = refl
parts_are m (node k a b ps) (put s) d = cc
parts_are m (node k a b ps) (inside qs) d = refl

same_items : (m : ℕ → ℕ) (n : ℕ) (ps : Trees) (qs : Patches) → all_deep qs ≡ true → has_items n (become_all m ps qs) ≡ has_items n ps
same_items m zero ps qs d = refl
same_items m (suc n) none qs d = ap (has_items (suc n)) (none_is m qs d)
same_items m (suc n) (more p ps) qs d = ap (has_items (suc n)) (more_is m p ps qs d) ∙ same_items m n ps (other_patches qs) (other_deep qs d)
same_items m (suc n) (skip ps) qs d = ap (has_items (suc n)) (skip_is m ps qs d)

same_run : (m : ℕ → ℕ) (f n : ℕ) (ps : Trees) (qs : Patches) → all_deep qs ≡ true → has_run f n (become_all m ps qs) ≡ has_run f n ps
same_run m f n none qs d = ap (has_run f n) (none_is m qs d) ∙ nothing f
  where
    nothing : (f : ℕ) → has_run f n none ≡ has_run f n none
    nothing f = refl
same_run m zero n (more p ps) qs d = ap (has_run zero n) (more_is m p ps qs d) ∙ same_items m n ps (other_patches qs) (other_deep qs d)
same_run m zero n (skip ps) qs d = ap (has_run zero n) (skip_is m ps qs d)
same_run m (suc f) n (more p ps) qs d = ap (has_run (suc f) n) (more_is m p ps qs d) ∙ same_run m f n ps (other_patches qs) (other_deep qs d)
same_run m (suc f) n (skip ps) qs d = ap (has_run (suc f) n) (skip_is m ps qs d) ∙ same_run m f n ps (other_patches qs) (other_deep qs d)

end_moved : (m : ℕ → ℕ) (n : ℕ) (p : Tree) (q : Patch) (ps : Trees) (qs : Patches) → deep q ≡ true → all_deep qs ≡ true → items_end n (become m p q) (become_all m ps qs) ≡ m (items_end n p ps)
end_moved m zero p q ps qs e d = last_is m p q e
end_moved m (suc n) p q none qs e d = ap (items_end (suc n) (become m p q)) (none_is m qs d) ∙ last_is m p q e
end_moved m (suc n) p q (more r rs) qs e d = ap (items_end (suc n) (become m p q)) (more_is m r rs qs d) ∙ end_moved m n r (next_patch qs) rs (other_patches qs) (next_deep qs d) (other_deep qs d)
end_moved m (suc n) p q (skip rs) qs e d = ap (items_end (suc n) (become m p q)) (skip_is m rs qs d) ∙ last_is m p q e

-- a range with its places moved
abbrev pub moved_range : (ℕ → ℕ) → Range → Range
moved_range m r = range (m r.from) (m r.upto)

same_range : (i j k l : ℕ) → i ≡ k → j ≡ l → range i j ≡ range k l
same_range i j k l e f = ap (λ n. range n j) e ∙ ap (λ n. range k n) f

run_moved : (m : ℕ → ℕ) (f n : ℕ) (ps : Trees) (qs : Patches) → all_deep qs ≡ true → has_run f n ps ≡ true → run_range f n (become_all m ps qs) ≡ moved_range m (run_range f n ps)
run_moved m zero n none qs d h = cc
run_moved m (suc f) n none qs d h = cc
run_moved m zero n (more p ps) qs d h =
    ap (run_range zero n) (more_is m p ps qs d)
    ∙ same_range _ _ _ _ (first_is m p (next_patch qs) (next_deep qs d)) (end_moved m n p (next_patch qs) ps (other_patches qs) (next_deep qs d) (other_deep qs d))
run_moved m zero n (skip ps) qs d h = cc
run_moved m (suc f) n (more p ps) qs d h = ap (run_range (suc f) n) (more_is m p ps qs d) ∙ run_moved m f n ps (other_patches qs) (other_deep qs d) h
run_moved m (suc f) n (skip ps) qs d h = ap (run_range (suc f) n) (skip_is m ps qs d) ∙ run_moved m f n ps (other_patches qs) (other_deep qs d) h

-- ---- the new node lists as many items, at the moved places

pub run_stays : (m : ℕ → ℕ) (t : Tree) (q : Patch) (f n : ℕ) → below q ≡ true → has_run f n (parts (become m t q)) ≡ has_run f n (parts t)
run_stays m t q f n d = ap (has_run f n) (parts_are m t q d) ∙ same_run m f n (parts t) (parts_of q) (below_parts q d)

pub range_moves : (m : ℕ → ℕ) (t : Tree) (q : Patch) (f n : ℕ) → below q ≡ true → has_run f n (parts t) ≡ true → run_range f n (parts (become m t q)) ≡ moved_range m (run_range f n (parts t))
range_moves m t q f n d h = ap (run_range f n) (parts_are m t q d) ∙ run_moved m f n (parts t) (parts_of q) (below_parts q d) h
