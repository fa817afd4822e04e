-- How deep a tree is with changes.
use Rattle.std.proofs.Common.{ℕ, zero, suc, ◌+◌, ◌-◌, ◌≤◌, max, List, [], ◌∷◌, arith}
use Rattle.go_grammar.specs.declared.kind.Kind.{Kind}
use Rattle.go_grammar.specs.Trees.{Tree, node, Trees, none, more, skip, weight, depth, depths, onto}
use Rattle.go_rewriting.specs.Places.{Patch, keep, put, inside, Patches, done, part, run, items_behind, become, become_all}
use Rattle.go_rewriting.specs.Sites.{Local, whole, items, Site, parts_of, next_patch, other_patches, nth_patch, set_patch, patches_behind, add_run, insert, patch_of, levels, levels_in, AllWithin}
use Rattle.go_rewriting.proofs.Texts.{depth_carry, depths_carry}

abbrev mutual
  -- the levels down to the deepest new node
  reach : Tree → Patch → ℕ
  reach t keep = 0
  reach t (put s) = depth s
  reach (node k a b ps) (inside qs) = weight k + reach_all ps qs

  reach_all : Trees → Patches → ℕ
  reach_all ps done = 0
  reach_all none (part q qs) = 0
  reach_all (more p ps) (part q qs) = max (reach p q) (reach_all ps qs)
  reach_all (skip ps) (part q qs) = reach_all ps qs
  reach_all none (run n new qs) = 0
  reach_all (more p ps) (run n new qs) = max (depths new) (reach_all (items_behind n ps) qs)
  reach_all (skip ps) (run n new qs) = 0

depths_both : (ps qs : Trees) (d : ℕ) → depths ps ≤ d → depths qs ≤ d → depths (onto ps qs) ≤ d
depths_both none qs d a b = b
depths_both (more p ps) qs d a b = omega (arith, a, depths_both ps qs d (omega (arith, a)) b)
depths_both (skip ps) qs d a b = depths_both ps qs d a b

depths_behind : (n : ℕ) (ps : Trees) (d : ℕ) → depths ps ≤ d → depths (items_behind n ps) ≤ d
depths_behind zero ps d h = h
depths_behind (suc n) none d h = h
depths_behind (suc n) (more p ps) d h = depths_behind n ps d (omega (arith, h))
depths_behind (suc n) (skip ps) d h = omega arith

module _ (m : ℕ → ℕ) where
  mutual
    become_depth : (q : Patch) (t : Tree) (d : ℕ) → depth t ≤ d → reach t q ≤ d → depth (become m t q) ≤ d
    become_depth keep t d h r = omega (arith, h, depth_carry m t)
    become_depth (put s) t d h r = r
    become_depth (inside qs) (node k a b ps) d h r =
        let in_row : depths (become_all m ps qs) ≤ d - weight k = row_depth qs ps (d - weight k) (omega (arith, h)) (omega (arith, r)) in
        omega (arith, in_row, h)

    row_depth : (qs : Patches) (ps : Trees) (d : ℕ) → depths ps ≤ d → reach_all ps qs ≤ d → depths (become_all m ps qs) ≤ d
    row_depth done ps d h r = omega (arith, h, depths_carry m ps)
    row_depth (part q qs) none d h r = omega arith
    row_depth (part q qs) (more p ps) d h r =
        let a : depth (become m p q) ≤ d = become_depth q p d (omega (arith, h)) (omega (arith, r)) in
        let b : depths (become_all m ps qs) ≤ d = row_depth qs ps d (omega (arith, h)) (omega (arith, r)) in
        omega (arith, a, b)
    row_depth (part q qs) (skip ps) d h r = row_depth qs ps d h r
    row_depth (run n new qs) none d h r = omega arith
    row_depth (run n new qs) (more p ps) d h r = depths_both new (become_all m (items_behind n ps) qs) d (omega (arith, r)) (row_depth qs (items_behind n ps) d (depths_behind n ps d (omega (arith, h))) (omega (arith, r)))
    row_depth (run n new qs) (skip ps) d h r = omega arith

next_reach : (qs : Patches) (p : Tree) (ps : Trees) (d : ℕ) → reach_all (more p ps) qs ≤ d → reach p (next_patch qs) ≤ d
next_reach done p ps d h = omega arith
next_reach (part q qs) p ps d h = omega (arith, h)
next_reach (run n new qs) p ps d h = omega arith

others_reach : (qs : Patches) (p : Tree) (ps : Trees) (d : ℕ) → reach_all (more p ps) qs ≤ d → reach_all ps (other_patches qs) ≤ d
others_reach done p ps d h = omega arith
others_reach (part q qs) p ps d h = omega (arith, h)
others_reach (run n new qs) p ps d h = omega arith

skip_reach : (qs : Patches) (ps : Trees) (d : ℕ) → reach_all (skip ps) qs ≤ d → reach_all ps (other_patches qs) ≤ d
skip_reach done ps d h = omega arith
skip_reach (part q qs) ps d h = h
skip_reach (run n new qs) ps d h = omega arith

parts_reach : (q : Patch) (k : Kind) (a b : ℕ) (ps : Trees) (d : ℕ) → reach (node k a b ps) q ≤ d → reach_all ps (parts_of q) ≤ d - weight k
parts_reach keep k a b ps d h = omega arith
parts_reach (put s) k a b ps d h = omega arith
parts_reach (inside qs) k a b ps d h = omega (arith, h)

nothing_reach : (zs : Patches) (d : ℕ) → reach_all none zs ≤ d
nothing_reach done d = omega arith
nothing_reach (part q zs) d = omega arith
nothing_reach (run n new zs) d = omega arith

behind_reach : (n : ℕ) (qs : Patches) (p : Tree) (ps : Trees) (d : ℕ) → reach_all (more p ps) qs ≤ d → reach_all (items_behind n ps) (patches_behind (suc n) qs) ≤ d
behind_reach zero qs p ps d h = others_reach qs p ps d h
behind_reach (suc n) qs p none d h = nothing_reach (patches_behind n (other_patches (other_patches qs))) d
behind_reach (suc n) qs p (more z ps) d h = behind_reach n (other_patches qs) z ps d (others_reach qs p (more z ps) d h)
behind_reach (suc n) qs p (skip ps) d h = nothing_reach (patches_behind n (other_patches (other_patches qs))) d

run_reach : (f n : ℕ) (new : Trees) (ps : Trees) (qs : Patches) (d : ℕ) → depths new ≤ d → reach_all ps qs ≤ d → reach_all ps (add_run f n new qs) ≤ d
run_reach zero n new none qs d le h = omega arith
run_reach zero n new (more p ps) qs d le h = omega (arith, le, behind_reach n qs p ps d h)
run_reach zero n new (skip ps) qs d le h = omega arith
run_reach (suc f) n new none qs d le h = omega arith
run_reach (suc f) n new (more p ps) qs d le h = omega (arith, next_reach qs p ps d h, run_reach f n new ps (other_patches qs) d le (others_reach qs p ps d h))
run_reach (suc f) n new (skip ps) qs d le h = run_reach f n new ps (other_patches qs) d le (skip_reach qs ps d h)

local_reach : (x : Local) (t : Tree) (q : Patch) (d : ℕ) → levels [] x t ≤ d → reach t q ≤ d → reach t (insert [] x q) ≤ d
local_reach (whole s) t q d le h = le
local_reach (items f n new) (node k a b ps) q d le h = omega (arith, le, run_reach f n new ps (parts_of q) (d - weight k) (omega (arith, le)) (parts_reach q k a b ps d h))

module _ (x : Local) where
  mutual
    insert_reach : (path : List ℕ) (t : Tree) (q : Patch) (d : ℕ) → levels path x t ≤ d → reach t q ≤ d → reach t (insert path x q) ≤ d
    insert_reach [] t q d le h = local_reach x t q d le h
    insert_reach (n ∷ path) (node k a b ps) q d le h = omega (arith, le, set_reach n path ps (parts_of q) (d - weight k) (omega (arith, le)) (parts_reach q k a b ps d h))

    set_reach : (n : ℕ) (path : List ℕ) (ps : Trees) (qs : Patches) (d : ℕ) → levels_in n path x ps ≤ d → reach_all ps qs ≤ d → reach_all ps (set_patch n (insert path x (nth_patch n qs)) qs) ≤ d
    set_reach zero path none qs d le h = omega arith
    set_reach (suc n) path none qs d le h = omega arith
    set_reach zero path (more p ps) qs d le h = omega (arith, insert_reach path p (next_patch qs) d le (next_reach qs p ps d h), others_reach qs p ps d h)
    set_reach (suc n) path (more p ps) qs d le h = omega (arith, next_reach qs p ps d h, set_reach n path ps (other_patches qs) d le (others_reach qs p ps d h))
    set_reach zero path (skip ps) qs d le h = skip_reach qs ps d h
    set_reach (suc n) path (skip ps) qs d le h = set_reach n path ps (other_patches qs) d le (skip_reach qs ps d h)

sites_reach : (xs : List Site) (t : Tree) (d : ℕ) → AllWithin d t xs → reach t (patch_of xs) ≤ d
sites_reach [] t d h = omega arith
sites_reach (x ∷ xs) t d h = insert_reach x.change x.path t (patch_of xs) d h.0 (sites_reach xs t d h.1)

pub sites_depth : (m : ℕ → ℕ) (t : Tree) (xs : List Site) (d : ℕ) → depth t ≤ d → AllWithin d t xs → depth (become m t (patch_of xs)) ≤ d
sites_depth m t xs d h a = become_depth m (patch_of xs) t d h (sites_reach xs t d a)
