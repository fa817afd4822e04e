-- Nodes agree with their parts where each tree that is replaced gets another of the same kinds.
use Rattle.std.proofs.Common.{◌≡◌, ℕ, zero, suc, Bool, true, false, List, [], ◌∷◌, Some, refl, sym, ap, ◌∙◌, subst}
use Rattle.std.specs.Prelude.{◌&&◌, ◌||◌, nat_le, if◌then◌else◌}
use Rattle.go_grammar.specs.declared.kind.Kind.{Kind}
use Rattle.go_grammar.specs.declared.kind.Kind.TheVariants as kind
use Rattle.go_grammar.specs.Trees.{Tree, node, Trees, none, more, skip}
use Rattle.go_grammar.specs.Grammar.{agrees, is_name, is_parameter, are_names, count, are_types, are_entries, ends_from, first_parts}
use Rattle.go_grammar.proofs.Public.{and_both}
use Rattle.go_rewriting.specs.Replacing.{agree, agree_all, subtree_at, subtree_in}
use Rattle.go_rewriting.specs.Places.{Patch, keep, put, inside, Patches, done, part, run, carry, carries, become, become_all, agreed, all_agreed}
use Rattle.go_rewriting.specs.Sites.{whole, Site, parts_of, next_patch, other_patches, nth_patch, set_patch, insert, patch_of}
use Rattle.go_rewriting.specs.Lists.{Alike, AlikeAll, AllAlike}
use Rattle.go_rewriting.proofs.Agreeing.{both_true}

-- what the kinds of parts tell is the same of alike parts
names_alike : (ps qs : Trees) → AlikeAll ps qs → are_names qs ≡ are_names ps
names_alike none none h = refl
names_alike none (more q qs) h = absurd h
names_alike none (skip qs) h = absurd h
names_alike (more p ps) none h = absurd h
names_alike (more (node k a b xs) ps) (more (node l c d ys) qs) h = ap (λ z. is_name z && are_names qs) (sym h.0.0) ∙ ap (λ x. is_name k && x) (names_alike ps qs h.1)
names_alike (more p ps) (skip qs) h = absurd h
names_alike (skip ps) none h = absurd h
names_alike (skip ps) (more q qs) h = absurd h
names_alike (skip ps) (skip qs) h = refl

count_alike : (ps qs : Trees) → AlikeAll ps qs → count qs ≡ count ps
count_alike none none h = refl
count_alike none (more q qs) h = absurd h
count_alike none (skip qs) h = absurd h
count_alike (more p ps) none h = absurd h
count_alike (more p ps) (more q qs) h = ap suc (count_alike ps qs h.1)
count_alike (more p ps) (skip qs) h = absurd h
count_alike (skip ps) none h = absurd h
count_alike (skip ps) (more q qs) h = absurd h
count_alike (skip ps) (skip qs) h = ap suc (count_alike ps qs h)

types_alike : (ps qs : Trees) → AlikeAll ps qs → are_types qs ≡ are_types ps
types_alike none none h = refl
types_alike none (more q qs) h = absurd h
types_alike none (skip qs) h = absurd h
types_alike (more p ps) none h = absurd h
types_alike (more (node k a b xs) ps) (more (node l c d ys) qs) h = ap (λ z. (if is_parameter z then false else true) && are_types qs) (sym h.0.0) ∙ ap (λ x. (if is_parameter k then false else true) && x) (types_alike ps qs h.1)
types_alike (more p ps) (skip qs) h = absurd h
types_alike (skip ps) none h = absurd h
types_alike (skip ps) (more q qs) h = absurd h
types_alike (skip ps) (skip qs) h = refl

entries_alike : (ps qs : Trees) → AlikeAll ps qs → are_entries qs ≡ are_entries ps
entries_alike none none h = refl
entries_alike none (more q qs) h = absurd h
entries_alike none (skip qs) h = absurd h
entries_alike (more p ps) none h = absurd h
entries_alike (more (node k a b xs) ps) (more (node l c d ys) qs) h = ap (λ z. (is_name z || is_parameter z) && are_entries qs) (sym h.0.0) ∙ ap (λ x. (is_name k || is_parameter k) && x) (entries_alike ps qs h.1)
entries_alike (more p ps) (skip qs) h = absurd h
entries_alike (skip ps) none h = absurd h
entries_alike (skip ps) (more q qs) h = absurd h
entries_alike (skip ps) (skip qs) h = refl

ends_alike : (b : Bool) (ps qs : Trees) → AlikeAll ps qs → ends_from b qs ≡ ends_from b ps
ends_alike b none none h = refl
ends_alike b none (more q qs) h = absurd h
ends_alike b none (skip qs) h = absurd h
ends_alike b (more p ps) none h = absurd h
ends_alike b (more (node k a c xs) ps) (more (node l d e ys) qs) h = ap (λ z. ends_from (is_parameter z) qs) (sym h.0.0) ∙ ends_alike (is_parameter k) ps qs h.1
ends_alike b (more p ps) (skip qs) h = absurd h
ends_alike b (skip ps) none h = absurd h
ends_alike b (skip ps) (more q qs) h = absurd h
ends_alike b (skip ps) (skip qs) h = ends_alike false ps qs h

first_alike : (ps qs : Trees) → AlikeAll ps qs → AlikeAll (first_parts ps) (first_parts qs)
first_alike none none h = tt
first_alike none (more q qs) h = absurd h
first_alike none (skip qs) h = absurd h
first_alike (more p ps) none h = absurd h
first_alike (more (node k a b xs) ps) (more (node l c d ys) qs) h = h.0.1
first_alike (more p ps) (skip qs) h = absurd h
first_alike (skip ps) none h = absurd h
first_alike (skip ps) (more q qs) h = absurd h
first_alike (skip ps) (skip qs) h = tt

two_alike : (ps qs : Trees) → AlikeAll ps qs → nat_le (count (first_parts (first_parts qs))) 2 ≡ nat_le (count (first_parts (first_parts ps))) 2
two_alike ps qs h = ap (λ n. nat_le n 2) (count_alike (first_parts (first_parts ps)) (first_parts (first_parts qs)) (first_alike (first_parts ps) (first_parts qs) (first_alike ps qs h)))

agrees_alike : (k : Kind) (ps qs : Trees) → AlikeAll ps qs → agrees k qs ≡ agrees k ps
agrees_alike kind.NewNames ps qs h = names_alike (first_parts ps) (first_parts qs) (first_alike ps qs h)
agrees_alike kind.AssigningRange ps qs h = two_alike ps qs h
agrees_alike kind.DefiningRange ps qs h = two_alike ps qs h
agrees_alike kind.Parameters ps qs h = ap (λ x. x || (ends_from false qs && are_entries qs)) (types_alike ps qs h) ∙ ap (λ x. are_types ps || (x && are_entries qs)) (ends_alike false ps qs h) ∙ ap (λ x. are_types ps || (ends_from false ps && x)) (entries_alike ps qs h)
agrees_alike _ ps qs h = refl

-- a patch that replaces each tree by an alike one
abbrev mutual
  Even : Tree → Patch → Type 0
  Even t keep = Unit {0}
  Even t (put s) = Alike t s
  Even (node k a b ps) (inside qs) = EvenAll ps qs

  EvenAll : Trees → Patches → Type 0
  EvenAll ps done = Unit {0}
  EvenAll none (part q qs) = Unit {0}
  EvenAll (more p ps) (part q qs) = Even p q × EvenAll ps qs
  EvenAll (skip ps) (part q qs) = EvenAll ps qs
  EvenAll ps (run n new qs) = ⊥

next_even : (qs : Patches) (p : Tree) (ps : Trees) → EvenAll (more p ps) qs → Even p (next_patch qs)
next_even done p ps h = tt
next_even (part q qs) p ps h = h.0
next_even (run n new qs) p ps h = absurd h

others_even : (qs : Patches) (p : Tree) (ps : Trees) → EvenAll (more p ps) qs → EvenAll ps (other_patches qs)
others_even done p ps h = tt
others_even (part q qs) p ps h = h.1
others_even (run n new qs) p ps h = absurd h

skip_even : (qs : Patches) (ps : Trees) → EvenAll (skip ps) qs → EvenAll ps (other_patches qs)
skip_even done ps h = tt
skip_even (part q qs) ps h = h
skip_even (run n new qs) ps h = absurd h

parts_even : (q : Patch) (k : Kind) (a b : ℕ) (ps : Trees) → Even (node k a b ps) q → EvenAll ps (parts_of q)
parts_even keep k a b ps h = tt
parts_even (put s) k a b ps h = tt
parts_even (inside qs) k a b ps h = h

module _ (old new : Tree) (alike : Alike old new) where
  mutual
    insert_even : (path : List ℕ) (t : Tree) (q : Patch) → Even t q → subtree_at path t ≡ Some old → Even t (insert path (whole new) q)
    insert_even [] t q h e = let same : t ≡ old = cc in subst (λ x. Alike x new) (sym same) alike
    insert_even (n ∷ path) (node k a b ps) q h e = set_even n path ps (parts_of q) (parts_even q k a b ps h) e

    set_even : (n : ℕ) (path : List ℕ) (ps : Trees) (qs : Patches) → EvenAll ps qs → subtree_in n path ps ≡ Some old → EvenAll ps (set_patch n (insert path (whole new) (nth_patch n qs)) qs)
    set_even n path none qs h e = cc
    set_even zero path (more p ps) qs h e = (insert_even path p (next_patch qs) (next_even qs p ps h) e, others_even qs p ps h)
    set_even (suc n) path (more p ps) qs h e = (next_even qs p ps h, set_even n path ps (other_patches qs) (others_even qs p ps h) e)
    set_even zero path (skip ps) qs h e = cc
    set_even (suc n) path (skip ps) qs h e = set_even n path ps (other_patches qs) (skip_even qs ps h) e

patch_even : (t : Tree) (xs : List Site) → AllAlike t xs → Even t (patch_of xs)
patch_even t [] h = tt
patch_even t (x ∷ xs) h =
    let s = h.0 in
    subst (λ y. Even t (insert x.path y (patch_of xs))) (sym s.is) (insert_even s.old s.new s.alike x.path t (patch_of xs) (patch_even t xs h.1) s.stood)

module _ (m : ℕ → ℕ) where
  mutual
    pub carry_alike : (t : Tree) → Alike t (carry m t)
    carry_alike (node k a b ps) = (refl, carries_alike ps)

    carries_alike : (ps : Trees) → AlikeAll ps (carries m ps)
    carries_alike none = tt
    carries_alike (more p ps) = (carry_alike p, carries_alike ps)
    carries_alike (skip ps) = carries_alike ps

  mutual
    become_alike : (q : Patch) (t : Tree) → Even t q → Alike t (become m t q)
    become_alike keep t h = carry_alike t
    become_alike (put s) t h = h
    become_alike (inside qs) (node k a b ps) h = (refl, row_alike qs ps h)

    row_alike : (qs : Patches) (ps : Trees) → EvenAll ps qs → AlikeAll ps (become_all m ps qs)
    row_alike done ps h = carries_alike ps
    row_alike (part q qs) none h = tt
    row_alike (part q qs) (more p ps) h = (become_alike q p h.0, row_alike qs ps h.1)
    row_alike (part q qs) (skip ps) h = row_alike qs ps h
    row_alike (run n new qs) ps h = absurd h

  mutual
    even_agreed : (q : Patch) (t : Tree) → Even t q → agree t ≡ true → agreed m t q ≡ true
    even_agreed keep t h g = refl
    even_agreed (put s) t h g = refl
    even_agreed (inside qs) (node k a b ps) h g =
        let both = and_both (agrees k ps) (agree_all ps) g in
        both_true (agrees k (become_all m ps qs)) (all_agreed m ps qs) (agrees_alike k ps (become_all m ps qs) (row_alike qs ps h) ∙ both.0) (row_agreed qs ps h both.1)

    row_agreed : (qs : Patches) (ps : Trees) → EvenAll ps qs → agree_all ps ≡ true → all_agreed m ps qs ≡ true
    row_agreed done ps h g = refl
    row_agreed (part q qs) none h g = refl
    row_agreed (part q qs) (more p ps) h g =
        let both = and_both (agree p) (agree_all ps) g in
        both_true (agreed m p q) (all_agreed m ps qs) (even_agreed q p h.0 both.0) (row_agreed qs ps h.1 both.1)
    row_agreed (part q qs) (skip ps) h g = row_agreed qs ps h g
    row_agreed (run n new qs) ps h g = absurd h

  pub alike_agreed : (t : Tree) (xs : List Site) → agree t ≡ true → AllAlike t xs → agreed m t (patch_of xs) ≡ true
  alike_agreed t xs g h = even_agreed (patch_of xs) t (patch_even t xs h) g

mutual
  pub alike_through : (t u v : Tree) → Alike t u → Alike u v → Alike t v
  alike_through (node k a b ps) (node l c d qs) (node n e f rs) h g = (h.0 ∙ g.0, rows_through ps qs rs h.1 g.1)

  rows_through : (ps qs rs : Trees) → AlikeAll ps qs → AlikeAll qs rs → AlikeAll ps rs
  rows_through none none rs h g = g
  rows_through none (more q qs) rs h g = absurd h
  rows_through none (skip qs) rs h g = absurd h
  rows_through (more p ps) none rs h g = absurd h
  rows_through (more p ps) (more q qs) none h g = absurd g
  rows_through (more p ps) (more q qs) (more r rs) h g = (alike_through p q r h.0 g.0, rows_through ps qs rs h.1 g.1)
  rows_through (more p ps) (more q qs) (skip rs) h g = absurd g
  rows_through (more p ps) (skip qs) rs h g = absurd h
  rows_through (skip ps) none rs h g = absurd h
  rows_through (skip ps) (more q qs) rs h g = absurd h
  rows_through (skip ps) (skip qs) none h g = absurd g
  rows_through (skip ps) (skip qs) (more r rs) h g = absurd g
  rows_through (skip ps) (skip qs) (skip rs) h g = rows_through ps qs rs h g
