-- What is asked of the new trees where they stand alone holds of them where they stand.
use Rattle.std.proofs.Common.{◌≡◌, ℕ, zero, suc, ◌+◌, ◌≤◌, true, List, [], ◌∷◌, refl, sym, ap, ◌∙◌, subst}
use Rattle.std.specs.Prelude.{◌&&◌}
use Rattle.go_tokens.specs.declared.token.TokenKind.{TokenKind}
use Rattle.go_grammar.specs.declared.kind.Category.{Category}
use Rattle.go_grammar.specs.Trees.{Tree, node, Trees, none, more, skip, weight, depth}
use Rattle.go_grammar.specs.Grammar.{Derives}
use Rattle.go_rewriting.specs.Places.{carry}
use Rattle.go_rewriting.specs.Sites.{Local, whole, items, is_free_for, may_change, is_clear, is_clear_in, all_clear, local_depth, levels, levels_in, AllWithin}
use Rattle.go_rewriting.specs.Lists.{AllAlike}
use Rattle.go_rewriting.proofs.Agreeing.{derives_agree, sites_agreed}
use Rattle.go_rewriting.proofs.Alike.{carry_alike, alike_through, alike_agreed}
use Rattle.go_rewriting.proofs.Depths.{sites_depth}
use Rattle.go_rewriting.proofs.Texts.{depth_carry, depths_carry}
use Rattle.go_rewriting.specs.Rewriting.{Rewrite, move, settled, sites, sites_alone, agreeing, new_tree}

module _ (m : ℕ → ℕ) where
  free_settled : (x : Local) (t : Tree) → is_free_for (settled m x) t ≡ is_free_for x t
  free_settled (whole s) t = refl
  free_settled (items f n new) (node k a b ps) = refl

  mutual
    clear_settled : (path : List ℕ) (x : Local) (t : Tree) → is_clear path (settled m x) t ≡ is_clear path x t
    clear_settled [] x t = free_settled x t
    clear_settled (n ∷ path) x (node k a b ps) = ap (λ y. may_change k n path && y) (clear_in_settled n path x ps)

    clear_in_settled : (n : ℕ) (path : List ℕ) (x : Local) (ps : Trees) → is_clear_in n path (settled m x) ps ≡ is_clear_in n path x ps
    clear_in_settled n path x none = refl
    clear_in_settled zero path x (more p ps) = clear_settled path x p
    clear_in_settled (suc n) path x (more p ps) = clear_in_settled n path x ps
    clear_in_settled zero path x (skip ps) = refl
    clear_in_settled (suc n) path x (skip ps) = clear_in_settled n path x ps

  depth_settled : (x : Local) (t : Tree) → local_depth (settled m x) t ≡ local_depth x t
  depth_settled (whole s) t = depth_carry m s
  depth_settled (items f n new) (node k a b ps) = ap (λ d. weight k + d) (depths_carry m new)

  mutual
    levels_settled : (path : List ℕ) (x : Local) (t : Tree) → levels path (settled m x) t ≡ levels path x t
    levels_settled [] x t = depth_settled x t
    levels_settled (n ∷ path) x (node k a b ps) = ap (λ d. weight k + d) (levels_in_settled n path x ps)

    levels_in_settled : (n : ℕ) (path : List ℕ) (x : Local) (ps : Trees) → levels_in n path (settled m x) ps ≡ levels_in n path x ps
    levels_in_settled n path x none = refl
    levels_in_settled zero path x (more p ps) = levels_settled path x p
    levels_in_settled (suc n) path x (more p ps) = levels_in_settled n path x ps
    levels_in_settled zero path x (skip ps) = refl
    levels_in_settled (suc n) path x (skip ps) = levels_in_settled n path x ps

module _ (m : ℕ → ℕ) (t : Tree) where
  all_clear_settled : (rs : List Rewrite) → all_clear t (sites m rs) ≡ all_clear t (sites_alone rs)
  all_clear_settled [] = refl
  all_clear_settled (r ∷ rs) = ap (λ b. b && all_clear t (sites m rs)) (clear_settled (λ k. m r.from + k) r.path r.change t) ∙ ap (λ b. is_clear r.path r.change t && b) (all_clear_settled rs)

  within_settled : (d : ℕ) (rs : List Rewrite) → AllWithin d t (sites_alone rs) → AllWithin d t (sites m rs)
  within_settled d [] h = tt
  within_settled d (r ∷ rs) h = (subst (λ n. n ≤ d) (sym (levels_settled (λ k. m r.from + k) r.path r.change t)) h.0, within_settled d rs h.1)

  alike_settled : (rs : List Rewrite) → AllAlike t (sites_alone rs) → AllAlike t (sites m rs)
  alike_settled [] h = tt
  alike_settled (r ∷ rs) h =
      let move_r : ℕ → ℕ = λ k. m r.from + k in (
        record { old = h.0.old; new = carry (λ k. m r.from + k) h.0.new; stood = h.0.stood; is = ap (settled (λ k. m r.from + k)) h.0.is; alike = alike_through h.0.old h.0.new (carry (λ k. m r.from + k) h.0.new) h.0.alike (carry_alike (λ k. m r.from + k) h.0.new) },
        alike_settled rs h.1,
      )

pub clear_rewrites : (ts : List TokenKind) (c : Category) (t : Tree) (rs : List Rewrite) → Derives ts c t → all_clear t (sites_alone rs) ≡ true → agreeing rs t ≡ true
clear_rewrites ts c t rs h e = sites_agreed (move rs) t (sites (move rs) rs) (derives_agree ts t c h) (all_clear_settled (move rs) t rs ∙ e)

pub alike_rewrites : (ts : List TokenKind) (c : Category) (t : Tree) (rs : List Rewrite) → Derives ts c t → AllAlike t (sites_alone rs) → agreeing rs t ≡ true
alike_rewrites ts c t rs h e = alike_agreed (move rs) t (sites (move rs) rs) (derives_agree ts t c h) (alike_settled (move rs) t rs e)

pub shallow_rewrites : (t : Tree) (rs : List Rewrite) (d : ℕ) → depth t ≤ d → AllWithin d t (sites_alone rs) → depth (new_tree rs t) ≤ d
shallow_rewrites t rs d h w = sites_depth (move rs) t (sites (move rs) rs) d h (within_settled (move rs) t d rs w)
