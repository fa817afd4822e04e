-- Trees over other words for types.
use Rattle.std.proofs.Common.{◌≡◌, ◌∙◌, ℕ, suc, ◌+◌, Bool, true, false, List, [], ◌∷◌, ◌++◌, map, Option, ap, refl, sym}
use Rattle.std.proofs.lemmas.List.{map-append}
use Rattle.std.specs.Prelude.{◌&&◌, ◌||◌, not, nat_le, if◌then◌else◌}
use Rattle.go_typed.specs.Forms.{is_statement_list, is_holder, local_of}
use Rattle.go_typed.specs.Funcs.{is_tiled, are_tiled, is_whole, are_whole, is_full, is_named_so, named_at, size, sizes}
use Rattle.go_typed.specs.Lists.{own_list, statement_lists, lists_among}
use Rattle.go_typed.specs.Places.{covers, innermost, innermost_among}
use Rattle.go_typed.specs.Trees.{Typed, typed, Typeds, none, more, skip, mapped, all_mapped}

module _ {T U : Type 0} (g : T → U) where
  mutual
    pub tiled_mapped : (x : Typed T) → is_tiled (mapped g x) ≡ is_tiled x
    tiled_mapped (typed f i j l ps) = tiles_mapped i j ps

    tiles_mapped : (i j : ℕ) (ps : Typeds T) → are_tiled i j (all_mapped g ps) ≡ are_tiled i j ps
    tiles_mapped i j none = refl
    tiles_mapped i j (more (typed f a b l qs) ps) =
        ap (λ h. nat_le i a && h && are_tiled b j (all_mapped g ps)) (tiles_mapped a b qs) ∙ ap (λ h. nat_le i a && are_tiled a b qs && h) (tiles_mapped b j ps)
    tiles_mapped i j (skip ps) = tiles_mapped i j ps

  mutual
    pub size_mapped : (x : Typed T) → size (mapped g x) ≡ size x
    size_mapped (typed f i j l ps) = ap suc (sizes_mapped ps)

    sizes_mapped : (ps : Typeds T) → sizes (all_mapped g ps) ≡ sizes ps
    sizes_mapped none = refl
    sizes_mapped (more p ps) = ap (λ n. n + sizes (all_mapped g ps)) (size_mapped p) ∙ ap (λ n. size p + n) (sizes_mapped ps)
    sizes_mapped (skip ps) = sizes_mapped ps

  full_mapped : (ps : Typeds T) → is_full (all_mapped g ps) ≡ is_full ps
  full_mapped none = refl
  full_mapped (more p ps) = full_mapped ps
  full_mapped (skip ps) = refl

  mutual
    pub whole_mapped : (tokens : List (Option ℕ)) (x : Typed T) → is_whole tokens (mapped g x) ≡ is_whole tokens x
    whole_mapped tokens (typed f i j l ps) =
        ap (λ b. not (is_holder f) && is_named_so (named_at tokens i) (local_of f) && (not (is_statement_list f) || b) && are_whole tokens (all_mapped g ps)) (full_mapped ps)
        ∙ ap (λ b. not (is_holder f) && is_named_so (named_at tokens i) (local_of f) && (not (is_statement_list f) || is_full ps) && b) (wholes_mapped tokens ps)

    wholes_mapped : (tokens : List (Option ℕ)) (ps : Typeds T) → are_whole tokens (all_mapped g ps) ≡ are_whole tokens ps
    wholes_mapped tokens none = refl
    wholes_mapped tokens (more p ps) = ap (λ b. b && are_whole tokens (all_mapped g ps)) (whole_mapped tokens p) ∙ ap (λ b. is_whole tokens p && b) (wholes_mapped tokens ps)
    wholes_mapped tokens (skip ps) = wholes_mapped tokens ps

  mutual
    pub innermost_mapped : (t : ℕ) (x : Typed T) → innermost t (mapped g x) ≡ innermost t x
    innermost_mapped t (typed f i j l ps) = innermosts_mapped t 1 ps

    innermosts_mapped : (t n : ℕ) (ps : Typeds T) → innermost_among t n (all_mapped g ps) ≡ innermost_among t n ps
    innermosts_mapped t n none = refl
    innermosts_mapped t n (more (typed f a b l qs) ps) =
        ap (λ k. if covers (typed f a b l qs) t then n + k else innermost_among t (n + size (mapped g (typed f a b l qs))) (all_mapped g ps)) (innermosts_mapped t 1 qs)
        ∙ ap (λ k. if covers (typed f a b l qs) t then n + innermost_among t 1 qs else innermost_among t (n + k) (all_mapped g ps)) (size_mapped (typed f a b l qs))
        ∙ ap (λ k. if covers (typed f a b l qs) t then n + innermost_among t 1 qs else k) (innermosts_mapped t (n + size (typed f a b l qs)) ps)
    innermosts_mapped t n (skip ps) = innermosts_mapped t n ps

  own_mapped : (b : Bool) (x : Typed T) → (if b then mapped g x ∷ [] else []) ≡ map (mapped g) (if b then x ∷ [] else [])
  own_mapped true x = refl
  own_mapped false x = refl

  mutual
    pub lists_mapped : (x : Typed T) → statement_lists (mapped g x) ≡ map (mapped g) (statement_lists x)
    lists_mapped (typed f i j l ps) =
        ap (λ xs. xs ++ lists_among (all_mapped g ps)) (own_mapped (is_statement_list f) (typed f i j l ps))
        ∙ ap (λ xs. map (mapped g) (own_list (typed f i j l ps)) ++ xs) (among_mapped ps)
        ∙ sym (map-append (mapped g) (own_list (typed f i j l ps)) (lists_among ps))

    among_mapped : (ps : Typeds T) → lists_among (all_mapped g ps) ≡ map (mapped g) (lists_among ps)
    among_mapped none = refl
    among_mapped (more p ps) =
        ap (λ xs. xs ++ lists_among (all_mapped g ps)) (lists_mapped p)
        ∙ ap (λ xs. map (mapped g) (statement_lists p) ++ xs) (among_mapped ps)
        ∙ sym (map-append (mapped g) (statement_lists p) (lists_among ps))
    among_mapped (skip ps) = among_mapped ps
