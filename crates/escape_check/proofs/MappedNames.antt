-- Refusals for names, imports and results are the same over other words for types.
use Rattle.std.proofs.Common.{◌≡◌, ◌∙◌, ℕ, Bool, false, List, [], ◌∷◌, ◌++◌, filter, map, refl, sym, ap}
use Rattle.std.proofs.lemmas.List.{map-append}
use Rattle.std.specs.Prelude.{◌&&◌, ◌||◌, not, nat_eq, nat_lt, slice_get}
use Rattle.std.specs.List.{list_any}
use Rattle.go_scopes.specs.Resolve.{units_of}
use Rattle.go_tokens.specs.Spellings.{same_text}
use Rattle.go_tree.specs.Lookups.{Asked}
use Rattle.go_typed.specs.declared.walk.LocalUse.{LocalUse}
use Rattle.go_typed.specs.Places.{nodes, nodes_among, covers}
use Rattle.go_typed.specs.Trees.{Typed, typed, Typeds, none, more, skip, form_of, mapped, all_mapped}
use Rattle.clone_window.specs.Sameness.{sort_at, standing}
use Rattle.param_choose.specs.Choosing.{Choice}
use Rattle.param_choose.specs.Holes.{Hole, holes, is_fixed, is_outer}
use Rattle.param_choose.specs.Locals.{Variable, declared_names, free_locals, has, is_outside}
use Rattle.param_choose.specs.Members.{Member, local_at, uses_within}
use Rattle.param_choose.proofs.Public.{choice_mapped, declared-mapped, free-mapped, hole_mapped, holes-mapped, local-at-mapped, member_mapped, outer-mapped, sort-at-mapped, standing-mapped, variable_mapped}
use Rattle.escape_check.specs.Lookups.{all_asked, imports, is_import_in, is_left_unused, keeps_import, left_unused, locals_at, lost_imports, stands_in, stays}
use Rattle.escape_check.specs.Names.{declaring_places, escapes, escaping, hole_covers, is_closed, is_free, is_in_closed, is_in_hole, is_shadowing, is_unwritable, is_variable, local_names, shadowing, uses_behind}
use Rattle.escape_check.specs.Places.{Sources, declaring_place, file_of, local_text, place_if, token_place, window_place}
use Rattle.escape_check.proofs.Alike.{any_alike}
use Rattle.escape_check.proofs.Escaping.{any-map, filter-alike}

module _ {T U : Type 0} (g : T → U) where
  -- ---- names of constants and types that are declared

  fixed-mapped : (m : Member T) (n : ℕ) → is_fixed (member_mapped g m) n ≡ is_fixed m n
  fixed-mapped m n = ap (λ s. nat_lt 1 (standing s)) (sort-at-mapped g m.locals n) ∙ ap (nat_lt 1) (standing-mapped g (sort_at m.locals n))

  escapes-mapped : (m : Member T) (u : LocalUse) → escapes (member_mapped g m) u ≡ escapes m u
  escapes-mapped m u =
      ap (λ ns. has ns u.local && is_fixed (member_mapped g m) u.local) (declared-mapped g m.statements) ∙ ap (λ b. has (declared_names m) u.local && b) (fixed-mapped m u.local)

  pub escaping-mapped : (s : Sources) (m : Member T) → escaping s (member_mapped g m) ≡ escaping s m
  escaping-mapped s m = ap (map (λ u. token_place s m u.token)) (filter-alike (escapes (member_mapped g m)) (escapes m) (escapes-mapped m) (uses_behind m))

  -- ---- names that can't be written

  mutual
    nodes-mapped : (x : Typed T) → nodes (mapped g x) ≡ map (mapped g) (nodes x)
    nodes-mapped (typed f i j l ps) = ap (λ xs. mapped g (typed f i j l ps) ∷ xs) (nodes-among-mapped ps)

    nodes-among-mapped : (ps : Typeds T) → nodes_among (all_mapped g ps) ≡ map (mapped g) (nodes_among ps)
    nodes-among-mapped none = refl
    nodes-among-mapped (more p ps) =
        ap (λ xs. xs ++ nodes_among (all_mapped g ps)) (nodes-mapped p)
        ∙ ap (λ xs. map (mapped g) (nodes p) ++ xs) (nodes-among-mapped ps)
        ∙ sym (map-append (mapped g) (nodes p) (nodes_among ps))
    nodes-among-mapped (skip ps) = nodes-among-mapped ps

  closed-node-mapped : (t : ℕ) (x : Typed T) → (is_closed (form_of (mapped g x)) && covers (mapped g x) t) ≡ (is_closed (form_of x) && covers x t)
  closed-node-mapped t (typed f i j l ps) = refl

  in-closed-mapped : (m : Member T) (t : ℕ) → is_in_closed (member_mapped g m) t ≡ is_in_closed m t
  in-closed-mapped m t =
      let closed : Typed U → Bool = λ (x : Typed U). is_closed (form_of x) && covers x t in
      ap (list_any closed) (nodes-among-mapped m.statements)
      ∙ any-map (mapped g) closed (nodes_among m.statements)
      ∙ any_alike (λ x. closed (mapped g x)) (λ (x : Typed T). is_closed (form_of x) && covers x t) (closed-node-mapped t) (nodes_among m.statements)

  in-hole-mapped : (m : Member T) (t : ℕ) → is_in_hole (member_mapped g m) t ≡ is_in_hole m t
  in-hole-mapped m t = ap (list_any (λ (h : Hole U). hole_covers h t)) (holes-mapped g 0 false m.statements) ∙ any-map (hole_mapped g) (λ (h : Hole U). hole_covers h t) (holes m)

  variable-mapped : (m : Member T) (n : ℕ) → is_variable (member_mapped g m) n ≡ is_variable m n
  variable-mapped m n = ap (λ s. nat_eq (standing s) 1) (sort-at-mapped g m.locals n) ∙ ap (λ k. nat_eq k 1) (standing-mapped g (sort_at m.locals n))

  unwritable-mapped : (m : Member T) (u : LocalUse) → is_unwritable (member_mapped g m) u ≡ is_unwritable m u
  unwritable-mapped m u =
      let new = member_mapped g m in
      ap (λ b. (b && not (is_in_hole new u.token)) || (is_free new u.local && is_in_closed new u.token)) (outer-mapped g m u)
      ∙ ap (λ b. (is_outer m u && not b) || (is_free new u.local && is_in_closed new u.token)) (in-hole-mapped m u.token)
      ∙ ap (λ b. (is_outer m u && not (is_in_hole m u.token)) || ((b && is_outside m u.local) && is_in_closed new u.token)) (variable-mapped m u.local)
      ∙ ap (λ b. (is_outer m u && not (is_in_hole m u.token)) || (is_free m u.local && b)) (in-closed-mapped m u.token)

  pub local-names-mapped : (s : Sources) (m : Member T) → local_names s (member_mapped g m) ≡ local_names s m
  local-names-mapped s m =
      ap (map (λ u. token_place s m u.token)) (filter-alike (is_unwritable (member_mapped g m)) (is_unwritable m) (unwritable-mapped m) (uses_within m))

  -- ---- names that are spelled alike

  places-mapped : (m : Member T) (ns : List ℕ) → declaring_places (member_mapped g m) ns ≡ declaring_places m ns
  places-mapped m [] = refl
  places-mapped m (n ∷ ns) = ap (λ ps. declaring_place (slice_get m.declared n) ++ ps) (places-mapped m ns)

  alike-mapped : (s : Sources) (m : Member T) (n : ℕ) → is_shadowing s (member_mapped g m) n ≡ is_shadowing s m n
  alike-mapped s m n =
      let alike : Variable U → Bool = λ (v : Variable U). same_text (local_text s m v.local) (local_text s m n) in
      ap (list_any alike) (free-mapped g m) ∙ any-map (variable_mapped g) alike (free_locals m)

  pub shadowing-mapped : (s : Sources) (m : Member T) → shadowing s (member_mapped g m) ≡ shadowing s m
  shadowing-mapped s m =
      let new = member_mapped g m in
      places-mapped m (filter (is_shadowing s new) (declared_names new))
      ∙ ap (declaring_places m) (
      filter-alike (is_shadowing s new) (is_shadowing s m) (alike-mapped s m) (declared_names new)
      ∙ ap (filter (is_shadowing s m)) (declared-mapped g m.statements)
      )

  -- ---- imports

  stays-mapped : (s : Sources) (t : Member T) (ms : List (Member T)) (a : Asked) → stays s (member_mapped g t) (map (member_mapped g) ms) a ≡ stays s t ms a
  stays-mapped s t ms a = ap (λ b. stands_in s t a || not b) (any-map (member_mapped g) (λ (m : Member U). stands_in s m a) ms)

  keeps-mapped : (s : Sources) (t : Member T) (ms : List (Member T)) (n : ℕ) → keeps_import s (member_mapped g t) (map (member_mapped g) ms) n ≡ keeps_import s t ms n
  keeps-mapped s t ms n =
      any_alike (λ a. is_import_in n a && stays s (member_mapped g t) (map (member_mapped g) ms) a) (λ a. is_import_in n a && stays s t ms a)
      (λ a. ap (λ b. is_import_in n a && b) (stays-mapped s t ms a)) (all_asked s)

  pub lost-imports-mapped : (s : Sources) (t : Member T) (ms : List (Member T)) (m : Member T) →
      lost_imports s (member_mapped g t) (map (member_mapped g) ms) (member_mapped g m) ≡ lost_imports s t ms m
  lost-imports-mapped s t ms m =
      ap (λ b. place_if (imports (slice_get (units_of s.files) (file_of s m)) && not b) (window_place s m)) (keeps-mapped s t ms (file_of s m))

  -- ---- results

  located-mapped : (t m : Member T) (vs : List (Variable T)) → locals_at (member_mapped g t) (member_mapped g m) (map (variable_mapped g) vs) ≡ locals_at t m vs
  located-mapped t m [] = refl
  located-mapped t m (v ∷ vs) =
      ap (λ n. n ∷ locals_at (member_mapped g t) (member_mapped g m) (map (variable_mapped g) vs)) (local-at-mapped g t m v.local)
      ∙ ap (λ ns. local_at t m v.local ∷ ns) (located-mapped t m vs)

  pub left-unused-mapped : (s : Sources) (t : Member T) (h : Choice T) (m : Member T) →
      left_unused s (member_mapped g t) (choice_mapped g h) (member_mapped g m) ≡ left_unused s t h m
  left-unused-mapped s t h m =
      let new = member_mapped g m in
      places-mapped m (filter (is_left_unused s new) (locals_at (member_mapped g t) new (map (variable_mapped g) h.declared)))
      ∙ ap (λ ns. declaring_places m (filter (is_left_unused s m) ns)) (located-mapped t m h.declared)
