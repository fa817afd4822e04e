-- Refusals for what statements do, and for ends of functions, are the same over other words for types.
use Rattle.std.proofs.Common.{◌≡◌, ◌∙◌, Bool, true, false, List, [], ◌∷◌, ◌++◌, map, refl, sym, ap}
use Rattle.std.proofs.lemmas.List.{map-append}
use Rattle.std.specs.Prelude.{◌||◌, filter, if◌then◌else◌}
use Rattle.go_typed.specs.declared.form.Form.{Form}
use Rattle.go_typed.specs.Lists.{present}
use Rattle.go_typed.specs.Places.{nodes, nodes_among}
use Rattle.go_typed.specs.Trees.{Typed, typed, Typeds, none, more, skip, form_of, mapped, all_mapped}
use Rattle.go_stmts_defs.specs.Ending.{is_fallthrough}
use Rattle.param_choose.specs.Members.{Member}
use Rattle.param_choose.proofs.Public.{member_mapped}
use Rattle.escape_check.specs.Places.{Sources, node_place}
use Rattle.escape_check.specs.Refusals.{statement_refusals}
use Rattle.escape_check.specs.Statements.{branches, falls, is_loop, is_return, is_switch, leaves, leaving, leaving_among, returns}
use Rattle.escape_check.proofs.Alike.{cons_alike, overlap_alike, refused_alike}

module _ {T U : Type 0} (g : T → U) where
  form_mapped : (x : Typed T) → form_of (mapped g x) ≡ form_of x
  form_mapped (typed f i j l ps) = refl

  place_mapped : (s : Sources) (m : Member T) (x : Typed T) → node_place s (member_mapped g m) (mapped g x) ≡ node_place s m x
  place_mapped s m (typed f i j l ps) = refl

  places_mapped : (s : Sources) (m : Member T) (xs : List (Typed T)) → map (node_place s (member_mapped g m)) (map (mapped g) xs) ≡ map (node_place s m) xs
  places_mapped s m [] = refl
  places_mapped s m (x ∷ xs) = cons_alike _ _ _ _ (place_mapped s m x) (places_mapped s m xs)

  one_kept : (b : Bool) (x : Typed T) (xs : List (Typed T)) → (if b then mapped g x ∷ map (mapped g) xs else map (mapped g) xs) ≡ map (mapped g) (if b then x ∷ xs else xs)
  one_kept true x xs = refl
  one_kept false x xs = refl

  -- the nodes of some forms
  kept_mapped : (p : Form → Bool) (xs : List (Typed T)) → filter (λ x. p (form_of x)) (map (mapped g) xs) ≡ map (mapped g) (filter (λ x. p (form_of x)) xs)
  kept_mapped p [] = refl
  kept_mapped p (x ∷ xs) =
      let rest = filter (λ y. p (form_of y)) (map (mapped g) xs) in
      ap (λ f. if p f then mapped g x ∷ rest else rest) (form_mapped x)
      ∙ ap (λ ys. if p (form_of x) then mapped g x ∷ ys else ys) (kept_mapped p xs)
      ∙ one_kept (p (form_of x)) x (filter (λ y. p (form_of y)) xs)

  mutual
    nodes_mapped : (x : Typed T) → nodes (mapped g x) ≡ map (mapped g) (nodes x)
    nodes_mapped (typed f i j l ps) = ap (λ xs. mapped g (typed f i j l ps) ∷ xs) (among_mapped ps)

    among_mapped : (ps : Typeds T) → nodes_among (all_mapped g ps) ≡ map (mapped g) (nodes_among ps)
    among_mapped none = refl
    among_mapped (more p ps) =
        ap (λ xs. xs ++ nodes_among (all_mapped g ps)) (nodes_mapped p)
        ∙ ap (λ xs. map (mapped g) (nodes p) ++ xs) (among_mapped ps)
        ∙ sym (map-append (mapped g) (nodes p) (nodes_among ps))
    among_mapped (skip ps) = among_mapped ps

  present_mapped : (ps : Typeds T) → present (all_mapped g ps) ≡ map (mapped g) (present ps)
  present_mapped none = refl
  present_mapped (more p ps) = ap (λ xs. mapped g p ∷ xs) (present_mapped ps)
  present_mapped (skip ps) = present_mapped ps

  found_mapped : (b : Bool) (x : Typed T) (xs : List (Typed T)) → (if b then mapped g x ∷ [] else map (mapped g) xs) ≡ map (mapped g) (if b then x ∷ [] else xs)
  found_mapped true x xs = refl
  found_mapped false x xs = refl

  mutual
    leaving_mapped : (a b : Bool) (x : Typed T) → leaving a b (mapped g x) ≡ map (mapped g) (leaving a b x)
    leaving_mapped a b (typed f i j l ps) =
        ap (λ xs. if leaves a b f then mapped g (typed f i j l ps) ∷ [] else xs) (leaving_among_mapped (a || is_loop f || is_switch f) (b || is_loop f) ps)
        ∙ found_mapped (leaves a b f) (typed f i j l ps) (leaving_among (a || is_loop f || is_switch f) (b || is_loop f) ps)

    leaving_among_mapped : (a b : Bool) (ps : Typeds T) → leaving_among a b (all_mapped g ps) ≡ map (mapped g) (leaving_among a b ps)
    leaving_among_mapped a b none = refl
    leaving_among_mapped a b (more p ps) =
        ap (λ xs. xs ++ leaving_among a b (all_mapped g ps)) (leaving_mapped a b p)
        ∙ ap (λ xs. map (mapped g) (leaving a b p) ++ xs) (leaving_among_mapped a b ps)
        ∙ sym (map-append (mapped g) (leaving a b p) (leaving_among a b ps))
    leaving_among_mapped a b (skip ps) = leaving_among_mapped a b ps

  returns_mapped : (s : Sources) (m : Member T) → returns s (member_mapped g m) ≡ returns s m
  returns_mapped s m =
      ap (λ xs. map (node_place s (member_mapped g m)) (filter (λ x. is_return (form_of x)) xs)) (among_mapped m.statements)
      ∙ ap (map (node_place s (member_mapped g m))) (kept_mapped is_return (nodes_among m.statements))
      ∙ places_mapped s m (filter (λ x. is_return (form_of x)) (nodes_among m.statements))

  branches_mapped : (s : Sources) (m : Member T) → branches s (member_mapped g m) ≡ branches s m
  branches_mapped s m =
      ap (map (node_place s (member_mapped g m))) (leaving_among_mapped false false m.statements) ∙ places_mapped s m (leaving_among false false m.statements)

  falls_mapped : (s : Sources) (m : Member T) → falls s (member_mapped g m) ≡ falls s m
  falls_mapped s m =
      ap (λ xs. map (node_place s (member_mapped g m)) (filter (λ x. is_fallthrough (form_of x)) xs)) (present_mapped m.statements)
      ∙ ap (map (node_place s (member_mapped g m))) (kept_mapped is_fallthrough (present m.statements))
      ∙ places_mapped s m (filter (λ x. is_fallthrough (form_of x)) (present m.statements))

  pub statements_mapped : (s : Sources) (ms : List (Member T)) → statement_refusals s (map (member_mapped g) ms) ≡ statement_refusals s ms
  statements_mapped s ms =
      cons_alike _ _ _ _ (overlap_alike (member_mapped g) (λ m n. refl) (λ u m. refl) s 0 [] ms)
      (cons_alike _ _ _ _ (refused_alike (member_mapped g) 4 (returns s) (returns s) (returns_mapped s) 0 ms)
      (cons_alike _ _ _ _ (refused_alike (member_mapped g) 5 (branches s) (branches s) (branches_mapped s) 0 ms)
      (cons_alike _ _ _ _ (refused_alike (member_mapped g) 6 (falls s) (falls s) (falls_mapped s) 0 ms) refl)))
