-- Refusals for types and for what names mean at sites are the same by the numbers of types.
use Rattle.std.proofs.Common.{◌≡◌, ◌∙◌, ℕ, false, List, [], ◌∷◌, ◌++◌, map, filter, Option, Some, None, slice_get, refl, sym, ap}
use Rattle.std.proofs.lemmas.List.{map-append}
use Rattle.std.proofs.lemmas.Option.{slice_get-map}
use Rattle.std.specs.List.{list_any}
use Rattle.std.specs.Option.{option_map}
use Rattle.go_types.specs.Trees.{TypeTree}
use Rattle.go_typed.specs.Trees.{sort_mapped}
use Rattle.param_choose.specs.Choosing.{Choice, HoleParameter}
use Rattle.param_choose.specs.Holes.{Hole, holes}
use Rattle.param_choose.specs.Locals.{Variable, variable_at}
use Rattle.param_choose.specs.Members.{Member, local_at, occurs_later}
use Rattle.param_choose.proofs.Public.{choice_mapped, held-mapped, hole_mapped, holes-mapped, local-at-mapped, member_mapped, parameter_renamed, variable-at-mapped, variable_mapped}
use Rattle.escape_check.specs.Lookups.{locals_at}
use Rattle.escape_check.specs.Places.{Place, Sources, place_if, window_place}
use Rattle.escape_check.specs.Types.{TypeName, hidden_at_site, hidden_types_written, hole_numbers, hole_types, is_hidden, is_local_type, is_taken, later_results, local_types, local_types_written, names_of, names_of_all, needed_truths, parameter_types, result_types, truth_at, truth_in, variable_types, written_names}

module _ {T : Type 0} (g : T → TypeTree) (s : Sources) where
  -- ---- types and the names in them

  abbrev whole : TypeTree → TypeTree
  whole x = x

  names-mapped : (ts : List T) → names_of_all whole s (map g ts) ≡ names_of_all g s ts
  names-mapped [] = refl
  names-mapped (t ∷ ts) = ap (λ ns. names_of s (g t) ++ ns) (names-mapped ts)

  variable-types-mapped : (vs : List (Variable T)) → variable_types (map (variable_mapped g) vs) ≡ map g (variable_types vs)
  variable-types-mapped [] = refl
  variable-types-mapped (v ∷ vs) = ap (λ ts. g v.type ∷ ts) (variable-types-mapped vs)

  hole-types-mapped : (hs : List (HoleParameter T)) → hole_types (map (parameter_renamed g) hs) ≡ map g (hole_types hs)
  hole-types-mapped [] = refl
  hole-types-mapped (h ∷ hs) = ap (λ ts. g h.type ∷ ts) (hole-types-mapped hs)

  numbers-mapped : (hs : List (HoleParameter T)) → hole_numbers (map (parameter_renamed g) hs) ≡ hole_numbers hs
  numbers-mapped [] = refl
  numbers-mapped (h ∷ hs) = ap (λ ns. h.number ∷ ns) (numbers-mapped hs)

  both-mapped : (xs ys : List TypeTree) (ts us : List T) → xs ≡ map g ts → ys ≡ map g us → xs ++ ys ≡ map g (ts ++ us)
  both-mapped xs ys ts us e f = ap (λ l. l ++ ys) e ∙ ap (λ l. map g ts ++ l) f ∙ sym (map-append g ts us)

  -- ---- parameters and results

  written-mapped : (h : Choice T) → written_names whole s (choice_mapped g h) ≡ written_names g s h
  written-mapped h =
      let c = choice_mapped g h in
      ap (names_of_all whole s) (
      both-mapped (parameter_types c) (result_types c) (parameter_types h) (result_types h)
      (both-mapped (variable_types c.free) (hole_types c.holes) (variable_types h.free) (hole_types h.holes) (variable-types-mapped h.free) (hole-types-mapped h.holes))
      (both-mapped (variable_types c.assigned) (variable_types c.declared) (variable_types h.assigned) (variable_types h.declared) (variable-types-mapped h.assigned) (variable-types-mapped h.declared))
      )
      ∙ names-mapped (parameter_types h ++ result_types h)

  pub local-types-mapped : (t : Member T) (h : Choice T) → local_types_written whole s (member_mapped g t) (choice_mapped g h) ≡ local_types_written g s t h
  local-types-mapped t h = ap (λ ns. place_if (list_any (is_local_type s) ns) (window_place s t)) (written-mapped h)

  pub hidden-types-mapped : (t : Member T) (h : Choice T) → hidden_types_written whole s (member_mapped g t) (choice_mapped g h) ≡ hidden_types_written g s t h
  hidden-types-mapped t h = ap (λ ns. place_if (list_any (is_taken s) ns) (window_place s t)) (written-mapped h)

  -- ---- sites

  site-types-mapped : (m : Member T) (ns : List ℕ) → local_types (member_mapped g m) ns ≡ map g (local_types m ns)
  site-types-mapped m [] = refl
  site-types-mapped m (n ∷ ns) =
      both-mapped (variable_types (variable_at (map (sort_mapped g) m.locals) n)) (local_types (member_mapped g m) ns) (variable_types (variable_at m.locals n)) (local_types m ns)
      (ap variable_types (variable-at-mapped g m.locals n) ∙ variable-types-mapped (variable_at m.locals n))
      (site-types-mapped m ns)

  truth-mapped : (o : Option (Hole T)) → truth_at (option_map (hole_mapped g) o) ≡ truth_at o
  truth-mapped None = refl
  truth-mapped (Some h) = ap truth_in (held-mapped g h.sort)

  truths-mapped : (m : Member T) (ns : List ℕ) → needed_truths ns (member_mapped g m) ≡ needed_truths ns m
  truths-mapped m [] = refl
  truths-mapped m (n ∷ ns) =
      ap (λ hs. truth_at (slice_get hs n) ++ needed_truths ns (member_mapped g m)) (holes-mapped g 0 false m.statements)
      ∙ ap (λ o. truth_at o ++ needed_truths ns (member_mapped g m)) (slice_get-map (hole_mapped g) (holes m) n)
      ∙ ap (λ xs. xs ++ needed_truths ns (member_mapped g m)) (truth-mapped (slice_get (holes m) n))
      ∙ ap (λ xs. truth_at (slice_get (holes m) n) ++ xs) (truths-mapped m ns)

  locals-mapped : (t m : Member T) (vs : List (Variable T)) → locals_at (member_mapped g t) (member_mapped g m) (map (variable_mapped g) vs) ≡ locals_at t m vs
  locals-mapped t m [] = refl
  locals-mapped t m (v ∷ vs) =
      ap (λ n. n ∷ locals_at (member_mapped g t) (member_mapped g m) (map (variable_mapped g) vs)) (local-at-mapped g t m v.local)
      ∙ ap (λ ns. local_at t m v.local ∷ ns) (locals-mapped t m vs)

  pub hidden-mapped : (t : Member T) (h : Choice T) (m : Member T) → hidden_at_site whole s (member_mapped g t) (choice_mapped g h) (member_mapped g m) ≡ hidden_at_site g s t h m
  hidden-mapped t h m =
      let later = later_results t h m in
      let numbers = hole_numbers h.holes in
      let told : List ℕ → List TypeName → List Place = λ ns xs. place_if (list_any (is_hidden s m ns) xs) (window_place s m) in
      let needed : List ℕ → List ℕ → List TypeName = λ ns ks. names_of_all whole s (local_types (member_mapped g m) ns) ++ needed_truths ks (member_mapped g m) in
      ap (λ ns. told (filter (occurs_later m) ns) (needed (filter (occurs_later m) ns) (hole_numbers (map (parameter_renamed g) h.holes)))) (locals-mapped t m h.declared)
      ∙ ap (λ ks. told later (needed later ks)) (numbers-mapped h.holes)
      ∙ ap (λ ts. told later (names_of_all whole s ts ++ needed_truths numbers (member_mapped g m))) (site-types-mapped m later)
      ∙ ap (λ xs. told later (xs ++ needed_truths numbers (member_mapped g m))) (names-mapped (local_types m later))
      ∙ ap (λ xs. told later (names_of_all g s (local_types m later) ++ xs)) (truths-mapped m numbers)
