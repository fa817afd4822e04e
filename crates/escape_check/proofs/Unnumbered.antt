-- No refusal speaks of the numbers of nodes.
use Rattle.std.proofs.Common.{◌≡◌, ◌∙◌, ℕ, List, [], ◌∷◌, ◌++◌, map, refl, ap}
use Rattle.std.specs.Prelude.{◌&&◌, ◌||◌, not, filter, slice_get}
use Rattle.std.specs.List.{list_any}
use Rattle.go_types.specs.Trees.{TypeTree}
use Rattle.go_typed.specs.Contents.{FuncContent}
use Rattle.go_scopes.specs.Resolve.{units_of}
use Rattle.param_choose.specs.Choosing.{Choice}
use Rattle.param_choose.specs.Holes.{holes}
use Rattle.param_choose.specs.Locals.{declared_names, variable_at}
use Rattle.param_choose.specs.Members.{Member}
use Rattle.escape_check.specs.Endings.{lost_ends}
use Rattle.escape_check.specs.Lookups.{all_asked, imports, is_import_in, is_left_unused, keeps_import, left_unused, locals_at, lost_imports, stands_in, stays}
use Rattle.escape_check.specs.Names.{escaping, is_shadowing, local_names, shadowing}
use Rattle.escape_check.specs.Places.{Sources, Place, file_of, place_if, each_refused, window_place}
use Rattle.escape_check.specs.Refusals.{escape_refusals, name_refusals, site_refusals, statement_refusals}
use Rattle.escape_check.specs.Shown.{unnumbered}
use Rattle.escape_check.specs.Statements.{branches, falls, returns}
use Rattle.escape_check.specs.Types.{hidden_at_site, hole_numbers, is_hidden, later_results, local_types, names_of_all, needed_truths, truth_at, variable_types}
use Rattle.escape_check.proofs.Alike.{any_alike, any_mapped, cons_alike, declaring_alike, overlap_alike, refused_alike}

module _ {T : Type 0} where
  alike : (code : ℕ) (r : Member T → List Place) → ((m : Member T) → r (unnumbered m) ≡ r m) → (ms : List (Member T)) → each_refused code r (map unnumbered ms) ≡ each_refused code r ms
  alike code r e ms = refused_alike unnumbered code r r e 0 ms

  pub statements_unnumbered : (s : Sources) (ms : List (Member T)) → statement_refusals s (map unnumbered ms) ≡ statement_refusals s ms
  statements_unnumbered s ms =
      cons_alike _ _ _ _ (overlap_alike unnumbered (λ m n. refl) (λ u m. refl) s 0 [] ms)
      (cons_alike _ _ _ _ (alike 4 (returns s) (λ m. refl) ms)
      (cons_alike _ _ _ _ (alike 5 (branches s) (λ m. refl) ms)
      (cons_alike _ _ _ _ (alike 6 (falls s) (λ m. refl) ms) refl)))

  pub escapes_unnumbered : (s : Sources) (fs : List FuncContent) (ms : List (Member T)) → escape_refusals s fs (map unnumbered ms) ≡ escape_refusals s fs ms
  escapes_unnumbered s fs ms =
      cons_alike _ _ _ _ (alike 7 (escaping s) (λ m. refl) ms)
      (cons_alike _ _ _ _ (alike 8 (local_names s) (λ m. refl) ms)
      (cons_alike _ _ _ _ (alike 9 (lost_ends s fs) (λ m. refl) ms) refl))

  shadowing_alike : (s : Sources) (m : Member T) → shadowing s (unnumbered m) ≡ shadowing s m
  shadowing_alike s m = declaring_alike (unnumbered m) m refl (filter (is_shadowing s m) (declared_names m))

  pub names_unnumbered : (s : Sources) (w : List ℕ) (ms : List (Member T)) → name_refusals s w (map unnumbered ms) ≡ name_refusals s w ms
  names_unnumbered s w ms = cons_alike _ _ _ _ refl (cons_alike _ _ _ _ (alike 11 (shadowing s) (shadowing_alike s) ms) refl)

  types_alike : (m : Member T) (ns : List ℕ) → local_types (unnumbered m) ns ≡ local_types m ns
  types_alike m [] = refl
  types_alike m (n ∷ ns) = ap (λ ts. variable_types (variable_at m.locals n) ++ ts) (types_alike m ns)

  truths_alike : (m : Member T) (ns : List ℕ) → needed_truths ns (unnumbered m) ≡ needed_truths ns m
  truths_alike m [] = refl
  truths_alike m (n ∷ ns) = ap (λ xs. truth_at (slice_get (holes m) n) ++ xs) (truths_alike m ns)

  hidden_alike : (tree : T → TypeTree) (s : Sources) (t : Member T) (h : Choice T) (m : Member T) → hidden_at_site tree s (unnumbered t) h (unnumbered m) ≡ hidden_at_site tree s t h m
  hidden_alike tree s t h m =
      let later = later_results t h m in
      ap (λ ts. place_if (list_any (is_hidden s m later) (names_of_all tree s ts ++ needed_truths (hole_numbers h.holes) (unnumbered m))) (window_place s m)) (types_alike m later)
      ∙ ap (λ xs. place_if (list_any (is_hidden s m later) (names_of_all tree s (local_types m later) ++ xs)) (window_place s m)) (truths_alike m (hole_numbers h.holes))

  keeps_alike : (s : Sources) (t : Member T) (ms : List (Member T)) (file : ℕ) → keeps_import s (unnumbered t) (map unnumbered ms) file ≡ keeps_import s t ms file
  keeps_alike s t ms file =
      any_alike (λ a. is_import_in file a && stays s (unnumbered t) (map unnumbered ms) a) (λ a. is_import_in file a && stays s t ms a)
      (λ a. ap (λ b. is_import_in file a && (stands_in s t a || not b)) (any_mapped unnumbered (λ m. stands_in s m a) (λ m. stands_in s m a) (λ m. refl) ms))
      (all_asked s)

  imports_alike : (s : Sources) (t : Member T) (ms : List (Member T)) (m : Member T) → lost_imports s (unnumbered t) (map unnumbered ms) (unnumbered m) ≡ lost_imports s t ms m
  imports_alike s t ms m =
      ap (λ b. place_if (imports (slice_get (units_of s.files) (file_of s m)) && not b) (window_place s m)) (keeps_alike s t ms (file_of s m))

  unused_alike : (s : Sources) (t : Member T) (h : Choice T) (m : Member T) → left_unused s (unnumbered t) h (unnumbered m) ≡ left_unused s t h m
  unused_alike s t h m = declaring_alike (unnumbered m) m refl (filter (is_left_unused s m) (locals_at t m h.declared))

  pub sites_unnumbered : (tree : T → TypeTree) (s : Sources) (ms : List (Member T)) (t : Member T) (h : Choice T) → site_refusals tree s (map unnumbered ms) (unnumbered t) h ≡ site_refusals tree s ms t h
  sites_unnumbered tree s ms t h =
      cons_alike _ _ _ _ (refused_alike unnumbered 12 (hidden_at_site tree s (unnumbered t) h) (hidden_at_site tree s t h) (hidden_alike tree s t h) 0 ms)
      (cons_alike _ _ _ _ (refused_alike unnumbered 13 (lost_imports s (unnumbered t) (map unnumbered ms)) (lost_imports s t ms) (imports_alike s t ms) 0 ms)
      (cons_alike _ _ _ _ (refused_alike unnumbered 14 (left_unused s (unnumbered t) h) (left_unused s t h) (unused_alike s t h) 0 ms)
      (cons_alike _ _ _ _ refl (cons_alike _ _ _ _ refl refl))))
