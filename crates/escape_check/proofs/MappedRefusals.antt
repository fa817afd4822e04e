-- The refusal of windows over the types themselves is that by their numbers.
use Rattle.std.proofs.Common.{◌≡◌, ◌∙◌, ◌≤◌, ℕ, Bool, List, [], ◌∷◌, ◌++◌, length, map, Option, Some, None, get_or, slice_get, refl, ap, arith}
use Rattle.std.specs.Option.{option_map}
use Rattle.go_types.specs.Tables.{rights_of, type_of}
use Rattle.go_types.specs.Trees.{TypeTree}
use Rattle.go_typed.specs.declared.window.Window.{Window}
use Rattle.go_typed.specs.Contents.{FuncContent, content}
use Rattle.go_typed.specs.Funcs.{FuncView, tree_of}
use Rattle.go_typed.specs.Packages.{PackageView}
use Rattle.go_typed.specs.Trees.{Sort, sort_mapped}
use Rattle.param_choose.specs.Choosing.{Choice, choice}
use Rattle.param_choose.specs.Locals.{is_array}
use Rattle.param_choose.specs.Members.{Member, member_over, members_in, members_of, template_in}
use Rattle.param_choose.proofs.Public.{choice_mapped, choice-mapped, member_mapped, members-seen, template-seen}
use Rattle.escape_check.specs.Endings.{lost_ends}
use Rattle.escape_check.specs.Lookups.{left_unused, lost_imports}
use Rattle.escape_check.specs.Names.{escaping, local_names, shadowing}
use Rattle.escape_check.specs.Places.{Sources, Refused, first_refused, reported, sources_in, template_refused}
use Rattle.escape_check.specs.Refusals.{escape_refusals, name_refusals, refusals, refused, refused_among, refused_by, site_refusals, statement_refusals}
use Rattle.escape_check.specs.Types.{hidden_at_site}
use Rattle.escape_check.proofs.Alike.{cons_alike, refused_alike}
use Rattle.escape_check.proofs.MappedNames.{escaping-mapped, left-unused-mapped, local-names-mapped, lost-imports-mapped, shadowing-mapped}
use Rattle.escape_check.proofs.MappedStatements.{statements_mapped}
use Rattle.escape_check.proofs.MappedTypes.{hidden-mapped, hidden-types-mapped, local-types-mapped}

module _ {T : Type 0} (g : T → TypeTree) (s : Sources) where
  abbrev mm : Member T → Member TypeTree
  mm m = member_mapped g m

  escapes-mapped : (fs : List FuncContent) (ms : List (Member T)) → escape_refusals s fs (map mm ms) ≡ escape_refusals s fs ms
  escapes-mapped fs ms =
      cons_alike _ _ _ _ (refused_alike mm 7 (escaping s) (escaping s) (escaping-mapped g s) 0 ms)
      (cons_alike _ _ _ _ (refused_alike mm 8 (local_names s) (local_names s) (local-names-mapped g s) 0 ms)
      (cons_alike _ _ _ _ (refused_alike mm 9 (lost_ends s fs) (lost_ends s fs) (λ m. refl) 0 ms) refl))

  names-mapped : (w : List ℕ) (ms : List (Member T)) → name_refusals s w (map mm ms) ≡ name_refusals s w ms
  names-mapped w ms = cons_alike _ _ _ _ refl (cons_alike _ _ _ _ (refused_alike mm 11 (shadowing s) (shadowing s) (shadowing-mapped g s) 0 ms) refl)

  abbrev whole : TypeTree → TypeTree
  whole x = x

  sites-mapped : (ms : List (Member T)) (t : Member T) (h : Choice T) → site_refusals whole s (map mm ms) (mm t) (choice_mapped g h) ≡ site_refusals g s ms t h
  sites-mapped ms t h =
      cons_alike _ _ _ _ (refused_alike mm 12 (hidden_at_site whole s (mm t) (choice_mapped g h)) (hidden_at_site g s t h) (hidden-mapped g s t h) 0 ms)
      (cons_alike _ _ _ _ (refused_alike mm 13 (lost_imports s (mm t) (map mm ms)) (lost_imports s t ms) (lost-imports-mapped g s t ms) 0 ms)
      (cons_alike _ _ _ _ (refused_alike mm 14 (left_unused s (mm t) (choice_mapped g h)) (left_unused s t h) (left-unused-mapped g s t h) 0 ms)
      (cons_alike _ _ _ _ (ap (λ ps. template_refused 15 ps) (local-types-mapped g s t h))
      (cons_alike _ _ _ _ (ap (λ ps. template_refused 16 ps) (hidden-types-mapped g s t h)) refl))))

  pub refusals-mapped : (fs : List FuncContent) (w : List ℕ) (ms : List (Member T)) (t : Member T) (h : Choice T) →
      refusals whole s fs w (map mm ms) (mm t) (choice_mapped g h) ≡ refusals g s fs w ms t h
  refusals-mapped fs w ms t h =
      let sites = site_refusals whole s (map mm ms) (mm t) (choice_mapped g h) in
      ap (λ xs. xs ++ escape_refusals s fs (map mm ms) ++ name_refusals s w (map mm ms) ++ sites) (statements_mapped g s ms)
      ∙ ap (λ xs. statement_refusals s ms ++ xs ++ name_refusals s w (map mm ms) ++ sites) (escapes-mapped fs ms)
      ∙ ap (λ xs. statement_refusals s ms ++ escape_refusals s fs ms ++ xs ++ sites) (names-mapped w ms)
      ∙ ap (λ xs. statement_refusals s ms ++ escape_refusals s fs ms ++ name_refusals s w ms ++ xs) (sites-mapped ms t h)

  pub among-mapped : (array : Sort TypeTree → Bool) (fs : List FuncContent) (w : List ℕ) (t : Member T) (ms : List (Member T)) →
      refused_among whole array s fs w (Some (mm t)) (map mm ms) ≡ first_refused (refusals g s fs w ms t (choice (λ x. array (sort_mapped g x)) ms t))
  among-mapped array fs w t ms =
      ap (λ h. first_refused (refusals whole s fs w (map mm ms) (mm t) h)) (choice-mapped g array ms t)
      ∙ ap first_refused (refusals-mapped fs w ms t (choice (λ x. array (sort_mapped g x)) ms t))

-- ---- packages

abbrev types : PackageView → ℕ → TypeTree
types p = type_of p.types.shapes

abbrev pub member_by : PackageView → Window → FuncView → Member ℕ
member_by p v f = member_over p.uses v f.locals f.tokens (tree_of f)

-- of the function of the first window
pub refusal_seen : (p : PackageView) (w : List ℕ) (v : Window) (ws : List Window) (f : FuncView) → slice_get p.functions v.func ≡ Some f →
    refused (content p) w (v ∷ ws) ≡ option_map (reported (sources_in p)) (refused_by p w (members_in p (v ∷ ws)) (member_by p v f))
refusal_seen p w v ws f e =
    let array = is_array (rights_of p.types) in
    let fs = (content p).functions in
    let ms = members_in p (v ∷ ws) in
    let among : Option (Member TypeTree) → List (Member TypeTree) → Option Refused = λ o us. refused_among (λ t. t) array (sources_in p) fs w o us in
    ap (λ o. option_map (reported (sources_in p)) (among o (members_of (content p) (v ∷ ws)))) (template-seen p (v ∷ ws))
    ∙ ap (λ us. option_map (reported (sources_in p)) (among (option_map (member_mapped (types p)) (template_in p (v ∷ ws))) us)) (members-seen p (v ∷ ws))
    ∙ ap (λ o. option_map (reported (sources_in p)) (among (option_map (member_mapped (types p)) (option_map (member_by p v) o)) (map (member_mapped (types p)) ms))) e
    ∙ ap (option_map (reported (sources_in p))) (among-mapped (types p) (sources_in p) array fs w (member_by p v f) ms)

-- without it
pub nothing_refused : (p : PackageView) (w : List ℕ) (v : Window) (ws : List Window) → slice_get p.functions v.func ≡ None → refused (content p) w (v ∷ ws) ≡ None
nothing_refused p w v ws e =
    let array = is_array (rights_of p.types) in
    let fs = (content p).functions in
    let among : Option (Member TypeTree) → Option Refused = λ o. refused_among (λ t. t) array (sources_in p) fs w o (members_of (content p) (v ∷ ws)) in
    ap (λ o. option_map (reported (sources_in p)) (among o)) (template-seen p (v ∷ ws))
    ∙ ap (λ o. option_map (reported (sources_in p)) (among (option_map (member_mapped (types p)) (option_map (member_by p v) o)))) e

-- the first window of some
pub first_seen : (p : PackageView) (w : List ℕ) (ws : List Window) (d : Window) (f : FuncView) → 1 ≤ length ws → slice_get p.functions (get_or ws 0 d).func ≡ Some f →
    refused (content p) w ws ≡ option_map (reported (sources_in p)) (refused_by p w (members_in p ws) (member_by p (get_or ws 0 d) f))
first_seen p w [] d f l e = absurd (omega (arith, l))
first_seen p w (v ∷ ws) d f l e = refusal_seen p w v ws f e
