-- Edits and comments of windows over the types themselves are those of the windows as the program holds them.
use Rattle.std.proofs.Common.{◌≡◌, ◌∙◌, ℕ, ◌+◌, List, [], ◌∷◌, ◌++◌, length, map, drop, Some, slice_get, refl, sym, ap}
use Rattle.std.specs.Prelude.{sum_by}
use Rattle.std.specs.Option.{option_to_list}
use Rattle.std.proofs.lemmas.List.{length-map, map-append}
use Rattle.std.proofs.lemmas.List.Sums.{sum_by-cons}
use Rattle.go_base.specs.declared.Span.{Span}
use Rattle.go_scopes_lookup.specs.Views.{place_of}
use Rattle.go_tree.specs.Units.{Place}
use Rattle.go_types.specs.Tables.{type_of}
use Rattle.go_types.specs.Trees.{TypeTree}
use Rattle.go_typed.specs.declared.window.Window.{Window}
use Rattle.go_typed.specs.Contents.{Content, content}
use Rattle.go_typed.specs.Packages.{PackageView}
use Rattle.edit_apply.specs.declared.edits.Edit.{Edit}
use Rattle.param_choose.specs.Choosing.{Choice, HoleParameter, choice, chosen_of}
use Rattle.param_choose.specs.Members.{Member, member_of, members_in, members_of}
use Rattle.param_choose.specs.Handed.{Handed, handed_hole, hole_shown}
use Rattle.param_choose.specs.Shown.{array_in, variable_view}
use Rattle.param_choose.proofs.Public.{member_mapped, members-seen, parameter_renamed, variable_mapped}
use Rattle.escape_check.specs.declared.member.Member.{Member as Found}
use Rattle.escape_check.specs.Places.{Sources, sources_in}
use Rattle.escape_check.specs.Shown.{member_by, member_view, unnumbered}
use Rattle.extract_texts.specs.declared.template.Template.{Template}
use Rattle.extract_texts.specs.Shown.{IsTemplate, numbers_shown, places_at}
use Rattle.extract_texts.specs.Texts.{call_at, function_for, hole_bytes, text_of, window_bytes}
use Rattle.extract_texts.proofs.Public.{chosen-there, member-there, places_told, template-there}
use Rattle.extract_rewrite.specs.Counts.{comments_in, dropped, dropped_among, dropped_places, parameters_of, results_of}
use Rattle.extract_rewrite.specs.Edits.{edit_at, edits, file_end, function_edit, window_edit}
use Rattle.extract_rewrite.specs.Order.{from_the_end}
use Rattle.extract_rewrite.specs.Shown.{found_bytes, found_edit}

-- ---- one edit

pub edit_told : (w : Span) (p : Place) (text call : List ℕ) → place_of w ≡ p → text ≡ call → record { file = w.file; start = w.start; end = w.end; text = text } ≡ edit_at p call
edit_told w p text call e f = ap (λ q. edit_at q text) e ∙ ap (edit_at p) f

pub function_told : (p : PackageView) (t : Template) (e : ℕ) (text function : List ℕ) → IsTemplate p t → e ≡ length (text_of (slice_get p.files t.member.file)) → text ≡ function
    → record { file = t.member.file; start = e; end = e; text = text } ≡ edit_at (file_end (sources_in p) (member_view t.member)) function
function_told p t e text function i long f =
    let at : ℕ → ℕ → Edit = λ n k. edit_at (record { file = n; start = k; end = k }) text in
    ap (at t.member.file) long
    ∙ ap (λ n. at n (length (text_of (slice_get p.files n)))) i.sound.file
    ∙ ap (edit_at (file_end (sources_in p) (member_view t.member))) f

-- ---- members

twice : {A B C : Type 0} (f : B → C) (g : A → B) (xs : List A) → map f (map g xs) ≡ map (λ x. f (g x)) xs
twice f g [] = refl
twice f g (x ∷ xs) = ap (λ l. f (g x) ∷ l) (twice f g xs)

first_apart : (c : Content) (ws : List Window) (w : Window) → slice_get ws 0 ≡ Some w → members_of c ws ≡ option_to_list (member_of c w) ++ members_of c (drop 1 ws)
first_apart c [] w e = cc
first_apart c (v ∷ ws) w e = let same : v ≡ w = cc in ap (λ x. option_to_list (member_of c x) ++ members_of c ws) same

module _ (p : PackageView) where
  abbrev whole : Member ℕ → Member TypeTree
  whole m = member_mapped (type_of p.types.shapes) m

  -- something told of each member, whatever stands for types and nodes are numbered
  told_of_each : {A : Type 0} (on : Member TypeTree → A) (by : Member ℕ → A) (is : Found → A) → ((m : Member ℕ) → on (whole m) ≡ by (unnumbered m)) → ((m : Found) → by (member_view m) ≡ is m)
      → (others : List Found) (ws : List Window) → map member_view others ≡ map unnumbered (members_in p ws) → map on (members_of (content p) ws) ≡ map is others
  told_of_each on by is alike shown others ws e =
      ap (map on) (members-seen p ws) ∙ twice on whole (members_in p ws) ∙ each (members_in p ws) ∙ sym (twice by unnumbered (members_in p ws)) ∙ ap (map by) (sym e) ∙ twice by member_view others ∙ all others
    where
      each : (ms : List (Member ℕ)) → map (λ m. on (whole m)) ms ≡ map (λ m. by (unnumbered m)) ms
      each [] = refl
      each (m ∷ ms) = λ j. alike m j ∷ each ms j

      all : (ms : List Found) → map (λ m. by (member_view m)) ms ≡ map is ms
      all [] = refl
      all (m ∷ ms) = λ j. shown m j ∷ all ms j

  -- ---- edits

  pub edits_seen : (name : List ℕ) (t : Template) (others : List Found) → IsTemplate p t → map member_view others ≡ map unnumbered (members_in p (drop 1 t.windows.now))
      → edits (content p) name t.windows.now
      ≡ from_the_end (edit_at (file_end (sources_in p) (member_view t.member)) (function_for (content p) name t.windows.now) ∷ found_edit p name t.windows.now t.member ∷ map (found_edit p name t.windows.now) others)
  edits_seen name t others i e =
      let c = content p in
      let ws = t.windows.now in
      let top = whole (member_by p t.member) in
      let own : window_edit c name ws top ≡ found_edit p name ws t.member = ap (λ m. edit_at (window_bytes (sources_in p) m) (call_at c name ws t.member.window)) (sym i.sound.shown) in
      let calls : map (window_edit c name ws) (members_of c ws) ≡ found_edit p name ws t.member ∷ map (found_edit p name ws) others =
      ap (map (window_edit c name ws)) (first_apart c ws t.member.window i.first ∙ ap (λ o. option_to_list o ++ members_of c (drop 1 ws)) (member-there p t.member i.sound))
      ∙ ap (λ x. x ∷ map (window_edit c name ws) (members_of c (drop 1 ws))) own
      ∙ ap (λ l. found_edit p name ws t.member ∷ l)
      (told_of_each (window_edit c name ws) (λ m. edit_at (window_bytes (sources_in p) m) (call_at c name ws m.window)) (found_edit p name ws) (λ m. refl) (λ m. refl) others (drop 1 ws) e) in
      ap (λ o. from_the_end (function_edit c name ws o ++ map (window_edit c name ws) (members_of c ws))) (template-there p t i)
      ∙ ap (λ l. from_the_end (edit_at (file_end (sources_in p) (member_view t.member)) (function_for c name ws) ∷ l)) calls

  -- ---- comments

  holes_alike : (s : Sources) (m : Member ℕ) (hs : List (HoleParameter ℕ)) → map (λ q. hole_bytes s (whole m) q.hole) (map (parameter_renamed (type_of p.types.shapes)) hs) ≡ map (λ q. hole_bytes s m q.hole) hs
  holes_alike s m hs = twice (λ q. hole_bytes s (whole m) q.hole) (parameter_renamed (type_of p.types.shapes)) hs

  sums_alike : (f : Place → ℕ) (xs : List Span) → sum_by f (map place_of xs) ≡ sum_by (λ x. f (place_of x)) xs
  sums_alike f [] = refl
  sums_alike f (x ∷ xs) = sum_by-cons f (place_of x) (map place_of xs) ∙ ap (λ n. f (place_of x) + n) (sums_alike f xs) ∙ sym (sum_by-cons (λ x. f (place_of x)) x xs)

  pub dropped_seen : (t : Template) (others : List Found) (windows holes : List Span) → IsTemplate p t → map member_view others ≡ map unnumbered (members_in p (drop 1 t.windows.now))
      → map place_of windows ≡ map (found_bytes p) others → map place_of holes ≡ places_at (sources_in p) (member_view t.member) (numbers_shown t.choice.holes.items)
      → sum_by (λ x. comments_in (sources_in p) (place_of x)) (windows ++ holes) ≡ dropped (content p) t.windows.now
  dropped_seen t others windows holes i e a b =
      let c = content p in
      let s = sources_in p in
      let ws = t.windows.now in
      let m = member_by p t.member in
      let h = choice (array_in p.types) (members_in p ws) m in
      let top = whole m in
      let places : dropped_places s top (chosen_of c ws) (members_of c (drop 1 ws)) ≡ map place_of (windows ++ holes) =
      ap (λ l. l ++ map (λ q. hole_bytes s top q.hole) (chosen_of c ws).holes)
      (told_of_each (window_bytes s) (window_bytes s) (found_bytes p) (λ m. refl) (λ m. refl) others (drop 1 ws) e ∙ sym a)
      ∙ ap (λ (x : Choice TypeTree). map place_of windows ++ map (λ q. hole_bytes s top q.hole) x.holes) (chosen-there p t i)
      ∙ ap (λ l. map place_of windows ++ l)
      (holes_alike s m h.holes ∙ ap (λ (x : Member ℕ). map (λ q. hole_bytes s x q.hole) h.holes) (sym i.sound.shown)
      ∙ sym (places_told s (member_view t.member) m (array_in p.types) (members_in p ws) t.choice i.sound.shown i.choice) ∙ sym b)
      ∙ sym (map-append place_of windows holes) in
      sym (
      ap (λ o. dropped_among c o ws) (template-there p t i)
      ∙ ap (sum_by (comments_in s)) places
      ∙ sums_alike (comments_in s) (windows ++ holes)
      )

  -- ---- counts

  module _ (t : Template) (i : IsTemplate p t) where
    abbrev by_numbers : Choice ℕ
    by_numbers = choice (array_in p.types) (members_in p t.windows.now) (member_by p t.member)

    pub parameters_seen : (free holes n : ℕ) → free ≡ length t.choice.free.items → holes ≡ length t.choice.holes.items → n ≡ free + holes → n ≡ parameters_of (content p) t.windows.now
    parameters_seen free holes n a b e =
        let h = by_numbers in
        let g = type_of p.types.shapes in
        let first : free ≡ length (map (variable_mapped g) h.free) = a ∙ sym (length-map t.choice.free.items variable_view) ∙ ap (λ (x : Handed ℕ). length x.free) i.choice ∙ sym (length-map h.free (variable_mapped g)) in
        let second : holes ≡ length (map (parameter_renamed g) h.holes) =
        b ∙ sym (length-map t.choice.holes.items hole_shown) ∙ ap (λ (x : Handed ℕ). length x.holes) i.choice ∙ length-map h.holes handed_hole ∙ sym (length-map h.holes (parameter_renamed g)) in
        e ∙ (λ j. first j + second j) ∙ sym (ap (λ (x : Choice TypeTree). length x.free + length x.holes) (chosen-there p t i))

    pub results_seen : (assigned declared n : ℕ) → assigned ≡ length t.choice.assigned.items → declared ≡ length t.choice.declared.items → n ≡ assigned + declared → n ≡ results_of (content p) t.windows.now
    results_seen assigned declared n a b e =
        let h = by_numbers in
        let g = type_of p.types.shapes in
        let first : assigned ≡ length (map (variable_mapped g) h.assigned) =
        a ∙ sym (length-map t.choice.assigned.items variable_view) ∙ ap (λ (x : Handed ℕ). length x.assigned) i.choice ∙ sym (length-map h.assigned (variable_mapped g)) in
        let second : declared ≡ length (map (variable_mapped g) h.declared) =
        b ∙ sym (length-map t.choice.declared.items variable_view) ∙ ap (λ (x : Handed ℕ). length x.declared) i.choice ∙ sym (length-map h.declared (variable_mapped g)) in
        e ∙ (λ j. first j + second j) ∙ sym (ap (λ (x : Choice TypeTree). length x.assigned + length x.declared) (chosen-there p t i))
