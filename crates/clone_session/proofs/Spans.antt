-- A listing and a report read only the tokens and the trees of files.
use mathlib.Core.Path.{fun_ext}
use Rattle.std.proofs.Common.{◌≡◌, ◌∙◌, refl, sym, ap, ℕ, suc, ◌+◌, Bool, false, List, [], ◌∷◌, ◌++◌, length, map, Option, Some, None, slice_get}
use Rattle.std.proofs.lemmas.List.{length-map}
use Rattle.std.proofs.lemmas.Option.{slice_get-map}
use Rattle.std.specs.Prelude.{unwrap_or}
use Rattle.std.specs.List.{range_with_len}
use Rattle.std.specs.Option.{option_map}
use Rattle.go_base.specs.Optional.{◌>>=◌}
use Rattle.go_grammar.specs.Trees.{first, parts}
use Rattle.go_tree.specs.File.{FileTree}
use Rattle.go_tree.specs.Lists.{functions}
use Rattle.go_tree.specs.Views.{view, behind_first}
use Rattle.go_typed.specs.declared.window.Window.{Window}
use Rattle.go_typed.specs.Windows.{Range}
use Rattle.go_package_defs.specs.Sources.{Source, source_of}
use Rattle.clone_window.specs.declared.bounds.Bounds.{Bounds}
use Rattle.clone_window.specs.declared.span.FunctionPlace.{FunctionPlace}
use Rattle.clone_window.specs.Masses.{masses}
use Rattle.clone_window.specs.Spans.{ByteRange, nowhere, place_at, places_from, range_over, span_in, span_over, span_there}
use Rattle.clone_window.specs.Bodies.{Body}
use Rattle.clone_window.specs.Fields.{FieldNames}
use Rattle.clone_classes.specs.Listing.{listing}
use Rattle.clone_report.specs.Covered.{counted, coverage, coverages, stands, statements_from}
use Rattle.clone_report.specs.Maximal.{maximal}
use Rattle.clone_replies.specs.Classes.{Listed, ShownClass, shown_class, statements_in, window_bytes}
use Rattle.clone_replies.specs.Listing.{listing_by, listing_text}
use Rattle.clone_replies.specs.Maximal.{class_at, maximal_by, maximal_text, members_at}

-- ---- places by tokens and trees alone

abbrev places_by : ℕ → List Source → List FunctionPlace
places_by n [] = []
places_by n (s ∷ ss) = map (place_at n) (map first (functions (behind_first (parts s.tree)))) ++ places_by (suc n) ss

places-by : (n : ℕ) (fs : List FileTree) → places_from n fs ≡ places_by n (map source_of fs)
places-by n [] = refl
places-by n (f ∷ fs) = ap (λ ps. map (place_at n) (map first (functions (behind_first (parts (view f.root))))) ++ ps) (places-by (suc n) fs)

abbrev in_source : FunctionPlace → Range → Source → Option ByteRange
in_source place r s = span_over s.tokens.tokens (place.first + r.from) (place.first + r.to)

abbrev span_by : List Source → Range → FunctionPlace → Option ByteRange
span_by ss r place = slice_get ss place.file >>= in_source place r

found-by : (o : Option FileTree) (r : Range) (place : FunctionPlace) → (o >>= span_in place r) ≡ (option_map source_of o >>= in_source place r)
found-by None r place = refl
found-by (Some f) r place = refl

spans-by : (fs : List FileTree) (r : Range) (place : FunctionPlace) → span_there fs r place ≡ span_by (map source_of fs) r place
spans-by fs r place = found-by (slice_get fs place.file) r place ∙ ap (λ o. o >>= in_source place r) (sym (slice_get-map source_of fs place.file))

placed-by : (fs : List FileTree) (r : Range) (o : Option FunctionPlace) → (o >>= span_there fs r) ≡ (o >>= span_by (map source_of fs) r)
placed-by fs r None = refl
placed-by fs r (Some place) = spans-by fs r place

abbrev bytes_by : List Source → ℕ → Option Range → Option ByteRange
bytes_by ss func o = o >>= λ r. slice_get (places_by 0 ss) func >>= span_by ss r

ranged-by : (fs : List FileTree) (func : ℕ) (o : Option Range) → (o >>= λ r. slice_get (places_from 0 fs) func >>= span_there fs r) ≡ bytes_by (map source_of fs) func o
ranged-by fs func None = refl
ranged-by fs func (Some r) =
    ap (λ ps. slice_get ps func >>= span_there fs r) (places-by 0 fs)
    ∙ placed-by fs r (slice_get (places_by 0 (map source_of fs)) func)

-- ---- listings of packages with such files

module _ {T : Type 0} (names : List (List ℕ)) (fields : FieldNames T) (bodies : List (Body T)) (fs gs : List FileTree) (same : map source_of fs ≡ map source_of gs) where
  abbrev listed : List FileTree → Listed T
  listed files = record { names = names; files = files; fields = fields; bodies = bodies }

  same-bytes : (w : Window) → window_bytes (listed fs) w ≡ window_bytes (listed gs) w
  same-bytes w =
      let r = range_over (statements_in (listed fs) w) in
      ap (λ o. unwrap_or o nowhere) (ranged-by fs w.func r ∙ ap (λ ss. bytes_by ss w.func r) same ∙ sym (ranged-by gs w.func r))

  abbrev shown_by : List Window → ℕ → ℕ → (Window → ByteRange) → ShownClass
  shown_by ws n m place = record { members = map place ws; statements = n; mass = m }

  same-shown : (ws : List Window) → shown_class (listed fs) ws ≡ shown_class (listed gs) ws
  same-shown [] = refl
  same-shown (w ∷ ws) = ap (λ (place : Window → ByteRange). shown_by (w ∷ ws) w.count (masses false (statements_in (listed fs) w)) place) (fun_ext same-bytes)

  pub same-listing : (identical : T → T → Bool) (bounds : Bounds) → listing_by identical bounds (listed fs) ≡ listing_by identical bounds (listed gs)
  same-listing identical bounds =
      ap (λ (shown : List Window → ShownClass). listing_text names (map shown (listing identical fields bounds bodies))) (fun_ext same-shown)

  -- ---- their covered statements

  pub same-coverage : (classes : List (List Window)) (file : ℕ) → coverage classes fs bodies file ≡ coverage classes gs bodies file
  same-coverage classes file =
      ap (λ ps. counted (statements_from (stands classes) ps file 0 bodies)) (places-by 0 fs ∙ ap (places_by 0) same ∙ sym (places-by 0 gs))

  same-count : length fs ≡ length gs
  same-count = sym (length-map fs source_of) ∙ ap length same ∙ length-map gs source_of

  same-coverages : (classes : List (List Window)) → coverages classes fs bodies ≡ coverages classes gs bodies
  same-coverages classes =
      ap (λ (f : ℕ → ℕ × ℕ). map f (range_with_len 0 (length fs))) (fun_ext (same-coverage classes))
      ∙ ap (λ n. map (coverage classes gs bodies) (range_with_len 0 n)) same-count

  abbrev class_by : List (List Window) → (List Window → ShownClass) → ℕ → ℕ × ShownClass
  class_by classes shown n = (n, shown (members_at classes n))

  pub same-report : (identical : T → T → Bool) (bounds : Bounds) → maximal_by identical bounds (listed fs) ≡ maximal_by identical bounds (listed gs)
  same-report identical bounds =
      let classes = listing identical fields bounds bodies in
      ap (λ (shown : List Window → ShownClass). maximal_text names (map (class_by classes shown) (maximal classes)) (coverages classes fs bodies)) (fun_ext same-shown)
      ∙ ap (maximal_text names (map (class_at (listed gs) classes) (maximal classes))) (same-coverages classes)
