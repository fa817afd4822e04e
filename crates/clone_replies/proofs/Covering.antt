-- The covered statements of a package are the same over other words for types.
use Rattle.std.proofs.Common.{◌≡◌, ◌∙◌, ℕ, suc, ◌+◌, Bool, false, List, [], ◌∷◌, ◌++◌, map, slice_get, ap, refl}
use Rattle.std.specs.Prelude.{if◌then◌else◌}
use Rattle.go_tree.specs.File.{FileTree}
use Rattle.go_typed.specs.declared.window.Window.{Window}
use Rattle.go_typed.specs.Forms.{is_statement_list, values_count}
use Rattle.go_typed.specs.Trees.{Typed, typed, Typeds, none, more, skip, mapped, all_mapped}
use Rattle.clone_window.specs.declared.span.FunctionPlace.{FunctionPlace}
use Rattle.clone_window.specs.Bodies.{Body}
use Rattle.clone_window.specs.Spans.{places_from}
use Rattle.clone_window.specs.Windows.{list_count}
use Rattle.clone_report.specs.Covered.{counted, coverage, is_covered, is_placed, own, stands, statements_along, statements_among, statements_from, statements_in, statements_there}
use Rattle.clone_replies.proofs.Mapped.{body-mapped, count-mapped}

module _ {T U : Type 0} (g : T → U) where
  mutual
    in-mapped : (stands : ℕ → ℕ → Bool) (inside : Bool) (k : ℕ) (x : Typed T) → statements_in stands inside k (mapped g x) ≡ statements_in stands inside k x
    in-mapped stands inside k (typed f i j l ps) =
        ap (λ bs. if is_statement_list f then bs else statements_among stands inside k (all_mapped g ps)) (along-mapped stands inside k (values_count f) (suc k) 0 ps)
        ∙ ap (λ bs. if is_statement_list f then statements_along stands inside k (values_count f) (suc k) 0 ps else bs) (among-mapped stands inside k ps)

    among-mapped : (stands : ℕ → ℕ → Bool) (inside : Bool) (k : ℕ) (ps : Typeds T) → statements_among stands inside k (all_mapped g ps) ≡ statements_among stands inside k ps
    among-mapped stands inside k none = refl
    among-mapped stands inside k (more p ps) =
        ap (λ bs. bs ++ statements_among stands inside (k + list_count (mapped g p)) (all_mapped g ps)) (in-mapped stands inside k p)
        ∙ ap (λ n. statements_in stands inside k p ++ statements_among stands inside (k + n) (all_mapped g ps)) (count-mapped g p)
        ∙ ap (λ bs. statements_in stands inside k p ++ bs) (among-mapped stands inside (k + list_count p) ps)
    among-mapped stands inside k (skip ps) = among-mapped stands inside k ps

    along-mapped : (stands : ℕ → ℕ → Bool) (inside : Bool) (list ahead k index : ℕ) (ps : Typeds T) → statements_along stands inside list ahead k index (all_mapped g ps) ≡ statements_along stands inside list ahead k index ps
    along-mapped stands inside list ahead k index none = refl
    along-mapped stands inside list ahead k index (more p ps) =
        let covered = is_covered stands inside list ahead index in
        let front = own ahead index covered in
        ap (λ bs. front ++ bs ++ statements_along stands inside list ahead (k + list_count (mapped g p)) (suc index) (all_mapped g ps)) (in-mapped stands covered k p)
        ∙ ap (λ n. front ++ statements_in stands covered k p ++ statements_along stands inside list ahead (k + n) (suc index) (all_mapped g ps)) (count-mapped g p)
        ∙ ap (λ bs. front ++ statements_in stands covered k p ++ bs) (along-mapped stands inside list ahead (k + list_count p) (suc index) ps)
    along-mapped stands inside list ahead k index (skip ps) = along-mapped stands inside list ahead k index ps

  there-mapped : (stands : ℕ → ℕ → ℕ → Bool) (places : List FunctionPlace) (file n : ℕ) (b : Body T) → statements_there stands places file n (body-mapped g b) ≡ statements_there stands places file n b
  there-mapped stands places file n b = ap (λ bs. if is_placed file (slice_get places n) then bs else []) (in-mapped (stands n) false 0 b.root)

  from-mapped : (stands : ℕ → ℕ → ℕ → Bool) (places : List FunctionPlace) (file n : ℕ) (bs : List (Body T)) → statements_from stands places file n (map (body-mapped g) bs) ≡ statements_from stands places file n bs
  from-mapped stands places file n [] = refl
  from-mapped stands places file n (b ∷ bs) =
      ap (λ xs. xs ++ statements_from stands places file (suc n) (map (body-mapped g) bs)) (there-mapped stands places file n b)
      ∙ ap (λ xs. statements_there stands places file n b ++ xs) (from-mapped stands places file (suc n) bs)

  pub coverage-mapped : (classes : List (List Window)) (files : List FileTree) (bs : List (Body T)) (file : ℕ) → coverage classes files (map (body-mapped g) bs) file ≡ coverage classes files bs file
  coverage-mapped classes files bs file = ap counted (from-mapped (stands classes) (places_from 0 files) file 0 bs)
