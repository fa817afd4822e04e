-- Where declarations of the package block need no others, as many rounds as there are of these, twice, find all that they need.
use Rattle.std.proofs.Common.{◌≡◌, ◌∙◌, ◌≤◌, ℕ, suc, Bool, true, false, ◌&&◌, ◌||◌, List, [], ◌∷◌, length, map, ap, sym, subst, refl, arith, Option, Some, None, inl, inr}
use Rattle.std.specs.Prelude.{if◌then◌else◌}
use Rattle.std.specs.List.{AllByRecursion}
use Rattle.go_tree.specs.Contexts.{is_package}
use Rattle.go_tree.specs.Declarations.{Found, declarations, found}
use Rattle.go_tree.specs.Needs.{Needed, is_same, same_way, is_known, with_all, needs}
use Rattle.go_tree.specs.Units as names
use Rattle.go_tree.specs.Uses.{declared_by, declared_in_package, uses}
use Rattle.go_scopes_cycles.proofs.Public.{itself, or_last}
use Rattle.go_heads_added.specs.Kept.{looked_up}
use Rattle.go_heads_added.proofs.Public.{both_count, both_ways, two_more, with_more}
use Rattle.go_package_defs.specs.Sources.{Source, Package, unit_of, needed_numbers, rounds, declared_at, needed_from}
use Rattle.go_tree.specs.declared.object.Declared.{Declared}
use Rattle.go_package_settled.specs.Resolved.{IsIn, package_declarations}
use Rattle.go_package_added.specs.Appended.{AreClosed, IsClosed, further_from, package_in}
use Rattle.go_package_added.specs.Closed.{IsShared, in_column, NeedsStayShared, DeclaresShared}

-- ---- all that the package declares in its block, in both ways

shared_count : (ds : List Found) → length (package_declarations ds) ≡ length (declared_in_package ds)
shared_count [] = refl
shared_count (d ∷ ds) = by (is_package d.it.block) (shared_count ds)
  where
    by : (b : Bool) → length (package_declarations ds) ≡ length (declared_in_package ds)
        → length (if b then d ∷ package_declarations ds else package_declarations ds) ≡ length (if b then declared_by d ∷ declared_in_package ds else declared_in_package ds)
    by true e = ap suc e
    by false e = e

known_shared : (x : Needed) (ds : List Found) → IsIn x.it ds → is_known x (both_ways ds) ≡ true
known_shared x [] h = absurd h
known_shared x (d ∷ ds) (inr h) =
    or_last (is_same x.it d && same_way x.full true) ((is_same x.it d && same_way x.full false) || is_known x (both_ways ds))
    (or_last (is_same x.it d && same_way x.full false) (is_known x (both_ways ds)) (known_shared x ds h))
known_shared x (d ∷ ds) (inl e) = subst (λ z. is_known x (both_ways (z ∷ ds)) ≡ true) e (by x.full refl)
  where
    by : (f : Bool) → x.full ≡ f → is_known x (both_ways (x.it ∷ ds)) ≡ true
    by true q = ap (λ b. b || ((is_same x.it x.it && same_way x.full false) || is_known x (both_ways ds))) (ap (λ g. is_same x.it x.it && same_way x.full g) (sym q) ∙ itself x)
    by false q =
        or_last (is_same x.it x.it && same_way x.full true) ((is_same x.it x.it && same_way x.full false) || is_known x (both_ways ds))
        (ap (λ b. b || is_known x (both_ways ds)) (ap (λ g. is_same x.it x.it && same_way x.full g) (sym q) ∙ itself x))

-- ---- a package

module _ (ss : List Source) (stay : NeedsStayShared (map unit_of ss)) where
  abbrev us : List names.Unit
  us = map unit_of ss

  abbrev p : Package
  p = package_in ss

  abbrev shared : List Found
  shared = package_declarations (declarations us)

  few : length (both_ways shared) ≤ rounds p
  few = let a = both_count shared in let b = shared_count (declarations us) in omega (arith, a, b)

  of_one : (m t : ℕ) (o : Option Found) → o ≡ declared_at m t (found us) → ((d : Found) → o ≡ Some d → is_package d.it.block ≡ true) → (column : ℕ) (full : Bool) → further_from p column full o ≡ needed_from p column full o
  of_one m t None e h column full = refl
  of_one m t (Some d) e h column full =
      ap (needed_numbers p)
      (two_more (IsShared us) (looked_up us) stay.next (both_ways shared) (λ x w. known_shared x shared w) (rounds p) (with_all (needs (looked_up us) (in_column d column full)) [])
      (with_more (IsShared us) (needs (looked_up us) (in_column d column full)) [] (stay.at_first m t d (sym e) (h d refl) column full) tt) few)

  pub closed_at : (m t : ℕ) → DeclaresShared us m t → IsClosed p m t
  closed_at m t h column full = of_one m t (declared_at m t (found us)) refl h column full

  each_closed : {A : Type 0} (file name : A → ℕ) (xs : List A) → AllByRecursion (λ x. DeclaresShared us (file x) (name x)) xs → AllByRecursion (λ x. IsClosed p (file x) (name x)) xs
  each_closed file name [] h = tt
  each_closed file name (x ∷ xs) h = (closed_at (file x) (name x) h.0, each_closed file name xs h.1)

  pub all_closed : AllByRecursion (λ d. DeclaresShared us d.file d.name) (uses us).package_level → AreClosed p
  all_closed h = each_closed (λ (d : Declared). d.file) (λ (d : Declared). d.name) p.uses.package_level h
