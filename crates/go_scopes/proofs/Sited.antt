-- Declarations need only names that stand in parts of declarations.
use Rattle.std.proofs.Common.{◌≡◌, ◌∙◌, ℕ, zero, suc, Bool, true, false, nat_eq, List, [], ◌∷◌, ◌++◌, refl, ap, sym, Option, Some, None}
use Rattle.std.specs.Prelude.{if◌then◌else◌}
use Rattle.go_tree.specs.declared.context.Site.{Site}
use Rattle.go_tree.specs.declared.context.Site.TheVariants as site
use Rattle.go_tree.specs.Declarations.{Found}
use Rattle.go_tree.specs.Failures.{place_if}
use Rattle.go_tree.specs.Lookups.{Asked}
use Rattle.go_tree.specs.Meanings.{Meaning}
use Rattle.go_tree.specs.Needs.{Needed, if_so, way_by, needed_meaning, needs, needs_of, is_among, with_all, all_needed, needs_itself, cycles}
use Rattle.go_scopes_lookup.specs.Sited.{is_sited, sited}

nothing : (b : Bool) (m : Option Meaning) (ns : List Needed) → needed_meaning (if_so b None) m ns ≡ ns
nothing true m ns = refl
nothing false m ns = refl

abbrev needed_from : Asked → Needed → Site → List Needed → List Needed
needed_from a x s ns = needed_meaning (if_so (nat_eq a.file x.it.file) (way_by x.it.it.source x.it.it.column x.full s)) a.meaning ns

one : (a : Asked) (asks : List Asked) (x : Needed) (s : Site) → a.it.site ≡ s → needs (if is_sited s then a ∷ asks else asks) x ≡ needed_from a x s (needs asks x)
one a asks x site.Elsewhere e = sym (nothing (nat_eq a.file x.it.file) a.meaning (needs asks x))
one a asks x (site.Type t) e = ap (λ s. needed_from a x s (needs asks x)) e
one a asks x (site.Value t c alone) e = ap (λ s. needed_from a x s (needs asks x)) e
one a asks x (site.Right t r) e = ap (λ s. needed_from a x s (needs asks x)) e

needs_sited : (asks : List Asked) (x : Needed) → needs (sited asks) x ≡ needs asks x
needs_sited [] x = refl
needs_sited (a ∷ asks) x = one a (sited asks) x a.it.site refl ∙ ap (needed_from a x a.it.site) (needs_sited asks x)

needs_of_sited : (asks : List Asked) (xs : List Needed) → needs_of (sited asks) xs ≡ needs_of asks xs
needs_of_sited asks [] = refl
needs_of_sited asks (x ∷ xs) = ap (λ ns. ns ++ needs_of (sited asks) xs) (needs_sited asks x) ∙ ap (λ ns. needs asks x ++ ns) (needs_of_sited asks xs)

all_needed_sited : (asks : List Asked) (k : ℕ) (xs : List Needed) → all_needed (sited asks) k xs ≡ all_needed asks k xs
all_needed_sited asks zero xs = refl
all_needed_sited asks (suc k) xs = all_needed_sited asks k (with_all (needs_of (sited asks) xs) xs) ∙ ap (λ ns. all_needed asks k (with_all ns xs)) (needs_of_sited asks xs)

needs_itself_sited : (asks : List Asked) (k : ℕ) (d : Found) → needs_itself (sited asks) k d ≡ needs_itself asks k d
needs_itself_sited asks k d =
    let x : Needed = record { it = d; full = false } in
    ap (is_among d) (all_needed_sited asks k (with_all (needs (sited asks) x) []) ∙ ap (λ ns. all_needed asks k (with_all ns [])) (needs_sited asks x))

pub cycles_sited : (asks : List Asked) (k : ℕ) (ds : List Found) → cycles (sited asks) k ds ≡ cycles asks k ds
cycles_sited asks k [] = refl
cycles_sited asks k (d ∷ ds) = ap (λ b. place_if b d.place (cycles (sited asks) k ds)) (needs_itself_sited asks k d) ∙ ap (place_if (needs_itself asks k d) d.place) (cycles_sited asks k ds)
