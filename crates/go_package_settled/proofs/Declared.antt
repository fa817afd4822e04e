-- The objects of a package, with all that their declarations need, are ordered.
use Rattle.std.proofs.Common.{◌≡◌, ◌∙◌, ℕ, ◌<◌, Bool, true, false, List, [], length, Option, Some, None, refl, sym, ap, subst, arith}
use Rattle.std.specs.Prelude.{slice_get}
use Rattle.go_tree.specs.Declarations.{Found}
use Rattle.go_tree.specs.Lookups.{Asked}
use Rattle.go_tree.specs.Needs.{Needed, is_same, is_among, is_known, with_all, needs, all_needed}
use Rattle.go_exprs_rules.specs.Scopes.{in_full, at_once}
use Rattle.go_scopes_cycles.specs.Closure.{rounds}
use Rattle.go_scopes_cycles.specs.Columns.{IsSource}
use Rattle.go_scopes_cycles.proofs.Public.{AllKnown}
use Rattle.go_package_defs.specs.Knowledge.{Outline, is_type, needs_of}
use Rattle.go_package_defs.specs.Sources.{Package, number_at, needed_numbers, needed_by}
use Rattle.go_package_defs.specs.Sources as sources
use Rattle.go_package_defs.specs.Verdicts.{is_in}
use Rattle.go_package_settled.specs.Heights.{Needing, AreOrdered}
use Rattle.go_package_settled.specs.Ordered.{needed, sort_there, NeedsAreOrdered}
use Rattle.go_package_settled.specs.Closure.{as_needed, needed_wholly, numbers_needed, needing, AreDeclaredBy, AreNeeding}
use Rattle.go_package_settled.proofs.Closure.{same_file, through}
use Rattle.go_package_settled.proofs.Lists.{place_below}
use Rattle.go_package_settled.proofs.Through.{needs_same, start, rounds_called, rounds_inside, wholly_inside, wholly_full, known_full, up, wholly_up, known_up, HasNumber, number_known, known_number, among_known}

module _ (p : Package) (os : List Outline) (declared : ℕ → Option Found) (a : AreDeclaredBy p os declared) where
  abbrev asks : List Asked
  asks = p.asked

  abbrev x : Needing
  x = needing p os declared (length os)

  abbrev wholly : Found → Bool → List Needed
  wholly d f = needed_wholly asks (as_needed d f)

  -- ---- what is needed has a declaration

  -- The object of the number n has a declaration, which needs one of the number m.
  record NeedsOne (n : ℕ) (f : Bool) (m : ℕ) : Type 0 where
    from : Found
    there : declared n ≡ Some from
    one : HasNumber p (wholly from f) m
    to : Found
    known : declared m ≡ Some to
    same : is_same to one.it.it ≡ true

  needs_one_by : (n : ℕ) (f : Bool) (m : ℕ) (o : Option Found) → declared n ≡ o → is_in (numbers_needed p o f) m ≡ true → NeedsOne n f m
  needs_one_by n f m None e h = absurd cc
  needs_one_by n f m (Some d) e h =
      let y = number_known p (wholly d f) m (rounds_called asks (rounds asks) (as_needed d f)) h in
      let z = a.called y.it.it m y.called y.number in
      record { from = d; there = e; one = y; to = z.0; known = z.1; same = z.2 }

  needs_one : (n : ℕ) (f : Bool) (m : ℕ) → is_in (numbers_needed p (declared n) f) m ≡ true → NeedsOne n f m
  needs_one n f m h = needs_one_by n f m (declared n) refl h

  one_declared : (d e : Found) → ◌≡◌ {A = Option Found} (Some d) (Some e) → d ≡ e
  one_declared d e q = cc

  declared_once : (n : ℕ) (d e : Found) → declared n ≡ Some d → declared n ≡ Some e → d ≡ e
  declared_once n d e f g = one_declared d e (sym f ∙ g)

  -- what the declaration of a number needs, and what one of this name does that names call for
  to_needs : (n : ℕ) (d : Found) (y : Needed) (f : Bool) → declared n ≡ Some d → is_same d y.it ≡ true → IsSource y.it asks → f ≡ y.full → needs asks (as_needed d f) ≡ needs asks y
  to_needs n d y f e s c g =
      let like = a.like n d e in
      needs_same asks (as_needed d f) y (same_file d y.it s) (like.specification y.it c s) (like.column y.it c s) g

  to_wholly : (n : ℕ) (d : Found) (y : Needed) (f : Bool) → declared n ≡ Some d → is_same d y.it ≡ true → IsSource y.it asks → f ≡ y.full → wholly d f ≡ needed_wholly asks y
  to_wholly n d y f e s c g = ap (λ ns. all_needed asks (rounds asks) (with_all ns [])) (to_needs n d y f e s c g)

  -- what one of the list needs, is in the list
  next_inside : (from to : Found) (f g : Bool) (m : ℕ) (y : Needed) → declared m ≡ Some to → is_same to y.it ≡ true → IsSource y.it asks → is_known y (wholly from f) ≡ true → g ≡ y.full → AllKnown (wholly to g) (wholly from f)
  next_inside from to f g m y e s c k q =
      subst (λ zs. AllKnown zs (wholly from f)) (sym (to_wholly m to y g e s c q)) (wholly_inside asks a.alike (as_needed from f) y c k)

  -- ---- the order

  full_of : (n m : ℕ) (h : NeedsOne n true m) → true ≡ h.one.it.full
  full_of n m h = sym (known_full h.one.it (wholly h.from true) (wholly_full asks (as_needed h.from true) refl) h.one.known)

  in_numbers : (n : ℕ) (d : Found) (f : Bool) (y : Needed) (m : ℕ) → declared n ≡ Some d → is_known y (wholly d f) ≡ true → number_at p y.it.file y.it.it.name ≡ Some m → is_in (numbers_needed p (declared n) f) m ≡ true
  in_numbers n d f y m e k q = subst (λ o. is_in (numbers_needed p o f) m ≡ true) (sym e) (known_number p (wholly d f) y m k q)

  full_through : (k m n : ℕ) → x.full k m ≡ true → x.full m n ≡ true → x.full k n ≡ true
  full_through k m n h g =
      let first = needs_one k true m h in
      let next = needs_one m true n g in
      let same : next.from ≡ first.to = declared_once m next.from first.to next.there first.known in
      let inside = next_inside first.from first.to true true m first.one.it first.known first.same first.one.called first.one.known (full_of k m first) in
      let there : is_known next.one.it (wholly first.to true) ≡ true = subst (λ d. is_known next.one.it (wholly d true) ≡ true) same next.one.known in
      in_numbers k first.from true next.one.it n first.there (through next.one.it (wholly first.to true) (wholly first.from true) there inside) next.one.number

  part_by : (k m n : ℕ) (first : NeedsOne k false m) (next : NeedsOne m false n) (b : Bool) → b ≡ first.one.it.full → x.part k n ≡ true
  part_by k m n first next false q =
      let same : next.from ≡ first.to = declared_once m next.from first.to next.there first.known in
      let inside = next_inside first.from first.to false false m first.one.it first.known first.same first.one.called first.one.known q in
      let there : is_known next.one.it (wholly first.to false) ≡ true = subst (λ d. is_known next.one.it (wholly d false) ≡ true) same next.one.known in
      in_numbers k first.from false next.one.it n first.there (through next.one.it (wholly first.to false) (wholly first.from false) there inside) next.one.number
  part_by k m n first next true q =
      let same : next.from ≡ first.to = declared_once m next.from first.to next.there first.known in
      let inside = next_inside first.from first.to false true m first.one.it first.known first.same first.one.called first.one.known q in
      let there : is_known next.one.it (wholly first.to false) ≡ true = subst (λ d. is_known next.one.it (wholly d false) ≡ true) same next.one.known in
      let full = known_up asks a.alike (wholly first.to true) next.one.it (wholly first.to false) (wholly_up asks a.alike (as_needed first.to false)) there in
      in_numbers k first.from false (up next.one.it) n first.there (through (up next.one.it) (wholly first.to true) (wholly first.from false) full inside) next.one.number

  part_through : (k m n : ℕ) → x.part k m ≡ true → x.part m n ≡ true → x.part k n ≡ true
  part_through k m n h g = let first = needs_one k false m h in part_by k m n first (needs_one m false n g) first.one.it.full refl

  part_full : (k m : ℕ) → x.part k m ≡ true → x.full k m ≡ true
  part_full k m h =
      let first = needs_one k false m h in
      let full = known_up asks a.alike (wholly first.from true) first.one.it (wholly first.from false) (wholly_up asks a.alike (as_needed first.from false)) first.one.known in
      in_numbers k first.from true (up first.one.it) m first.there full first.one.number

  -- what needs the same in full and in part
  whole_by : (k m : ℕ) (o : Option Outline) → slice_get os k ≡ o → sort_there o ≡ Some false → x.full k m ≡ true → x.part k m ≡ true
  whole_by k m None e s h = absurd cc
  whole_by k m (Some o) e s h =
      let first = needs_one k true m h in
      let same = a.whole k o first.from e first.there (is_false (is_type o.specification.entity) s) in
      let lists : wholly first.from true ≡ wholly first.from false = ap (λ ns. all_needed asks (rounds asks) (with_all ns [])) same in
      in_numbers k first.from false first.one.it m first.there (subst (λ zs. is_known first.one.it zs ≡ true) lists first.one.known) first.one.number
    where
      is_false : (b : Bool) → ◌≡◌ {A = Option Bool} (Some b) (Some false) → b ≡ false
      is_false b q = cc

  not_itself : (k : ℕ) → x.part k k ≡ true → ⊥
  not_itself k h =
      let first = needs_one k false k h in
      let same : first.to ≡ first.from = declared_once k first.to first.from first.known first.there in
      let one : is_same first.from first.one.it.it ≡ true = subst (λ d. is_same d first.one.it.it ≡ true) same first.same in
      let among : is_among first.from (wholly first.from false) ≡ true = among_known first.from first.one.it (wholly first.from false) first.one.known one in
      let none = a.itself k first.from first.there in
      absurd (grind (arith, among, none))

  inside_by : (k : ℕ) (b : Bool) (o : Option Outline) → slice_get os k ≡ o → sort_there o ≡ Some b → k < length os
  inside_by k b None e s = absurd cc
  inside_by k b (Some o) e s = place_below os k o e

  pub order : AreOrdered x
  order = record {
    inside = λ k b s. inside_by k b (slice_get os k) refl s;
    through = full_through;
    partly_through = part_through;
    partly_full = part_full;
    whole = λ k m s h. whole_by k m (slice_get os k) refl s h;
    itself = not_itself;
  }

  -- ---- outlines

  none_in : (m : ℕ) → is_in [] m ≡ true → ⊥
  none_in m h = cc

  listed_by : (n : ℕ) (d : Found) (f : Bool) (m : ℕ) → declared n ≡ Some d → is_in (needed_by p (as_needed d f)) m ≡ true → is_in (numbers_needed p (declared n) f) m ≡ true
  listed_by n d f m e h =
      let ys : List Needed = all_needed asks (sources.rounds p) (start asks (as_needed d f)) in
      let y = number_known p ys m (rounds_called asks (sources.rounds p) (as_needed d f)) h in
      in_numbers n d f y.it m e (through y.it ys (wholly d f) y.known (rounds_inside asks a.alike (as_needed d f) (sources.rounds p))) y.number

  fully_by : (n m : ℕ) (o : Option Outline) → slice_get os n ≡ o → is_in (needed os in_full n) m ≡ true → x.full n m ≡ true
  fully_by n m None e h = absurd (none_in m (subst (λ ns. is_in ns m ≡ true) (ap (needs_of in_full) e) h))
  fully_by n m (Some o) e h =
      let d = a.there n o e in
      listed_by n d.0 true m d.1 (subst (λ ns. is_in ns m ≡ true) (ap (needs_of in_full) e ∙ a.fully n o d.0 e d.1) h)

  pub fully : (n m : ℕ) → is_in (needed os in_full n) m ≡ true → x.full n m ≡ true
  fully n m h = fully_by n m (slice_get os n) refl h

  partly_by : (n m : ℕ) (o : Option Outline) → slice_get os n ≡ o → is_in (needed os at_once n) m ≡ true → x.part n m ≡ true
  partly_by n m None e h = absurd (none_in m (subst (λ ns. is_in ns m ≡ true) (ap (needs_of at_once) e) h))
  partly_by n m (Some o) e h =
      let d = a.there n o e in
      listed_by n d.0 false m d.1 (subst (λ ns. is_in ns m ≡ true) (ap (needs_of at_once) e ∙ a.partly n o d.0 e d.1) h)

  pub partly : (n m : ℕ) → is_in (needed os at_once n) m ≡ true → x.part n m ≡ true
  partly n m h = partly_by n m (slice_get os n) refl h

-- a package that needs what it names
pub are_ordered : (p : Package) (os : List Outline) (declared : ℕ → Option Found) → AreNeeding p os declared → NeedsAreOrdered p os (needing p os declared (length os))
are_ordered p os declared a = record {
  declared = a.count;
  entities = a.entities;
  size = refl;
  sorts = λ n. refl;
  fully = fully p os declared a.sources;
  partly = partly p os declared a.sources;
  order = order p os declared a.sources;
  named = a.named;
}
