-- What declarations need through others, by their numbers.
use Rattle.std.specs.Prelude.{◌≡◌, ℕ, Bool, true, false, List, [], length, Option, Some, None, slice_get}
use Rattle.go_tree.specs.declared.object.Declared.{Declared}
use Rattle.go_tree.specs.Declarations.{Found}
use Rattle.go_tree.specs.Lookups.{Asked}
use Rattle.go_tree.specs.Needs.{Needed, needs, needs_itself, with_all, all_needed, is_same}
use Rattle.go_scopes_cycles.specs.Closure.{rounds, IsLike}
use Rattle.go_scopes_cycles.specs.Columns.{IsSource, AreAlike}
use Rattle.go_package_defs.specs.Knowledge.{Outline, is_type}
use Rattle.go_package_defs.specs.Sources.{Package, number_at, needed_numbers, needed_by}
use Rattle.go_package_defs.specs.Verdicts.{is_in}
use Rattle.go_package_settled.specs.Heights.{Needing}
use Rattle.go_package_settled.specs.Ordered.{sort_there, NeedsNamed}

-- a declaration, needed in full or in part
abbrev pub as_needed : Found → Bool → Needed
as_needed d f = record { it = d; full = f }

-- all that it needs, at once or through others
abbrev pub needed_wholly : List Asked → Needed → List Needed
needed_wholly asks x = all_needed asks (rounds asks) (with_all (needs asks x) [])

abbrev pub numbers_needed : Package → Option Found → Bool → List ℕ
numbers_needed p None f = []
numbers_needed p (Some d) f = needed_numbers p (needed_wholly p.asked (as_needed d f))

-- the objects of a package, the declarations of which are these
abbrev pub needing : Package → List Outline → (ℕ → Option Found) → ℕ → Needing
needing p os declared size = record {
  size = size;
  sort = λ n. sort_there (slice_get os n);
  full = λ n m. is_in (numbers_needed p (declared n) true) m;
  part = λ n m. is_in (numbers_needed p (declared n) false) m;
}

-- The objects of a package have declarations: those of its numbers, which the names call for; the outlines say what these need; none of
-- them needs itself; and one that is no type needs the same in full and in part.
pub record AreDeclaredBy (p : Package) (os : List Outline) (declared : ℕ → Option Found) : Type 0 where
  pub alike : AreAlike p.asked
  pub there : (n : ℕ) (o : Outline) → slice_get os n ≡ Some o → (d : Found) × (declared n ≡ Some d)
  pub like : (n : ℕ) (d : Found) → declared n ≡ Some d → IsLike p.asked d
  pub number : (n : ℕ) (d : Found) → declared n ≡ Some d → number_at p d.file d.it.name ≡ Some n
  pub called : (e : Found) (m : ℕ) → IsSource e p.asked → number_at p e.file e.it.name ≡ Some m → (d : Found) × (declared m ≡ Some d) × (is_same d e ≡ true)
  pub itself : (n : ℕ) (d : Found) → declared n ≡ Some d → needs_itself p.asked (rounds p.asked) d ≡ false
  pub partly : (n : ℕ) (o : Outline) (d : Found) → slice_get os n ≡ Some o → declared n ≡ Some d → o.partly ≡ needed_by p (as_needed d false)
  pub fully : (n : ℕ) (o : Outline) (d : Found) → slice_get os n ≡ Some o → declared n ≡ Some d → o.fully ≡ needed_by p (as_needed d true)
  pub whole : (n : ℕ) (o : Outline) (d : Found) → slice_get os n ≡ Some o → declared n ≡ Some d → is_type o.specification.entity ≡ false → needs p.asked (as_needed d true) ≡ needs p.asked (as_needed d false)

-- The objects of a package have these declarations, each is a type where its outline says so, and needs what it names.
pub record AreNeeding (p : Package) (os : List Outline) (declared : ℕ → Option Found) : Type 0 where
  pub count : length p.uses.package_level ≡ length os
  pub entities : (n : ℕ) (o : Outline) (d : Declared) → slice_get os n ≡ Some o → slice_get p.uses.package_level n ≡ Some d → is_type o.specification.entity ≡ is_type d.entity
  pub sources : AreDeclaredBy p os declared
  pub named : (n : ℕ) (o : Outline) → slice_get os n ≡ Some o → NeedsNamed (needing p os declared (length os)) p n o (is_type o.specification.entity)
