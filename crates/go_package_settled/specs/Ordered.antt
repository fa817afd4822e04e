-- Packages whose declarations stand in an order: what is needed by what is needed is needed, in part no declaration needs itself, and what
-- a declaration names it needs, as it is named there (Go specification: Declarations and scope, Package initialization).
use Rattle.std.specs.Prelude.{◌≡◌, ℕ, ◌+◌, Bool, true, false, List, length, Option, Some, None, slice_get}
use Rattle.go_grammar.specs.Trees.{Tree}
use Rattle.go_tree.specs.declared.object.Declared.{Declared}
use Rattle.go_tree.specs.declared.object.Object.{Object}
use Rattle.go_tree.specs.declared.object.Object.TheVariants as object
use Rattle.go_tree.specs.Uses.{object_of}
use Rattle.go_exprs_rules.specs.Scopes.{Needed, in_full, at_once, loosely, type_place}
use Rattle.go_package_defs.specs.Declarations.{Specification}
use Rattle.go_package_defs.specs.Knowledge.{Outline, is_type, needs_of}
use Rattle.go_package_defs.specs.Sources.{Package, rounds}
use Rattle.go_package_defs.specs.Verdicts.{own_value, is_in, known}
use Rattle.go_package_laws.specs.Names.{Ways, EachName, EachNeed}
use Rattle.go_package_laws.specs.Ranks.{Ranks, type_object, AreAtMost}
use Rattle.go_package_laws.specs.Stages.{AreStaged}
use Rattle.go_package_settled.specs.Heights.{Needing, AreOrdered, stand_stage, told_stage, own_stage, reach_stage}

-- the objects that an object needs so, by its outline
abbrev pub needed : List Outline → Needed → ℕ → List ℕ
needed os way n = needs_of way (slice_get os n)

abbrev pub sort_there : Option Outline → Option Bool
sort_there None = None
sort_there (Some o) = Some (is_type o.specification.entity)

-- ---- what is named

-- The object of the package passes, if it is one.
abbrev pub Passes : (ℕ → Bool) → Option Object → Type 0
Passes test (Some (object.Package m)) = test m ≡ true
Passes test o = Unit {0}

module _ (x : Needing) (n : ℕ) where
  -- It is needed in part, with all that it needs in full.
  abbrev pub NeedsWhole : Option Object → Type 0
  NeedsWhole (Some (object.Package m)) = (x.part n m ≡ true) × ((k : ℕ) → x.full m k ≡ true → x.part n k ≡ true)
  NeedsWhole o = Unit {0}

  -- A type needs an object that it names so: in part where its right side does, and else in full.
  abbrev pub NeedsSo : Needed → Option Object → Type 0
  NeedsSo loosely o = Passes (x.full n) o
  NeedsSo at_once o = Passes (x.part n) o
  NeedsSo in_full o = NeedsWhole o

  module _ (p : Package) (d : Specification) where
    -- A constant, a variable or a function needs in full what its type and its own value name.
    abbrev pub NeedsNames : Option Tree → Type 0
    NeedsNames None = Unit {0}
    NeedsNames (Some t) = EachName (λ i. Passes (x.full n) (object_of p.uses d.file i)) t

    -- A type needs what its right side names, with all that the lengths of arrays need.
    abbrev pub type_needs : Ways
    type_needs = record {
      named = λ way i. NeedsSo way (object_of p.uses d.file i);
      counted = λ i. NeedsWhole (object_of p.uses d.file i);
      anywhere = λ i. ⊥;
    }

    abbrev pub NeedsTypes : Option Tree → Type 0
    NeedsTypes None = Unit {0}
    NeedsTypes (Some t) = EachNeed type_needs type_place t

abbrev pub NeedsNamed : Needing → Package → ℕ → Outline → Bool → Type 0
NeedsNamed x p n o true = NeedsTypes x n p o.specification o.specification.type_tree
NeedsNamed x p n o false = NeedsNames x n p o.specification o.specification.type_tree × NeedsNames x n p o.specification (own_value o.specification o.column)

-- The outlines of a package need no more than this says, which is ordered and has all that they name.
pub record NeedsAreOrdered (p : Package) (os : List Outline) (x : Needing) : Type 0 where
  pub declared : length p.uses.package_level ≡ length os
  pub entities : (n : ℕ) (o : Outline) (d : Declared) → slice_get os n ≡ Some o → slice_get p.uses.package_level n ≡ Some d → is_type o.specification.entity ≡ is_type d.entity
  pub size : x.size ≡ length os
  pub sorts : (n : ℕ) → x.sort n ≡ sort_there (slice_get os n)
  pub fully : (n m : ℕ) → is_in (needed os in_full n) m ≡ true → x.full n m ≡ true
  pub partly : (n m : ℕ) → is_in (needed os at_once n) m ≡ true → x.part n m ≡ true
  pub order : AreOrdered x
  pub named : (n : ℕ) (o : Outline) → slice_get os n ≡ Some o → NeedsNamed x p n o (is_type o.specification.entity)

-- ---- stages

-- the greatest stage of a right side that a declared type reaches
abbrev pub reach_of : Needing → Option ℕ → ℕ
reach_of x None = 0
reach_of x (Some n) = reach_stage x n

-- from when on the objects of a package are known for good
abbrev pub stages : Package → Needing → Ranks
stages p x = record { stand = stand_stage x; told = told_stage x; own = own_stage x; reach = λ t. reach_of x (type_object p.uses.package_level t) }

-- What the objects stand for is known after as many rounds as a package has, by stages, and further rounds change nothing.
pub record IsSettled (p : Package) (os : List Outline) : Type 0 where
  pub ranks : Ranks
  pub staged : AreStaged p os (known p os (rounds p)) ranks
  pub low : AreAtMost ranks (rounds p)
  pub further : (k : ℕ) → known p os (k + rounds p) ≡ known p os (rounds p)
