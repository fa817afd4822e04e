-- What is known of the objects of a package.
--
-- A name is free of faults where no rule fails in its type, in its expression and at its own assignment, and where the same holds
-- of all that it needs. What isn't free stands for nothing known, so that a node that names it isn't judged. The right side of a
-- type is known before limits are judged: in an element of a slice and in a function type it is needed for these alone.
use Rattle.std.specs.Prelude.{ℕ, suc, Bool, true, false, ◌&&◌, if◌then◌else◌, nat_eq, List, [], ◌∷◌, map, Option, Some, None, slice_get, is_some, unwrap_or}
use Rattle.go_tree.specs.declared.context.Entity.{Entity}
use Rattle.go_tree.specs.declared.context.Entity.TheVariants as entity
use Rattle.go_tree.specs.declared.object.Declared.{Declared}
use Rattle.go_tree.specs.declared.object.Object.{Object}
use Rattle.go_tree.specs.declared.object.Object.TheVariants as object
use Rattle.go_tree.specs.Uses.{object_of}
use Rattle.go_types.specs.Trees.{TypeTree}
use Rattle.go_types.specs.Relations.{Rights}
use Rattle.go_typed.specs.declared.form.Referent.{Referent}
use Rattle.go_typed.specs.declared.form.Referent.TheVariants as referent
use Rattle.go_typed.specs.Packages.{referents}
use Rattle.go_typed.specs.Trees as sort
use Rattle.go_exprs_rules.specs.declared.fault.TypeFault.{TypeFault}
use Rattle.go_exprs_rules.specs.Scopes.{Needed, in_full, at_once, loosely, Scope}
use Rattle.go_exprs_rules.specs.Sorts.{Stands}
use Rattle.go_exprs_rules.specs.Tables.{no_faults}
use Rattle.go_package_defs.specs.Declarations.{Specification}
use Rattle.go_package_defs.specs.Sources.{Package, text_at, characters_at, needed_at}

abbrev pub is_type : Entity → Bool
is_type entity.Type = true
is_type e = false

-- ---- objects with their specifications

-- An object of the package: the specification that declares it, its number among the names of that, and the objects that it
-- needs, at once or through others, where it is needed in part, and where in full.
pub record Outline : Type 0 where
  pub specification : Specification
  pub column : ℕ
  pub partly : List ℕ
  pub fully : List ℕ

abbrev pub following : Option ℕ → Option ℕ
following None = None
following (Some n) = Some (suc n)

-- the place of a number in a list
abbrev pub place_of : ℕ → List ℕ → Option ℕ
place_of t [] = None
place_of t (u ∷ us) = if nat_eq t u then Some 0 else following (place_of t us)

abbrev pub column_of : ℕ → ℕ → Specification → Option ℕ
column_of n t s = if nat_eq s.file n then place_of t s.names else None

abbrev pub no_specification : Specification
no_specification = record { entity = entity.Function; file = 0; first = 0; last = 0; iota = 0; names = []; type_tree = None; values = []; tree = None }

abbrev pub found_or : Specification → Option ℕ → Specification × ℕ → Specification × ℕ
found_or s (Some c) x = (s, c)
found_or s None x = x

-- the specification that declares the name at a token of a file, and the number of the name in it
abbrev pub declaring : List Specification → ℕ → ℕ → Specification × ℕ
declaring [] n t = (no_specification, 0)
declaring (s ∷ ss) n t = found_or s (column_of n t s) (declaring ss n t)

abbrev pub outline_by : Package → Declared → Specification × ℕ → Outline
outline_by p d (s, c) = record { specification = s; column = c; partly = needed_at p d.file d.name c false; fully = needed_at p d.file d.name c true }

-- the objects of the package, by their numbers
abbrev pub outlines : Package → List Specification → List Outline
outlines p ss = map (λ d. outline_by p d (declaring ss d.file d.name)) p.uses.package_level

-- ---- what is known of an object

-- the right side of a type; what the object stands for; the rules that fail in its type and its expression, and at its assignment
pub record State : Type 0 where
  pub right : Option TypeTree
  pub stands : Stands
  pub faults : List TypeFault
  pub assigning : List TypeFault

abbrev pub no_state : State
no_state = record { right = None; stands = sort.Unknown; faults = []; assigning = [] }

abbrev pub state_there : Option State → State
state_there (Some s) = s
state_there None = no_state

abbrev pub state_of : List State → ℕ → State
state_of ss n = state_there (slice_get ss n)

-- no rule fails
abbrev pub is_sound : State → Bool
is_sound s = no_faults s.faults && no_faults s.assigning

-- it has a right side, if it is a type, or else stands for something
abbrev pub is_told_by : Stands → Option TypeTree → Bool
is_told_by (sort.IsType t) r = is_some r
is_told_by sort.Unknown r = false
is_told_by x r = true

abbrev pub is_told : State → Bool
is_told s = is_told_by s.stands s.right

abbrev pub all_pass : (State → Bool) → List State → List ℕ → Bool
all_pass test ss [] = true
all_pass test ss (n ∷ ns) = test (state_of ss n) && all_pass test ss ns

abbrev pub needs_of : Needed → Option Outline → List ℕ
needs_of in_full (Some o) = o.fully
needs_of at_once (Some o) = o.partly
needs_of loosely (Some o) = []
needs_of need None = []

-- whether the object passes, and all that it needs
abbrev pub passes : (State → Bool) → List Outline → List State → Needed → ℕ → Bool
passes test os ss loosely n = true
passes test os ss need n = all_pass test ss (n ∷ needs_of need (slice_get os n))

abbrev pub stands_if : Bool → State → Stands
stands_if true s = s.stands
stands_if false s = sort.Unknown

abbrev pub stands_where : (State → Bool) → List Outline → List State → Needed → Object → Stands
stands_where test os ss need (object.Package n) = stands_if (passes test os ss need n) (state_of ss n)
stands_where test os ss need o = sort.Unknown

abbrev pub rights_among : List Declared → List State → Rights
rights_among (d ∷ ds) (s ∷ ss) = if is_type d.entity then s.right ∷ rights_among ds ss else rights_among ds ss
rights_among _ _ = []

-- the right sides of the types of the package, by their numbers as types
abbrev pub rights_of : Package → List State → Rights
rights_of p ss = rights_among p.uses.package_level ss

abbrev pub referent_there : Option Referent → Referent
referent_there o = unwrap_or o referent.Println

abbrev pub referent_at : Package → ℕ → Referent
referent_at p n = referent_there (slice_get (referents p.uses.package_level) n)

-- how a specification needs what it names
abbrev pub need_in : Entity → Needed
need_in entity.Type = at_once
need_in e = in_full

-- the scope of a specification; names stand for what they do where they pass the test
abbrev pub scope_where : (State → Bool) → Bool → Package → List Outline → List State → Specification → Scope
scope_where test limits p os ss s = record {
  rights = rights_of p ss;
  iota = s.iota;
  texts = text_at p s.file;
  characters = characters_at p s.file;
  objects = object_of p.uses s.file;
  sorts = stands_where test os ss;
  referents = referent_at p;
  needed = need_in s.entity;
  limits = limits;
}

-- where names stand for something that are free of faults
abbrev pub free_scope : Package → List Outline → List State → Specification → Scope
free_scope p os ss s = scope_where is_sound true p os ss s

-- where names stand for something that are told, and no limit is judged: there right sides are found
abbrev pub told_scope : Package → List Outline → List State → Specification → Scope
told_scope p os ss s = scope_where is_told false p os ss s
