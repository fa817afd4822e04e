-- The functions of two packages with equal heads, with their types.
use Rattle.std.specs.Prelude.{◌≡◌, ℕ, zero, suc, ◌<◌, ◌⊎◌, List, [], ◌∷◌, ◌++◌, length, Result, Ok, Err, slice_get}
use Rattle.go_exprs_rules.specs.declared.fault.TypeFault.{TypeFault}
use Rattle.go_types.specs.Relations.{Rights}
use Rattle.go_package_defs.specs.Bodies.{Behind, Surroundings, count_types, typed_function, types_in}
use Rattle.go_package_defs.specs.Checked.{Typing, surroundings_of}
use Rattle.go_package_defs.specs.Declarations.{Specification}
use Rattle.go_package_defs.specs.Sources.{Source, Package, package_of}
use Rattle.go_heads_types.specs.Portions.{SameBody, function_specifications}

-- The right sides behind a function; those in front of it where it has a fault.
abbrev pub rights_behind : Rights → Result Behind TypeFault → Rights
rights_behind rights (Ok b) = b.rights
rights_behind rights (Err f) = rights

-- the right sides that so many functions of a list leave, whose first one has the number n
abbrev pub rights_after : Package → Surroundings → Rights → ℕ → List Specification → ℕ → Rights
rights_after p a rights n ds zero = rights
rights_after p a rights n [] (suc k) = rights
rights_after p a rights n (d ∷ ds) (suc k) = rights_after p a (rights_behind rights (typed_function p a rights n d)) (suc n) ds k

-- The right sides in front of a function: those of the declared types of the package, and of the bodies in front.
abbrev pub rights_before : List Source → Typing → ℕ → Rights
rights_before ss t k =
    let p = package_of ss t.uses in
    rights_after p (surroundings_of t.uses t.environment) t.environment.rights 0 (function_specifications p) k

-- The functions of one number have bodies with the same texts.
pub record KeepsBody (p q : Package) (names others : List (List ℕ)) (k : ℕ) : Type 0 where
  pub old : Specification
  pub new : Specification
  pub same : SameBody p q names others k old new

-- They declare no types in their bodies.
pub record HasNoTypes (p q : Package) (k : ℕ) : Type 0 where
  pub old : count_types (types_in p k) ≡ 0
  pub new : count_types (types_in q k) ≡ 0

-- So many right sides are added behind those in front.
pub record AddsRights (front : Rights) (count : ℕ) (all : Rights) : Type 0 where
  pub own : Rights
  pub counted : length own ≡ count
  pub is : all ≡ front ++ own

-- What is kept in two packages that are free of faults: what the objects of the package stand for; behind the same right sides a function
-- whose body has the same texts, with its types, and the right sides that it leaves; and so the function behind others that are kept or
-- declare no types.
pub record KeepsTypes (ss us : List Source) (names others : List (List ℕ)) (t z : Typing) : Type 0 where
  pub environment : z.environment ≡ t.environment
  pub function : (k : ℕ) → KeepsBody (package_of ss t.uses) (package_of us z.uses) names others k → rights_before us z k ≡ rights_before ss t k
      → slice_get z.bodies.functions k ≡ slice_get t.bodies.functions k
  pub rights : (k : ℕ) → KeepsBody (package_of ss t.uses) (package_of us z.uses) names others k → rights_before us z k ≡ rights_before ss t k
      → rights_before us z (suc k) ≡ rights_before ss t (suc k)
  pub behind : (m : ℕ)
      → ((k : ℕ) → k < m → KeepsBody (package_of ss t.uses) (package_of us z.uses) names others k ⊎ HasNoTypes (package_of ss t.uses) (package_of us z.uses) k)
      → KeepsBody (package_of ss t.uses) (package_of us z.uses) names others m → slice_get z.bodies.functions m ≡ slice_get t.bodies.functions m
