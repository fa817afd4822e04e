-- Functions with their types, in packages with equal heads.
use Rattle.std.specs.Prelude.{◌≡◌, ℕ, List, map, None}
use Rattle.go_tree.specs.Faults.{reported}
use Rattle.go_tree.specs.Uses.{uses}
use Rattle.go_types.specs.Relations.{Rights}
use Rattle.go_heads.specs.Functions.{AreRead}
use Rattle.go_package_defs.specs.Bodies.{Surroundings, portion_of, typed_function}
use Rattle.go_package_defs.specs.Declarations.{Specification}
use Rattle.go_package_defs.specs.Sources.{Package, unit_of}
use Rattle.go_heads_types.specs.Portions.{files_of, AreNamed, SameBody}

-- Each file has a name, and is read; names mean what they mean in these files, and no fault is reported of them.
pub record IsFaultless (p : Package) (names : List (List ℕ)) : Type 0 where
  pub named : AreNamed names p.sources
  pub read : AreRead (files_of names p.sources)
  pub uses : p.uses ≡ uses (map unit_of p.sources)
  pub faultless : reported (map unit_of p.sources) ≡ None

-- Where the body of a function has the same texts its portion is the same, with what its tokens mean; so it is with its types the same in
-- the same surroundings, behind the same right sides.
pub record KeepsTypedFunctions (p q : Package) (names others : List (List ℕ)) : Type 0 where
  pub portions : (k : ℕ) (d e : Specification) → SameBody p q names others k d e → portion_of q e ≡ portion_of p d
  pub typed : (k : ℕ) (d e : Specification) → SameBody p q names others k d e → (a : Surroundings) (rights : Rights) → typed_function q a rights k e ≡ typed_function p a rights k d
