-- Packages with equal heads, as the check of a package reads them: their objects, the names outside of bodies, and local types.
use Rattle.std.specs.Prelude.{◌≡◌, ℕ, List, length, map, Some, slice_get}
use Rattle.go_tree.specs.declared.object.Declared.{Declared}
use Rattle.go_tree.specs.Uses.{uses, object_of}
use Rattle.go_typed.specs.Packages.{referents}
use Rattle.go_package_defs.specs.Bodies.{types_in}
use Rattle.go_package_defs.specs.Declarations.{Specification}
use Rattle.go_package_defs.specs.Sources.{Package, unit_of, text_at}
use Rattle.go_heads.specs.Functions.{AreRead}
use Rattle.go_heads_types.specs.Portions.{files_of, AreNamed, SameBody}
use Rattle.go_heads.specs.Lookups.{AtOnePlace, IsLookedUp}
use Rattle.go_heads.specs.Locals as functions

-- Each file has a name, and is read; no function has the blank name; and names mean what they mean in these files.
pub record IsResolved (p : Package) (names : List (List ℕ)) : Type 0 where
  pub named : AreNamed names p.sources
  pub read : AreRead (files_of names p.sources)
  pub functions : functions.AreNamed (files_of names p.sources)
  pub uses : p.uses ≡ uses (map unit_of p.sources)

-- An object of each package, under one number: they are declared in the file of one number, by the same name and as the same.
pub record SameDeclared (p q : Package) (x y : Declared) : Type 0 where
  pub file : y.file ≡ x.file
  pub text : text_at q y.file y.name ≡ text_at p x.file x.name
  pub entity : y.entity ≡ x.entity

-- The objects are as many, with the same numbers by sort, and those of one number are declared as the same by the same name; each name
-- that is looked up outside of bodies has the same object; and where a function's body has the same texts the same of its locals are types.
pub record KeepsNames (p q : Package) (names others : List (List ℕ)) : Type 0 where
  pub count : length q.uses.package_level ≡ length p.uses.package_level
  pub referents : referents q.uses.package_level ≡ referents p.uses.package_level
  pub declared : (n : ℕ) (x y : Declared) → slice_get p.uses.package_level n ≡ Some x → slice_get q.uses.package_level n ≡ Some y → SameDeclared p q x y
  pub objects : (n t u : ℕ) → AtOnePlace (files_of names p.sources) (files_of others q.sources) n t u → IsLookedUp (files_of names p.sources) n t → object_of q.uses n u ≡ object_of p.uses n t
  pub types : (k : ℕ) (d e : Specification) → SameBody p q names others k d e → types_in q k ≡ types_in p k
