-- What the types of a function follow from.
use Rattle.std.specs.Prelude.{◌≡◌, ℕ}
use Rattle.go_types.specs.Relations.{Rights}
use Rattle.go_package_defs.specs.Declarations.{Specification}
use Rattle.go_package_defs.specs.Sources.{Package}
use Rattle.go_package_defs.specs.Bodies.{Surroundings, portion_of, types_in, typed_function}

-- A function of the same tokens, with the same meanings, of which the same locals are types, is with its types the same in any
-- package, where the objects of the package stand for the same, as many functions stand in front of it, and the same types.
pub record PortionSaysAll (p q : Package) (d e : Specification) (number : ℕ) : Type 0 where
  pub function : (a : Surroundings) (rights : Rights) → portion_of p d ≡ portion_of q e → types_in p number ≡ types_in q number → typed_function p a rights number d ≡ typed_function q a rights number e
