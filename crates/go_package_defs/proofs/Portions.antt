-- The types of a function follow from its own tokens, and from what surrounds it.
use Rattle.std.proofs.Common.{◌∙◌, ap, ℕ}
use Rattle.go_package_defs.specs.Declarations.{Specification}
use Rattle.go_package_defs.specs.Sources.{Package}
use Rattle.go_package_defs.specs.Bodies.{portion_of, types_in, function_of}
use Rattle.go_package_defs.specs.Portions.{PortionSaysAll}

pub portions : (p q : Package) (d e : Specification) (number : ℕ) → PortionSaysAll p q d e number
portions p q d e number = record {
  function = λ a rights h k. ap (λ bs. function_of a rights number bs (portion_of p d)) k ∙ ap (function_of a rights number (types_in q number)) h;
}
