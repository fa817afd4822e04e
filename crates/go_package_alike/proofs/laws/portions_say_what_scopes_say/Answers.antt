use Rattle.std.proofs.Common.{◌++◌, length, None}
use Rattle.std.specs.Prelude.{replicate}
use Rattle.go_package_defs.specs.Bodies.{count_types, local_type}
use Rattle.go_package_alike.proofs.Portions.{portion_same, typed_same, variable_same}
use Rattle.go_package_alike.proofs.laws.portions_say_what_scopes_say.Goals as goal

pub returns : goal.returns
returns c = record {
  function = λ p a rights number which d s x e w. portion_same p a (rights ++ replicate (count_types which) None) d s e number (length which) (local_type (length rights) which) x w;
  typed = λ p a rights number d s x e w h. typed_same p a rights number d s x e w h;
  variable = λ p a rights d s e w. variable_same p a rights d s e w;
}
