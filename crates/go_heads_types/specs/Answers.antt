-- What the declarations of packages with equal heads answer.
use Rattle.std.specs.Prelude.{◌≡◌, List, Ok}
use Rattle.go_tree.specs.Uses.{UsesView}
use Rattle.go_package_defs.specs.Answer.{Environment, package_answer}
use Rattle.go_package_defs.specs.Sources.{Source}

-- Where no rule fails in the declarations of one package none fails in those of the other, and the objects stand for the same, with the
-- same right sides of declared types.
pub record KeepsAnswer (ss us : List Source) (u v : UsesView) : Type 0 where
  pub before : (x : Environment) → package_answer ss u ≡ Ok x → package_answer us v ≡ Ok x
  pub after : (x : Environment) → package_answer us v ≡ Ok x → package_answer ss u ≡ Ok x
