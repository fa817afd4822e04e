-- States of the objects of two packages that are the same but for where rules fail.
use Rattle.std.specs.Prelude.{◌≡◌, ℕ, List, [], ◌∷◌}
use Rattle.go_exprs_rules.specs.Tables.{no_faults}
use Rattle.go_package_defs.specs.Declarations.{Specification}
use Rattle.go_package_defs.specs.Knowledge.{State, outlines}
use Rattle.go_package_defs.specs.Answer.{Environment, answer_by}
use Rattle.go_package_defs.specs.Sources.{Package}
use Rattle.go_package_defs.specs.Verdicts.{known}
use Rattle.std.specs.Prelude.{Ok}

-- It has the same right side and stands for the same, and rules fail in one where some fail in the other.
pub record SameState (x y : State) : Type 0 where
  pub right : y.right ≡ x.right
  pub stands : y.stands ≡ x.stands
  pub faults : no_faults y.faults ≡ no_faults x.faults
  pub assigning : no_faults y.assigning ≡ no_faults x.assigning

abbrev pub SameStates : List State → List State → Type 0
SameStates [] [] = Unit {0}
SameStates (x ∷ xs) (y ∷ ys) = SameState x y × SameStates xs ys
SameStates _ _ = ⊥

-- After each number of rounds the same is known; and where no rule fails in one package none fails in the other, and the objects stand
-- for the same.
pub record SameKnowledge (p q : Package) (ds es : List Specification) : Type 0 where
  pub known : (k : ℕ) → SameStates (known p (outlines p ds) k) (known q (outlines q es) k)
  pub before : (x : Environment) → answer_by p ds ≡ Ok x → answer_by q es ≡ Ok x
  pub after : (x : Environment) → answer_by q es ≡ Ok x → answer_by p ds ≡ Ok x
