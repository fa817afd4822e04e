use Rattle.clone_classes.specs.Heads.{identical_between}
use Rattle.go_heads_types.proofs.HashTexts.{share}
use Rattle.go_heads_types.proofs.laws.windows_between_packages_have_one_number.Goals as goal

pub returns-clause-names : goal.returns-clause-names
returns-clause-names c = share

pub returns-clause-numbers : goal.returns-clause-numbers
returns-clause-numbers c = λ number law p q h w v same. law (identical_between p q) p q (share p q h) w v same
