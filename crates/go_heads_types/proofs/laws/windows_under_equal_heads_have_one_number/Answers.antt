use Rattle.alpha_hash_defs.specs.Packages.{window_hash}
use Rattle.alpha_hash_defs.proofs.Public.{hash-lawful}
use Rattle.go_heads_types.proofs.laws.windows_under_equal_heads_have_one_number.Goals as goal

pub returns-clause-lawful : goal.returns-clause-lawful
returns-clause-lawful c = λ number law p q h k e w v same.
    c.windows_between_packages_have_one_number.ensures.numbers number law p q (c.checked_packages_are_named_alike.ensures p q h k e) w v same

pub returns-clause-alpha : goal.returns-clause-alpha
returns-clause-alpha c = λ p q h k e w v same.
    c.windows_between_packages_have_one_number.ensures.numbers window_hash hash-lawful p q (c.checked_packages_are_named_alike.ensures p q h k e) w v same
