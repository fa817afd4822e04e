use Rattle.extract_holes_checked.proofs.Known.{package_known}
use Rattle.extract_holes_checked.proofs.laws.named_packages_are_known.Goals as goal

pub returns : goal.returns
returns c p h k = package_known (λ ts d b t v. c.derivations_are_shaped.ensures.based ts d b t v) (λ s n l u t f w e k. c.names_make_known.ensures s n l u t f w e k) p h k
