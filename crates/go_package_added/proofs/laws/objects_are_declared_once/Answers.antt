use Rattle.go_package_added.proofs.Shared.{faultless_shared}
use Rattle.go_package_added.proofs.laws.objects_are_declared_once.Goals as goal

pub returns : goal.returns
returns c ss h = faultless_shared (λ ts t f. c.files_are_orderly.ensures ts t f) ss h
