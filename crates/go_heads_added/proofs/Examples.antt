-- The worked examples compute.
use Rattle.std.proofs.Common.{refl}
use Rattle.go_heads_added.specs.Examples.{Examples}

pub examples : Examples
examples = record { tree = refl; more = refl; count = refl }
