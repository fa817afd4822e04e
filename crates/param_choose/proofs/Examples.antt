-- The worked examples, by computing.
use Rattle.std.proofs.Common.{refl}
use Rattle.param_choose.specs.Examples.{Examples}

pub examples : Examples
examples = record { two_members = refl; one_member = refl; second_statement = refl; all_statements = refl; no_member = refl; declared = refl; later = refl; starts = refl }
