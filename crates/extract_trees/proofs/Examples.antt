-- The worked examples, by computing.
use Rattle.std.proofs.Common.{refl}
use Rattle.extract_trees.specs.Examples.{Examples}

pub examples : Examples
examples = record { two_statements = refl; without_parameters = refl; element_for_a_field = refl; untouched = refl; in_the_middle = refl; at_the_end = refl; two_gaps = refl; adjoining_gaps = refl; another_call_stays = refl; no_call_is_left = refl; in_a_block = refl; in_a_clause = refl }
