use Rattle.extract_rewrite.proofs.Limited.{apart_from_others}
use Rattle.extract_rewrite.proofs.laws.packages_within_limits_pass_none.Goals as goal

pub returns : goal.returns
returns c = apart_from_others (record { lexing = c.one_lexing.ensures; tree = c.one_tree_of_a_file.ensures })
