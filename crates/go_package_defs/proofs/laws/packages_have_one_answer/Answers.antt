use Rattle.go_package_defs.proofs.Single.{single}
use Rattle.go_package_defs.proofs.laws.packages_have_one_answer.Goals as goal

pub returns : goal.returns
returns c = single (record { lexing = c.one_lexing.ensures; fault = c.one_fault.ensures.same; none = c.one_fault.ensures.none; tree = c.one_tree_of_a_file.ensures })
