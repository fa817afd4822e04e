use Rattle.extract_names.proofs.Tells.{Laws, tells, tells_before}
use Rattle.extract_names.proofs.laws.replaced_runs_tell.Goals as goal

pub returns : goal.returns
returns c v d t q h =
    let laws : Laws = record { carried = c.carried_trees_tell_the_same.ensures; lists = c.lists_tell_each_statement.ensures; joined = c.lists_tell_one_behind_the_other.ensures } in
    record { before = tells_before laws v d t q h; behind = tells laws v d t q h }
