use Rattle.extract_names.proofs.Tells.{Laws, list_carried}
use Rattle.extract_names.proofs.laws.copied_runs_tell_the_same.Goals as goal

pub returns : goal.returns
returns c v d f ps h =
    let laws : Laws = record { carried = c.carried_trees_tell_the_same.ensures; lists = c.lists_tell_each_statement.ensures; joined = c.lists_tell_one_behind_the_other.ensures } in
    list_carried laws v d f ps h
