use Rattle.std.proofs.Common.{◌≡◌, ℕ, Bool, ◌++◌, drop}
use Rattle.escape_check.specs.Stretches.{means_other, stretches_from}
use Rattle.escape_check.specs.Written.{type_name_view}
use Rattle.escape_check.proofs.hidden_names.add_between.Given as goal

abbrev pub invariant-loop-change : goal.invariant-loop-change
invariant-loop-change l =
    let test : ℕ → Bool = λ t. means_other l.checked l.file t (type_name_view l.name) in
    l.stretches.items ++ stretches_from test l.from (drop l.change-index l.changes) ≡ l.fn.stretches.items ++ stretches_from test 0 l.changes
