use Rattle.std.proofs.Common.{◌≡◌, ℕ, ◌-◌, ◌++◌, [], nat_eq}
use Rattle.std.specs.HashSet as set
use Rattle.go_typed.specs.Windows.{uses_from}
use Rattle.param_choose.specs.Locals.{each_local, has, once}
use Rattle.param_choose.proofs.variables.occurring.Given as goal

abbrev pub invariant-loop-token : goal.invariant-loop-token
invariant-loop-token l =
    (l.out.items ++ once l.out.items (each_local (uses_from l.func.tokens l.token (l.upto - l.token))) ≡ once [] (each_local (uses_from l.func.tokens l.from (l.upto - l.from))))
    × ((n : ℕ) → set.contains nat_eq l.seen n ≡ has l.out.items n)
