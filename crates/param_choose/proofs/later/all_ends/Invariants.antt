use Rattle.std.proofs.Common.{◌≡◌, ◌++◌, map, drop}
use Rattle.param_choose.specs.Ends.{ends_of}
use Rattle.param_choose.proofs.later.all_ends.Given as goal

abbrev pub invariant-loop-func : goal.invariant-loop-func
invariant-loop-func l = map ends_of l.functions ≡ map (λ row. row.items) l.out.items ++ map ends_of (drop l.func-index l.functions)
