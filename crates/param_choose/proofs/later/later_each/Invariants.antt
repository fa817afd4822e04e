use Rattle.std.proofs.Common.{◌≡◌, ℕ, Bool, ◌++◌, List, map, nat_eq, drop}
use Rattle.std.specs.Prelude.{nat_lt}
use Rattle.std.specs.HashMap.{get}
use Rattle.std.specs.List.{zip}
use Rattle.param_choose.specs.Ends.{end_at, place_in}
use Rattle.param_choose.specs.Members.{second_of}
use Rattle.param_choose.proofs.later.later_each.Given as goal

abbrev pub invariant-loop-local : goal.invariant-loop-local
invariant-loop-local l =
    (left : List ℕ) → ((n : ℕ) → get nat_eq l.places n ≡ place_in left n)
    → map (λ (n : ℕ). nat_lt l.upto (end_at l.ends (second_of (zip left l.others.items) n))) l.locals
    ≡ l.row.items ++ map (λ (n : ℕ). nat_lt l.upto (end_at l.ends (second_of (zip left l.others.items) n))) (drop l.local-index l.locals)
