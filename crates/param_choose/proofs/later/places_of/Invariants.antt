use Rattle.std.proofs.Common.{◌≡◌, ℕ, nat_eq, take}
use Rattle.std.specs.HashMap.{get}
use Rattle.param_choose.specs.Ends.{place_in}
use Rattle.param_choose.proofs.later.places_of.Given as goal

abbrev pub invariant-loop-index : goal.invariant-loop-index
invariant-loop-index l = (n : ℕ) → get nat_eq l.places n ≡ place_in (take l.index l.locals) n
