use Rattle.std.specs.Prelude.{nat_eq}
use Rattle.std.specs.HashMap.{get}
use Rattle.alpha_hash.specs.Shown.{shown}
use Rattle.alpha_hash.proofs.Folds.{RolledSoFar}
use Rattle.alpha_hash.proofs.numbers.numbers_of.Given as goal

abbrev pub invariant-loop-index : goal.invariant-loop-index
invariant-loop-index l = RolledSoFar (shown l.words) l.index l.fold l.terms (get nat_eq l.places) l.numbers.items
