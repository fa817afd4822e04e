use Rattle.std.proofs.Common.{◌≡◌, ◌+◌, drop, length}
use Rattle.go_package_defs.specs.Checked.{origins}
use Rattle.clone_replies.proofs.NumberPlaces.{types_in_all}
use Rattle.clone_replies.proofs.origins.type_count.Given as goal

abbrev pub invariant-loop-number : goal.invariant-loop-number
invariant-loop-number l = length (origins l.uses) ≡ l.count + types_in_all (drop l.number l.uses.locals)
