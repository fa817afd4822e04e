use Rattle.std.proofs.Common.{◌≡◌, take}
use Rattle.go_values.specs.Views.{views}
use Rattle.go_values.proofs.value.copies_of.Given as goal

abbrev pub invariant-loop-value : goal.invariant-loop-value
invariant-loop-value l = views l.copies.items ≡ views (take l.value-index l.values)
