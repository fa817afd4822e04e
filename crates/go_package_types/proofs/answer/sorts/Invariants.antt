use Rattle.std.proofs.Common.{◌≡◌, ◌++◌, drop, map}
use Rattle.go_package_types.proofs.answer.sorts.Given as goal

abbrev pub invariant-loop-known : goal.invariant-loop-known
invariant-loop-known l = l.sorts.items ++ map (λ h. h.stands) (drop l.known-index l.all) ≡ map (λ h. h.stands) l.all
