use Rattle.std.proofs.Common.{◌≡◌, ◌++◌, drop, map}
use Rattle.std.specs.Prelude.{is_some}
use Rattle.go_package_types.proofs.answer.all_misassigned.Given as goal

abbrev pub invariant-loop-known : goal.invariant-loop-known
invariant-loop-known l = l.flags.items ++ map (λ h. is_some h.assigning) (drop l.known-index l.all) ≡ map (λ h. is_some h.assigning) l.all
