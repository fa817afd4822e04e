use Rattle.std.proofs.Common.{◌≡◌, drop}
use Rattle.go_typed.specs.Packages.{have_locals}
use Rattle.go_typed_parts.proofs.package.have_locals.Given as goal

abbrev pub invariant-loop-index : goal.invariant-loop-index
invariant-loop-index l = have_locals l.functions l.uses.locals ≡ have_locals (drop l.index l.functions) (drop l.index l.uses.locals)
