use Rattle.std.proofs.Common.{◌≡◌, drop}
use Rattle.go_typed.specs.Funcs.{is_full}
use Rattle.go_typed.specs.Views.{views}
use Rattle.go_typed_parts.proofs.tests.is_full.Given as goal

abbrev pub invariant-loop-part : goal.invariant-loop-part
invariant-loop-part l = is_full (views (drop l.part-index l.parts)) ≡ is_full (views l.parts)
