use Rattle.std.proofs.Common.{◌≡◌, drop}
use Rattle.go_typed.specs.Views.{views}
use Rattle.param_choose.specs.Members.{number_past}
use Rattle.param_choose.proofs.numbers.number_past.Given as goal

abbrev pub invariant-loop-part : goal.invariant-loop-part
invariant-loop-part l = number_past l.initial.number l.count (views l.parts) ≡ number_past l.number l.left (views (drop l.part-index l.parts))
