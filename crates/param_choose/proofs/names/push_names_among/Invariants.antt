use Rattle.std.proofs.Common.{◌≡◌, ◌++◌, drop}
use Rattle.go_typed.specs.Views.{views}
use Rattle.param_choose.specs.Locals.{names_among}
use Rattle.param_choose.proofs.names.push_names_among.Given as goal

abbrev pub invariant-loop-part : goal.invariant-loop-part
invariant-loop-part l = l.fn.out.items ++ names_among (views l.parts) ≡ l.out.items ++ names_among (views (drop l.part-index l.parts))
