use Rattle.std.proofs.Common.{◌≡◌, ◌++◌, drop}
use Rattle.go_typed.specs.Views.{views}
use Rattle.param_choose.specs.Locals.{names_specified}
use Rattle.param_choose.proofs.names.push_names_specified.Given as goal

abbrev pub invariant-loop-specification : goal.invariant-loop-specification
invariant-loop-specification l = l.fn.out.items ++ names_specified (views l.specifications) ≡ l.out.items ++ names_specified (views (drop l.specification-index l.specifications))
