use Rattle.std.proofs.Common.{◌≡◌, ◌+◌, ◌++◌, drop}
use Rattle.go_typed.specs.Funcs.{sizes}
use Rattle.go_typed.specs.NodeTables.{numbers_among}
use Rattle.go_typed.specs.Views.{views}
use Rattle.param_choose.proofs.numbers.+numbers.Given as goal

-- numbers go on from the next one
abbrev pub invariant-push_numbers_among-loop-part : goal.invariant-push_numbers_among-loop-part
invariant-push_numbers_among-loop-part l =
    (l.next + sizes (views (drop l.part-index l.parts)) ≡ l.number + sizes (views l.parts))
    × (l.fn.out.items ++ numbers_among l.number (views l.parts) ≡ l.out.items ++ numbers_among l.next (views (drop l.part-index l.parts)))
