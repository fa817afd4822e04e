use Rattle.std.proofs.Common.{◌≡◌, drop}
use Rattle.go_typed.specs.Views.{views}
use Rattle.escape_check.specs.Firsts.{first}
use Rattle.escape_check.specs.Statements.{leaving_among}
use Rattle.escape_check.proofs.branches.+leaving.Given as goal

abbrev pub invariant-first_leaving_among-loop-part : goal.invariant-first_leaving_among-loop-part
invariant-first_leaving_among-loop-part l =
    first (leaving_among l.around.breakable l.around.looping (views l.parts)) ≡ first (leaving_among l.around.breakable l.around.looping (views (drop l.part-index l.parts)))
