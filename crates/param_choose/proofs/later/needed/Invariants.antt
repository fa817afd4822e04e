use Rattle.std.proofs.Common.{◌≡◌, false, length, replicate, drop}
use Rattle.go_typed.specs.Views.{views}
use Rattle.param_choose.specs.Members.{members_in}
use Rattle.param_choose.specs.Marks.{needed}
use Rattle.param_choose.proofs.later.needed.Given as goal

abbrev pub invariant-loop-window : goal.invariant-loop-window
invariant-loop-window l =
    needed (views l.template) l.locals (replicate (length l.locals) false) (members_in l.checked l.windows)
    ≡ needed (views l.template) l.locals l.found.items (members_in l.checked (drop l.window-index l.windows))
