use Rattle.std.proofs.Common.{List, ◌++◌, take}
use Rattle.std.specs.HashMap.{get}
use Rattle.go_typed.specs.declared.window.Window.{Window}
use Rattle.clone_report.specs.Ends.{same_start, Reaches}
use Rattle.clone_report.proofs.ends.put_class.Given as goal

abbrev pub invariant-loop-member : goal.invariant-loop-member
invariant-loop-member l = (ws : List Window) → Reaches (get same_start l.fn.ends) ws → Reaches (get same_start l.ends) (ws ++ take l.member-index l.members)
