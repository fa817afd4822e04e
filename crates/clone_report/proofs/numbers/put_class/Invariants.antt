use Rattle.std.proofs.Common.{ℕ, List, ◌++◌, map, take}
use Rattle.std.specs.HashMap.{get}
use Rattle.go_typed.specs.declared.window.Window.{Window}
use Rattle.clone_report.specs.Keys.{same_run, with_number, Tells}
use Rattle.clone_report.proofs.numbers.put_class.Given as goal

abbrev pub invariant-loop-member : goal.invariant-loop-member
invariant-loop-member l =
    (ps : List (Window × ℕ)) → Tells (get same_run l.fn.numbers) ps → Tells (get same_run l.numbers) (ps ++ map (with_number l.number) (take l.member-index l.members))
