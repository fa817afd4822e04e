use Rattle.std.proofs.Common.{◌≡◌, ◌≤◌, drop}
use Rattle.go_tree.specs.Uses.{functions_among}
use Rattle.go_eval.specs.Entry.{main_among}
use Rattle.go_eval.proofs.entry.main_among.Given as goal

-- those so far aren't it
abbrev pub invariant-loop-object : goal.invariant-loop-object
invariant-loop-object l =
    (main_among l.checked 0 (functions_among l.objects) ≡ main_among l.checked l.number (functions_among (drop l.object-index l.objects))) × (l.number ≤ l.object-index)
