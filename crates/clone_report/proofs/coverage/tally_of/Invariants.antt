use Rattle.std.proofs.Common.{◌≡◌, drop}
use Rattle.std.specs.HashMap.{get}
use Rattle.clone_window.specs.Bodies.{bodies_of}
use Rattle.clone_report.specs.Covered.{statements_from}
use Rattle.clone_report.specs.Ends.{added, same_start, stands_by}
use Rattle.clone_report.proofs.coverage.tally_of.Given as goal

abbrev pub invariant-loop-f : goal.invariant-loop-f
invariant-loop-f l =
    added (record { covered = 0; statements = 0 }) (statements_from (stands_by (get same_start l.ends)) l.places l.file 0 (bodies_of l.checked.functions))
    ≡ added l.tally (statements_from (stands_by (get same_start l.ends)) l.places l.file l.f-index (bodies_of (drop l.f-index l.checked.functions)))
