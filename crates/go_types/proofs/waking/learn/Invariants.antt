use Rattle.std.proofs.Common.{◌≤◌}
use Rattle.std.specs.Prelude.{count_by}
use Rattle.go_types.specs.Changes.{table_of, IsKept}
use Rattle.go_types.specs.Waiting.{is_stale, AreWaiting}
use Rattle.go_types.specs.Findings.{visits}
use Rattle.go_types.proofs.waking.learn.Given as goal

abbrev pub decreases-visits : goal.decreases-visits
decreases-visits l = visits l.verdicts l.progress.stale

abbrev pub invariant-visits : goal.invariant-visits
invariant-visits l = record {
  kept : IsKept l.shapes l.definitions l.verdicts;
  waiting : AreWaiting (table_of l.shapes l.definitions) l.verdicts l.waits;
  few : count_by (is_stale l.verdicts) l.waits ≤ l.progress.stale;
}
