use Rattle.std.proofs.Common.{◌≡◌, ◌≤◌, ℕ, List, length}
use Rattle.std.specs.Borrow.{Bor}
use Rattle.go_scopes_lookup.specs.Stacks.{said}
use Rattle.go_scopes_lookup.proofs.scopes.Scopes.find.Given as goal

abbrev pub invariant-loop-left : goal.invariant-loop-left
invariant-loop-left l = record {
  says : (w : Bor (List ℕ)) → w.now ≡ l.name → said l.left l.token w ≡ said l.initial.left l.token w;
  fewer : length l.left ≤ length l.initial.left;
}

abbrev pub decreases-loop-left : goal.decreases-loop-left
decreases-loop-left l = length l.left
