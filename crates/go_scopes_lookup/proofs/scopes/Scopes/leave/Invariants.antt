use Rattle.std.proofs.Common.{◌≡◌, ◌≤◌, ℕ, List, length}
use Rattle.std.specs.Borrow.{Bor}
use Rattle.go_tree.specs.Meanings as meanings
use Rattle.go_scopes_lookup.specs.Stacks.{said, AreParted}
use Rattle.go_scopes_lookup.proofs.scopes.Scopes.leave.Given as goal

abbrev pub invariant-loop-self : goal.invariant-loop-self
invariant-loop-self l = record {
  says : (t : ℕ) (w : Bor (List ℕ)) → l.token ≤ t → said l.self.blocks.items t w ≡ said l.initial.self.blocks.items t w;
  parted : (ms : List meanings.Meaning) → AreParted l.initial.self.blocks.items ms → AreParted l.self.blocks.items ms;
}

abbrev pub decreases-loop-self : goal.decreases-loop-self
decreases-loop-self l = length l.self.blocks.items
