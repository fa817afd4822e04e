use Rattle.std.proofs.Common.{◌≡◌, drop, length}
use Rattle.edit_apply.specs.Begun.{AreRead}
use Rattle.edit_apply.proofs.Writing.{AreBefore, AreWritten}
use Rattle.edit_apply.proofs.edits.apply_all.Given as goal

-- the edits from the number on are done, and those before it lie behind what is read
abbrev pub invariant-loop-number : goal.invariant-loop-number
invariant-loop-number l = record {
  same : length l.begun.items ≡ length l.files;
  read : AreRead l.files l.begun.items;
  before : AreBefore l.begun.items l.edits l.number;
  written : AreWritten l.files l.begun.items (drop l.number l.edits);
}
