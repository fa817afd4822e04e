use Rattle.std.proofs.Common.{◌≡◌, take}
use Rattle.extract_rewrite.specs.Ready.{removed_bytes}
use Rattle.extract_rewrite.proofs.size.removed_bytes.Given as goal

abbrev pub invariant-loop-edit : goal.invariant-loop-edit
invariant-loop-edit l = l.total ≡ removed_bytes (take l.edit-index l.edits)
