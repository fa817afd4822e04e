use Rattle.std.proofs.Common.{◌≡◌, take}
use Rattle.extract_rewrite.specs.Ready.{added_bytes}
use Rattle.extract_rewrite.proofs.size.added_bytes.Given as goal

abbrev pub invariant-loop-edit : goal.invariant-loop-edit
invariant-loop-edit l = l.total ≡ added_bytes (take l.edit-index l.edits)
