use Rattle.std.proofs.Common.{◌≡◌, ◌+◌, drop, length}
use Rattle.std.specs.List.{sum_by}
use Rattle.clone_replies.proofs.count.total_bytes.Given as goal

abbrev pub invariant-loop-file : goal.invariant-loop-file
invariant-loop-file l = sum_by (λ f. length f.tokens.text) l.files ≡ l.total + sum_by (λ f. length f.tokens.text) (drop l.file-index l.files)
