use Rattle.std.proofs.Common.{◌≡◌, suc, ◌+◌, drop}
use Rattle.extract_texts.specs.Fresh.{tokens_in}
use Rattle.extract_texts.proofs.fresh.room_for.Given as goal

abbrev pub invariant-loop-file : goal.invariant-loop-file
invariant-loop-file l = l.tokens + tokens_in (drop l.file-index l.files) ≡ suc (tokens_in l.files)
