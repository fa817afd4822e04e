use Rattle.std.proofs.Common.{◌≡◌, drop}
use Rattle.alpha_hash_defs.specs.Hash.{fold_from, text_fold}
use Rattle.alpha_hash.proofs.rolling.text_fold.Given as goal

abbrev pub invariant-loop-byte : goal.invariant-loop-byte
invariant-loop-byte l = text_fold l.text ≡ fold_from l.number (drop l.byte-index l.text)
