use Rattle.std.proofs.Common.{◌≡◌, ◌++◌, drop}
use Rattle.alpha_hash_defs.specs.Sharing.{numbered}
use Rattle.alpha_hash_defs.proofs.window_hash.zeros.Given as goal

abbrev pub invariant-loop-window : goal.invariant-loop-window
invariant-loop-window l = numbered (λ w. 0) l.windows ≡ l.out.items ++ numbered (λ w. 0) (drop l.window-index l.windows)
