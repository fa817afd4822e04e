use Rattle.std.proofs.Common.{◌≡◌, ◌++◌, drop}
use Rattle.alpha_hash_defs.specs.Sharing.{numbered}
use Rattle.alpha_hash_defs.specs.Packages.{window_hash}
use Rattle.alpha_hash.specs.Starts.{AreStarts}
use Rattle.alpha_hash.proofs.numbered.numbers_of.Given as goal

abbrev pub invariant-loop-window : goal.invariant-loop-window
invariant-loop-window l =
    (numbered (window_hash l.checked) l.windows ≡ l.out.items ++ numbered (window_hash l.checked) (drop l.window-index l.windows)) × AreStarts l.checked l.starts
