use Rattle.std.proofs.Common.{All}
use Rattle.go_typed.specs.Packages.{PackageView}
use Rattle.alpha_hash.specs.Starts.{HasWords, IsStart}
use Rattle.alpha_hash.proofs.starts.push_starts.Given as goal

abbrev pub invariant-loop-index : goal.invariant-loop-index
invariant-loop-index l = (p : PackageView) → HasWords p l.list → All (IsStart p) l.fn.out.items → All (IsStart p) l.out.items
