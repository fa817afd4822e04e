use Rattle.window_index.proofs.PackageEntering.{IsInSoFar}
use Rattle.window_index.proofs.package.index_of.Given as goal

abbrev pub invariant-loop-f : goal.invariant-loop-f
invariant-loop-f g l = IsInSoFar g.H.WindowHash.number l.checked l.fn.hash (record { fewest = l.min; least = l.mass }) l.index l.f-index l.fn.steps l.steps
