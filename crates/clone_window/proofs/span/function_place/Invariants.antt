use Rattle.std.proofs.Common.{◌≡◌, drop, slice_get}
use Rattle.clone_window.specs.Spans.{places_from}
use Rattle.clone_window.proofs.span.function_place.Given as goal

-- what is sought among all is sought among the rest
abbrev pub invariant-loop-index : goal.invariant-loop-index
invariant-loop-index l = slice_get (places_from 0 l.files) l.number ≡ slice_get (places_from l.index (drop l.index l.files)) l.left
