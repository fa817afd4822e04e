use Rattle.std.proofs.Common.{◌≡◌, ◌++◌, drop}
use Rattle.clone_window.specs.Spans.{places_from}
use Rattle.clone_window.proofs.span.function_places.Given as goal

-- the places so far and those of the rest
abbrev pub invariant-loop-index : goal.invariant-loop-index
invariant-loop-index l = places_from 0 l.files ≡ l.places.items ++ places_from l.index (drop l.index l.files)
