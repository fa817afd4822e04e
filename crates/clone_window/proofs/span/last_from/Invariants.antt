use Rattle.std.proofs.Common.{◌≡◌, drop}
use Rattle.go_typed.specs.Views.{views}
use Rattle.clone_window.specs.Spans.{last_from}
use Rattle.clone_window.proofs.span.last_from.Given as goal

abbrev pub invariant-loop-part : goal.invariant-loop-part
invariant-loop-part l = last_from l.initial.last (views l.parts) ≡ last_from l.last (views (drop l.part-index l.parts))
