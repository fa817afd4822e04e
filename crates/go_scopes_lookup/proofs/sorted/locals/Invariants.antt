use Rattle.std.proofs.Common.{take, map}
use Rattle.go_scopes_lookup.specs.Views.{meaning_view}
use Rattle.go_scopes_lookup.specs.Sorted.{KnowsLocals}
use Rattle.go_scopes_lookup.proofs.sorted.locals.Given as goal

abbrev pub invariant-loop-meaning : goal.invariant-loop-meaning
invariant-loop-meaning l = KnowsLocals l.locals (map meaning_view (take l.meaning-index l.all))
