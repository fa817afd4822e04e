use Rattle.std.proofs.Common.{take, map}
use Rattle.go_scopes_named.specs.Named.{KnowsNamed}
use Rattle.go_scopes_lookup.specs.Views.{meaning_view}
use Rattle.go_scopes_named.proofs.by_name.locals.Given as goal

abbrev pub invariant-loop-meaning : goal.invariant-loop-meaning
invariant-loop-meaning l = KnowsNamed l.locals (map meaning_view (take l.meaning-index l.all))
