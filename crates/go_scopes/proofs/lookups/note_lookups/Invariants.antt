use Rattle.std.proofs.Common.{◌≡◌, map, drop}
use Rattle.std.specs.Option.{option_map}
use Rattle.go_scopes_lookup.specs.Views.{asked_view}
use Rattle.go_scopes.specs.LookupRules.{code_of, places_by}
use Rattle.go_scopes.specs.Noted.{noted}
use Rattle.go_scopes.specs.Views.{failure_of}
use Rattle.go_scopes.proofs.lookups.note_lookups.Given as goal

abbrev pub invariant-loop-a : goal.invariant-loop-a
invariant-loop-a l = noted (option_map failure_of l.found) (code_of l.rule) (places_by l.rule (map asked_view (drop l.a-index l.all))) ≡ noted (option_map failure_of l.fn.found) (code_of l.rule) (places_by l.rule (map asked_view l.all))
