use Rattle.std.proofs.Common.{◌≡◌, ◌++◌, [], take, drop, map}
use Rattle.go_tree.specs.Repeated.{parameters_in}
use Rattle.go_scopes.specs.Gathered.{Gathers}
use Rattle.go_scopes.specs.Views.{name_view}
use Rattle.go_scopes.proofs.repeated.push_parameters.Given as goal

abbrev pub invariant-loop-event : goal.invariant-loop-event
invariant-loop-event l = record {
  rest : map name_view l.out.items ++ parameters_in (take l.event-index l.unit.events.items) l.file l.unit.tokens.now (drop l.event-index l.unit.events.items) ≡ map name_view l.fn.out.items ++ parameters_in [] l.file l.unit.tokens.now l.unit.events.items;
  before : Gathers l.members l.unit.tokens.now (take l.event-index l.unit.events.items);
}
