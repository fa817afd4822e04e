use Rattle.std.proofs.Common.{◌≡◌, [], take, drop}
use Rattle.std.specs.Option.{option_map}
use Rattle.go_base.specs.declared.fault.FaultCode.TheVariants as code
use Rattle.go_tree.specs.Duplicates.{second_members}
use Rattle.go_scopes.specs.Gathered.{Gathers}
use Rattle.go_scopes.specs.Noted.{noted}
use Rattle.go_scopes.specs.Views.{failure_of}
use Rattle.go_scopes.proofs.duplicates.SecondMembersFileRule.note_in.Given as goal

abbrev pub invariant-loop-event : goal.invariant-loop-event
invariant-loop-event l = record {
  rest :
      noted (option_map failure_of l.found) code.Duplicate (second_members (take l.event-index l.unit.events.items) l.file l.unit.tokens.now (drop l.event-index l.unit.events.items))
      ≡ noted (option_map failure_of l.fn.found) code.Duplicate (second_members [] l.file l.unit.tokens.now l.unit.events.items);
  before : Gathers l.members l.unit.tokens.now (take l.event-index l.unit.events.items);
}
