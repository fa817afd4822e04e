use Rattle.std.proofs.Common.{◌≡◌, [], take, drop}
use Rattle.std.specs.Option.{option_map}
use Rattle.go_base.specs.declared.fault.FaultCode.TheVariants as code
use Rattle.go_tree.specs.Constants.{hidden_lists_by}
use Rattle.go_tree.specs.Units.{word, bytes_at}
use Rattle.go_scopes.specs.Lists.{KnowsLists}
use Rattle.go_scopes.specs.Noted.{noted}
use Rattle.go_scopes.specs.Views.{failure_of}
use Rattle.go_scopes.proofs.constants.HiddenListsFileRule.note_in.Given as goal

abbrev pub invariant-loop-event : goal.invariant-loop-event
invariant-loop-event l =
    let ts = l.unit.tokens.now in
    let es = l.unit.events.items in
    record {
      rest :
          noted (option_map failure_of l.found) code.Outside (hidden_lists_by (word ts) (bytes_at l.file ts) (take l.event-index es) (drop l.event-index es))
          ≡ noted (option_map failure_of l.fn.found) code.Outside (hidden_lists_by (word ts) (bytes_at l.file ts) [] es);
      before : KnowsLists l.lists (word ts) (take l.event-index es);
    }
