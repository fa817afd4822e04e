use Rattle.std.proofs.Common.{◌≡◌, ◌++◌, length, drop, map}
use Rattle.std.specs.Option.{option_map}
use Rattle.go_typed.specs.Views.{seen, AllKnown}
use Rattle.go_stmts_defs.specs.Reading.{entry_names}
use Rattle.go_stmts.proofs.parameters.entry_names.Given as goal

abbrev pub invariant-loop-entry : goal.invariant-loop-entry
invariant-loop-entry l = record {
  left : AllKnown (length l.types.shapes) (drop l.entry-index l.entries);
  named : l.names.items ++ entry_names (map (option_map (seen l.types)) (drop l.entry-index l.entries)) ≡ entry_names (map (option_map (seen l.types)) l.entries);
}
