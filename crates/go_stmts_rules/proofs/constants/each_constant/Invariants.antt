use Rattle.std.proofs.Common.{◌≡◌, length, drop}
use Rattle.std.specs.Option.{option_map}
use Rattle.go_types.specs.Tables.{type_of, rights_of}
use Rattle.go_exprs_rules.specs.Faults.{least, earlier}
use Rattle.go_stmts_defs.specs.Assigning.{constants_failing}
use Rattle.go_exprs_calls.specs.Shown.{shown, AllShownKnown}
use Rattle.go_stmts_rules.proofs.constants.each_constant.Given as goal

abbrev pub invariant-loop-value : goal.invariant-loop-value
invariant-loop-value l = record {
  known : AllShownKnown (length l.types.shapes) (drop l.value-index l.values);
  found : earlier l.first (least (constants_failing (rights_of l.types) (option_map (type_of l.types.shapes) l.of) (shown l.types (drop l.value-index l.values)))) ≡ least (constants_failing (rights_of l.types) (option_map (type_of l.types.shapes) l.of) (shown l.types l.values));
}
