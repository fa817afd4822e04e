use Rattle.std.proofs.Common.{◌≡◌, ◌<◌, Some, length, map}
use Rattle.std.specs.Prelude.{reverse, IfSome}
use Rattle.std.specs.List.{AllByRecursion}
use Rattle.std.specs.Option.{option_map}
use Rattle.go_types.specs.Tables.{type_of}
use Rattle.go_exprs_rules.specs.TypeNodes.{first_entry, all_types}
use Rattle.go_exprs_types.proofs.EntryTypes.{entries_from}
use Rattle.go_exprs_types.proofs.signature.entries.Given as goal

abbrev pub invariant-loop-number : goal.invariant-loop-number
invariant-loop-number l = record {
  types : all_types (entries_from l.types l.number l.parts) ≡ Some (map (type_of l.types.shapes) (reverse l.found.items));
  next : option_map (type_of l.types.shapes) l.next ≡ first_entry (entries_from l.types l.number l.parts);
  known : AllByRecursion (λ p. p < length l.types.shapes) (reverse l.found.items);
  next_known : IfSome l.next (λ p. p < length l.types.shapes);
}
