use Rattle.std.proofs.Common.{◌≡◌, ◌<◌, length}
use Rattle.std.specs.Prelude.{reverse, IfSome}
use Rattle.std.specs.List.{AllByRecursion}
use Rattle.std.specs.Option.{option_map}
use Rattle.go_types.specs.Tables.{type_of}
use Rattle.go_exprs_rules.specs.TypeNodes.{first_entry}
use Rattle.go_exprs_types.proofs.Public.{entries_from}
use Rattle.go_stmts.specs.Signatures.{entries_seen, KnownEntry}
use Rattle.go_stmts.proofs.signature_parts.entry_types.Given as goal

abbrev pub invariant-loop-number : goal.invariant-loop-number
invariant-loop-number l = record {
  types : entries_seen l.types (reverse l.found.items) ≡ entries_from l.types l.number l.entries;
  next : option_map (type_of l.types.shapes) l.next ≡ first_entry (entries_from l.types l.number l.entries);
  known : AllByRecursion (KnownEntry (length l.types.shapes)) (reverse l.found.items);
  next_known : IfSome l.next (λ p. p < length l.types.shapes);
}
