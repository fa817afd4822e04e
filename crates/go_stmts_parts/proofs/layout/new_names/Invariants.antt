use Rattle.std.proofs.Common.{◌≡◌, length, map}
use Rattle.std.specs.Option.{option_map}
use Rattle.go_typed.specs.Views.{seen, AllKnown}
use Rattle.go_exprs_types.specs.Naming.{locals_seen}
use Rattle.go_stmts_defs.specs.Laying.{new_name}
use Rattle.go_stmts_parts.proofs.Appending.{changed_so_far}
use Rattle.go_stmts_parts.proofs.layout.new_names.Given as goal

abbrev pub invariant-loop-number : goal.invariant-loop-number
invariant-loop-number l = record {
  long : length l.parts ≡ length l.fn.parts;
  known : AllKnown (length l.types.shapes) l.parts;
  parts : changed_so_far (option_map (seen l.types)) (new_name (locals_seen l.types l.locals.sorts)) l.number l.parts ≡ map (new_name (locals_seen l.types l.locals.sorts)) (map (option_map (seen l.types)) l.fn.parts);
}
