use Rattle.std.proofs.Common.{◌≡◌, drop, map}
use Rattle.go_types.specs.Tables.{rights_of}
use Rattle.go_stmts_defs.specs.Rules.{first_fault}
use Rattle.go_stmts_parts.specs.Late.{all_too_large, late_seen}
use Rattle.go_stmts_parts.proofs.late.late_fault.Given as goal

abbrev pub invariant-loop-array : goal.invariant-loop-array
invariant-loop-array l = first_fault (all_too_large (rights_of l.types) (map (late_seen l.types) (drop l.array-index l.found))) ≡ first_fault (all_too_large (rights_of l.types) (map (late_seen l.types) l.found))
