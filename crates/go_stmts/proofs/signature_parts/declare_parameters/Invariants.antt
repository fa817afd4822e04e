use Rattle.std.proofs.Common.{◌≡◌, length, drop}
use Rattle.go_stmts_defs.specs.Frames.{Frame}
use Rattle.go_stmts_defs.specs.Reading.{with_parameters}
use Rattle.go_typed.specs.Scopes.{KnownLocals}
use Rattle.go_stmts_rules.specs.Seen.{locals_in}
use Rattle.go_stmts.specs.Signatures.{entries_seen}
use Rattle.go_stmts.proofs.signature_parts.declare_parameters.Given as goal

abbrev pub invariant-loop-number : goal.invariant-loop-number
invariant-loop-number l = record {
  known : KnownLocals (length l.types.shapes) l.locals;
  iota : l.locals.iota ≡ l.fn.locals.iota;
  declared : (s : Frame) → s.locals ≡ locals_in l.types l.fn.locals → with_parameters l.names (entries_seen l.types l.of) s ≡ with_parameters (drop l.number l.names) (entries_seen l.types (drop l.number l.of)) (record s { locals = locals_in l.types l.locals });
}
