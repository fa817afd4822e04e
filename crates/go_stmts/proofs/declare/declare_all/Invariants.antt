use Rattle.std.proofs.Common.{◌≡◌, length, drop, map}
use Rattle.std.specs.Option.{option_map}
use Rattle.go_typed.specs.Views.{seen, AllKnown}
use Rattle.go_typed.specs.Scopes.{KnownLocals}
use Rattle.go_stmts_defs.specs.Frames.{Frame}
use Rattle.go_stmts_defs.specs.Reading.{declares_all}
use Rattle.go_stmts_rules.specs.Seen.{locals_in}
use Rattle.go_stmts.proofs.declare.declare_all.Given as goal

abbrev pub invariant-loop-part : goal.invariant-loop-part
invariant-loop-part l = record {
  left : AllKnown (length l.types.shapes) (drop l.part-index l.parts);
  known : KnownLocals (length l.types.shapes) l.locals;
  iota : l.locals.iota ≡ l.initial.locals.iota;
  declared : (s : Frame) → s.locals ≡ locals_in l.types l.initial.locals → declares_all (map (option_map (seen l.types)) l.parts) s ≡ declares_all (map (option_map (seen l.types)) (drop l.part-index l.parts)) (record s { locals = locals_in l.types l.locals });
}
