use Rattle.std.proofs.Common.{◌≡◌, ◌++◌, length, map, take, drop}
use Rattle.std.specs.Option.{option_map}
use Rattle.go_typed.specs.Views.{seen, AllKnown}
use Rattle.go_stmts_defs.specs.Rules.{all_given}
use Rattle.go_stmts_rules.specs.Seen.{taking_seen}
use Rattle.go_stmts.proofs.give.give_all.Given as goal

abbrev pub invariant-loop-number : goal.invariant-loop-number
invariant-loop-number l = record {
  long : length l.parts ≡ length l.fn.parts;
  known : AllKnown (length l.types.shapes) l.parts;
  parts : map (option_map (seen l.types)) (take l.number l.parts) ++ all_given (map (taking_seen l.types) (drop l.number l.takings)) (map (option_map (seen l.types)) (drop l.number l.parts)) ≡ all_given (map (taking_seen l.types) l.takings) (map (option_map (seen l.types)) l.fn.parts);
}
