use Rattle.std.proofs.Common.{◌≡◌, map, drop}
use Rattle.std.specs.Option.{option_map}
use Rattle.std.specs.List.{list_any}
use Rattle.go_typed.specs.Views.{seen}
use Rattle.go_exprs_rules.specs.Tables.{is_lost}
use Rattle.go_exprs_engine.proofs.label.is_judged.Given as goal

abbrev pub invariant-loop-part : goal.invariant-loop-part
invariant-loop-part l = list_any is_lost (map (option_map (seen l.types)) (drop l.part-index l.parts)) ≡ list_any is_lost (map (option_map (seen l.types)) l.parts)
