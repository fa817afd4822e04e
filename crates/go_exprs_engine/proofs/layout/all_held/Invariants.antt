use Rattle.std.proofs.Common.{◌≡◌, ◌++◌, length, map}
use Rattle.std.specs.Option.{option_map}
use Rattle.go_typed.specs.Views.{seen, AllKnown}
use Rattle.go_exprs_rules.specs.Tables.{all_held}
use Rattle.go_exprs_engine.proofs.layout.all_held.Given as goal

abbrev pub invariant-loop-part : goal.invariant-loop-part
invariant-loop-part l =
    (goal.iterator-loop-part).can_next l.part-iterator ×
    (goal.iterator-loop-part).is_finite l.part-iterator ×
    AllKnown (length l.types.shapes) l.out.items ×
    AllKnown (length l.types.shapes) l.part-iterator.rest.items ×
    (map (option_map (seen l.types)) l.out.items ++ all_held (map (option_map (seen l.types)) l.part-iterator.rest.items) ≡ all_held (map (option_map (seen l.types)) l.fn.parts.items))
