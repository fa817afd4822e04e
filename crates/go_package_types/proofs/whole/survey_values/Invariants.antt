use Rattle.std.proofs.Common.{◌≡◌, ◌++◌, drop, length, map}
use Rattle.go_types_relations.specs.Extends.{Grows}
use Rattle.go_tree.specs.Views.{views}
use Rattle.go_typed.specs.Views.{AllKnown}
use Rattle.go_exprs_rules.specs.Faults.{least, earlier}
use Rattle.go_exprs_rules.specs.Typing.{typing}
use Rattle.go_exprs_types.specs.Naming.{names}
use Rattle.go_package_defs.specs.Declarations.{trees_of}
use Rattle.go_package_defs.specs.Verdicts.{value_hint, values_faults}
use Rattle.go_declarations.specs.Views.{specification_view}
use Rattle.go_package_types.specs.Whole.{values_seen}
use Rattle.go_package_types.proofs.whole.survey_values.Given as goal

abbrev pub invariant-loop-place : goal.invariant-loop-place
invariant-loop-place l =
    let s = names l.fn.types l.scope in
    let d = specification_view l.specification in
    let h = value_hint d in
    let rest = trees_of (views (drop l.place-index l.specification.values.now)) in
    Grows l.fn.types l.types
    × AllKnown (length l.types.shapes) l.parts.items
    × (values_seen l.types l.parts.items ++ map (typing s h) rest ≡ map (typing s h) d.values)
    × (earlier l.fault (least (values_faults s h rest)) ≡ least (values_faults s h d.values))
