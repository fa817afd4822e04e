-- The rules that fail at a specification, in any scope.
use Rattle.std.specs.Prelude.{Bool, if◌then◌else◌, List, [], ◌∷◌, map, Option}
use Rattle.std.specs.Option.{option_map}
use Rattle.go_types.specs.Relations.{Rights}
use Rattle.go_types.specs.Tables.{Table}
use Rattle.go_types.specs.Trees.{TypeTree}
use Rattle.go_typed.specs.declared.node.TypedNode.{TypedNode}
use Rattle.go_typed.specs.Trees.{sort_of}
use Rattle.go_typed.specs.Views.{seen}
use Rattle.go_exprs_rules.specs.declared.fault.TypeFault.{TypeFault}
use Rattle.go_exprs_rules.specs.Scopes.{Scope}
use Rattle.go_exprs_rules.specs.Settling.{Part}
use Rattle.go_exprs_rules.specs.Sorts.{is_unknown}
use Rattle.go_exprs_rules.specs.Tables.{present}
use Rattle.go_stmts_defs.specs.Assigning.{constant_failing}
use Rattle.go_package_defs.specs.Declarations.{Specification}
use Rattle.go_package_defs.specs.Verdicts.{expression_faults, specification_rule, rule_unless}

-- The rules gs of the specification itself, where it isn't blocked and none fails in its type and its expressions, and else those
-- that do.
abbrev pub unless_failing : Bool → List TypeFault → List TypeFault → List TypeFault
unless_failing blocked gs [] = rule_unless blocked gs
unless_failing blocked gs (f ∷ fs) = f ∷ fs

abbrev pub failing_as_whole : Bool → Scope → Specification → List TypeFault
failing_as_whole blocked s d = unless_failing blocked (specification_rule s d) (expression_faults s d)

-- what fails at a value of a constant, where it is known
abbrev pub known_failing : Rights → Option TypeTree → Part → List TypeFault
known_failing rights t x = if is_unknown (sort_of x) then [] else constant_failing rights t x

-- the values of a specification, typed, as the program holds them
abbrev pub values_seen : Table → List (Option TypedNode) → List Part
values_seen t xs = present (map (option_map (seen t)) xs)
