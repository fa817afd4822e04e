-- A node over its parts, where a fault doesn't end the typing.
use Rattle.std.specs.Prelude.{◌≡◌, ℕ, Bool, ◌&&◌, not, List, [], ◌∷◌, Option, Some}
use Rattle.go_grammar.specs.declared.kind.Kind.{Kind}
use Rattle.go_typed.specs.Trees as sort
use Rattle.go_exprs_rules.specs.declared.fault.TypeFault.{TypeFault}
use Rattle.go_exprs_rules.specs.declared.fault.TypeError.{TypeError}
use Rattle.go_exprs_rules.specs.declared.fault.TypeError.TheVariants as errors
use Rattle.go_exprs_rules.specs.Scopes.{Scope, Hint}
use Rattle.go_exprs_rules.specs.Settling.{Part}
use Rattle.go_exprs_rules.specs.Sorts.{Stands}
use Rattle.go_exprs_rules.specs.Tables.{Parts, form_by, takes, all_given, made, is_placed, is_judged}

-- an expression or a type with a part that has a fault isn't judged
abbrev pub is_passed_over : Kind → Parts → Bool
is_passed_over k ys = is_placed k && not (is_judged ys)

-- a node that stands for nothing known
abbrev pub unknown : Scope → Kind → Hint → ℕ → ℕ → Parts → Part
unknown s k h i j ys = made (form_by s k h i j ys) i j sort.Unknown ys ys

-- a node whose own rules say that it stands for x, and whose place refuses it with these faults
abbrev pub ended : Scope → Kind → Hint → ℕ → ℕ → Parts → Stands → List TypeFault → Part
ended s k h i j ys x [] = made (form_by s k h i j ys) i j x ys (all_given (takes s k h ys) ys)
ended s k h i j ys x (f ∷ fs) = unknown s k h i j ys

-- a fault, and not want of memory
abbrev pub IsFault : TypeError → Option TypeFault → Type 0
IsFault (errors.Fault f) o = o ≡ Some f
IsFault errors.Memory o = ⊥
