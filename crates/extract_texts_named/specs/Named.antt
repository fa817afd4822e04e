-- Locals that are named by nodes of statements, outside holes.
use Rattle.std.specs.Prelude.{◌≡◌, false, true, List}
use Rattle.std.specs.List.{AllByRecursion}
use Rattle.go_types.specs.Trees.{TypeTree}
use Rattle.go_typed.specs.Trees.{typed, Typeds, none, more, skip}
use Rattle.clone_window.specs.Masses.{is_constant_expression}
use Rattle.clone_window.specs.Sameness.{all_locals}
use Rattle.param_choose.specs.Choosing.{declared_results}
use Rattle.param_choose.specs.Locals.{Variable, has, holds_specifications}
use Rattle.param_choose.specs.Members.{Member}

-- Each of these variables is named by a node of the statements, outside holes.
abbrev pub AreNamed : Typeds TypeTree → List (Variable TypeTree) → Type 0
AreNamed ps vs = AllByRecursion (λ v. has (all_locals false ps) v.local ≡ true) vs

-- ---- declared variables

-- none of these parts is a constant expression
abbrev pub ArePlain : Typeds TypeTree → Type 0
ArePlain none = Unit {0}
ArePlain (more (typed f i j l qs) ps) = (is_constant_expression f l ≡ false) × ArePlain ps
ArePlain (skip ps) = ArePlain ps

-- No specification in a declaration of variables is a constant expression.
abbrev pub SpecificationsArePlain : Typeds TypeTree → Type 0
SpecificationsArePlain none = Unit {0}
SpecificationsArePlain (more (typed f i j l qs) ps) = (holds_specifications f ≡ true → ArePlain qs) × SpecificationsArePlain ps
SpecificationsArePlain (skip ps) = SpecificationsArePlain ps

-- The declared results of members, one of which is the template, are named by nodes of its statements.
abbrev pub DeclaredLocalsAreNamed : Type 0
DeclaredLocalsAreNamed = (ms : List (Member TypeTree)) (t : Member TypeTree) → SpecificationsArePlain t.statements → AreNamed t.statements (declared_results ms t)
