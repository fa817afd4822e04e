-- What is said of parts, of types that there may be, and of what nodes are told.
use Rattle.std.specs.Prelude.{List, [], ◌∷◌, Option, Some, None}
use Rattle.go_types.specs.Trees.{TypeTree}
use Rattle.go_print_laws.specs.Reading.{IsWithin}
use Rattle.go_exprs_rules.specs.Scopes.{Scope, Hint, element, member}
use Rattle.go_exprs_rules.specs.Settling.{Part}
use Rattle.go_exprs_rules.specs.Tables.{Parts}
use Rattle.go_stmts_limits.specs.Limits.{PartIsWithin}

abbrev pub MaybeWithin : Scope → Option TypeTree → Type 0
MaybeWithin limit None = Unit {0}
MaybeWithin limit (Some t) = IsWithin limit t

abbrev pub MaybePart : Scope → Option Part → Type 0
MaybePart limit None = Unit {0}
MaybePart limit (Some x) = PartIsWithin limit x

abbrev pub PartsWithin : Scope → Parts → Type 0
PartsWithin limit [] = Unit {0}
PartsWithin limit (x ∷ xs) = MaybePart limit x × PartsWithin limit xs

abbrev pub ListWithin : Scope → List Part → Type 0
ListWithin limit [] = Unit {0}
ListWithin limit (x ∷ xs) = PartIsWithin limit x × ListWithin limit xs

-- of what a node is told: the type of an element, or the struct type of a member
abbrev pub HintWithin : Scope → Hint → Type 0
HintWithin limit (element t) = IsWithin limit t
HintWithin limit (member t) = IsWithin limit t
HintWithin limit h = Unit {0}
