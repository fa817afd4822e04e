-- Locals stand inside the functions that they belong to.
use Rattle.std.specs.Prelude.{◌≡◌, ◌<◌, ◌≤◌, ◌&&◌, if◌then◌else◌, List, [], ◌∷◌}
use Rattle.go_tree.specs.declared.context.Block.{Block}
use Rattle.go_tree.specs.declared.context.Block.TheVariants as block
use Rattle.go_tree.specs.declared.context.Entity.{Entity}
use Rattle.go_tree.specs.declared.context.Entity.TheVariants as entity
use Rattle.go_tree.specs.declared.context.Manner.{Manner}
use Rattle.go_tree.specs.declared.context.Manner.TheVariants as manner
use Rattle.go_tree.specs.declared.context.Scope.{Scope}
use Rattle.go_tree.specs.declared.event.Declaration.{Declaration}
use Rattle.go_tree.specs.declared.event.Event.{Event}
use Rattle.go_tree.specs.declared.event.Event.TheVariants as event
use Rattle.go_tree.specs.Contexts.{is_package}
use Rattle.go_tree.specs.Declarations.{is_function}

-- the tokens of the last function, where s are those of the last one in front of the declaration
abbrev pub function_scope : Declaration → Scope → Scope
function_scope d s = if is_package d.block && is_function d.entity then d.scope else s

-- A function stands before no `:=`.
abbrev pub IsDeclared : Entity → Manner → Type 0
IsDeclared entity.Function m = m ≡ manner.Declared
IsDeclared e m = Unit

-- A local stands in s, and its scope ends there.
abbrev pub IsInside : Scope → Block → Declaration → Type 0
IsInside s block.Package d = IsDeclared d.entity d.manner
IsInside s (block.Local i) d = (s.from ≤ d.name) × (d.name < s.to) × (d.scope.to ≤ s.to)

-- Each local stands inside the last function in front of it; s are the tokens of the last function so far.
abbrev pub LocalsInside : Scope → List Event → Type 0
LocalsInside s [] = Unit
LocalsInside s (event.Declaration d ∷ es) = IsInside s d.block d × LocalsInside (function_scope d s) es
LocalsInside s (e ∷ es) = LocalsInside s es

-- where there was no function
abbrev pub nowhere : Scope
nowhere = record { from = 0; to = 0 }
