-- How names and scopes lie in what a tree has to do with names.
use Rattle.std.specs.Prelude.{◌≡◌, ℕ, suc, ◌<◌, ◌≤◌, ◌⊎◌, Bool, true, false, List, [], ◌∷◌}
use Rattle.go_tree.specs.declared.context.Block.{Block}
use Rattle.go_tree.specs.declared.context.Block.TheVariants as block
use Rattle.go_tree.specs.declared.context.Entity.{Entity}
use Rattle.go_tree.specs.declared.context.Entity.TheVariants as entity
use Rattle.go_tree.specs.declared.context.Manner.{Manner}
use Rattle.go_tree.specs.declared.context.Manner.TheVariants as manner
use Rattle.go_tree.specs.declared.context.Scope.{Scope}
use Rattle.go_tree.specs.declared.event.Declaration.{Declaration}
use Rattle.go_tree.specs.declared.event.Event.{Event}
use Rattle.go_tree.specs.declared.event.Event.TheVariants as event

-- The tokens of the names that are declared or looked up rise, from the token i on and before the token j.
abbrev pub AreInOrder : ℕ → ℕ → List Event → Type 0
AreInOrder i j [] = i ≤ j
AreInOrder i j (event.Declaration d ∷ es) = (i ≤ d.name) × AreInOrder (suc d.name) j es
AreInOrder i j (event.Use u ∷ es) = (i ≤ u.name) × AreInOrder (suc u.name) j es
AreInOrder i j (e ∷ es) = AreInOrder i j es

-- what holds of each declaration
abbrev pub EachDeclared : (Declaration → Type 0) → List Event → Type 0
EachDeclared Q [] = Unit
EachDeclared Q (event.Declaration d ∷ es) = Q d × EachDeclared Q es
EachDeclared Q (e ∷ es) = EachDeclared Q es

-- The second scope lies behind the first, or inside it.
abbrev pub Nests : Scope → Scope → Type 0
Nests r s = (r.to ≤ s.from) ⊎ ((r.from ≤ s.from) × (s.to ≤ r.to))

-- the scope of each declaration lies behind those of all earlier ones, or inside them
abbrev pub ScopesNest : List Event → Type 0
ScopesNest [] = Unit
ScopesNest (event.Declaration d ∷ es) = EachDeclared (λ e. Nests d.scope e.scope) es × ScopesNest es
ScopesNest (e ∷ es) = ScopesNest es

-- A local type is in scope from its name on, another local name behind itself. No function is local.
abbrev pub BeginsAt : Entity → ℕ → ℕ → Type 0
BeginsAt entity.Type name from = name ≡ from
BeginsAt entity.Function name from = ⊥
BeginsAt e name from = name < from

abbrev pub BeginsIn : Block → Entity → ℕ → ℕ → Type 0
BeginsIn block.Package e name from = Unit
BeginsIn (block.Local i) e name from = BeginsAt e name from

-- The scope of a declaration doesn't end before it begins, and a local one begins at the name or behind it.
abbrev pub IsFollowed : Declaration → Type 0
IsFollowed d = BeginsIn d.block d.entity d.name d.scope.from × (d.scope.from ≤ d.scope.to)

abbrev pub IsOuter : Block → Type 0
IsOuter block.Package = Unit
IsOuter (block.Local i) = ⊥

-- whether a function of the package is declared so
abbrev pub begins_function : Block → Entity → Manner → Bool
begins_function block.Package entity.Function manner.Declared = true
begins_function b e m = false

-- No local declaration stands before the first function; the argument says whether there was one.
abbrev pub LocalsFollow : Bool → List Event → Type 0
LocalsFollow true es = Unit
LocalsFollow false [] = Unit
LocalsFollow false (event.Declaration d ∷ es) = IsOuter d.block × LocalsFollow (begins_function d.block d.entity d.manner) es
LocalsFollow false (e ∷ es) = LocalsFollow false es
