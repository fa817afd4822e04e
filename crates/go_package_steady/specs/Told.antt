-- The types that a tree declares are told as declarations.
use Rattle.std.specs.Prelude.{◌≡◌, ℕ, ◌⊎◌, List, [], ◌∷◌}
use Rattle.std.specs.List.{AllByRecursion}
use Rattle.go_grammar.specs.Trees.{Tree}
use Rattle.go_tree.specs.declared.context.Context.{Context}
use Rattle.go_tree.specs.declared.context.Entity.TheVariants as entity
use Rattle.go_tree.specs.declared.context.Manner.TheVariants as manner
use Rattle.go_tree.specs.declared.event.Declaration.{Declaration}
use Rattle.go_tree.specs.declared.event.Event.{Event}
use Rattle.go_tree.specs.declared.event.Event.TheVariants as event
use Rattle.go_tree.specs.Events.{events}
use Rattle.go_package_steady.specs.Rising.{type_places}

abbrev pub IsTold : Event → List Event → Type 0
IsTold e [] = ⊥
IsTold e (x ∷ xs) = (x ≡ e) ⊎ IsTold e xs

-- It is told that a type is declared at the token.
pub record TellsType (es : List Event) (i : ℕ) : Type 0 where
  pub declaration : Declaration
  pub told : IsTold (event.Declaration declaration) es
  pub name : declaration.name ≡ i
  pub type : declaration.entity ≡ entity.Type
  pub manner : declaration.manner ≡ manner.Declared

abbrev pub TypesAreTold : Type 0
TypesAreTold = (c : Context) (t : Tree) → AllByRecursion (TellsType (events c t)) (type_places t)
