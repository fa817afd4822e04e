-- Types that are within the limit on scalars: what a function stands for, where what is around it is so.
use Rattle.std.specs.Prelude.{◌≡◌, ℕ, ◌<◌, ◌≤◌, true, List, [], ◌∷◌, length, slice_get}
use Rattle.go_tree.specs.declared.object.Object.{Object}
use Rattle.go_types.specs.Trees.{TypeTree}
use Rattle.go_types.specs.Relations.{Rights, HasRight}
use Rattle.go_typed.specs.Contents.{FuncContent}
use Rattle.go_typed.specs.Trees.{SortHas, Every}
use Rattle.go_print_laws.specs.Reading.{IsWithin}
use Rattle.go_exprs_rules.specs.Scopes.{Needed, Scope}
use Rattle.go_exprs_rules.specs.Settling.{Part}
use Rattle.go_exprs_rules.specs.Sorts.{Stands}

-- The types are within the limit that is judged by the right sides of the scope named first.
abbrev pub StandsIsWithin : Scope → Stands → Type 0
StandsIsWithin limit x = SortHas (IsWithin limit) x

abbrev pub AllStandWithin : Scope → List Stands → Type 0
AllStandWithin limit [] = Unit {0}
AllStandWithin limit (x ∷ xs) = StandsIsWithin limit x × AllStandWithin limit xs

abbrev pub PartIsWithin : Scope → Part → Type 0
PartIsWithin limit x = Every (IsWithin limit) x

-- so are the right sides
abbrev pub RightsAreWithin : Scope → Rights → Type 0
RightsAreWithin limit rights = (n : ℕ) (r : TypeTree) → HasRight rights n r → IsWithin limit r

-- In the scope the limit is judged, its right sides begin with those of the scope named first, and what is known in it is within the
-- limit.
pub record ScopeIsWithin (limit s : Scope) : Type 0 where
  pub judged : s.limits ≡ true
  pub front : (n : ℕ) → n < length limit.rights → slice_get s.rights n ≡ slice_get limit.rights n
  pub rights : RightsAreWithin limit s.rights
  pub objects : (need : Needed) (o : Object) → StandsIsWithin limit (s.sorts need o)

-- These numbers of declared types come behind all right sides of the scope.
abbrev pub AreBehind : Scope → (ℕ → ℕ) → Type 0
AreBehind limit types = (n : ℕ) → length limit.rights ≤ types n

-- its signature, what its locals stand for, and all its nodes
pub record FunctionIsWithin (limit : Scope) (f : FuncContent) : Type 0 where
  pub signature : IsWithin limit f.signature
  pub locals : AllStandWithin limit f.locals
  pub tree : PartIsWithin limit f.tree
