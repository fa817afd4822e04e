-- Scopes in which less is known.
use Rattle.std.specs.Prelude.{◌≡◌, ◌⊎◌}
use Rattle.go_tree.specs.declared.object.Object.{Object}
use Rattle.go_typed.specs.Trees as sort
use Rattle.go_exprs_rules.specs.Scopes.{Needed, Scope}
use Rattle.go_exprs_rules.specs.Sorts.{Stands}

-- What an object stands for in the scope it stands for by these sorts too, or nothing is known of it in the scope.
pub record KnowsLess (s : Scope) (sorts : Needed → Object → Stands) : Type 0 where
  pub same : (need : Needed) (o : Object) → (s.sorts need o ≡ sorts need o) ⊎ (s.sorts need o ≡ sort.Unknown)

-- the scope with these sorts
abbrev pub knowing : Scope → (Needed → Object → Stands) → Scope
knowing s sorts = record s { sorts = sorts }
