-- Types as they are written, and scopes in which the limit on scalars isn't judged.
use Rattle.std.specs.Prelude.{◌≡◌, ℕ, ◌<◌, true, false, Option, Some, None, length, slice_get}
use Rattle.go_tree.specs.declared.object.Object.{Object}
use Rattle.go_types.specs.Trees.{TypeTree}
use Rattle.go_print_laws.specs.Reading.{IsWithin}
use Rattle.go_exprs_rules.specs.Scopes.{Needed, Scope}
use Rattle.go_exprs_rules.specs.Sorts.{named_type}

-- the scope, where the limit isn't judged
abbrev pub unjudged : Scope → Scope
unjudged s = record s { limits = false }

-- a type, where there is one, is within the limit
abbrev pub TypeIsWithin : Scope → Option TypeTree → Type 0
TypeIsWithin limit None = Unit {0}
TypeIsWithin limit (Some t) = IsWithin limit t

-- In the scope the limit is judged, its right sides begin with those of the scope named first, and the types that names stand for are within
-- the limit. Nothing is asked of the right sides.
pub record NamesTypesWithin (limit s : Scope) : Type 0 where
  pub judged : s.limits ≡ true
  pub front : (n : ℕ) → n < length limit.rights → slice_get s.rights n ≡ slice_get limit.rights n
  pub objects : (need : Needed) (o : Object) → TypeIsWithin limit (named_type (s.sorts need o))
