-- Scopes that know named types alone, and whose tokens say this.
use Rattle.std.specs.Prelude.{◌≡◌, ℕ, List}
use Rattle.go_tree.specs.declared.object.Object.{Object}
use Rattle.go_exprs_rules.specs.Scopes.{Needed, Scope}
use Rattle.go_stmts_written.specs.Named.{StandsIsNamed, RightsAreNamed}

pub record ScopeIsNamed (texts : ℕ → List ℕ) (s : Scope) : Type 0 where
  pub same : s.texts ≡ texts
  pub rights : RightsAreNamed s.rights
  pub objects : (need : Needed) (o : Object) → StandsIsNamed (s.sorts need o)
