-- Scopes in which right sides are looked at where they are reached alone.
use Rattle.std.specs.Prelude.{◌≡◌, ℕ, suc, Bool, true, false, [], ◌∷◌, Option, None}
use Rattle.go_types.specs.Trees.{TypeTree}
use Rattle.go_types.specs.Relations.{Rights}
use Rattle.go_types_relations.specs.Questions.{entry}
use Rattle.go_exprs_rules.specs.Scopes.{Scope}
use Rattle.go_package_laws.specs.Reach.{MaybeWithin, moved}

abbrev pub kept_right : Bool → Option TypeTree → Option TypeTree
kept_right true r = r
kept_right false r = None

-- the right sides of the declared types that pass the test; of others there is none
abbrev pub kept : (ℕ → Bool) → Rights → Rights
kept p [] = []
kept p (r ∷ rs) = kept_right (p 0) r ∷ kept (λ n. p (suc n)) rs

-- the scope with these right sides alone
abbrev pub reached : (ℕ → Bool) → Scope → Scope
reached p s = moved s (kept p s.rights) s.sorts

-- The right sides of the types that pass the test name only such types.
abbrev pub IsClosed : (ℕ → Bool) → Rights → Type 0
IsClosed p rights = (n : ℕ) → p n ≡ true → MaybeWithin p (entry rights n)
