-- One declared name, judged in two scopes.
use Rattle.std.specs.Prelude.{◌≡◌, ℕ, Bool, Option, Some, None}
use Rattle.go_grammar.specs.Trees.{Tree}
use Rattle.go_types.specs.Relations.{Rights}
use Rattle.go_exprs_rules.specs.Scopes.{in_full, Scope, type_place}
use Rattle.go_package_defs.specs.Declarations.{Specification}
use Rattle.go_package_defs.specs.Verdicts.{own_value, own_faults, value_state}
use Rattle.go_package_laws.specs.Reach.{AgreeOn, Standing, moved}
use Rattle.go_package_laws.specs.Names.{EachNeed, ExpressionAgrees, limited_ways, type_ways}

abbrev pub PartAgrees : (ℕ → Bool) → Scope → Standing → Option Tree → Type 0
PartAgrees p s r None = Unit {0}
PartAgrees p s r (Some t) = ExpressionAgrees p s r t

-- Of a constant, a variable or a function: the right sides agree that its names reach, and the names of its type and of its own value
-- stand for the same.
pub record ValueAgrees (p : ℕ → Bool) (s : Scope) (new : Rights) (r : Standing) (d : Specification) (c : ℕ) : Type 0 where
  pub needed : s.needed ≡ in_full
  pub rights : AgreeOn p s.rights new
  pub of : PartAgrees p s r d.type_tree
  pub value : PartAgrees p s r (own_value d c)

abbrev pub IsJudgedSo : Scope → Rights → Standing → Specification → ℕ → Type 0
IsJudgedSo s new r d c = value_state (moved s new r) d c (own_faults (moved s new r) d c) ≡ value_state s d c (own_faults s d c)

-- the names of the right side of a type, where no limit is judged
abbrev pub RightAgrees : (ℕ → Bool) → Scope → Standing → Option Tree → Type 0
RightAgrees p s r None = Unit {0}
RightAgrees p s r (Some t) = EachNeed (type_ways p s r) type_place t

-- and where limits are
abbrev pub LimitAgrees : (ℕ → Bool) → Scope → Standing → Option Tree → Type 0
LimitAgrees p s r None = Unit {0}
LimitAgrees p s r (Some t) = EachNeed (limited_ways p s r) type_place t
