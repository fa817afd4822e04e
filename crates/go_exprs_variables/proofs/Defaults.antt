-- Default types suit their kinds, and are comparable.
use Rattle.std.proofs.Common.{◌≡◌, true, refl}
use Rattle.go_types.specs.Relations.{Rights}
use Rattle.go_types_relations.specs.Tests.{is_comparable}
use Rattle.go_exprs_rules.specs.declared.family.OpenKind.{OpenKind}
use Rattle.go_exprs_rules.specs.declared.family.OpenKind.TheVariants as untyped_kind
use Rattle.go_exprs_rules.specs.Sorts.{suits, default_type}

pub default_suits : (rights : Rights) (k : OpenKind) → suits rights k (default_type k) ≡ true
default_suits rights untyped_kind.Boolean = refl
default_suits rights untyped_kind.Integer = refl
default_suits rights untyped_kind.Rune = refl
default_suits rights untyped_kind.Text = refl

pub default_comparable : (rights : Rights) (k : OpenKind) → is_comparable rights (default_type k) ≡ true
default_comparable rights untyped_kind.Boolean = refl
default_comparable rights untyped_kind.Integer = refl
default_comparable rights untyped_kind.Rune = refl
default_comparable rights untyped_kind.Text = refl
