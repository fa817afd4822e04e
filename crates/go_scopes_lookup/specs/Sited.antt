-- The names that stand in a part of a declaration.
use Rattle.std.specs.Prelude.{Bool, true, false, if◌then◌else◌, List, [], ◌∷◌}
use Rattle.go_tree.specs.declared.context.Site.{Site}
use Rattle.go_tree.specs.declared.context.Site.TheVariants as site
use Rattle.go_tree.specs.Lookups.{Asked}

abbrev pub is_sited : Site → Bool
is_sited site.Elsewhere = false
is_sited s = true

abbrev pub sited : List Asked → List Asked
sited [] = []
sited (a ∷ asks) = if is_sited a.it.site then a ∷ sited asks else sited asks
