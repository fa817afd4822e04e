use Rattle.std.proofs.Common.{◌≡◌, ℕ, ap, subst, map, Some, List, Option, slice_set}
use Rattle.std.proofs.lemmas.List.{map-set}
use Rattle.std.specs.Option.{option_map}
use Rattle.go_typed.specs.Trees.{Sort}
use Rattle.go_typed.specs.Views.{sort_view}
use Rattle.go_typed.specs.Scopes.{LocalsView}
use Rattle.go_typed.proofs.locals.Locals.declare.Goals as goal

pub returns : goal.returns
returns c =
    let changed : LocalsView = record { sorts = map (option_map sort_view) (slice_set c.self.inside.sorts.items c.args.number (Some c.args.sort)); iota = c.self.inside.iota } in
    let P : LocalsView → Type 0 = λ v. changed ≡ record { sorts = slice_set v.sorts c.args.number (Some (sort_view c.args.sort)); iota = v.iota } in
    let with_sorts : List (Option (Sort ℕ)) → LocalsView = λ ss. record { sorts = ss; iota = c.self.inside.iota } in
    subst P c.self.view_is (ap with_sorts (map-set (option_map sort_view) c.self.inside.sorts.items c.args.number (Some c.args.sort)))
