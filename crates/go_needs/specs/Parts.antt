-- The parts of specifications in which names stand.
use Rattle.std.specs.Prelude.{ℕ, Bool, true, false, Option, Some, None}
use Rattle.go_tree.specs.declared.context.Site.{Site}
use Rattle.go_tree.specs.declared.context.Site.TheVariants as site
use Rattle.go_tree.specs.declared.context.Reach.TheVariants as reach
use Rattle.go_scopes_cycles.specs.declared.ranks.Part.TheVariants as part
use Rattle.go_scopes_cycles.specs.Ranks.{Place}

-- where a name stands that is needed in full
abbrev pub full_place : ℕ → Site → Option Place
full_place n site.Elsewhere = None
full_place n (site.Type s) = Some ((n, s), part.Always)
full_place n (site.Value s column true) = Some ((n, s), part.Always)
full_place n (site.Value s column false) = Some ((n, s), part.Value column)
full_place n (site.Right s reach.Direct) = Some ((n, s), part.Full)
full_place n (site.Right s reach.Indirect) = Some ((n, s), part.Full)
full_place n (site.Right s reach.Length) = Some ((n, s), part.Always)

-- and one that is needed in part
abbrev pub partial_place : ℕ → Site → Option Place
partial_place n (site.Right s reach.Direct) = Some ((n, s), part.Partial)
partial_place n s = None

abbrev pub place_of : Bool → ℕ → Site → Option Place
place_of true n s = full_place n s
place_of false n s = partial_place n s
