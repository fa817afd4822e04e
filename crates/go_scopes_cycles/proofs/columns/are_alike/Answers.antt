use Rattle.std.proofs.Common.{◌∙◌, map, sym}
use Rattle.go_scopes_lookup.specs.Views.{asked_view}
use Rattle.go_scopes_cycles.proofs.Listed.{listed_alike}
use Rattle.go_scopes_cycles.proofs.columns.are_alike.Goals as goal

pub returns : goal.returns
returns c = λ e. listed_alike c.in_ok-columns.columns (map asked_view c.args.lookups.now) (sym c.are_listed.ensures ∙ e)
