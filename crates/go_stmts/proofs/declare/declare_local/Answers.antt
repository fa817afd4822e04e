use Rattle.std.proofs.Common.{ℕ, ◌<◌, Some, length, ap, sym, subst, ◌∙◌}
use Rattle.std.specs.Option.{option_map}
use Rattle.go_types.specs.Tables.{type_of}
use Rattle.go_typed.specs.Scopes.{LocalsView, KnownLocals}
use Rattle.go_typed.specs.Trees.{Sort, SortHas, sort_mapped}
use Rattle.go_typed.specs.Views.{sort_view}
use Rattle.go_stmts_rules.specs.Seen.{locals_in}
use Rattle.go_stmts.proofs.Declaring.{placed_is, all_set}
use Rattle.go_stmts.proofs.declare.declare_local.Goals as goal

pub returns-then-number-count-clause-locals : goal.returns-then-number-count-clause-locals
returns-then-number-count-clause-locals c =
    let t = c.args.types.now in
    ap (locals_in t) c.declare.ensures ∙ placed_is (option_map (sort_mapped (type_of t.shapes))) c.args.number (Some (sort_view c.args.sort)) c.args.locals.now.sorts

pub returns-then-number-count-clause-known : goal.returns-then-number-count-clause-known
returns-then-number-count-clause-known c =
    let k = length c.args.types.now.shapes in
    let P : Sort ℕ → Type 0 = SortHas (λ t. t < k) in
    subst (λ (ls : LocalsView). KnownLocals k ls) (sym c.declare.ensures) (all_set P c.args.number (sort_view c.args.sort) c.args.locals.now.sorts c.requires.locals c.requires.sort)
