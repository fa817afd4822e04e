use Rattle.std.proofs.Common.{◌≡◌, ◌&&◌, Bool, cond, Option, Some, ◌∙◌, ap, sym}
use Rattle.std.specs.Option.{option_map}
use Rattle.indexmap.specs.IndexMap.{get}
use Rattle.go_tokens.specs.Spellings.{same_text}
use Rattle.go_scopes_events.specs.Scopes.{first_by}
use Rattle.go_scopes_lookup.specs.declared.meaning.Meaning as own
use Rattle.go_scopes_lookup.specs.Views.{meaning_view}
use Rattle.go_scopes_lookup.specs.Sorted.{in_block, same_outer}
use Rattle.go_scopes_lookup.proofs.Sorting.{outer_key, outer_put}
use Rattle.go_scopes_lookup.proofs.sorted.add_outer.Goals as goal

pub returns-in_ok-insert : goal.returns-in_ok-insert
returns-in_ok-insert c ms known k =
    let m = c.args.meaning.now in
    let before : Option own.Meaning = get same_outer c.args.outer.now k in
    let there : Bool = same_text m.entry.now.name.now k.name.now && in_block k.file m.entry.now.extent in
    let new : same_outer c.in-Some.key k ≡ there = outer_key m m.entry.now.extent c.in-Some.key k (sym c.outer_of.ensures ∙ c.in-Some.is) in
    ap (option_map meaning_view) (c.in_ok-insert.ensures.updates.0 k ∙ ap (λ b. cond b (Some m) before) new)
    ∙ outer_put there m before (first_by (in_block k.file) k.name.now ms) (known k)
