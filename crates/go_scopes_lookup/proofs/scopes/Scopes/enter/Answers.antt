use Rattle.std.proofs.Common.{◌≡◌, ◌∙◌, ℕ, true, List, if◌then◌else◌, Option, Some, None, sym, ap}
use Rattle.std.specs.Borrow.{Bor}
use Rattle.std.specs.Option.{option_map}
use Rattle.indexmap.proofs.MapLemmas.{OnOk-map}
use Rattle.go_tokens.specs.Spellings.{same_text}
use Rattle.go_tree.specs.Meanings.{Meaning}
use Rattle.go_scopes_events.specs.Scopes.{inner}
use Rattle.go_scopes_lookup.specs.Views.{meaning_view}
use Rattle.go_scopes_lookup.specs.Stacks.{said, with_one}
use Rattle.go_scopes_lookup.proofs.Stacks.{over_kept, over_put, said_alike, one_text}
use Rattle.go_scopes_lookup.proofs.scopes.Scopes.enter.Goals as goal
use Rattle.go_scopes_lookup.proofs.scopes.Scopes.enter.Goals.{in-Some+else-lies_inside, in_default}

pub returns-then-lies_inside-clause-over : goal.returns-then-lies_inside-clause-over
returns-then-lies_inside-clause-over c n u w local from le apart =
    let m = c.args.meaning.now in
    let bs = c.args.self.now.blocks.items in
    let t = c.args.token in
    let there : same_text m.entry.now.name.now w.now ≡ true → said bs t w ≡ Some (meaning_view c.in-Some.outer) = λ e.
    sym (said_alike bs t m.entry.now.name w None (one_text m.entry.now.name.now w.now ∙ e)) ∙ sym (c.in-Some.ensures) in
    over_kept n t u w (meaning_view m) (meaning_view c.in-Some.outer) bs local from le apart there (sym (c.if-lies_inside.ensures))

pub returns-clause-over : goal.returns-clause-over
returns-clause-over c =
    let m = c.args.meaning.now in
    let bs = c.args.self.now.blocks.items in
    let t = c.args.token in
    let o : Option Meaning = option_map meaning_view c.find.result in
    let there : (w : Bor (List ℕ)) → same_text m.entry.now.name.now w.now ≡ true → said bs t w ≡ o = λ w e.
    sym (said_alike bs t m.entry.now.name w None (one_text m.entry.now.name.now w.now ∙ e)) ∙ sym (c.find.ensures) in
    let new : inner o (meaning_view m) ≡ Some (meaning_view m) = elim c.match-find.branch [ in-Some+else-lies_inside w ↦ ap (λ r. inner (option_map meaning_view r) (meaning_view m)) w.in-Some.is ∙ ap (λ b. if b then Some (meaning_view w.in-Some.outer) else Some (meaning_view m)) (sym w.lies_inside.ensures ∙ w.if-lies_inside.false) | in_default w ↦ ap (λ r. inner (option_map meaning_view r) (meaning_view m)) w.in_default.is ] in
    OnOk-map c.put.result _ _ (λ f n u w local from le apart. f u w ∙ ap (λ s. with_one s.to (meaning_view m) u w (said bs u w)) c.scope_of.ensures ∙ over_put n t u w (meaning_view m) o bs local from le apart (there w) new) c.put.ensures.said
