use Rattle.std.proofs.Common.{◌∙◌, sym, ap, subst}
use Rattle.go_tree.specs.Meanings.{meaning_at}
use Rattle.go_scopes_events.specs.Scopes.{locals_of, reached, first_by, is_import, is_package}
use Rattle.go_scopes_events.proofs.Public.{meaning_reached}
use Rattle.go_scopes_lookup.specs.Sorted.{all_of, named_meaning, IsReached}
use Rattle.go_scopes_lookup.proofs.sweep.meaning_of.Goals as goal

pub returns-in-Some : goal.returns-in-Some
returns-in-Some c nested told =
    let n = c.args.file in
    let t = c.in-Some.token in
    let ms = all_of c.args.sorted.now in
    let bs = c.args.scopes.now.blocks.items in
    let ts = c.args.tokens.now in
    let w = c.word.result in
    let says = subst (λ x. IsReached n (locals_of n ms) x bs) c.in-Some.is told in
    c.meaning_in.ensures
    ∙ ap (λ o. reached o (first_by (is_import n) w.now ms) (first_by is_package w.now ms)) (says w)
    ∙ sym (meaning_reached n t w.now ms nested)
    ∙ ap (λ x. meaning_at ms n t x) c.word.ensures
    ∙ ap (named_meaning ms n ts) (sym c.in-Some.is)
