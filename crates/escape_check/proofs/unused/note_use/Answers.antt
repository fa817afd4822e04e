use Rattle.std.proofs.Common.{◌≡◌, ◌∙◌, ◌+◌, ◌||◌, Some, sym, ap}
use Rattle.std.specs.Prelude.{nat_lt}
use Rattle.std.specs.HashMap.{get}
use Rattle.go_scopes_lookup.specs.Views.{asked_view}
use Rattle.go_tree.specs.declared.object.Object.TheVariants as object
use Rattle.go_tree.specs.Lookups.{object_asked}
use Rattle.go_tree.specs.Objects.{object_by}
use Rattle.escape_check.specs.Texts.{end_in, same_key}
use Rattle.escape_check.proofs.LastUses.{local_used}
use Rattle.escape_check.proofs.unused.note_use.Goals as goal

pub returns-in_ok-insert : goal.returns-in_ok-insert
returns-in_ok-insert c = λ asks known.
    let a = asked_view c.args.name.now in
    let f = c.in-Some-Local.function in
    let k = c.in-Some-Local.number in
    let found : c.object_by.result ≡ Some (object.Local f k) = c.in-Some-Local.is ∙ ap Some c.in-Some-Local.field-0-is in
    let means : object_asked a ≡ Some (object.Local f k) = sym (c.object_by.ensures ∙ ap (λ w. object_by w a.meaning) c.name.ensures) ∙ found in
    let before : c.copied.result ≡ get same_key c.args.ends.now (a.file, (f, k)) = c.copied.ensures ∙ c.get.ensures.value in
    local_used c.args.ends.now c.insert.new.self asks a f k c.last_of-end.result means (sym c.is_assigned.ensures ∙ c.if-is_assigned.false) (λ token. (
    c.last_of-end.ensures token
    ∙ ap (λ o. nat_lt token (end_in o) || nat_lt token (c.from.result + 1)) before
    ∙ ap (λ i. nat_lt token (end_in (get same_key c.args.ends.now (a.file, (f, k)))) || nat_lt token (i + 1)) c.from.ensures
    )) (λ q. c.in_ok-insert.ensures.updates.0 q) known
