use Rattle.std.proofs.Common.{◌≡◌, ◌∙◌, true, false, sym, ap}
use Rattle.std.specs.Prelude.{slice_get}
use Rattle.go_scopes_named.specs.Segments.{begins_at}
use Rattle.go_scopes_named.proofs.Cut.{closed_there, closed_new}
use Rattle.go_scopes_named.proofs.segments.close.Goals as goal

pub returns-then-begins_at : goal.returns-then-begins_at
returns-then-begins_at c =
    let xs = c.args.segments.now.items in
    let there : begins_at c.args.end (slice_get xs c.args.number) ≡ true = ap (λ l. begins_at c.args.end (slice_get l c.args.number)) (sym c.deref.ensures.value) ∙ sym c.begins_at.ensures ∙ c.if-begins_at.true in
    closed_there c.args.end c.args.outer xs c.args.number there

pub returns : goal.returns
returns c =
    let xs = c.args.segments.now.items in
    let none : begins_at c.args.end (slice_get xs c.args.number) ≡ false = ap (λ l. begins_at c.args.end (slice_get l c.args.number)) (sym c.deref.ensures.value) ∙ sym c.begins_at.ensures ∙ c.if-begins_at.false in
    c.in_ok-insert.ensures.items ∙ closed_new c.args.end c.args.outer xs c.args.number none
