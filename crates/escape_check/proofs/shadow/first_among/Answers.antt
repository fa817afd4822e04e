use Rattle.std.proofs.Common.{◌≡◌, ◌∙◌, ℕ, Bool, Some, get_or, true, refl, sym, ap}
use Rattle.std.specs.Prelude.{slice_get}
use Rattle.std.specs.List.{list_any}
use Rattle.std.proofs.lemmas.Option.{slice_get_past, slice_get_read}
use Rattle.go_tokens.specs.Spellings.{same_text}
use Rattle.escape_check.specs.Places.{local_text, sources_in}
use Rattle.escape_check.specs.Shown.{member_view}
use Rattle.escape_check.proofs.Declaring.{failing_next, found_next, missing_next}
use Rattle.escape_check.proofs.shadow.first_among.Goals as goal
use Rattle.escape_check.proofs.shadow.first_among.Goals.{in-Some+else-contains, in_default}

pub returns-then-contains : goal.returns-then-contains
returns-then-contains c = λ ws known.
    let m = member_view c.args.member.now in
    let ns = c.args.locals.now in
    let i = c.loop-local.local-index in
    let d = c.in-Some.declared.now in
    let test : ℕ → Bool = λ n. list_any (λ w. same_text w (local_text (sources_in c.args.checked.now) m n)) ws in
    let there : slice_get c.args.member.now.declared.now (get_or ns i 0) ≡ Some d = slice_get_read c.args.member.now.declared.now _ (get_or ns i 0) d refl c.in-Some.ensures.lookup.3.0 c.in-Some.ensures.lookup.1 in
    let held : test (get_or ns i 0) ≡ true =
    ap (λ t. list_any (λ w. same_text w t) ws) (sym c.local_text.ensures) ∙ sym (known c.local_text.result) ∙ sym c.contains.ensures ∙ c.if-contains.true
    in
    ap Some c.declaring_place.ensures ∙ sym (c.loop-local.invariant ws known ∙ found_next m test ns i d c.loop-local-test.true there held)

pub loop-local-preserved : goal.loop-local-preserved
loop-local-preserved c = λ ws known.
    let m = member_view c.args.member.now in
    let ns = c.args.locals.now in
    let i = c.loop-local.local-index in
    let test : ℕ → Bool = λ n. list_any (λ w. same_text w (local_text (sources_in c.args.checked.now) m n)) ws in
    c.loop-local.invariant ws known
    ∙ elim c.match-get.branch [
      | in-Some+else-contains w ↦
          failing_next m test ns i c.loop-local-test.true (
          ap (λ t. list_any (λ v. same_text v t) ws) (sym w.local_text.ensures) ∙ sym (known w.local_text.result) ∙ sym w.contains.ensures ∙ w.if-contains.false
          )
      | in_default w ↦ missing_next m test ns i c.loop-local-test.true (slice_get_past c.args.member.now.declared.now (get_or ns i 0) w.in_default.ensures.lookup.3)
    ]
