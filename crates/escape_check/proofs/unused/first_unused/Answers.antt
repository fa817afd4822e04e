use Rattle.std.proofs.Common.{◌≡◌, ◌∙◌, ℕ, Bool, Some, get_or, refl, sym, ap}
use Rattle.std.specs.Prelude.{slice_get}
use Rattle.std.proofs.lemmas.Option.{slice_get_past, slice_get_read}
use Rattle.escape_check.specs.Lookups.{is_left_unused}
use Rattle.escape_check.specs.Places.{sources_in}
use Rattle.escape_check.specs.Shown.{member_view}
use Rattle.escape_check.proofs.Declaring.{failing_next, found_next, missing_next}
use Rattle.escape_check.proofs.unused.first_unused.Goals as goal
use Rattle.escape_check.proofs.unused.first_unused.Goals.{in-Some+else-is_left_unused, in_default}

pub returns-then-is_left_unused : goal.returns-then-is_left_unused
returns-then-is_left_unused c = λ p s known.
    let m = member_view c.args.member.now in
    let ns = c.args.locals.now in
    let i = c.loop-local.local-index in
    let d = c.in-Some.declared.now in
    let there : slice_get c.args.member.now.declared.now (get_or ns i 0) ≡ Some d = slice_get_read c.args.member.now.declared.now _ (get_or ns i 0) d refl c.in-Some.ensures.lookup.3.0 c.in-Some.ensures.lookup.1 in
    ap Some c.declaring_place.ensures
    ∙ sym (c.loop-local.invariant p s known ∙ found_next m (is_left_unused (sources_in p) m) ns i d c.loop-local-test.true there (sym (c.is_left_unused.ensures p s known) ∙ c.if-is_left_unused.true))

pub loop-local-preserved : goal.loop-local-preserved
loop-local-preserved c = λ p s known.
    let m = member_view c.args.member.now in
    let ns = c.args.locals.now in
    let i = c.loop-local.local-index in
    let test : ℕ → Bool = is_left_unused (sources_in p) m in
    c.loop-local.invariant p s known
    ∙ elim c.match-get.branch [
      | in-Some+else-is_left_unused w ↦ failing_next m test ns i c.loop-local-test.true (sym (w.is_left_unused.ensures p s known) ∙ w.if-is_left_unused.false)
      | in_default w ↦ missing_next m test ns i c.loop-local-test.true (slice_get_past c.args.member.now.declared.now (get_or ns i 0) w.in_default.ensures.lookup.3)
    ]
