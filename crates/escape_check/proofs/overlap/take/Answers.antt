use Rattle.std.proofs.Common.{◌≡◌, ◌∙◌, true, false, sym, ap, arith, inl, inr}
use Rattle.std.proofs.lemmas.Bool.{both_ways, cases_lt, not-false, not-true}
use Rattle.std.specs.Prelude.{not}
use Rattle.std.specs.HashSet as set
use Rattle.std.specs.List.{list_any}
use Rattle.go_scopes_lookup.specs.Tables.{same_spot}
use Rattle.escape_check.specs.Shown.{member_view}
use Rattle.escape_check.specs.Statements.{meets}
use Rattle.escape_check.proofs.Covers.{all_taken, any_hit, as_before, new_more, none_hit, one_covered, taken_more}
use Rattle.escape_check.proofs.overlap.take.Goals as goal

pub returns-then-not-branch-clause-new : goal.returns-then-not-branch-clause-new
returns-then-not-branch-clause-new c = λ ms h.
    let m = member_view c.args.member.now in
    let token = c.loop-token.token in
    let found : set.contains same_spot c.loop-token.taken (m.window.func, token) ≡ true = not-false _ (sym c.in_ok-insert.ensures.added ∙ c.if-not-branch.true) in
    let old = sym (as_before m.window.func m.from c.args.taken.now c.loop-token.taken token c.loop-token.invariant.taken) ∙ found in
    sym (ap not (any_hit m ms token c.loop-token.invariant.low c.loop-token-test.true (sym (h m.window.func token) ∙ old)))

pub returns-then-not-branch-clause-taken : goal.returns-then-not-branch-clause-taken
returns-then-not-branch-clause-taken c = λ ms h e.
    let m = member_view c.args.member.now in
    let token = c.loop-token.token in
    let found : set.contains same_spot c.loop-token.taken (m.window.func, token) ≡ true = not-false _ (sym c.in_ok-insert.ensures.added ∙ c.if-not-branch.true) in
    let old = sym (as_before m.window.func m.from c.args.taken.now c.loop-token.taken token c.loop-token.invariant.taken) ∙ found in
    absurd (both_ways (list_any (meets m) ms) e (any_hit m ms token c.loop-token.invariant.low c.loop-token-test.true (sym (h m.window.func token) ∙ old)))

pub loop-token-preserved : goal.loop-token-preserved
loop-token-preserved c =
    let m = member_view c.args.member.now in
    let token = c.loop-token.token in
    let free : set.contains same_spot c.loop-token.taken (m.window.func, token) ≡ false = not-true _ (sym c.in_ok-insert.ensures.added ∙ c.if-not-branch.false) in
    record {
      taken = taken_more m.window.func m.from c.args.taken.now c.loop-token.taken c.insert.new.self token c.loop-token.invariant.low (λ f u. c.in_ok-insert.ensures.updates.0 (f, u)) c.loop-token.invariant.taken;
      new = new_more m.window.func m.from c.args.taken.now token (sym (as_before m.window.func m.from c.args.taken.now c.loop-token.taken token c.loop-token.invariant.taken) ∙ free) c.loop-token.invariant.new;
      low = omega (arith, c.loop-token.invariant.low);
      within = λ u a b. elim (cases_lt u token) [ inl front ↦ c.loop-token.invariant.within u a front | inr behind ↦ omega (arith, b, behind, c.loop-token-test.true) ];
    }

pub returns-clause-new : goal.returns-clause-new
returns-clause-new c = λ ms h.
    let m = member_view c.args.member.now in
    sym (ap not (none_hit m ms (λ u a b. sym (h m.window.func u) ∙ c.loop-token.invariant.new u a (omega (arith, b, c.loop-token-test.false)))))

pub returns-clause-taken : goal.returns-clause-taken
returns-clause-taken c = λ ms h e.
    let m = member_view c.args.member.now in
    one_covered c.args.taken.now c.loop-token.taken ms m h
    (all_taken m.window.func m.from c.args.taken.now c.loop-token.taken c.loop-token.token m.upto (omega (arith, c.loop-token-test.false)) c.loop-token.invariant.within c.loop-token.invariant.taken)
