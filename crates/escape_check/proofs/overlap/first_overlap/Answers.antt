use Rattle.std.proofs.Common.{◌≡◌, ◌∙◌, ◌<◌, false, length, map, take, sym, subst, arith}
use Rattle.std.proofs.lemmas.Bool.{not-true}
use Rattle.std.specs.List.{list_any}
use Rattle.escape_check.specs.Places.{sources_in}
use Rattle.escape_check.specs.Shown.{member_view}
use Rattle.escape_check.specs.Statements.{meets}
use Rattle.escape_check.specs.Tokens.{Covered}
use Rattle.escape_check.proofs.Covers.{overlap_more, take_at}
use Rattle.escape_check.proofs.overlap.first_overlap.Goals as goal

pub loop-number-preserved : goal.loop-number-preserved
loop-number-preserved c =
    let xs = c.args.members.now in
    let i = c.loop-number.number in
    let x = c.index-members-number.result in
    let lt : i < length xs = omega (arith, c.loop-number-test.true) in
    let earlier = map member_view (take i xs) in
    let apart : list_any (meets (member_view x)) earlier ≡ false = not-true _ (sym (c.in_ok-take.ensures.new earlier c.loop-number.invariant.taken) ∙ c.if-not-branch.false) in
    record {
      found = c.loop-number.invariant.found ∙ overlap_more member_view (sources_in c.args.checked.now) xs i x lt c.index-members-number.is apart;
      taken = subst (Covered c.take.new.taken) (sym (take_at member_view xs i x lt c.index-members-number.is)) (c.in_ok-take.ensures.taken earlier c.loop-number.invariant.taken apart);
    }
