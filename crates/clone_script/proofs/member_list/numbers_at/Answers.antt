use Rattle.std.proofs.Common.{sym, ap, ◌∙◌, arith}
use Rattle.clone_script.proofs.Members.{no_room}
use Rattle.clone_script.proofs.member_list.numbers_at.Invariants.{behind_numbers}
use Rattle.clone_script.proofs.member_list.numbers_at.Goals as goal

pub returns-clause-value : goal.returns-clause-value
returns-clause-value c =
    let l = c.loop-left in
    sym l.invariant ∙ ap (behind_numbers l.numbers.items) (no_room l.left l.number l.rest.now (omega (arith, c.loop-left-test.false, c.least_room.ensures)))
