use Rattle.std.proofs.Common.{drop, arith}
use Rattle.std.proofs.lemmas.List.{drop-append-le, length-append}
use Rattle.clone_script.proofs.Pending.{wants_again}
use Rattle.clone_script.proofs.reader.CommandReader.push.Goals as goal

pub invariant_of-self-2 : goal.invariant_of-self-2
invariant_of-self-2 c =
    let items = c.self-2.inside.bytes.items in
    let taken = c.self-2.inside.taken in
    let piece = c.args.piece.now in
    let again = wants_again c.self-2.inside.wanted (drop taken items) piece c.self-2.invariant.1 in
    rw (c.in_ok-extend_from_slice.ensures.items, drop-append-le taken items piece c.self-2.invariant.0)
    (omega (arith, length-append items piece, c.self-2.invariant.0), again)
