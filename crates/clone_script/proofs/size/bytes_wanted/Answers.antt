use Rattle.std.proofs.Common.{length, arith}
use Rattle.clone_script.specs.Grammar.{spelling}
use Rattle.clone_script.proofs.Sizes.{more_wanted, still_begins, told_by_line, told_is, untold}
use Rattle.clone_script.proofs.size.bytes_wanted.Goals as goal

pub returns-in-Ok-clause-more : goal.returns-in-Ok-clause-more
returns-in-Ok-clause-more c =
    let most = more_wanted c.args.bytes.now c.in-Ok.rest.now c.in-Ok.size c.requires c.in-Ok.ensures.value in
    omega (arith, most, c.saturating_sub.ensures)

pub returns-in-Ok-clause-unfinished : goal.returns-in-Ok-clause-unfinished
returns-in-Ok-clause-unfinished c later le =
    still_begins c.args.bytes.now c.in-Ok.rest.now later c.in-Ok.size c.in-Ok.ensures.value (omega (arith, c.saturating_sub.ensures, le))

pub returns-in-Ok-clause-exact : goal.returns-in-Ok-clause-exact
returns-in-Ok-clause-exact c d rest fits is le =
    let told = told_by_line d c.args.bytes.now rest c.requires fits is le in
    let same = told_is c.args.bytes.now c.in-Ok.rest.now c.in-Ok.size (length (spelling d)) c.in-Ok.ensures.value told in
    omega (arith, same, c.saturating_sub.ensures)

pub returns-in-Err-clause-exact : goal.returns-in-Err-clause-exact
returns-in-Err-clause-exact c d rest fits is le =
    absurd (untold c.args.bytes.now (length (spelling d)) c.in-Err.field-0 c.in-Err.ensures.value c.in-Err.ensures.memory (told_by_line d c.args.bytes.now rest c.requires fits is le))
