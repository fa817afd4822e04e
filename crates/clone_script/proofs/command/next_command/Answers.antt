use Rattle.clone_script.proofs.Outcomes.{begun_is, refused_is, beginning_is, call_found, call_bad, call_more, call_is}
use Rattle.std.proofs.Common.{Ok, Err, length}
use Rattle.clone_script.specs.Reading.{bad, more}
use Rattle.clone_script.specs.Grammar.{spelling}
use Rattle.clone_script.proofs.command.next_command.Goals as goal

pub returns : goal.returns
returns c =
    let bytes = c.args.bytes.now in
    let r = c.command_of.result in
    let e = c.command_of.ensures in
    record {
      found = call_found bytes r e;
      taken = λ d rest h. call_is bytes r (Ok (d, length (spelling d))) e (begun_is bytes d rest h);
      bad = call_bad bytes r e;
      refused = λ h. call_is bytes r (Err bad) e (refused_is bytes h);
      more = call_more bytes r e;
      unfinished = λ h. call_is bytes r (Err more) e (beginning_is bytes h);
      exact = e;
    }
