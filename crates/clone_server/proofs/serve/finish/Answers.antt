use Rattle.std.proofs.lemmas.Result.{err_from_is_err_and}
use Rattle.clone_server.specs.Taking.{outcome_of}
use Rattle.clone_server.specs.Session.{outcome_text, outcome_status}
use Rattle.clone_server.proofs.Ending.{closes_before}
use Rattle.clone_server.proofs.serve.finish.Goals as goal

pub returns-in_err-line-in-Bad-clause-told : goal.returns-in_err-line-in-Bad-clause-told
returns-in_err-line-in-Bad-clause-told g c before ew =
    let p = err_from_is_err_and c.from_residual.result c.from_residual.ensures.1 in
    rw (p.1, p.2) (closes_before (outcome_text (outcome_of c.args.end)) (outcome_status (outcome_of c.args.end)) before (g.K.Sink.written c.args.out.now) ew)
