use Rattle.std.proofs.Common.{◌++◌, Some, Err, ap, subst, ◌∙◌}
use Rattle.std.proofs.lemmas.Result.{err_from_is_err_and}
use Rattle.clone_server.specs.Serving.{WritesAll}
use Rattle.clone_server.proofs.Steps.{serves_stop, serves_cut}
use Rattle.clone_server.proofs.served.serve_command.Goals as goal

pub returns-in_err-reply-clause-told : goal.returns-in_err-reply-clause-told
returns-in_err-reply-clause-told g c held dir before eh ec ew =
    let p = err_from_is_err_and c.from_residual.result c.from_residual.ensures.1 in
    rw (p.1, p.2) (serves_stop (g.W.Workspace.Answers (g.W.Workspace.settings c.args.workspace.now)) dir (record { files = g.W.Workspace.files c.args.workspace.now; held = held }) c.args.command.now before
    c.in_err-reply.field-0.0 (g.W.Workspace.files c.reply_to.new.workspace) (g.F.Folder.held c.reply_to.new.folder) (g.K.Sink.written c.args.out.now) (c.in_err-reply.ensures.told held dir eh ec) ew)

pub returns-in_err-write_all-clause-told : goal.returns-in_err-write_all-clause-told
returns-in_err-write_all-clause-told g c held dir before eh ec ew =
    let p = err_from_is_err_and c.from_residual-in_err-write_all.result c.from_residual-in_err-write_all.ensures.1 in
    let given = c.in_ok-reply.ensures.told held dir eh ec in
    rw (p.1, p.2) (serves_cut (g.W.Workspace.Answers (g.W.Workspace.settings c.args.workspace.now)) dir (record { files = g.W.Workspace.files c.args.workspace.now; held = held }) c.args.command.now before
    c.in_ok-reply.reply c.in_err-write_all.field-0.0 (g.W.Workspace.files c.reply_to.new.workspace) given.0 (g.F.Folder.held c.reply_to.new.folder) (g.K.Sink.written c.write_all.new.out) given.1 given.2
    (subst (λ b. WritesAll (Err c.in_err-write_all.field-0.0) before b (g.K.Sink.written c.write_all.new.out)) c.as_slice.ensures (c.in_err-write_all.ensures.told before ew)))

pub returns-clause-told : goal.returns-clause-told
returns-clause-told g c held dir before eh ec ew =
    let given = c.in_ok-reply.ensures.told held dir eh ec in
    (c.in_ok-reply.reply, given.0, given.1, given.2, c.in_ok-write_all.ensures.told before ew ∙ ap (λ b. Some (before ++ b)) c.as_slice.ensures)
