use Rattle.std.proofs.Common.{◌++◌, Ok, Err, subst}
use Rattle.std.proofs.lemmas.Result.{err_from_is_err_and}
use Rattle.clone_server.specs.Taking.{outcome_of}
use Rattle.clone_server.specs.Serving.{Runs}
use Rattle.clone_server.proofs.Ending.{files_stop, files_first, files_end, status_ends}
use Rattle.clone_server.proofs.serve.serve_files.Goals as goal

pub returns-in_err-workspace-clause-told : goal.returns-in_err-workspace-clause-told
returns-in_err-workspace-clause-told g c held dir before all eh ec ew el =
    let p = err_from_is_err_and c.from_residual.result c.from_residual.ensures.1 in
    rw (p.1, p.2) (files_first (g.W.Workspace.Answers (record { min = c.args.said.min; mass = c.args.said.mass })) dir c.args.texts.items held all before (g.F.Folder.held c.args.folder.now) (g.K.Sink.written c.args.out.now) (g.S.Source.left c.args.script.now) eh ew el)

pub returns-in_err-end-clause-told : goal.returns-in_err-end-clause-told
returns-in_err-end-clause-told g c held dir before all eh ec ew el =
    let p = err_from_is_err_and c.from_residual-in_err-end.result c.from_residual-in_err-end.ensures.1 in
    rw (p.1, p.2) (files_stop (g.W.Workspace.Answers (record { min = c.args.said.min; mass = c.args.said.mass })) dir c.args.texts.items held all before c.in_err-end.field-0.0 (g.W.Workspace.files c.serve_commands.new.workspace) (g.F.Folder.held c.serve_commands.new.folder) (g.K.Sink.written c.serve_commands.new.out) (g.S.Source.left c.serve_commands.new.script)
    (subst (λ z. Runs (g.W.Workspace.Answers z) dir (record { files = c.args.texts.items; held = held }) all before (Err c.in_err-end.field-0.0) (g.W.Workspace.files c.serve_commands.new.workspace) (g.F.Folder.held c.serve_commands.new.folder) (g.K.Sink.written c.serve_commands.new.out) (g.S.Source.left c.serve_commands.new.script)) c.in_ok-workspace.ensures.settings
    (subst (λ fs. Runs (g.W.Workspace.Answers (g.W.Workspace.settings c.in_ok-workspace.workspace)) dir (record { files = fs; held = held }) all before (Err c.in_err-end.field-0.0) (g.W.Workspace.files c.serve_commands.new.workspace) (g.F.Folder.held c.serve_commands.new.folder) (g.K.Sink.written c.serve_commands.new.out) (g.S.Source.left c.serve_commands.new.script)) c.in_ok-workspace.ensures.files
    (c.in_err-end.ensures.told held dir before all eh ec ew el))))

pub returns-clause-told : goal.returns-clause-told
returns-clause-told g c held dir before all eh ec ew el =
    let a = (subst (λ z. Runs (g.W.Workspace.Answers z) dir (record { files = c.args.texts.items; held = held }) all before (Ok c.in_ok-end.end) (g.W.Workspace.files c.serve_commands.new.workspace) (g.F.Folder.held c.serve_commands.new.folder) (g.K.Sink.written c.serve_commands.new.out) (g.S.Source.left c.serve_commands.new.script)) c.in_ok-workspace.ensures.settings
    (subst (λ fs. Runs (g.W.Workspace.Answers (g.W.Workspace.settings c.in_ok-workspace.workspace)) dir (record { files = fs; held = held }) all before (Ok c.in_ok-end.end) (g.W.Workspace.files c.serve_commands.new.workspace) (g.F.Folder.held c.serve_commands.new.folder) (g.K.Sink.written c.serve_commands.new.out) (g.S.Source.left c.serve_commands.new.script)) c.in_ok-workspace.ensures.files
    (c.in_ok-end.ensures.told held dir before all eh ec ew el))) in
    files_end (g.W.Workspace.Answers (record { min = c.args.said.min; mass = c.args.said.mass })) dir c.args.texts.items held all before c.in_ok-end.end c.finish.result (g.F.Folder.held c.serve_commands.new.folder) (g.K.Sink.written c.serve_commands.new.out) (g.K.Sink.written c.finish.new.out) (g.S.Source.left c.serve_commands.new.script)
    a (c.finish.ensures.told (before ++ a.bytes) a.written_is)

pub returns-clause-status : goal.returns-clause-status
returns-clause-status g c = status_ends (outcome_of c.in_ok-end.end) c.finish.result c.finish.ensures.status
