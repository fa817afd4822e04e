use Rattle.std.proofs.Common.{◌≡◌, Ok, Err, refl, sym, subst, ◌∙◌}
use Rattle.go_base.specs.Gives.{Unless}
use Rattle.clone_server.specs.declared.folder.OpenError.TheVariants as errors
use Rattle.clone_server.specs.Opening.{opened, open_refusal}
use Rattle.clone_server.specs.Run.{RunsFolder}
use Rattle.clone_server.proofs.Ending.{folder_files, folder_failed, folder_memory}
use Rattle.clone_server.proofs.serve.serve_folder.Goals as goal

pub returns-in-Ok-clause-told : goal.returns-in-Ok-clause-told
returns-in-Ok-clause-told g c held before all eh ew el =
    subst (λ x. RunsFolder (g.W.Workspace.Answers (record { min = c.args.said.min; mass = c.args.said.mass })) c.args.said.dir.now x held all before c.serve_files.result (g.F.Folder.held c.serve_files.new.folder) (g.K.Sink.written c.serve_files.new.out) (g.S.Source.left c.serve_files.new.script)) (sym (c.in-Ok.ensures.files held eh))
    (folder_files (g.W.Workspace.Answers (record { min = c.args.said.min; mass = c.args.said.mass })) c.args.said.dir.now c.in-Ok.texts.items held all before c.serve_files.result (g.F.Folder.held c.serve_files.new.folder) (g.K.Sink.written c.serve_files.new.out) (g.S.Source.left c.serve_files.new.script)
    (c.serve_files.ensures.told held c.args.said.dir.now before all (c.in-Ok.ensures.held ∙ eh) c.in-Ok.ensures.selected ew el))

pub returns-in-Err-Limit-clause-told : goal.returns-in-Err-Limit-clause-told
returns-in-Err-Limit-clause-told g c held before all eh ew el =
    let past : opened (held c.args.said.dir.now) ≡ Err errors.Limit = subst (λ e. Unless (open_refusal e) (λ f. opened (held c.args.said.dir.now) ≡ Err f)) c.in-Err-Limit.field-0-is (c.in-Err-Limit.ensures.files held eh) in
    subst (λ x. RunsFolder (g.W.Workspace.Answers (record { min = c.args.said.min; mass = c.args.said.mass })) c.args.said.dir.now x held all before (Ok 9) (g.F.Folder.held c.open_folder.new.folder) (g.K.Sink.written c.args.out.now) (g.S.Source.left c.args.script.now)) (sym past)
    (refl, (c.open_folder.ensures.held ∙ eh, ew, el))

pub returns-in-Err-Folder-clause-told : goal.returns-in-Err-Folder-clause-told
returns-in-Err-Folder-clause-told g c held before all eh ew el =
    folder_failed (g.W.Workspace.Answers (record { min = c.args.said.min; mass = c.args.said.mass })) c.args.said.dir.now (opened (held c.args.said.dir.now)) held all before (g.F.Folder.held c.open_folder.new.folder) (g.K.Sink.written c.args.out.now) (g.S.Source.left c.args.script.now) (c.open_folder.ensures.held ∙ eh, ew, el)

pub returns-in-Err-Memory-clause-told : goal.returns-in-Err-Memory-clause-told
returns-in-Err-Memory-clause-told g c held before all eh ew el =
    folder_memory (g.W.Workspace.Answers (record { min = c.args.said.min; mass = c.args.said.mass })) c.args.said.dir.now (opened (held c.args.said.dir.now)) held all before (g.F.Folder.held c.open_folder.new.folder) (g.K.Sink.written c.args.out.now) (g.S.Source.left c.args.script.now) (c.open_folder.ensures.held ∙ eh, ew, el)
