use Rattle.std.proofs.Common.{[], Some, Ok, Err, ap, ◌∙◌}
use Rattle.std.proofs.lemmas.Result.{err_from_is_err_and}
use Rattle.clone_server.specs.Taking.{outcome_of}
use Rattle.clone_server.specs.Made.{made_script}
use Rattle.clone_server.specs.Run.{nothing_held}
use Rattle.clone_server.proofs.MadeRuns.{made_first, made_stop, made_end, runs_as}
use Rattle.clone_server.proofs.serve.serve_made.Goals as goal

pub returns-in_err-texts-clause-told : goal.returns-in_err-texts-clause-told
returns-in_err-texts-clause-told g c before ew =
    let p = err_from_is_err_and c.from_residual.result c.from_residual.ensures.1 in
    rw (p.1, p.2) (made_first (g.W.Workspace.Answers (record { min = c.args.said.min; mass = c.args.said.mass })) c.args.seed before (g.K.Sink.written c.args.out.now) ew)

pub returns-in_err-from_slice-clause-told : goal.returns-in_err-from_slice-clause-told
returns-in_err-from_slice-clause-told g c before ew =
    let p = err_from_is_err_and c.from_residual-in_err-from_slice.result c.from_residual-in_err-from_slice.ensures.1 in
    rw (p.1, p.2) (made_first (g.W.Workspace.Answers (record { min = c.args.said.min; mass = c.args.said.mass })) c.args.seed before (g.K.Sink.written c.args.out.now) ew)

pub returns-in_default-clause-told : goal.returns-in_default-clause-told
returns-in_default-clause-told g c before ew =
    made_first (g.W.Workspace.Answers (record { min = c.args.said.min; mass = c.args.said.mass })) c.args.seed before (g.K.Sink.written c.args.out.now) ew

pub returns-in_err-workspace-clause-told : goal.returns-in_err-workspace-clause-told
returns-in_err-workspace-clause-told g c before ew =
    let p = err_from_is_err_and c.from_residual-in_err-workspace.result c.from_residual-in_err-workspace.ensures.1 in
    rw (p.1, p.2) (made_first (g.W.Workspace.Answers (record { min = c.args.said.min; mass = c.args.said.mass })) c.args.seed before (g.K.Sink.written c.args.out.now) ew)

pub returns-in_err-serve_commands-clause-told : goal.returns-in_err-serve_commands-clause-told
returns-in_err-serve_commands-clause-told g c before ew =
    let p = err_from_is_err_and c.from_residual-in_err-serve_commands.result c.from_residual-in_err-serve_commands.ensures.1 in
    let runs = c.in_err-serve_commands.ensures.told nothing_held [] before made_script (c.in-Ok.ensures.held ∙ c.new-folder.ensures.held) c.in-Ok.ensures.ok ew (c.new-script.ensures ∙ ap Some c.in_ok-from_slice.ensures) in
    rw (p.1, p.2) (made_stop (g.W.Workspace.Answers (record { min = c.args.said.min; mass = c.args.said.mass })) c.args.seed before c.in_err-serve_commands.field-0.0 (g.W.Workspace.files c.serve_commands.new.workspace) _ (g.K.Sink.written c.serve_commands.new.out) _
    (runs_as g.W.Workspace.Answers _ _ _ _ before (Err c.in_err-serve_commands.field-0.0) (g.W.Workspace.files c.serve_commands.new.workspace) _ (g.K.Sink.written c.serve_commands.new.out) _ c.in_ok-workspace.ensures.settings (c.in_ok-workspace.ensures.files ∙ c.in_ok-texts.ensures.value) runs))

pub returns-clause-told : goal.returns-clause-told
returns-clause-told g c before ew =
    let runs = c.in_ok-serve_commands.ensures.told nothing_held [] before made_script (c.in-Ok.ensures.held ∙ c.new-folder.ensures.held) c.in-Ok.ensures.ok ew (c.new-script.ensures ∙ ap Some c.in_ok-from_slice.ensures) in
    made_end (g.W.Workspace.Answers (record { min = c.args.said.min; mass = c.args.said.mass })) c.args.seed before (outcome_of c.in_ok-serve_commands.field-0) _ (g.K.Sink.written c.serve_commands.new.out) (Some [])
    (runs_as g.W.Workspace.Answers _ _ _ _ before (Ok c.in_ok-serve_commands.field-0) (g.W.Workspace.files c.serve_commands.new.workspace) _ (g.K.Sink.written c.serve_commands.new.out) (Some []) c.in_ok-workspace.ensures.settings (c.in_ok-workspace.ensures.files ∙ c.in_ok-texts.ensures.value) runs)
    (c.made_scripts_are_done.ensures _)
