use Rattle.std.proofs.Common.{sym, ap, ◌∙◌}
use Rattle.std.proofs.lemmas.Result.{err_from_is_err_and}
use Rattle.clone_script.specs.Replies.{save_reply}
use Rattle.clone_server.specs.Session.{with_files}
use Rattle.clone_server.proofs.Steps.{gives_save_stop, step_save, step_other}
use Rattle.clone_server.proofs.served.reply_to.Goals as goal

pub returns-in_err-save_all-clause-told : goal.returns-in_err-save_all-clause-told
returns-in_err-save_all-clause-told g c held dir eh ec =
    let p = err_from_is_err_and c.from_residual.result c.from_residual.ensures.1 in
    rw (p.1, p.2) (gives_save_stop (g.W.Workspace.Answers (g.W.Workspace.settings c.args.workspace.now)) dir (record { files = g.W.Workspace.files c.args.workspace.now; held = held }) c.args.command.now
    c.in_err-save_all.field-0.0 (g.W.Workspace.files c.args.workspace.now) (g.F.Folder.held c.save_all.new.folder) (sym c.is_save.ensures ∙ c.if-is_save.true) (c.in_err-save_all.ensures.told held dir eh ec))

pub returns-then-is_save-clause-told : goal.returns-then-is_save-clause-told
returns-then-is_save-clause-told g c held dir eh ec = (
  with_files held dir (g.W.Workspace.files c.args.workspace.now),
  c.in_ok-save_all.ensures.told held dir eh ec,
  step_save (g.W.Workspace.Answers (g.W.Workspace.settings c.args.workspace.now)) dir (record { files = g.W.Workspace.files c.args.workspace.now; held = held }) c.args.command.now
      c.in_ok-save_reply.field-0 (sym c.is_save.ensures ∙ c.if-is_save.true) (c.in_ok-save_reply.ensures ∙ ap save_reply c.count.ensures),
)

pub returns-clause-told : goal.returns-clause-told
returns-clause-told g c held dir eh ec = (
  held,
  eh,
  step_other (g.W.Workspace.Answers (g.W.Workspace.settings c.args.workspace.now)) dir (record { files = g.W.Workspace.files c.args.workspace.now; held = held }) c.args.command.now
      c.in_ok-answer.field-0 (g.W.Workspace.files c.answer.new.self) (sym c.is_save.ensures ∙ c.if-is_save.false) c.in_ok-answer.ensures.reply,
)
