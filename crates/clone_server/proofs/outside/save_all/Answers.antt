use Rattle.std.proofs.Common.{Ok, Err, subst, ◌∙◌}
use Rattle.std.proofs.lemmas.Result.{err_from_is_err_and}
use Rattle.port_io.specs.Folders.{Writes}
use Rattle.clone_server.proofs.Saved.{saved_more, saved_stop, saved_front}
use Rattle.clone_server.proofs.outside.save_all.Goals as goal

pub returns-in_err-file-clause-told : goal.returns-in_err-file-clause-told
returns-in_err-file-clause-told g c held dir eh ec =
    let p = err_from_is_err_and c.from_residual.result c.from_residual.ensures.1 in
    rw (p.1, p.2) (saved_front held dir (g.W.Workspace.files c.args.workspace.now) c.loop-number.number (g.F.Folder.held c.loop-number.folder) (c.loop-number.invariant.told held dir eh ec))

pub returns-in_err-write-clause-told : goal.returns-in_err-write-clause-told
returns-in_err-write-clause-told g c held dir eh ec =
    let p = err_from_is_err_and c.from_residual-in_err-write.result c.from_residual-in_err-write.ensures.1 in
    rw (p.1, p.2) (saved_stop held dir (g.W.Workspace.files c.args.workspace.now) c.loop-number.number c.in_ok-file.file (g.F.Folder.held c.loop-number.folder) (g.F.Folder.held c.write.new.self)
    (g.F.Folder.chosen c.loop-number.folder) c.in_err-write.field-0.0 c.in_ok-file.ensures (c.loop-number.invariant.told held dir eh ec) (c.loop-number.invariant.chosen ∙ ec)
    (subst (λ b. Writes (Err c.in_err-write.field-0.0) (g.F.Folder.held c.loop-number.folder) (g.F.Folder.held c.write.new.self) (g.F.Folder.chosen c.loop-number.folder) c.in_ok-file.file.name b) c.as_slice.ensures c.in_err-write.ensures.held))

pub loop-number-preserved : goal.loop-number-preserved
loop-number-preserved g c = record {
  count = c.in_ok-write.ensures.writing ∙ c.loop-number.invariant.count;
  reading = c.in_ok-write.ensures.reading ∙ c.loop-number.invariant.reading;
  chosen = c.in_ok-write.ensures.chosen ∙ c.loop-number.invariant.chosen;
  told = λ held dir eh ec.
      saved_more held dir (g.W.Workspace.files c.args.workspace.now) c.loop-number.number c.in_ok-file.file (g.F.Folder.held c.loop-number.folder) (g.F.Folder.held c.write.new.self)
      (g.F.Folder.chosen c.loop-number.folder) c.in_ok-file.ensures (c.loop-number.invariant.told held dir eh ec) (c.loop-number.invariant.chosen ∙ ec)
      (subst (λ b. Writes (Ok tt) (g.F.Folder.held c.loop-number.folder) (g.F.Folder.held c.write.new.self) (g.F.Folder.chosen c.loop-number.folder) c.in_ok-file.file.name b) c.as_slice.ensures c.in_ok-write.ensures.held);
}
