use Rattle.std.proofs.Common.{◌≡◌, ◌-◌, List, ℕ, Some}
use Rattle.port_io.specs.Held.{Held}
use Rattle.clone_script.specs.Script.{most_script}
use Rattle.clone_server.specs.Taking.{IsWithin, consumed}
use Rattle.clone_server.proofs.Standing.{Stands}
use Rattle.clone_server.proofs.session.serve_commands.Given as goal

abbrev pub invariant-loop-intake : goal.invariant-loop-intake
invariant-loop-intake g l = record {
  reading : g.F.Folder.reading_faults l.folder ≡ g.F.Folder.reading_faults l.fn.folder;
  chosen : g.F.Folder.chosen l.folder ≡ g.F.Folder.chosen l.fn.folder;
  settings : g.W.Workspace.settings l.workspace ≡ g.W.Workspace.settings l.fn.workspace;
  writing : g.F.Folder.writing_faults l.folder ≡ g.F.Folder.writing_faults l.fn.folder;
  reads : g.S.Source.faults l.script ≡ g.S.Source.faults l.fn.script;
  writes : g.K.Sink.faults l.out ≡ g.K.Sink.faults l.fn.out;
  within : IsWithin l.intake;
  told : (held : Held) (dir before all : List ℕ) → g.F.Folder.held l.fn.folder ≡ Some held → g.F.Folder.chosen l.fn.folder ≡ Some dir → g.K.Sink.written l.fn.out ≡ Some before → g.S.Source.left l.fn.script ≡ Some all →
      Stands (g.W.Workspace.Answers (g.W.Workspace.settings l.fn.workspace)) dir (record { files = g.W.Workspace.files l.fn.workspace; held = held }) all before l.intake (g.W.Workspace.files l.workspace)
      (g.F.Folder.held l.folder) (g.K.Sink.written l.out) (g.S.Source.left l.script);
}

abbrev pub decreases-loop-intake : goal.decreases-loop-intake
decreases-loop-intake g l = most_script - consumed l.intake
