use Rattle.std.proofs.Common.{◌≡◌, List, ℕ, Some, take}
use Rattle.port_io.specs.Held.{Held}
use Rattle.clone_server.specs.Session.{with_files}
use Rattle.clone_server.proofs.outside.save_all.Given as goal

abbrev pub invariant-loop-number : goal.invariant-loop-number
invariant-loop-number g l = record {
  count : g.F.Folder.writing_faults l.folder ≡ g.F.Folder.writing_faults l.fn.folder;
  reading : g.F.Folder.reading_faults l.folder ≡ g.F.Folder.reading_faults l.fn.folder;
  chosen : g.F.Folder.chosen l.folder ≡ g.F.Folder.chosen l.fn.folder;
  told : (held : Held) (dir : List ℕ) → g.F.Folder.held l.fn.folder ≡ Some held → g.F.Folder.chosen l.fn.folder ≡ Some dir →
      g.F.Folder.held l.folder ≡ Some (with_files held dir (take l.number (g.W.Workspace.files l.workspace)));
}
