use Rattle.std.proofs.Common.{◌≡◌, ◌≤◌, ◌++◌, map, Some}
use Rattle.std.specs.Vec.Iter.{into_iter_items}
use Rattle.go_base.specs.Package.{most_bytes, total_bytes}
use Rattle.port_io.specs.Held.{Files, files_under}
use Rattle.clone_server.specs.Opening.{file_at}
use Rattle.clone_server.proofs.folder.read_files.Given as goal

abbrev pub invariant-loop-name : goal.invariant-loop-name
invariant-loop-name g l = record {
  names : map (λ f. f.name) l.files.items ++ into_iter_items l.name-iterator ≡ l.fn.names.items;
  total : total_bytes l.files.items ≡ l.total;
  small : l.total ≤ most_bytes;
  files : (files : Files) → files_under (g.F.Folder.held l.fn.folder) (g.F.Folder.chosen l.fn.folder) ≡ Some files → l.files.items ≡ map (file_at files) (map (λ f. f.name) l.files.items);
  chosen : g.F.Folder.chosen l.folder ≡ g.F.Folder.chosen l.fn.folder;
  held : g.F.Folder.held l.folder ≡ g.F.Folder.held l.fn.folder;
  reading : g.F.Folder.reading_faults l.folder ≡ g.F.Folder.reading_faults l.fn.folder;
  writing : g.F.Folder.writing_faults l.folder ≡ g.F.Folder.writing_faults l.fn.folder;
}
