use Rattle.port_io.proofs.StoredLemmas.{nothing_written}
use Rattle.port_io.proofs.folder.MemFolderFolder.write.Goals as goal

pub returns-then-next_fails-clause-held : goal.returns-then-next_fails-clause-held
returns-then-next_fails-clause-held c = nothing_written _ _ _ _
