use Rattle.std.proofs.Common.{sym, subst, ap, ◌∙◌, arith}
use Rattle.std.specs.List.{All}
use Rattle.std.specs.Prelude.{IsSome}
use Rattle.std.specs.FinMap as finite
use Rattle.port_io.specs.Held.{files_under}
use Rattle.clone_server.proofs.Ordered.{held_names, are_package}
use Rattle.clone_server.proofs.folder.open_folder.Goals as goal

pub read_files-requires-clause-held : goal.read_files-requires-clause-held
read_files-requires-clause-held g c files is =
    subst (λ names. All (λ name. IsSome (finite.get files name)) names)
    (sym (c.in_ok-names.ensures.names files (ap (λ h. files_under h (g.F.Folder.chosen c.select.new.self)) (sym c.in_ok-names.ensures.held) ∙ ap (files_under (g.F.Folder.held c.names_in.new.folder)) (sym c.in_ok-names.ensures.chosen) ∙ is)))
    (held_names files)

pub returns-clause-package : goal.returns-clause-package
returns-clause-package g c =
    are_package c.read_files.result c.in_ok-names.names.items c.in_ok-names.ensures.sorted (omega arith) c.read_files.ensures.names c.read_files.ensures.small
