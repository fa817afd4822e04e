use Rattle.clone_server.proofs.Ordered.{told, names_are}
use Rattle.clone_server.proofs.folder.names_in.Goals as goal

pub returns-clause-names : goal.returns-clause-names
returns-clause-names g c files is =
    names_are files c.in_ok-names.names.items c.go_names.result.items (told _ _ files c.in_ok-names.ensures.names is) c.go_names.ensures.sorted c.go_names.ensures.keeps c.go_names.ensures.adds_none
