use Rattle.std.proofs.Common.{rules}
use Rattle.std.proofs.lemmas.List.Elements.{filter_from_retain}
use Rattle.go_base.specs.Name.{is_go_file_name}
use Rattle.clone_server.proofs.names.go_files.Goals as goal

pub returns : goal.returns
returns c = filter_from_retain _ is_go_file_name (λ p x b q h. search rules) _ _ _ c.retain.ensures.filtered
