use Rattle.go_grammar.specs.Trees.{last}
use Rattle.go_tree.specs.Contexts.{file_context}
use Rattle.go_scopes_events.proofs.Sited.{sited}
use Rattle.go_scopes_events.proofs.laws.names_stand_in_parts_of_declarations.Goals as goal

pub returns : goal.returns
returns c t = sited (file_context (last t)) t
