use Rattle.go_heads.specs.Bodies.{function_events}
use Rattle.extract_names_changes.proofs.Imported.{import_used}
use Rattle.extract_names_changes.proofs.laws.named_imports_are_used.Goals as goal

pub returns : goal.returns
returns c = λ a outer u there e. import_used a outer u e (function_events a) there
