-- What the program keeps of a table: what is known of each settled type, and what each other type waits for.
use Rattle.std.specs.Prelude.{ℕ, List, Option}
use Rattle.go_types.specs.declared.shape.Shape.{Shape}
use Rattle.go_types.specs.declared.types.Definition.{Definition}
use Rattle.go_types.specs.declared.verdict.Verdict.{Verdict}
use Rattle.go_types.specs.Changes.{table_of, IsKept}
use Rattle.go_types.specs.Waiting.{AreWatched}

pub record IsComplete (shapes : List Shape) (definitions : List (Option Definition)) (verdicts : List (Option Verdict)) (awaited : List (Option ℕ)) : Type 0 where
  pub kept : IsKept shapes definitions verdicts
  pub watched : AreWatched (table_of shapes definitions) verdicts awaited
