use Rattle.std.proofs.Common.{List}
use Rattle.go_types.specs.declared.shape.Shape.{Shape}
use Rattle.go_types.specs.Changes.{table_of}
use Rattle.go_types.specs.Verdicts.{AreVerdicts, IsFieldsVerdict}
use Rattle.go_types.proofs.finding.fields_verdict.Given as goal

-- the verdict is that of the fields passed so far
abbrev pub invariant-loop-place : goal.invariant-loop-place
invariant-loop-place l = (shapes : List Shape) → AreVerdicts (table_of shapes l.definitions) l.verdicts → IsFieldsVerdict (table_of shapes l.definitions) l.fields l.place l.verdict
