-- What an extraction is: the edits, and what is told of them.
use Rattle.std.specs.Prelude.{ℕ, List, Option, Some, None}
use Rattle.go_types.specs.Trees.{TypeTree}
use Rattle.go_typed.specs.declared.window.Window.{Window}
use Rattle.go_typed.specs.Contents.{Content}
use Rattle.edit_apply.specs.declared.edits.Edit.{Edit}
use Rattle.param_choose.specs.Members.{Member, template_of}
use Rattle.extract_rewrite.specs.Counts.{Counts, counts}
use Rattle.extract_rewrite.specs.Edits.{edits}

pub record Extraction : Type 0 where
  pub edits : List Edit
  pub counts : Counts

abbrev pub extraction_by : Content → List ℕ → List Window → Option (Member TypeTree) → Option Extraction
extraction_by c name ws None = None
extraction_by c name ws (Some t) = Some (record { edits = edits c name ws; counts = counts c ws })

-- Of windows of a package, the first of which is the template; none where its function is missing.
abbrev pub extraction_of : Content → List ℕ → List Window → Option Extraction
extraction_of c name ws = extraction_by c name ws (template_of c ws)
