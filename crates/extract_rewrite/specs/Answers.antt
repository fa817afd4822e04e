-- What is answered where windows of a package are to be taken out into a function: what is done, or why it is refused.
use Rattle.std.specs.Prelude.{◌≡◌, ℕ, ◌⊎◌, List, Some, None}
use Rattle.go_base.specs.declared.bytes.FileText.{FileText}
use Rattle.go_typed.specs.declared.window.Window.{Window}
use Rattle.go_typed.specs.Contents.{Content}
use Rattle.go_package_defs.specs.Checked.{texts_by}
use Rattle.edit_apply.specs.declared.edits.Edit.{Edit}
use Rattle.edit_apply.specs.Applied.{applied}
use Rattle.escape_check.specs.Places.{Refusal}
use Rattle.escape_check.specs.Refusals.{refused}
use Rattle.extract_rewrite.specs.Extraction.{Extraction, extraction_of}
use Rattle.extract_rewrite.specs.Limits.{IsWithinLimits, PassesLimits}

-- the files of a package after edits
abbrev pub texts_after : Content → List Edit → List FileText
texts_after c es = applied (texts_by c.names c.files) es

-- Windows, the first of which is the template, are taken out into a function of this name by these edits: no code applies to them, and the
-- new package is within the limits.
pub record IsExtraction (c : Content) (name : List ℕ) (ws : List Window) (e : Extraction) : Type 0 where
  pub allowed : refused c name ws ≡ None
  pub made : extraction_of c name ws ≡ Some e
  pub within : IsWithinLimits (texts_after c e.edits)

-- No lesser code applies to the windows, and the new package passes a limit.
pub record IsPastLimits (c : Content) (name : List ℕ) (ws : List Window) : Type 0 where
  pub allowed : refused c name ws ≡ None
  pub extraction : Extraction
  pub made : extraction_of c name ws ≡ Some extraction
  pub passes : PassesLimits (texts_after c extraction.edits)

-- The refusal 17 is of no window and has no place.
abbrev pub limit_refusal : Refusal
limit_refusal = record { code = 17; member = 0; span = None }

-- The least code that applies, with its first window and its first place.
abbrev pub IsRefused : Content → List ℕ → List Window → Refusal → Type 0
IsRefused c name ws r = (refused c name ws ≡ Some r) ⊎ ((r ≡ limit_refusal) × IsPastLimits c name ws)
