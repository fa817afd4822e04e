-- What is written at windows as the program holds them.
use Rattle.std.specs.Prelude.{◌≡◌, ℕ, List, [], map, Option, Some, None, unwrap_or}
use Rattle.std.specs.Option.{option_map}
use Rattle.go_base.specs.declared.bytes.FileText.{FileText}
use Rattle.go_tree.specs.Units.{Place}
use Rattle.go_typed.specs.declared.window.Window.{Window}
use Rattle.go_typed.specs.Contents.{content}
use Rattle.go_typed.specs.Packages.{PackageView}
use Rattle.edit_apply.specs.declared.edits.Edit.{Edit}
use Rattle.escape_check.specs.declared.member.Member.{Member as Found}
use Rattle.escape_check.specs.Places.{Refusal, sources_in}
use Rattle.escape_check.specs.Shown.{member_view, refusal_view}
use Rattle.extract_texts.specs.Texts.{call_at, window_bytes}
use Rattle.extract_rewrite.specs.declared.error.ExtractError.{ExtractError}
use Rattle.extract_rewrite.specs.declared.error.ExtractError.TheVariants as errors
use Rattle.extract_rewrite.specs.declared.extracted.Extracted.{Extracted}
use Rattle.extract_rewrite.specs.Counts.{Counts}
use Rattle.extract_rewrite.specs.Edits.{edit_at}
use Rattle.extract_rewrite.specs.Extraction.{Extraction}

-- the bytes of a member's window
abbrev pub found_bytes : PackageView → Found → Place
found_bytes p m = window_bytes (sources_in p) (member_view m)

-- the call there
abbrev pub found_edit : PackageView → List ℕ → List Window → Found → Edit
found_edit p name ws m = edit_at (found_bytes p m) (call_at (content p) name ws m.window)

abbrev pub counts_shown : Extracted → Counts
counts_shown x = record { members = x.members; parameters = x.parameters; results = x.results; dropped = x.dropped }

abbrev pub extracted_shown : Extracted → Extraction
extracted_shown x = record { edits = x.edits; counts = counts_shown x }

-- the refusal that an error tells
abbrev pub extract_refusal : ExtractError → Option Refusal
extract_refusal (errors.Refused r) = Some (refusal_view r)
extract_refusal errors.Memory = None

-- ---- texts

abbrev pub bytes_of_file : Option FileText → List ℕ
bytes_of_file o = unwrap_or (option_map (λ f. f.bytes) o) []

-- The files have the bytes of those of the package.
abbrev pub AreItsTexts : PackageView → List FileText → Type 0
AreItsTexts p files = map (λ f. f.bytes) files ≡ map (λ f. f.tokens.text) p.files
