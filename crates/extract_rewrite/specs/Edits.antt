-- The edits that take windows out into a function: a call at each window, and the function behind the template's file.
use Rattle.std.specs.Prelude.{ℕ, List, [], ◌∷◌, ◌++◌, length, map, Option, Some, None}
use Rattle.go_tree.specs.Units.{Place}
use Rattle.go_types.specs.Trees.{TypeTree}
use Rattle.go_typed.specs.declared.window.Window.{Window}
use Rattle.go_typed.specs.Contents.{Content}
use Rattle.edit_apply.specs.declared.edits.Edit.{Edit}
use Rattle.param_choose.specs.Members.{Member, members_of, template_of}
use Rattle.escape_check.specs.Places.{Sources, file_of, sources_of}
use Rattle.extract_texts.specs.Texts.{call_at, file_text, function_for, window_bytes}
use Rattle.extract_rewrite.specs.Order.{from_the_end}

-- a text in place of some bytes
abbrev pub edit_at : Place → List ℕ → Edit
edit_at p text = record { file = p.file; start = p.start; end = p.end; text = text }

-- the end of a member's file
abbrev pub file_end : {T : Type 0} → Sources → Member T → Place
file_end s m = record { file = file_of s m; start = length (file_text s m); end = length (file_text s m) }

-- the call at a window
abbrev pub window_edit : Content → List ℕ → List Window → Member TypeTree → Edit
window_edit c name ws m = edit_at (window_bytes (sources_of c) m) (call_at c name ws m.window)

-- the function behind the template's file
abbrev pub function_edit : Content → List ℕ → List Window → Option (Member TypeTree) → List Edit
function_edit c name ws None = []
function_edit c name ws (Some t) = edit_at (file_end (sources_of c) t) (function_for c name ws) ∷ []

-- Those of windows, the first of which is the template; from the end of each file to its start.
abbrev pub edits : Content → List ℕ → List Window → List Edit
edits c name ws = from_the_end (function_edit c name ws (template_of c ws) ++ map (window_edit c name ws) (members_of c ws))
