-- What the calls answer: the new package, or the first refusal that applies.
use Rattle.std.specs.Prelude.{ℕ, ◌+◌, ◌-◌, ◌&&◌, not, nat_le, List, length, Option, Some, None, Result, Ok, Err, is_some, if◌then◌else◌}
use Rattle.go_base.specs.declared.bytes.FileText.{FileText}
use Rattle.go_base.specs.Name.{is_go_file_name}
use Rattle.go_base.specs.Package.{most_files, most_bytes, total_bytes}
use Rattle.edit_apply.specs.declared.texts.EditError.{EditError}
use Rattle.edit_apply.specs.declared.texts.EditError.TheVariants as errors
use Rattle.edit_apply.specs.Edited.{bytes_under, spliced, file_of, edited, added, dropped}

-- the refusal that an error names
abbrev pub edit_refusal : EditError → Option EditError
edit_refusal errors.NoFile = Some errors.NoFile
edit_refusal errors.Range = Some errors.Range
edit_refusal errors.Limit = Some errors.Limit
edit_refusal errors.Memory = None
edit_refusal errors.BadName = Some errors.BadName
edit_refusal errors.Held = Some errors.Held

-- the package, unless it passes a limit
abbrev pub within_limits : List FileText → Result (List FileText) EditError
within_limits files = if nat_le (length files) most_files && nat_le (total_bytes files) most_bytes then Ok files else Err errors.Limit

-- the range lies in the bytes of the file, if there is one, and the new package is within the limits
abbrev pub ranged : Option (List ℕ) → ℕ → ℕ → List FileText → Result (List FileText) EditError
ranged None start end new = Err errors.NoFile
ranged (Some bytes) start end new = if nat_le start end && nat_le end (length bytes) then within_limits new else Err errors.Range

-- the same of the bytes of one file among files of so many bytes
unfoldable pub bytes_answer : List ℕ → ℕ → ℕ → ℕ → List ℕ → Result (List ℕ) EditError
bytes_answer bytes total start end new =
    if nat_le start end && nat_le end (length bytes)
    then (if nat_le (total - length bytes + length (spliced bytes start end new)) most_bytes then Ok (spliced bytes start end new) else Err errors.Limit)
    else Err errors.Range

abbrev pub edit_answer : List FileText → List ℕ → ℕ → ℕ → List ℕ → Result (List FileText) EditError
edit_answer files name start end new = ranged (bytes_under files name) start end (edited files name start end new)

-- a file that comes to so many others of so many bytes
unfoldable pub file_answer : ℕ → ℕ → List ℕ → List ℕ → Result FileText EditError
file_answer count total name bytes =
    if nat_le (count + 1) most_files && nat_le (total + length bytes) most_bytes then Ok (file_of name bytes) else Err errors.Limit

-- The name has the right form and isn't held, and the new package is within the limits.
abbrev pub add_answer : List FileText → List ℕ → List ℕ → Result (List FileText) EditError
add_answer files name bytes =
    if not (is_go_file_name name) then Err errors.BadName
    else (if is_some (bytes_under files name) then Err errors.Held else within_limits (added files name bytes))

-- The name is held.
abbrev pub remove_answer : List FileText → List ℕ → Result (List FileText) EditError
remove_answer files name = if is_some (bytes_under files name) then Ok (dropped files name) else Err errors.NoFile
