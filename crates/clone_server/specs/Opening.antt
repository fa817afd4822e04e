-- The files of a package in a folder.
use Rattle.std.specs.Prelude.{◌≡◌, ℕ, nat_le, List, [], length, filter, map, unwrap_or, Result, Ok, Err, Option, Some, None, if◌then◌else◌}
use Rattle.std.specs.FinMap as finite
use Rattle.go_base.specs.declared.bytes.FileText.{FileText}
use Rattle.go_base.specs.Name.{is_go_file_name}
use Rattle.go_base.specs.Package.{most_files, most_bytes, total_bytes}
use Rattle.port_io.specs.declared.folder.FolderError.{FolderError}
use Rattle.port_io.specs.declared.folder.FolderError.TheVariants as folder
use Rattle.port_io.specs.Faults.{Rose}
use Rattle.port_io.specs.Held.{Files}
use Rattle.clone_server.specs.declared.folder.OpenError.{OpenError}
use Rattle.clone_server.specs.declared.folder.OpenError.TheVariants as errors

-- the names of the right form, in byte order. Other files are passed over
abbrev pub names_of : Files → List (List ℕ)
names_of files = filter is_go_file_name (finite.keys files)

-- the file of a name
abbrev pub file_at : Files → List ℕ → FileText
file_at files name = record { name = name; bytes = unwrap_or (finite.get files name) [] }

abbrev pub files_of : Files → List FileText
files_of files = map (file_at files) (names_of files)

-- the files, unless their bytes pass the limit
abbrev pub within_bytes : List FileText → Result (List FileText) OpenError
within_bytes files = if nat_le (total_bytes files) most_bytes then Ok files else Err errors.Limit

-- the package of a folder, unless it passes a limit
abbrev pub opened : Files → Result (List FileText) OpenError
opened files = if nat_le (length (names_of files)) most_files then within_bytes (files_of files) else Err errors.Limit

-- the refusal that an error names
abbrev pub open_refusal : OpenError → Option OpenError
open_refusal errors.Folder = None
open_refusal errors.Memory = None
open_refusal errors.Limit = Some errors.Limit

-- why a folder isn't opened, from what a call of it answered
abbrev pub folder_error : FolderError → OpenError
folder_error folder.Failed = errors.Folder
folder_error folder.Memory = errors.Memory

-- Calls of the folder raised its reading count exactly where one of them failed.
abbrev pub CountsOpening : {X : Type 0} → Result X OpenError → ℕ → ℕ → Type 0
CountsOpening (Ok x) old new = new ≡ old
CountsOpening (Err errors.Folder) old new = Rose old new
CountsOpening (Err errors.Memory) old new = new ≡ old
CountsOpening (Err errors.Limit) old new = new ≡ old
