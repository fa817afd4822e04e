-- What a call of a folder says and changes, where its files are told.
use Rattle.std.specs.Prelude.{◌≡◌, ℕ, List, Option, Some, None, Result, Ok, Err}
use Rattle.port_io.specs.declared.folder.FolderError.{FolderError}
use Rattle.port_io.specs.declared.folder.FolderError.TheVariants as errors
use Rattle.port_io.specs.Faults.{Rose}
use Rattle.port_io.specs.Held.{Held, with_file, KeepsOthers}

-- A call raised the count exactly where it failed, and not where memory ran out.
abbrev pub CountsCall : {X : Type 0} → Result X FolderError → ℕ → ℕ → Type 0
CountsCall (Ok x) old new = new ≡ old
CountsCall (Err errors.Failed) old new = Rose old new
CountsCall (Err errors.Memory) old new = new ≡ old

-- A write put the bytes under the name; or it failed, and the name may hold anything; or memory ran out, and all stays.
abbrev pub Writes : Result (Unit {0}) FolderError → Option Held → Option Held → Option (List ℕ) → List ℕ → List ℕ → Type 0
Writes r None new chosen name bytes = Unit {0}
Writes r (Some old) new None name bytes = Unit {0}
Writes (Ok x) (Some old) new (Some text) name bytes = new ≡ Some (with_file old text name bytes)
Writes (Err errors.Failed) (Some old) new (Some text) name bytes = (held : Held) × (new ≡ Some held) × KeepsOthers old held text name
Writes (Err errors.Memory) (Some old) new (Some text) name bytes = new ≡ Some old
