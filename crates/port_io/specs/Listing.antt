-- What the entries of a folder tell: each the name of a plain file, or that it is none, or a fault.
use Rattle.std.specs.Prelude.{◌≡◌, ℕ, List, [], ◌∷◌, Option, Some, None, IsSome, Result, Ok, Err}
use Rattle.std.specs.Option.{option_map}
use Rattle.std.specs.Iterator.{Drains, YieldsThen}
use Rattle.go_base.specs.declared.name.NameError.{NameError}
use Rattle.go_base.specs.declared.name.NameError.TheVariants as names
use Rattle.go_base.specs.Name.{name_of}
use Rattle.port_io.specs.declared.folder.FolderError.{FolderError}
use Rattle.port_io.specs.declared.folder.FolderError.TheVariants as errors

-- the refusal that an error of a folder names
abbrev pub folder_refusal : FolderError → Option FolderError
folder_refusal errors.Failed = Some errors.Failed
folder_refusal errors.Memory = None

-- the error of a folder where bytes are no name
abbrev pub name_failure : NameError → FolderError
name_failure names.Form = errors.Failed
name_failure names.Memory = errors.Memory

-- the name with these bytes; where there is none, the folder failed
abbrev pub name_in_folder : List ℕ → Result (List ℕ) FolderError
name_in_folder bytes = named (name_of bytes) where
  named : Result (List ℕ) NameError → Result (List ℕ) FolderError
  named (Ok name) = Ok name
  named (Err e) = Err (name_failure e)

abbrev pub Told : Type 0
Told = Result (Option (List ℕ)) FolderError

-- the names that the entries tell, in their order, where none tells a fault
abbrev pub names_told : List Told → Option (List (List ℕ))
names_told [] = Some []
names_told (Err e ∷ told) = None
names_told (Ok None ∷ told) = names_told told
names_told (Ok (Some name) ∷ told) = option_map (λ names. name ∷ names) (names_told told)

-- The iterator told these names and no fault, and then ended.
abbrev pub TellsNames : {S : Type 0} → (S → Option Told → S → Type 0) → S → List (List ℕ) → Type 0
TellsNames steps s names = (told : List Told) × Drains steps s told × (names_told told ≡ Some names)

-- The iterator told names, and then a fault.
abbrev pub TellsFault : {S : Type 0} → (S → Option Told → S → Type 0) → S → Type 0
TellsFault {S} steps s = (told : List Told) × (u : S) × YieldsThen steps s told (Some (Err errors.Failed)) u × IsSome (names_told told)
