-- Names of files.
use Rattle.std.specs.Prelude.{◌≡◌, ℕ, ◌≤◌, ◌⊎◌, Bool, ◌&&◌, ◌||◌, not, nat_le, ◌==◌, nat_eq, List, ◌++◌, length, codes, All, Result, Ok, Err, Option, Some, None, if◌then◌else◌}
use Rattle.std.specs.List.{list_all, starts_with, ends_with}
use Rattle.go_base.specs.declared.name.NameError.{NameError}
use Rattle.go_base.specs.declared.name.NameError.TheVariants as errors

-- the refusal that an error of `Name::of` names
abbrev pub name_refusal : NameError → Option NameError
name_refusal errors.Form = Some errors.Form
name_refusal errors.Memory = None

-- A name has 1 to 255 bytes.
abbrev pub name_of : List ℕ → Result (List ℕ) NameError
name_of bytes = if nat_le 1 (length bytes) && nat_le (length bytes) 255 then Ok bytes else Err errors.Form

-- an ASCII letter, a digit, `_`, `-` or `.`
abbrev pub IsNameByte : ℕ → Type 0
IsNameByte b = ((65 ≤ b) × (b ≤ 90)) ⊎ ((97 ≤ b) × (b ≤ 122)) ⊎ ((48 ≤ b) × (b ≤ 57)) ⊎ (b ≡ 95) ⊎ (b ≡ 45) ⊎ (b ≡ 46)

-- the bytes end in such ones
abbrev pub EndsIn : List ℕ → List ℕ → Type 0
EndsIn bytes end = (stem : List ℕ) × (bytes ≡ stem ++ end)

-- the bytes begin with such ones
abbrev pub BeginsWith : List ℕ → List ℕ → Type 0
BeginsWith bytes start = (rest : List ℕ) × (bytes ≡ start ++ rest)

-- The name of a file of a package. Files of the folder with other names are passed over.
pub record IsGoFileName (name : List ℕ) : Type 0 where
  pub at_least : 4 ≤ length name
  pub at_most : length name ≤ 255
  pub plain : All IsNameByte name
  pub ending : EndsIn name (codes ".go")
  pub no_test : EndsIn name (codes "_test.go") → ⊥
  pub no_underscore : BeginsWith name (codes "_") → ⊥
  pub no_dot : BeginsWith name (codes ".") → ⊥

-- the same as tests
abbrev pub is_name_byte : ℕ → Bool
is_name_byte b =
    (nat_le 65 b && nat_le b 90) || ((nat_le 97 b && nat_le b 122) || ((nat_le 48 b && nat_le b 57) || (b == 95 || (b == 45 || b == 46))))

unfoldable pub is_plain_name : List ℕ → Bool
is_plain_name name = nat_le 4 (length name) && nat_le (length name) 255 && list_all is_name_byte name

unfoldable pub has_go_ending : List ℕ → Bool
has_go_ending name = ends_with nat_eq name (codes ".go") && not (ends_with nat_eq name (codes "_test.go"))

unfoldable pub has_plain_start : List ℕ → Bool
has_plain_start name = not (starts_with nat_eq name (codes "_")) && not (starts_with nat_eq name (codes "."))

unfoldable pub is_go_file_name : List ℕ → Bool
is_go_file_name name = is_plain_name name && has_go_ending name && has_plain_start name
