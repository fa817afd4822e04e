-- Which specification declares a name, and as which of its names.
use Rattle.std.specs.Prelude.{◌≡◌, ℕ, suc, ◌&&◌, if◌then◌else◌, nat_eq, List, [], ◌∷◌, Option, Some, None}
use Rattle.std.specs.HashMap.{HashMap}
use Rattle.std.specs.HashMap as hash
use Rattle.go_tree.specs.declared.object.Declared.{Declared}
use Rattle.go_scopes_lookup.specs.Tables.{same_spot}
use Rattle.go_package_defs.specs.Declarations.{Specification}
use Rattle.go_needs.specs.declared.declaring.Declaring.{Declaring}

-- the names of the specification of the number i in the file m, from the number c on, before those of others
abbrev pub over_names : ℕ → ℕ → ℕ → ℕ → ℕ → List ℕ → Option Declaring → Option Declaring
over_names i m n t c [] rest = rest
over_names i m n t c (u ∷ us) rest = if nat_eq m n && nat_eq u t then Some (record { specification = i; column = c }) else over_names i m n t (suc c) us rest

-- what declares the name at the token t of the file n, where the specifications are numbered from i on
abbrev pub declaring_from : ℕ → ℕ → ℕ → List Specification → Option Declaring
declaring_from i n t [] = None
declaring_from i n t (s ∷ ss) = over_names i s.file n t 0 s.names (declaring_from (suc i) n t ss)

abbrev pub KnowsDeclaring : {S : Type 0} → HashMap (ℕ × ℕ) Declaring S → List Specification → Type 0
KnowsDeclaring m ds = (n t : ℕ) → hash.get same_spot m (n, t) ≡ declaring_from 0 n t ds

abbrev pub declaring_by : {S : Type 0} → HashMap (ℕ × ℕ) Declaring S → Declared → Option Declaring
declaring_by m d = hash.get same_spot m (d.file, d.name)

-- what declares an object
abbrev pub declaring_in : List Specification → Declared → Option Declaring
declaring_in ds d = declaring_from 0 d.file d.name ds
