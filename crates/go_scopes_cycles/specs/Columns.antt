-- Declarations of one name have one specification, and one column in it.
use Rattle.std.specs.Prelude.{◌≡◌, ℕ, ◌⊎◌, Bool, true, false, ◌&&◌, nat_eq, List, [], ◌∷◌, Option, Some, None}
use Rattle.std.specs.HashMap.{HashMap}
use Rattle.std.specs.HashMap as hash
use Rattle.go_tree.specs.Declarations.{Found}
use Rattle.go_tree.specs.Lookups.{Asked}
use Rattle.go_tree.specs.Needs.{is_same}
use Rattle.go_scopes_lookup.specs.Tables.{same_spot}
use Rattle.go_scopes_cycles.specs.Needs.{source_of}
use Rattle.go_scopes_cycles.specs.declared.columns.Column.{Column}

-- A name calls for the declaration.
abbrev pub IsSource : Found → List Asked → Type 0
IsSource d [] = ⊥
IsSource d (a ∷ asks) = (source_of a.meaning ≡ Some d) ⊎ IsSource d asks

-- Where names call for declarations of one name, these have one specification and one column.
pub record AreAlike (asks : List Asked) : Type 0 where
  pub specification : (d e : Found) → IsSource d asks → IsSource e asks → is_same d e ≡ true → d.it.source ≡ e.it.source
  pub column : (d e : Found) → IsSource d asks → IsSource e asks → is_same d e ≡ true → d.it.column ≡ e.it.column

abbrev pub same_source : Option ℕ → Option ℕ → Bool
same_source None None = true
same_source (Some m) (Some n) = nat_eq m n
same_source m n = false

-- whether this is the column of the declaration
abbrev pub is_column : Option Column → Found → Bool
is_column None d = false
is_column (Some c) d = same_source c.specification d.it.source && nat_eq c.number d.it.column

abbrev pub is_listed : {S : Type 0} → HashMap (ℕ × ℕ) Column S → Found → Bool
is_listed m d = is_column (hash.get same_spot m (d.file, d.it.name)) d

abbrev pub is_source_listed : {S : Type 0} → HashMap (ℕ × ℕ) Column S → Option Found → Bool
is_source_listed m None = true
is_source_listed m (Some d) = is_listed m d

-- whether all declarations that names call for have the columns of the table
abbrev pub are_listed : {S : Type 0} → HashMap (ℕ × ℕ) Column S → List Asked → Bool
are_listed m [] = true
are_listed m (a ∷ asks) = is_source_listed m (source_of a.meaning) && are_listed m asks
