-- Declarations by name and block, and by statement: what maps and sets know of some declarations.
use Rattle.std.specs.Prelude.{◌≡◌, ℕ, Bool, true, false, ◌||◌, not, min, nat_lt, List, Option, Some, None}
use Rattle.go_tree.specs.declared.context.Entity.{Entity}
use Rattle.go_tree.specs.declared.context.Entity.TheVariants as entity
use Rattle.go_tree.specs.declared.context.Block.{Block}
use Rattle.go_tree.specs.declared.context.Block.TheVariants as block
use Rattle.go_tree.specs.Declarations.{is_reused}
use Rattle.go_tree.specs.Declarations as names
use Rattle.go_tree.specs.Redeclared.{has_clash, has_new}
use Rattle.indexmap.specs.IndexMap.{IndexMap, get}
use Rattle.indexmap.specs.IndexSet.{IndexSet, contains}
use Rattle.go_scopes_lookup.specs.declared.found.Found.{Found}
use Rattle.go_scopes_lookup.specs.declared.keys.Key.{Key}
use Rattle.go_scopes_lookup.specs.declared.keys.Statement.{Statement}
use Rattle.go_scopes_lookup.specs.contracts.keys.KeyPartialEq.TheImpl as key_eq
use Rattle.go_scopes_lookup.specs.contracts.keys.StatementPartialEq.TheImpl as statement_eq
use Rattle.go_scopes_lookup.specs.Views.{found_view}

abbrev pub same_key : Key → Key → Bool
same_key = (key_eq.ghosts).eq

-- the file and the first token of a block, if it isn't the package's
abbrev pub block_of : ℕ → Block → Option (ℕ × ℕ)
block_of n block.Package = None
block_of n (block.Local i) = Some (n, i)

-- It is the key of the declaration: its block, and its name.
pub record IsKey (d : names.Found) (k : Key) : Type 0 where
  pub block : k.block ≡ block_of d.file d.it.block
  pub name : k.name.now ≡ d.name

-- whether there is a token before that of the number n
abbrev pub is_before : ℕ → Option ℕ → Bool
is_before n None = false
is_before n (Some i) = nat_lt i n

-- the first of the token of the number n and one that may be there
abbrev pub first_of : ℕ → Option ℕ → ℕ
first_of n None = n
first_of n (Some i) = min n i

-- The map has the first token of the variables of each name and block among the declarations.
abbrev pub KnowsVariables : {S : Type 0} → IndexMap Key ℕ S → List names.Found → Type 0
KnowsVariables m xs = (d : names.Found) (k : Key) → IsKey d k → is_before d.it.statement (get same_key m k) ≡ is_reused d xs

abbrev pub is_parameter : Entity → Bool
is_parameter entity.Parameter = true
is_parameter e = false

-- Whether a name clashes with those of its block; b says whether it is a parameter. The other argument says whether the block
-- has the name, and if so whether as another entity than a parameter.
abbrev pub clashes_by : Bool → Option Bool → Bool
clashes_by b None = false
clashes_by b (Some other) = other || not b

-- The map says so of each name and block of the declarations.
abbrev pub KnowsNames : {S : Type 0} → IndexMap Key Bool S → List names.Found → Type 0
KnowsNames m xs = (d : names.Found) (k : Key) → IsKey d k → clashes_by (is_parameter d.it.entity) (get same_key m k) ≡ has_clash d xs

abbrev pub one_statement : Statement → Statement → Bool
one_statement = (statement_eq.ghosts).eq

abbrev pub statement_of : Found → Statement
statement_of d = record { file = d.file; first = d.declaration.now.statement }

-- The set has the statements that declare some of the declarations by `:=`.
abbrev pub KnowsStatements : {S : Type 0} → IndexSet Statement S → List names.Found → Type 0
KnowsStatements s xs = (d : Found) → contains one_statement s (statement_of d) ≡ has_new (found_view d) xs
