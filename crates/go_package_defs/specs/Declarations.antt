-- The declarations of the package block, as they are judged (Go specification: Constant declarations, Type declarations,
-- Variable declarations, Function declarations).
use Rattle.std.specs.Prelude.{ℕ, suc, ◌==◌, Bool, ◌&&◌, List, [], ◌∷◌, ◌++◌, length, Option, Some, None}
use Rattle.go_grammar.specs.declared.kind.Kind.TheVariants as kind
use Rattle.go_grammar.specs.declared.kind.Sort.{Sort}
use Rattle.go_grammar.specs.Trees.{Tree, node, Trees, none, more, skip, first}
use Rattle.go_tree.specs.declared.context.Entity.{Entity}
use Rattle.go_tree.specs.declared.context.Entity.TheVariants as entity
use Rattle.go_tree.specs.Contexts.{entity_of}
use Rattle.go_tree.specs.Declarations.{is_variable}
use Rattle.go_stmts_defs.specs.Reading.{part_source}

-- A specification, or a function: what it declares, in which file, and from which token up to which; the number of the
-- specification in its group; the tokens of its names; its type, the right side of a type, or the signature of a function; and
-- its values. A specification of constants without values has those that it repeats, where they are written.
pub record Specification : Type 0 where
  pub entity : Entity
  pub file : ℕ
  pub first : ℕ
  pub last : ℕ
  pub iota : ℕ
  pub names : List ℕ
  pub type_tree : Option Tree
  pub values : List Tree
  -- the node itself
  pub tree : Option Tree

abbrev pub trees_of : Trees → List Tree
trees_of none = []
trees_of (more p ps) = p ∷ trees_of ps
trees_of (skip ps) = trees_of ps

abbrev pub first_tokens : Trees → List ℕ
first_tokens none = []
first_tokens (more p ps) = first p ∷ first_tokens ps
first_tokens (skip ps) = first_tokens ps

abbrev pub name_tokens : Trees → List ℕ
name_tokens (more (node k i j ns) ps) = first_tokens ns
name_tokens ps = []

abbrev pub listed_values : Trees → List Tree
listed_values (more (node k i j xs) ps) = trees_of xs
listed_values ps = []

-- of what stands behind the names of a specification: its type
abbrev pub type_behind : Option Tree → Option Tree
type_behind (Some (node kind.Values i j ps)) = None
type_behind (Some (node kind.TypedValues i j (more t ps))) = Some t
type_behind r = r

-- and its values
abbrev pub values_behind : Option Tree → List Tree
values_behind (Some (node kind.Values i j ps)) = listed_values ps
values_behind (Some (node kind.TypedValues i j (more t ps))) = listed_values ps
values_behind r = []

abbrev pub first_part : Trees → Option Tree
first_part (more p ps) = Some p
first_part ps = None

-- the file has the number n, and the specification the number k in its group
abbrev pub named_specification : ℕ → Entity → ℕ → Tree → ℕ → ℕ → Trees → Option Tree → Specification
named_specification n e k t i j ps r = record { entity = e; file = n; first = i; last = j; iota = k; names = name_tokens ps; type_tree = type_behind r; values = values_behind r; tree = Some t }

abbrev pub type_specification : ℕ → Tree → ℕ → ℕ → Trees → Specification
type_specification n t i j ps = record { entity = entity.Type; file = n; first = i; last = j; iota = 0; names = i ∷ []; type_tree = first_part ps; values = []; tree = Some t }

abbrev pub specification_by : ℕ → Entity → ℕ → Option Tree → Tree → ℕ → ℕ → Trees → Specification
specification_by n entity.Type k r t i j ps = type_specification n t i j ps
specification_by n e k r t i j ps = named_specification n e k t i j ps (part_source ps r)

abbrev pub specification_of : ℕ → Sort → ℕ → Option Tree → Tree → Specification
specification_of n s k r (node l i j ps) = specification_by n (entity_of s) k r (node l i j ps) i j ps

abbrev pub source_behind : Option Tree → Tree → Option Tree
source_behind r (node k i j ps) = part_source ps r

-- The specifications of a group from the number k on. The argument r is the type and the values that one without any repeats.
abbrev pub grouped : ℕ → Sort → ℕ → Option Tree → Trees → List Specification
grouped n s k r none = []
grouped n s k r (more p ps) = specification_of n s k r p ∷ grouped n s (suc k) (source_behind r p) ps
grouped n s k r (skip ps) = grouped n s k r ps

abbrev pub declared : ℕ → Sort → Trees → List Specification
declared n s (more (node (kind.Group g) i j ps) none) = grouped n s 0 None ps
declared n s ps = grouped n s 0 None ps

abbrev pub function : ℕ → Tree → ℕ → ℕ → Trees → Specification
function n t i j ps = record { entity = entity.Function; file = n; first = i; last = j; iota = 0; names = suc i ∷ []; type_tree = first_part ps; values = []; tree = Some t }

abbrev pub declaration : ℕ → Tree → List Specification
declaration n (node (kind.Declaration s) i j ps) = declared n s ps
declaration n (node kind.FunctionDeclaration i j ps) = function n (node kind.FunctionDeclaration i j ps) i j ps ∷ []
declaration n t = []

abbrev pub declarations : ℕ → Trees → List Specification
declarations n none = []
declarations n (more p ps) = declaration n p ++ declarations n ps
declarations n (skip ps) = declarations n ps

abbrev pub in_file : ℕ → Tree → List Specification
in_file n (node k i j ps) = declarations n ps

-- ---- values and columns

-- whether the one value of a specification of variables may be a call of several results, so that it is the value of all names
abbrev pub is_alone : Specification → Bool
is_alone s = is_variable s.entity && length s.values == 1
