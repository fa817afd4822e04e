-- Packages that type-check as contracts see them, and what every one of them meets.
use Rattle.std.specs.Prelude.{◌≡◌, ℕ, suc, Bool, true, false, ◌&&◌, nat_eq, nat_lt, List, [], ◌∷◌, length, Option, Some, None}
use Rattle.std.specs.List.{list_all}
use Rattle.go_tree.specs.File.{FileTree}
use Rattle.go_tree.specs.Uses.{UsesView}
use Rattle.go_tree.specs.declared.context.Entity.{Entity}
use Rattle.go_tree.specs.declared.context.Entity.TheVariants as entity
use Rattle.go_tree.specs.declared.object.Declared.{Declared}
use Rattle.go_types.specs.Tables.{Table}
use Rattle.go_typed.specs.declared.form.Form.{Form}
use Rattle.go_typed.specs.declared.form.Form.TheVariants as form
use Rattle.go_typed.specs.declared.form.Referent.{Referent}
use Rattle.go_typed.specs.declared.form.Referent.TheVariants as referent
use Rattle.go_typed.specs.declared.origin.Origin.{Origin}
use Rattle.go_typed.specs.declared.node.TypedNode.{TypedNode}
use Rattle.go_typed.specs.Funcs.{FuncView, tree_of}
use Rattle.go_typed.specs.Scopes.{EnvView}
use Rattle.go_typed.specs.Trees.{Typed, sort_has, every, every_form}
use Rattle.go_typed.specs.Views.{view}

-- The files with their names; what names mean; the types, and where each declared one stands; what the objects of the package
-- stand for; the specifications of its variables, and its functions.
pub record PackageView : Type 0 where
  pub names : List (List ℕ)
  pub files : List FileTree
  pub uses : UsesView
  pub types : Table
  pub origins : List Origin
  pub env : EnvView
  pub variables : List TypedNode
  pub functions : List FuncView

-- ---- objects, each sort counted by itself

-- how many objects of each sort there were
pub record Counts : Type 0 where
  pub constants : ℕ
  pub types : ℕ
  pub variables : ℕ
  pub functions : ℕ

abbrev pub no_counts : Counts
no_counts = record { constants = 0; types = 0; variables = 0; functions = 0 }

abbrev pub referent_of : Counts → Entity → Referent
referent_of c entity.Constant = referent.Constant c.constants
referent_of c entity.Type = referent.Type c.types
referent_of c entity.Variable = referent.Variable c.variables
referent_of c entity.Parameter = referent.Variable c.variables
referent_of c entity.Function = referent.Function c.functions

abbrev pub counted : Counts → Entity → Counts
counted c entity.Constant = record c { constants = suc c.constants }
counted c entity.Type = record c { types = suc c.types }
counted c entity.Variable = record c { variables = suc c.variables }
counted c entity.Parameter = record c { variables = suc c.variables }
counted c entity.Function = record c { functions = suc c.functions }

-- the numbers of objects, when so many were counted
abbrev pub referents_from : Counts → List Declared → List Referent
referents_from c [] = []
referents_from c (d ∷ ds) = referent_of c d.entity ∷ referents_from (counted c d.entity) ds

abbrev pub referents : List Declared → List Referent
referents ds = referents_from no_counts ds

abbrev pub counts_from : Counts → List Declared → Counts
counts_from c [] = c
counts_from c (d ∷ ds) = counts_from (counted c d.entity) ds

-- whether there is such an object
abbrev pub exists_in : Counts → Referent → Bool
exists_in c (referent.Constant n) = nat_lt n c.constants
exists_in c (referent.Type n) = nat_lt n c.types
exists_in c (referent.Variable n) = nat_lt n c.variables
exists_in c (referent.Function n) = nat_lt n c.functions
exists_in c r = true

abbrev pub refers_to : Counts → Form → Bool
refers_to c (form.Object r) = exists_in c r
refers_to c f = true

-- ---- numbers in range

abbrev pub is_below : ℕ → ℕ → Bool
is_below n t = nat_lt t n

abbrev pub is_known_tree : Counts → ℕ → Typed ℕ → Bool
is_known_tree c n x = every (is_below n) x && every_form (refers_to c) x

abbrev pub is_known_func : Counts → ℕ → FuncView → Bool
is_known_func c n f = nat_lt f.signature n && list_all (sort_has (is_below n)) f.locals && is_known_tree c n (tree_of f)

-- whether the numbers of functions are their places, from n on
abbrev pub are_numbered : ℕ → List FuncView → Bool
are_numbered n [] = true
are_numbered n (f ∷ fs) = nat_eq f.number n && are_numbered (suc n) fs

-- whether each function has as many locals as are declared in it
abbrev pub have_locals : List FuncView → List (List Declared) → Bool
have_locals [] [] = true
have_locals (f ∷ fs) (ds ∷ dss) = nat_eq (length f.locals) (length ds) && have_locals fs dss
have_locals fs dss = false

abbrev pub is_there : Option ℕ → Bool
is_there None = false
is_there (Some n) = true

-- how many objects of each sort a package has
abbrev pub counts : PackageView → Counts
counts p = counts_from no_counts p.uses.package_level

-- What every package meets that type-checks. Each declared type has a right side and a place where it stands. Objects have their
-- numbers by sort. Functions have their places as numbers, and the locals that are declared in them. All types are in the table,
-- and all objects that trees name are there.
pub record IsPackage (p : PackageView) : Type 0 where
  pub names : length p.names ≡ length p.files
  pub files : length p.files ≡ length p.uses.objects
  pub defined : list_all is_there p.types.rights ≡ true
  pub origins : length p.origins ≡ length p.types.rights
  pub objects : length p.env.objects ≡ length p.uses.package_level
  pub referents : p.env.referents ≡ referents p.uses.package_level
  pub known_objects : list_all (sort_has (is_below (length p.types.shapes))) p.env.objects ≡ true
  pub known_variables : list_all (λ n. is_known_tree (counts p) (length p.types.shapes) (view n)) p.variables ≡ true
  pub known_functions : list_all (is_known_func (counts p) (length p.types.shapes)) p.functions ≡ true
  pub numbers : are_numbered 0 p.functions ≡ true
  pub locals : have_locals p.functions p.uses.locals ≡ true

-- an object, but of a function not its number
abbrev pub without_function : Referent → Referent
without_function (referent.Function n) = referent.Function 0
without_function r = r
