-- The functions of a package with their types, and what is reported of their bodies.
use Rattle.std.specs.Prelude.{ℕ, zero, suc, ◌+◌, ◌-◌, Bool, true, false, if◌then◌else◌, List, [], ◌∷◌, ◌++◌, length, map, replicate, Option, Some, None, Result, Ok, Err, slice_get}
use Rattle.std.specs.Str.{chars}
use Rattle.go_base.specs.Gives.{◌>>=◌}
use Rattle.go_base.specs.declared.fault.FaultCode.TheVariants as code
use Rattle.go_grammar.specs.Trees.{Tree, last}
use Rattle.go_tree.specs.declared.context.Entity.{Entity}
use Rattle.go_tree.specs.declared.context.Entity.TheVariants as entity
use Rattle.go_tree.specs.declared.object.Declared.{Declared}
use Rattle.go_tree.specs.declared.object.Object.{Object}
use Rattle.go_tree.specs.declared.object.Object.TheVariants as object
use Rattle.go_tree.specs.Failures.{Failure}
use Rattle.go_tree.specs.Uses.{object_of, object_there}
use Rattle.go_types.specs.Relations.{Rights}
use Rattle.go_typed.specs.declared.form.Referent.{Referent}
use Rattle.go_typed.specs.Contents.{FuncContent}
use Rattle.go_typed.specs.Trees as sort
use Rattle.go_exprs_rules.specs.declared.fault.TypeFault.{TypeFault}
use Rattle.go_exprs_rules.specs.Faults.{judged, reported}
use Rattle.go_exprs_rules.specs.Scopes.{Needed, in_full, Scope, free}
use Rattle.go_exprs_rules.specs.Settling.{Part}
use Rattle.go_exprs_rules.specs.Sorts.{Stands}
use Rattle.go_stmts_defs.specs.Bodies.{based, start, signature_of, function_read}
use Rattle.go_stmts_defs.specs.Reading.{Reading, read, reading}
use Rattle.go_package_defs.specs.Declarations.{Specification}
use Rattle.go_package_defs.specs.Sources.{Package, text_at}
use Rattle.go_package_defs.specs.Knowledge.{is_type, referent_there}
use Rattle.go_package_defs.specs.Answer.{failure_at}

-- ---- a declaration by itself

-- What a declaration is by itself: what its tokens say and mean, and the tree over them, which counts them from the first one. A
-- local is one of its own function.
pub record Portion : Type 0 where
  pub texts : List (List ℕ)
  pub objects : List (Option Object)
  pub tree : Option Tree

-- the function of a local isn't said
abbrev pub own_object : Option Object → Option Object
own_object (Some (object.Local f n)) = Some (object.Local 0 n)
own_object o = o

abbrev pub texts_from : Package → ℕ → ℕ → ℕ → List (List ℕ)
texts_from p n t zero = []
texts_from p n t (suc k) = text_at p n t ∷ texts_from p n (suc t) k

abbrev pub objects_from : Package → ℕ → ℕ → ℕ → List (Option Object)
objects_from p n t zero = []
objects_from p n t (suc k) = own_object (object_of p.uses n t) ∷ objects_from p n (suc t) k

abbrev pub based_tree : ℕ → Option Tree → Option Tree
based_tree b (Some t) = Some (based b t)
based_tree b None = None

abbrev pub portion_of : Package → Specification → Portion
portion_of p d = record { texts = texts_from p d.file d.first (d.last - d.first); objects = objects_from p d.file d.first (d.last - d.first); tree = based_tree d.first d.tree }

-- what surrounds all bodies: what the objects of the package stand for, and their numbers by sort
pub record Surroundings : Type 0 where
  pub objects : List Stands
  pub referents : List Referent

abbrev pub stands_there : Option Stands → Stands
stands_there (Some x) = x
stands_there None = sort.Unknown

abbrev pub stands_among : List Stands → Needed → Object → Stands
stands_among xs need (object.Package n) = stands_there (slice_get xs n)
stands_among xs need o = sort.Unknown

abbrev pub text_there : Option (List ℕ) → List ℕ
text_there (Some w) = w
text_there None = []

abbrev pub scope_of : Surroundings → Rights → Portion → Scope
scope_of a rights d = record {
  rights = rights;
  iota = 0;
  texts = λ t. text_there (slice_get d.texts t);
  characters = λ t. chars (text_there (slice_get d.texts t));
  objects = λ t. object_there (slice_get d.objects t);
  sorts = stands_among a.objects;
  referents = λ n. referent_there (slice_get a.referents n);
  needed = in_full;
  limits = true;
}

-- ---- local types

-- of each local whether it is a type
abbrev pub which_types : List Declared → List Bool
which_types ds = map (λ d. is_type d.entity) ds

abbrev pub count_types : List Bool → ℕ
count_types [] = 0
count_types (true ∷ bs) = suc (count_types bs)
count_types (false ∷ bs) = count_types bs

-- the number of the declared type that a local is, where m is the number of the first one
abbrev pub local_type : ℕ → List Bool → ℕ → ℕ
local_type m [] n = m
local_type m (b ∷ bs) zero = m
local_type m (true ∷ bs) (suc n) = local_type (suc m) bs n
local_type m (false ∷ bs) (suc n) = local_type m bs n

-- ---- functions

-- a function with its types, and the right sides behind it
pub record Behind : Type 0 where
  pub function : FuncContent
  pub rights : Rights

abbrev pub behind_read : Scope → ℕ → Tree → Reading → Result Behind TypeFault
behind_read s number t (read x fs f) = judged (reported fs) (record { function = function_read s number (last t) (signature_of s t) x f; rights = f.around.rights })

abbrev pub function_in : Scope → ℕ → ℕ → (ℕ → ℕ) → Tree → Result Behind TypeFault
function_in s number count types t = behind_read s number t (reading (start s count types) free t)

-- The function of this number, of whose locals some are types, behind these right sides: its own types come behind them.
abbrev pub function_over : Surroundings → Rights → ℕ → List Bool → Portion → Tree → Result Behind TypeFault
function_over a rights number bs o t = function_in (scope_of a (rights ++ replicate (count_types bs) None) o) number (length bs) (local_type (length rights) bs) t

-- a function has a tree
abbrev pub function_with : Surroundings → Rights → ℕ → List Bool → Portion → Option Tree → Result Behind TypeFault
function_with a rights number bs o (Some t) = function_over a rights number bs o t
function_with a rights number bs o None = Err (record { code = code.Syntax; first = 0; last = 0 })

-- What a function is with its types follows from what it is by itself, and from what surrounds it.
abbrev pub function_of : Surroundings → Rights → ℕ → List Bool → Portion → Result Behind TypeFault
function_of a rights number bs o = function_with a rights number bs o o.tree

abbrev pub moved_fault : ℕ → TypeFault → TypeFault
moved_fault b f = record { code = f.code; first = b + f.first; last = b + f.last }

-- a fault of a declaration, in its file
abbrev pub placed : {A : Type 0} → Package → Specification → Result A TypeFault → Result A Failure
placed p d (Ok x) = Ok x
placed p d (Err f) = Err (failure_at p d.file (moved_fault d.first f))

-- the functions of a package, and all right sides
pub record Functions : Type 0 where
  pub functions : List FuncContent
  pub rights : Rights

abbrev pub with_function : FuncContent → Functions → Functions
with_function f fs = record { functions = f ∷ fs.functions; rights = fs.rights }

abbrev pub locals_there : Option (List Declared) → List Declared
locals_there (Some ds) = ds
locals_there None = []

-- of the locals of a function, which are types
abbrev pub types_in : Package → ℕ → List Bool
types_in p number = which_types (locals_there (slice_get p.uses.locals number))

abbrev pub typed_function : Package → Surroundings → Rights → ℕ → Specification → Result Behind TypeFault
typed_function p a rights number d = function_of a rights number (types_in p number) (portion_of p d)

-- The functions from the number n on, by file and place; the first one with a fault decides.
abbrev pub functions_from : Package → Surroundings → Rights → ℕ → List Specification → Result Functions Failure
functions_from p a rights n [] = Ok (record { functions = []; rights = rights })
functions_from p a rights n (d ∷ ds) = placed p d (typed_function p a rights n d) >>= λ b. functions_from p a b.rights (suc n) ds >>= λ fs. Ok (with_function b.function fs)

-- ---- variables

abbrev pub is_this : Entity → Entity → Bool
is_this entity.Function entity.Function = true
is_this entity.Variable entity.Variable = true
is_this e f = false

abbrev pub those_of : Entity → List Specification → List Specification
those_of e [] = []
those_of e (d ∷ ds) = if is_this e d.entity then d ∷ those_of e ds else those_of e ds

abbrev pub tree_read : Reading → Part
tree_read (read x fs f) = x

-- the typed tree of a specification of variables
abbrev pub variables_by : Scope → Option Tree → List Part
variables_by s None = []
variables_by s (Some t) = tree_read (reading (start s 0 (λ n. n)) free t) ∷ []

abbrev pub variable_of : Surroundings → Rights → Portion → List Part
variable_of a rights o = variables_by (scope_of a rights o) o.tree

abbrev pub variables_of : Package → Surroundings → Rights → List Specification → List Part
variables_of p a rights [] = []
variables_of p a rights (d ∷ ds) = variable_of a rights (portion_of p d) ++ variables_of p a rights ds
