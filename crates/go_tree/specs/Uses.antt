-- What the names of a package mean, for each token, with the objects that they name.
use Rattle.std.specs.Prelude.{ℕ, ◌≡◌, suc, Bool, true, false, ◌&&◌, ◌||◌, if◌then◌else◌, nat_eq, nat_le, nat_lt, List, [], ◌∷◌, length, Option, Some, None, is_some, slice_get}
use Rattle.go_tree.specs.declared.context.Block.{Block}
use Rattle.go_tree.specs.declared.context.Block.TheVariants as block
use Rattle.go_tree.specs.declared.object.Object.{Object}
use Rattle.go_tree.specs.declared.object.Object.TheVariants as object
use Rattle.go_tree.specs.declared.object.Declared.{Declared}
use Rattle.go_tree.specs.Contexts.{is_package}
use Rattle.go_tree.specs.Units.{Unit}
use Rattle.go_tree.specs.Declarations.{Found, declarations, is_function}
use Rattle.go_tree.specs.Objects.{objects}

-- Of each file, the objects of its tokens; the objects of the package; and the locals of each function. So object.Package n is
-- the n-th of the package's objects, and object.Local f n the n-th of the locals of the f-th function.
pub record UsesView : Type 0 where
  pub objects : List (List (Option Object))
  pub package_level : List Declared
  pub locals : List (List Declared)

abbrev pub declared_by : Found → Declared
declared_by d = record { file = d.file; name = d.it.name; entity = d.it.entity; block = d.it.block; scope = d.it.scope }

-- the declarations of the package block, in order
abbrev pub declared_in_package : List Found → List Declared
declared_in_package [] = []
declared_in_package (d ∷ ds) = if is_package d.it.block then declared_by d ∷ declared_in_package ds else declared_in_package ds

-- whether it declares a function
abbrev pub begins_function : Found → Bool
begins_function d = is_package d.it.block && is_function d.it.entity

-- the local declarations in front of the next function, in order
abbrev pub own_locals : List Found → List Declared
own_locals [] = []
own_locals (d ∷ ds) = if begins_function d then [] else if is_package d.it.block then own_locals ds else declared_by d ∷ own_locals ds

-- the locals of each function: those behind its declaration
abbrev pub function_locals : List Found → List (List Declared)
function_locals [] = []
function_locals (d ∷ ds) = if begins_function d then own_locals ds ∷ function_locals ds else function_locals ds

abbrev pub uses_by : List (List (Option Object)) → List Found → UsesView
uses_by os ds = record { objects = os; package_level = declared_in_package ds; locals = function_locals ds }

abbrev pub uses : List Unit → UsesView
uses us = uses_by (objects us) (declarations us)

-- the object of a token of a file
abbrev pub object_there : Option (Option Object) → Option Object
object_there None = None
object_there (Some o) = o

abbrev pub object_in : Option (List (Option Object)) → ℕ → Option Object
object_in None t = None
object_in (Some os) t = object_there (slice_get os t)

abbrev pub object_of : UsesView → ℕ → ℕ → Option Object
object_of u n t = object_in (slice_get u.objects n) t

-- a local of a function
abbrev pub local_in : Option (List Declared) → ℕ → Option Declared
local_in None n = None
local_in (Some ds) n = slice_get ds n

abbrev pub local_of : UsesView → ℕ → ℕ → Option Declared
local_of u f n = local_in (slice_get u.locals f) n

-- where an object is declared
abbrev pub declared_as : UsesView → Object → Option Declared
declared_as u (object.Package n) = slice_get u.package_level n
declared_as u (object.Local f n) = local_of u f n
declared_as u o = None

-- whether the package declares it
abbrev pub has_declaration : Object → Bool
has_declaration (object.Package n) = true
has_declaration (object.Local f n) = true
has_declaration o = false

-- how many of them are functions
abbrev pub count_functions : List Declared → ℕ
count_functions [] = 0
count_functions (d ∷ ds) = if is_function d.entity then suc (count_functions ds) else count_functions ds

-- whether the second stands behind the first, by file and token
abbrev pub is_behind : Declared → Declared → Bool
is_behind a b = nat_lt a.file b.file || (nat_eq a.file b.file && nat_lt a.name b.name)

abbrev pub are_behind : Declared → List Declared → Bool
are_behind a [] = true
are_behind a (d ∷ ds) = is_behind a d && are_behind a ds

-- whether each stands behind the earlier ones
abbrev pub are_in_order : List Declared → Bool
are_in_order [] = true
are_in_order (d ∷ ds) = are_behind d ds && are_in_order ds

-- whether a token of a file is the name of a local or stands in its scope
abbrev pub is_within : Declared → ℕ → ℕ → Bool
is_within d n t = nat_eq d.file n && (nat_eq d.name t || (nat_le d.scope.from t && nat_lt t d.scope.to))

-- the same of an object of the package, where any token will do
abbrev pub may_mean : Block → Declared → ℕ → ℕ → Bool
may_mean block.Package d n t = true
may_mean (block.Local i) d n t = is_within d n t

-- the functions among declarations, in order
abbrev pub functions_among : List Declared → List Declared
functions_among [] = []
functions_among (d ∷ ds) = if is_function d.entity then d ∷ functions_among ds else functions_among ds

-- whether a local stands inside a function, with its scope
abbrev pub lies_in : Declared → Declared → Bool
lies_in g d = nat_eq g.file d.file && nat_le g.scope.from d.name && nat_lt d.name g.scope.to && nat_le d.scope.to g.scope.to

-- What every answer meets. The object of a token that the package declares has a declaration under its number; the token that
-- declares an object has that object, so that no other object has this declaration. Objects of the package, and the locals of a
-- function, are numbered in the order of files and places. A local is meant at its name and in its scope alone, which lie
-- inside its function. Each function has its locals.
pub record IsComplete (u : UsesView) : Type 0 where
  pub declared : (n t : ℕ) (o : Object) → object_of u n t ≡ Some o → is_some (declared_as u o) ≡ has_declaration o
  pub own : (o : Object) (d : Declared) → declared_as u o ≡ Some d → object_of u d.file d.name ≡ Some o
  pub scope : (n t : ℕ) (o : Object) (d : Declared) → object_of u n t ≡ Some o → declared_as u o ≡ Some d → may_mean d.block d n t ≡ true
  pub order : are_in_order u.package_level ≡ true
  pub local_order : (f : ℕ) (ds : List Declared) → slice_get u.locals f ≡ Some ds → are_in_order ds ≡ true
  pub package_block : (n : ℕ) (d : Declared) → slice_get u.package_level n ≡ Some d → is_package d.block ≡ true
  pub local_block : (f n : ℕ) (d : Declared) → local_of u f n ≡ Some d → is_package d.block ≡ false
  pub inside : (f n : ℕ) (g d : Declared) → slice_get (functions_among u.package_level) f ≡ Some g → local_of u f n ≡ Some d → lies_in g d ≡ true
  pub functions : length u.locals ≡ count_functions u.package_level
