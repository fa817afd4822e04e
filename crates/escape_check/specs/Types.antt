-- Refusals for types: what the written types of parameters and results name, and what names mean at a site.
use Rattle.std.specs.Prelude.{ℕ, ◌+◌, Bool, true, false, ◌&&◌, ◌||◌, not, nat_eq, List, [], ◌∷◌, ◌++◌, map, filter, Option, Some, None, slice_get, codes}
use Rattle.std.specs.List.{list_any}
use Rattle.std.specs.Option.{option_map}
use Rattle.go_constants.specs.declared.values.Const.{Const}
use Rattle.go_constants.specs.declared.values.Const.TheVariants as const
use Rattle.go_tokens.specs.Spellings.{same_text}
use Rattle.go_tree.specs.declared.object.Object.{Object}
use Rattle.go_tree.specs.declared.object.Object.TheVariants as object
use Rattle.go_tree.specs.Meanings.{meanings}
use Rattle.go_tree.specs.Objects.{object_at}
use Rattle.go_tree.specs.Uses.{declared_as}
use Rattle.go_types.specs.Trees.{TypeTree, TypeRow, boolean, text, integer, array, slice, structure, function, declared, none, more}
use Rattle.go_print.specs.Names as print
use Rattle.go_print.specs.Texts.{kind_text}
use Rattle.go_print.specs.Literals.{boolean_text}
use Rattle.go_scopes.specs.Resolve.{units_of}
use Rattle.param_choose.specs.Members.{Member, occurs_later}
use Rattle.param_choose.specs.Locals.{Variable, variable_at}
use Rattle.param_choose.specs.Holes.{Hole, holes, hole_value}
use Rattle.param_choose.specs.Choosing.{Choice, HoleParameter}
use Rattle.escape_check.specs.Places.{Sources, Place, file_of, place_if, window_place, name_text, local_text}
use Rattle.escape_check.specs.Lookups.{locals_at}

-- ---- the names in a written type

-- a name, and the declared type that it has to mean; none of a predeclared one
pub record TypeName : Type 0 where
  pub name : List ℕ
  pub type : Option ℕ

abbrev pub universal : List ℕ → List TypeName
universal w = record { name = w; type = None } ∷ []

abbrev mutual
  -- in order of place; names of fields aren't among them
  pub type_names : (ℕ → List ℕ) → TypeTree → List TypeName
  type_names name boolean = universal (codes "bool")
  type_names name text = universal (codes "string")
  type_names name (integer k) = universal (kind_text k)
  type_names name (array n t) = type_names name t
  type_names name (slice t) = type_names name t
  type_names name (structure ns ts) = row_names name ts
  type_names name (function ps rs) = row_names name ps ++ row_names name rs
  type_names name (declared n) = record { name = name n; type = Some n } ∷ []

  pub row_names : (ℕ → List ℕ) → TypeRow → List TypeName
  row_names name none = []
  row_names name (more t ts) = type_names name t ++ row_names name ts

abbrev pub type_object : Sources → ℕ → Option Object
type_object s n = option_map print.object_at (slice_get s.origins n)

abbrev pub object_text : Sources → Option Object → List ℕ
object_text s None = []
object_text s (Some o) = name_text s (declared_as s.uses o)

-- the name of a declared type where it is declared
abbrev pub declared_text : Sources → ℕ → List ℕ
declared_text s n = object_text s (type_object s n)

abbrev pub names_of : Sources → TypeTree → List TypeName
names_of s t = type_names (declared_text s) t

-- those of some types, where `tree` makes a type of what stands for it
abbrev pub names_of_all : {T : Type 0} → (T → TypeTree) → Sources → List T → List TypeName
names_of_all tree s [] = []
names_of_all tree s (t ∷ ts) = names_of s (tree t) ++ names_of_all tree s ts

-- ---- the types of parameters and results

abbrev pub variable_types : {T : Type 0} → List (Variable T) → List T
variable_types vs = map (λ v. v.type) vs

abbrev pub hole_types : {T : Type 0} → List (HoleParameter T) → List T
hole_types hs = map (λ h. h.type) hs

abbrev pub hole_numbers : {T : Type 0} → List (HoleParameter T) → List ℕ
hole_numbers hs = map (λ h. h.number) hs

abbrev pub parameter_types : {T : Type 0} → Choice T → List T
parameter_types h = variable_types h.free ++ hole_types h.holes

abbrev pub result_types : {T : Type 0} → Choice T → List T
result_types h = variable_types h.assigned ++ variable_types h.declared

-- the names in the written types of parameters and results
abbrev pub written_names : {T : Type 0} → (T → TypeTree) → Sources → Choice T → List TypeName
written_names tree s h = names_of_all tree s (parameter_types h ++ result_types h)

-- ---- 12: at the window's start a type's name, `true` or `false` doesn't mean what is needed, or is a declared result itself

-- the object of a name at the window's start
abbrev pub meant_there : {T : Type 0} → Sources → Member T → List ℕ → Option Object
meant_there s m w = object_at (meanings (units_of s.files)) (file_of s m) (m.first + m.from) w

-- the declared results that occur later in a member, by the numbers of the member
abbrev pub later_results : {T : Type 0} → Member T → Choice T → Member T → List ℕ
later_results t h m = filter (occurs_later m) (locals_at t m h.declared)

abbrev pub is_spelled : {T : Type 0} → Sources → Member T → List ℕ → List ℕ → Bool
is_spelled s m ns w = list_any (λ n. same_text (local_text s m n) w) ns

abbrev pub is_predeclared_object : Option Object → Bool
is_predeclared_object (Some (object.Predeclared p)) = true
is_predeclared_object o = false

abbrev pub same_object : Option Object → Option Object → Bool
same_object (Some (object.Package m)) (Some (object.Package n)) = nat_eq m n
same_object (Some (object.Local f m)) (Some (object.Local g n)) = nat_eq f g && nat_eq m n
same_object o p = false

-- whether an object is the one that a name has to mean
abbrev pub means_type : Sources → Option Object → Option ℕ → Bool
means_type s o None = is_predeclared_object o
means_type s o (Some n) = same_object o (type_object s n)

abbrev pub is_hidden : {T : Type 0} → Sources → Member T → List ℕ → TypeName → Bool
is_hidden s m ns x = is_spelled s m ns x.name || not (means_type s (meant_there s m x.name) x.type)

abbrev pub truth_in : Option Const → List TypeName
truth_in (Some (const.Bool b)) = universal (boolean_text b)
truth_in v = []

abbrev pub truth_at : {T : Type 0} → Option (Hole T) → List TypeName
truth_at None = []
truth_at (Some h) = truth_in (hole_value h)

-- `true` and `false` among the arguments of a member, which are its holes of these numbers
abbrev pub needed_truths : {T : Type 0} → List ℕ → Member T → List TypeName
needed_truths [] m = []
needed_truths (n ∷ ns) m = truth_at (slice_get (holes m) n) ++ needed_truths ns m

-- the types of those of a member's locals that are variables
abbrev pub local_types : {T : Type 0} → Member T → List ℕ → List T
local_types m [] = []
local_types m (n ∷ ns) = variable_types (variable_at m.locals n) ++ local_types m ns

-- what is written at a member's site
abbrev pub needed_names : {T : Type 0} → (T → TypeTree) → Sources → Member T → Choice T → Member T → List TypeName
needed_names tree s t h m = names_of_all tree s (local_types m (later_results t h m)) ++ needed_truths (hole_numbers h.holes) m

abbrev pub hidden_at_site : {T : Type 0} → (T → TypeTree) → Sources → Member T → Choice T → Member T → List Place
hidden_at_site tree s t h m = place_if (list_any (is_hidden s m (later_results t h m)) (needed_names tree s t h m)) (window_place s m)

-- ---- 15: the type of a parameter or result mentions a type declared in a function

abbrev pub is_local_object : Option Object → Bool
is_local_object (Some (object.Local f n)) = true
is_local_object o = false

abbrev pub is_local_number : Sources → Option ℕ → Bool
is_local_number s None = false
is_local_number s (Some n) = is_local_object (type_object s n)

abbrev pub is_local_type : Sources → TypeName → Bool
is_local_type s x = is_local_number s x.type

abbrev pub local_types_written : {T : Type 0} → (T → TypeTree) → Sources → Member T → Choice T → List Place
local_types_written tree s t h = place_if (list_any (is_local_type s) (written_names tree s h)) (window_place s t)

-- ---- 16: a universe type's name in the written type of a parameter or result is declared in the package block

abbrev pub is_declared_in_package : Sources → List ℕ → Bool
is_declared_in_package s w = list_any (λ d. same_text (name_text s (Some d)) w) s.uses.package_level

abbrev pub is_taken_name : Sources → List ℕ → Option ℕ → Bool
is_taken_name s w (Some n) = false
is_taken_name s w None = is_declared_in_package s w

abbrev pub is_taken : Sources → TypeName → Bool
is_taken s x = is_taken_name s x.name x.type

abbrev pub hidden_types_written : {T : Type 0} → (T → TypeTree) → Sources → Member T → Choice T → List Place
hidden_types_written tree s t h = place_if (list_any (is_taken s) (written_names tree s h)) (window_place s t)
