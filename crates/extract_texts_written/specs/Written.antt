-- What an extraction writes, where nothing refuses it.
use Rattle.std.specs.Prelude.{◌≡◌, ℕ, Bool, true, false, List, length, ◌++◌, Option, Some, None}
use Rattle.std.specs.List.{AllByRecursion}
use Rattle.go_constants.specs.declared.values.Const.{Const}
use Rattle.go_types.specs.Tables.{IsTable}
use Rattle.go_types.specs.Trees.{TypeTree}
use Rattle.go_typed.specs.declared.window.Window.{Window}
use Rattle.go_typed.specs.Contents.{Content, content}
use Rattle.go_typed.specs.Packages.{PackageView}
use Rattle.go_package_defs.specs.Checked.{IsCheckedPackage}
use Rattle.clone_window.specs.Sameness.{all_locals, is_same}
use Rattle.go_print_laws.specs.Calls.{CallCanBeWritten}
use Rattle.go_print_laws.specs.Headers.{HeaderCanBeWritten}
use Rattle.go_print_laws.specs.Lexemes.{AreNames}
use Rattle.go_print_laws.specs.Literals.{CanBeSpelled}
use Rattle.param_choose.specs.Choosing.{Choice, choice}
use Rattle.param_choose.specs.Holes.{holes, hole_value}
use Rattle.param_choose.specs.Locals.{has, is_array}
use Rattle.param_choose.specs.Members.{Member, members_of, template_of}
use Rattle.escape_check.specs.Places.{sources_of}
use Rattle.escape_check.specs.Refusals.{refused}
use Rattle.escape_check.specs.Types.{declared_text}
use Rattle.extract_texts.specs.Fresh.{fresh_names}
use Rattle.extract_texts.specs.Texts.{call_of, header_of, variable_names}

-- ---- what is asked

-- Each window has statements that are the same as those of the template, where a test tells identical types.
abbrev pub AreSame : (TypeTree → TypeTree → Bool) → Member TypeTree → List (Member TypeTree) → Type 0
AreSame identical t ms = AllByRecursion (λ m. is_same identical t.locals m.locals t.statements m.statements ≡ true) ms

-- Windows of a package that type-checks, of which the first is the template, are the same, and no code from 3 to 16 applies to them under
-- this name.
pub record IsAllowed (identical : TypeTree → TypeTree → Bool) (p : PackageView) (name : List ℕ) (ws : List Window) (t : Member TypeTree) : Type 0 where
  pub checked : IsCheckedPackage p
  pub table : IsTable p.types
  pub template : template_of (content p) ws ≡ Some t
  pub same : AreSame identical t (members_of (content p) ws)
  pub allowed : refused (content p) name ws ≡ None

-- Free locals of the template, and declared results, are named by nodes of its statements, outside holes.
abbrev pub LocalsAreNamed : Member TypeTree → Choice TypeTree → Type 0
LocalsAreNamed t h = AllByRecursion (λ v. has (all_locals false t.statements) v.local ≡ true) (h.free ++ h.declared)

-- A constant is one that the program holds: a number of at most 64 digits, or a text of bytes.
abbrev pub ValueCanBeSpelled : Option Const → Type 0
ValueCanBeSpelled None = Unit {0}
ValueCanBeSpelled (Some v) = CanBeSpelled v

-- the holes of a window stand for such constants
abbrev pub HolesCanBeSpelled : Member TypeTree → Type 0
HolesCanBeSpelled m = AllByRecursion (λ h. ValueCanBeSpelled (hole_value h)) (holes m)

-- ---- what is written

abbrev pub chosen : Content → List Window → Member TypeTree → Choice TypeTree
chosen c ws t = choice (is_array c.rights) (members_of c ws) t

-- the call at each window
abbrev pub CallsCanBeWritten : Content → List ℕ → List Window → Member TypeTree → Type 0
CallsCanBeWritten c name ws t =
    AllByRecursion (λ m. CallCanBeWritten (declared_text (sources_of c)) (call_of (λ x. x) (sources_of c) name t (chosen c ws t) m)) (members_of c ws)

-- the names of the holes that are parameters
abbrev pub chosen_names : Content → List ℕ → List Window → Member TypeTree → List (List ℕ)
chosen_names c name ws t = fresh_names (sources_of c) name (length (chosen c ws t).holes)

-- the header of the new function, and the names that it returns
pub record FunctionCanBeWritten (c : Content) (name : List ℕ) (ws : List Window) (t : Member TypeTree) : Type 0 where
  pub header : HeaderCanBeWritten (declared_text (sources_of c)) (header_of (λ x. x) (sources_of c) name (chosen_names c name ws t) t (chosen c ws t))
  pub returned : AreNames (variable_names (sources_of c) t ((chosen c ws t).assigned ++ (chosen c ws t).declared))
  -- the names of its parameters for holes
  pub fresh : AreNames (chosen_names c name ws t)

-- The header of the new function and its return can be written.
abbrev pub FunctionsCanBeWritten : Type 0
FunctionsCanBeWritten = (identical : TypeTree → TypeTree → Bool) (p : PackageView) (name : List ℕ) (ws : List Window) (t : Member TypeTree)
    → IsAllowed identical p name ws t → FunctionCanBeWritten (content p) name ws t

-- So can the calls.
abbrev pub AllCallsCanBeWritten : Type 0
AllCallsCanBeWritten = (identical : TypeTree → TypeTree → Bool) (p : PackageView) (name : List ℕ) (ws : List Window) (t : Member TypeTree)
    → IsAllowed identical p name ws t → LocalsAreNamed t (chosen (content p) ws t) → AllByRecursion HolesCanBeSpelled (members_of (content p) ws) → CallsCanBeWritten (content p) name ws t
