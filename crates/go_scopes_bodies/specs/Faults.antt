-- The rules of names that a function fails by itself.
--
-- The rules are those of a package, over what a function declares and looks up by itself. Where they fail doesn't matter here: only
-- whether they do. So a place is none.
use Rattle.std.specs.Prelude.{◌≡◌, ℕ, ◌+◌, ◌-◌, ◌≤◌, Bool, false, ◌&&◌, ◌||◌, not, nat_eq, if◌then◌else◌, List, [], ◌∷◌, ◌++◌, length, Option, Some, None, slice_get}
use Rattle.go_base.specs.declared.fault.FaultCode.TheVariants as code
use Rattle.go_tokens.specs.Spellings.{same_text}
use Rattle.go_tokens.specs.Tokens.{TokenList}
use Rattle.go_tree.specs.declared.context.Role.{Role}
use Rattle.go_tree.specs.declared.context.Role.TheVariants as role
use Rattle.go_tree.specs.declared.event.Event.{Event}
use Rattle.go_tree.specs.declared.event.Event.TheVariants as event
use Rattle.go_tree.specs.declared.event.Member.{Member}
use Rattle.go_tree.specs.declared.event.Member.TheVariants as member
use Rattle.go_tree.specs.declared.event.Use.{Use}
use Rattle.go_tree.specs.declared.object.Extent.TheVariants as extent
use Rattle.go_tree.specs.declared.object.Object.{Object}
use Rattle.go_tree.specs.Branches.{misplaced, branches, statements, limit}
use Rattle.go_tree.specs.Constants.{hidden_lists_by, hidden_lists}
use Rattle.go_tree.specs.Contexts.{is_package}
use Rattle.go_tree.specs.Declarations.{Found, found, new_among, declarations}
use Rattle.go_tree.specs.Duplicates.{same_member, second_members, second_defaults}
use Rattle.go_tree.specs.Failures.{Failure, failing, place_if, of_files}
use Rattle.go_tree.specs.Faults.{clause_faults, lookup_faults, reported}
use Rattle.go_tree.specs.Lookups.{Asked, asked_from, undeclared, outside_names, outside_members, not_called, initialisers, unused_variables, uses_import, unused_imports}
use Rattle.go_tree.specs.Meanings.{Meaning, meanings}
use Rattle.go_tree.specs.Needs.{cycles}
use Rattle.go_tree.specs.Redeclared.{second_declarations, has_import, hidden_imports, second_imports, none_new}
use Rattle.go_tree.specs.Units.{Place, is_blank}
use Rattle.go_scopes_events.specs.Scopes.{otherwise}
use Rattle.go_heads.specs.Functions.{Alone, Function, all_functions, function_alone}
use Rattle.go_heads.specs.Heads.{File}
use Rattle.go_heads.specs.Objects.{units_of}
use Rattle.go_heads.specs.Bodies.{function_events}
use Rattle.go_heads.specs.Names.{own_text, no_place, own_names, own_declarations}
use Rattle.go_heads.specs.Tokens.{function_files}
use Rattle.go_scopes_bodies.specs.Meant.{Outer, outer_of, own_local}
use Rattle.go_scopes_bodies.specs.Outside.{outside_units}

abbrev pub no_tokens : TokenList
no_tokens = record { file = 0; text = []; tokens = []; comments = [] }

-- ---- names that are looked up

abbrev pub outer_meaning : List ℕ → Option Object → Option Meaning
outer_meaning w None = None
outer_meaning w (Some o) = Some (record { name = w; extent = extent.Everywhere; object = o; source = None })

-- the last name of the selector of which a name is the operand
abbrev pub own_selected : Alone → Role → List ℕ
own_selected a (role.Selected last called) = own_text a (last - 1)
own_selected a r = []

abbrev pub own_ask : Alone → Outer → Use → Asked
own_ask a outer u = record {
  file = 0;
  name = own_text a u.name;
  place = no_place;
  whole = no_place;
  selected = own_selected a u.role;
  meaning = otherwise (own_local a u.name (own_text a u.name)) (outer_meaning (own_text a u.name) (outer (own_text a u.name)));
  it = u;
}

abbrev pub asked_among : Alone → Outer → List Event → List Asked
asked_among a outer [] = []
asked_among a outer (event.Use u ∷ es) = if is_blank (own_text a u.name) then asked_among a outer es else own_ask a outer u ∷ asked_among a outer es
asked_among a outer (e ∷ es) = asked_among a outer es

-- the names that a function looks up, where names mean this outside of functions
abbrev pub own_asked : Alone → Outer → List Asked
own_asked a outer = asked_among a outer (function_events a)

-- ---- a function by itself

-- the places of `break`, `continue` and `fallthrough` where they may not stand
abbrev pub own_misplaced : Alone → List Place
own_misplaced a = misplaced 0 no_tokens (function_events a)

-- the second defaults of switches
abbrev pub own_second_defaults : Alone → List Place
own_second_defaults a = second_defaults 0 no_tokens (function_events a)

-- whether the events tell of a member of the group with this name, where tokens have these texts
abbrev pub own_has_member : (ℕ → List ℕ) → Member → ℕ → List ℕ → List Event → Bool
own_has_member t m g w [] = false
own_has_member t m g w (event.Member o h x ∷ es) = (same_member m o && nat_eq g h && same_text w (t x)) || own_has_member t m g w es
own_has_member t m g w (e ∷ es) = own_has_member t m g w es

abbrev pub own_is_duplicate : (ℕ → List ℕ) → Member → ℕ → List ℕ → List Event → Bool
own_is_duplicate t member.Field g w before = is_blank w || own_has_member t member.Field g w before
own_is_duplicate t member.Key g w before = own_has_member t member.Key g w before
own_is_duplicate t member.Parameter g w before = not (is_blank w) && own_has_member t member.Parameter g w before

-- the argument `before` has the events in front
abbrev pub second_members_by : (ℕ → List ℕ) → List Event → List Event → List Place
second_members_by t before [] = []
second_members_by t before (event.Member m g x ∷ es) = place_if (own_is_duplicate t m g (t x) before) no_place (second_members_by t (before ++ event.Member m g x ∷ []) es)
second_members_by t before (e ∷ es) = second_members_by t (before ++ e ∷ []) es

-- the fields, keys and parameters that stand a second time in their group
abbrev pub own_second_members : Alone → List Place
own_second_members a = second_members_by (own_text a) [] (function_events a)

-- the specifications that repeat a list of which a constant hides a name
abbrev pub own_hidden_lists : Alone → List Place
own_hidden_lists a = hidden_lists_by (own_text a) (λ x. no_place) [] (function_events a)

-- the names that are declared a second time in their block
abbrev pub own_second_declarations : Alone → List Place
own_second_declarations a = second_declarations [] (own_declarations a)

-- the `:=` that declare no new name
abbrev pub own_none_new : Alone → List Place
own_none_new a = none_new (own_declarations a) (own_names a)

-- the names that mean nothing
abbrev pub own_undeclared : Alone → Outer → List Place
own_undeclared a outer = undeclared (own_asked a outer)

-- the predeclared names that are outside the profile
abbrev pub own_outside_names : Alone → Outer → List Place
own_outside_names a outer = outside_names (own_asked a outer)

-- the members of imports that are outside the profile
abbrev pub own_outside_members : Alone → Outer → List Place
own_outside_members a outer = outside_members (own_asked a outer)

-- the members of imports that are not called
abbrev pub own_not_called : Alone → Outer → List Place
own_not_called a outer = not_called (own_asked a outer)

-- the names of functions and variables in the value of a variable of the package
abbrev pub own_initialisers : Alone → Outer → List Place
own_initialisers a outer = initialisers (own_asked a outer)

-- the local variables that are not used
abbrev pub own_unused : Alone → Outer → List Place
own_unused a outer = unused_variables (own_asked a outer) (own_declarations a)

-- The declarations that need themselves. Of a function by itself each name calls for one that it declares, or for none, so that as many
-- rounds do as there are of these, in two ways.
abbrev pub own_cycles : Alone → Outer → List Place
own_cycles a outer = cycles (own_asked a outer) (length (own_declarations a) + length (own_declarations a)) (own_declarations a)

-- ---- what is left of a package

-- the declarations in the block of the package
abbrev pub shared : List Found → List Found
shared [] = []
shared (d ∷ ds) = if is_package d.it.block then d ∷ shared ds else shared ds

-- the names that are looked up outside of functions
abbrev pub outside_asked : List File → List Asked
outside_asked fs = asked_from (meanings (units_of fs)) 0 (outside_units fs)

-- the names that are looked up
abbrev pub all_asked : List File → List Asked
all_asked fs = asked_from (meanings (units_of fs)) 0 (units_of fs)

-- what is declared outside of functions
abbrev pub outside_declared : List File → List Found
outside_declared fs = new_among (found (units_of fs)) (found (outside_units fs))

-- what names mean outside of functions in the file of this number
abbrev pub outer_in : List File → ℕ → Outer
outer_in fs n = outer_of (units_of fs) n

-- ---- function by function

-- A rule fails in no function; the argument says where it fails in a function of the file of this number.
abbrev pub FailsInNone : List File → (ℕ → Function → List Place) → Type 0
FailsInNone fs own = (k n : ℕ) (f : Function) → slice_get (all_functions fs) k ≡ Some f → slice_get (function_files 0 fs) k ≡ Some n → own n f ≡ []

-- A rule fails nowhere in a package where it fails neither outside of functions nor in one of these by itself, and the other way round.
pub record GoesByFunctions (fs : List File) (own : ℕ → Function → List Place) (outside whole : List Place) : Type 0 where
  pub apart : whole ≡ [] → (outside ≡ []) × FailsInNone fs own
  pub together : outside ≡ [] → FailsInNone fs own → whole ≡ []

-- ---- all rules

-- The rules of names that a function fails by itself, where names mean this outside of functions.
abbrev pub own_faults : Alone → Outer → List Failure
own_faults a outer =
    failing code.Redeclared (own_second_declarations a ++ own_none_new a) ++ lookup_faults (own_asked a outer) ++ failing code.UnusedVariable (own_unused a outer)
    ++ failing code.Branch (own_misplaced a) ++ failing code.Duplicate (own_second_members a ++ own_second_defaults a) ++ failing code.Outside (own_hidden_lists a) ++ failing code.Cycle (own_cycles a outer)

-- Outside of functions there are no statements, no switches, no `:=`, no local variables and no local constants.
pub record NothingFailsOutside (fs : List File) : Type 0 where
  pub branches : branches (outside_units fs) ≡ []
  pub defaults : of_files second_defaults 0 (outside_units fs) ≡ []
  pub statements : of_files statements 0 (outside_units fs) ≡ []
  pub some_new : (ds : List Found) → none_new ds (found (outside_units fs)) ≡ []
  pub variables : (asks : List Asked) → unused_variables asks (outside_declared fs) ≡ []
  pub lists : hidden_lists (outside_units fs) ≡ []

-- No rule of names fails outside of functions, but for those on imports that are not used and on many statements. That no declaration of
-- the package needs itself reads the signatures of functions too.
pub record IsFaultlessOutside (fs : List File) : Type 0 where
  pub clauses : clause_faults (units_of fs) ≡ []
  pub declared_once : second_declarations [] (shared (declarations (units_of fs))) ≡ []
  pub not_hidden : hidden_imports (has_import (units_of fs)) (declarations (units_of fs)) ≡ []
  pub imported_once : of_files (second_imports false) 0 (units_of fs) ≡ []
  pub lookups : lookup_faults (outside_asked fs) ≡ []
  pub members_once : of_files (second_members []) 0 (outside_units fs) ≡ []
  pub needs : cycles (all_asked fs) (length (declarations (units_of fs)) + length (declarations (units_of fs))) (shared (declarations (units_of fs))) ≡ []

-- What it is that no rule of names fails, function by function. Two rules stay those of the package: that each import is used, and that
-- there are not too many statements.
pub record IsFaultlessByFunctions (fs : List File) : Type 0 where
  pub outside : IsFaultlessOutside fs
  pub imports : unused_imports (all_asked fs) (units_of fs) ≡ []
  pub statements : limit (units_of fs) ≡ []
  pub functions : (k n : ℕ) (f : Function) → slice_get (all_functions fs) k ≡ Some f → slice_get (function_files 0 fs) k ≡ Some n → own_faults (function_alone f) (outer_in fs n) ≡ []

-- No fault of names is reported of a package where that holds, and the other way round.
pub record FaultsAreThoseOfFunctions (fs : List File) : Type 0 where
  pub apart : reported (units_of fs) ≡ None → IsFaultlessByFunctions fs
  pub together : IsFaultlessByFunctions fs → reported (units_of fs) ≡ None

-- ---- statements and imports

-- the statements of a function
abbrev pub own_statements : Alone → List Place
own_statements a = statements 0 no_tokens (function_events a)

-- how many statements some functions have
abbrev pub statements_of : List Function → ℕ
statements_of [] = 0
statements_of (f ∷ fs) = length (own_statements (function_alone f)) + statements_of fs

-- The statements of a package are those of its functions, and none is too many where there are at most 65,536.
pub record CountsStatements (fs : List File) : Type 0 where
  pub counted : length (of_files statements 0 (units_of fs)) ≡ statements_of (all_functions fs)
  pub within : limit (units_of fs) ≡ [] → length (of_files statements 0 (units_of fs)) ≤ 65536
  pub enough : length (of_files statements 0 (units_of fs)) ≤ 65536 → limit (units_of fs) ≡ []

-- No function of the file n names its import, by itself.
abbrev pub NamesNoImport : List File → ℕ → Type 0
NamesNoImport fs n = (k : ℕ) (f : Function) → slice_get (all_functions fs) k ≡ Some f → slice_get (function_files 0 fs) k ≡ Some n → uses_import 0 (own_asked (function_alone f) (outer_in fs n)) ≡ false

-- The import of the file n is not used where it is used neither outside of functions nor in a function of the file by itself, and the
-- other way round.
pub record UsesImportByFunctions (fs : List File) (n : ℕ) : Type 0 where
  pub apart : uses_import n (all_asked fs) ≡ false → (uses_import n (outside_asked fs) ≡ false) × NamesNoImport fs n
  pub together : uses_import n (outside_asked fs) ≡ false → NamesNoImport fs n → uses_import n (all_asked fs) ≡ false
