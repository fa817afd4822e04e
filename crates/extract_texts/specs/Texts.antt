-- What stands at the windows of members, and the function that stands behind the template's file.
use Rattle.std.specs.Prelude.{ℕ, if◌then◌else◌, List, [], ◌∷◌, ◌++◌, length, map, Option, Some, None, codes, slice_get, slice_range}
use Rattle.go_constants.specs.declared.values.Const.{Const}
use Rattle.go_tree.specs.File.{FileTree}
use Rattle.go_tree.specs.Units.{Place}
use Rattle.go_types.specs.Trees.{TypeTree, row}
use Rattle.go_typed.specs.declared.window.Window.{Window}
use Rattle.go_typed.specs.Contents.{Content}
use Rattle.go_print.specs.Texts.{listed}
use Rattle.go_print_laws.specs.Calls.{Argument, variable, constant, Call}
use Rattle.go_print_laws.specs.Calls as calls
use Rattle.go_print_laws.specs.Headers.{Header}
use Rattle.go_print_laws.specs.Headers as headers
use Rattle.param_choose.specs.Choosing.{Choice, HoleParameter, chosen_of}
use Rattle.param_choose.specs.Holes.{Hole, holes, hole_value}
use Rattle.param_choose.specs.Locals.{Variable, variables_where}
use Rattle.param_choose.specs.Members.{Member, member_of, occurs_later, template_of}
use Rattle.escape_check.specs.Lookups.{locals_at}
use Rattle.escape_check.specs.Places.{Sources, bytes_of, file_of, local_text, place, sources_of, window_place}
use Rattle.escape_check.specs.Types.{declared_text, hole_numbers, parameter_types, result_types, variable_types}
use Rattle.extract_texts.specs.Fresh.{fresh_names}

-- the names of variables of a member's function
abbrev pub variable_names : {T : Type 0} → Sources → Member T → List (Variable T) → List (List ℕ)
variable_names s m vs = map (λ v. local_text s m v.local) vs

-- ---- the call at the window of a member

-- The declared results that occur behind the window, as variables of the member's function.
abbrev pub later_variables : {T : Type 0} → Member T → Choice T → Member T → List (Variable T)
later_variables t h m = variables_where m.locals (occurs_later m) (locals_at t m h.declared)

-- a declared result by its name, and `_` where it doesn't occur behind the window
abbrev pub result_name : {T : Type 0} → Sources → Member T → ℕ → List ℕ
result_name s m n = if occurs_later m n then local_text s m n else codes "_"

-- the names of results: those of assigned free locals, and then of declared variables
abbrev pub result_names : {T : Type 0} → Sources → Member T → Choice T → Member T → List (List ℕ)
result_names s t h m = map (local_text s m) (locals_at t m h.assigned) ++ map (result_name s m) (locals_at t m h.declared)

abbrev pub constant_in : Option Const → List Argument
constant_in None = []
constant_in (Some v) = constant v ∷ []

abbrev pub constant_at : {T : Type 0} → Option (Hole T) → List Argument
constant_at None = []
constant_at (Some h) = constant_in (hole_value h)

-- the values of a member's holes of these numbers
abbrev pub constants_at : {T : Type 0} → List ℕ → Member T → List Argument
constants_at [] m = []
constants_at (n ∷ ns) m = constant_at (slice_get (holes m) n) ++ constants_at ns m

-- the member's free locals, and then the values of its holes that are parameters
abbrev pub arguments : {T : Type 0} → Sources → Member T → Choice T → Member T → List Argument
arguments s t h m = map variable (map (local_text s m) (locals_at t m h.free)) ++ constants_at (hole_numbers h.holes) m

-- `tree` makes a type of what stands for it.
abbrev pub call_of : {T : Type 0} → (T → TypeTree) → Sources → List ℕ → Member T → Choice T → Member T → Call
call_of tree s name t h m = record {
  declared = variable_names s m (later_variables t h m);
  types = row (map tree (variable_types (later_variables t h m)));
  results = result_names s t h m;
  function = name;
  arguments = arguments s t h m;
}

-- What stands at the window of a member: `var y T; ` for each declared result that occurs behind it, what the results are given to, and
-- the call.
abbrev pub call_text : {T : Type 0} → (T → TypeTree) → Sources → List ℕ → Member T → Choice T → Member T → List ℕ
call_text tree s name t h m = calls.call_text (declared_text s) (call_of tree s name t h m)

-- ---- the function

-- A parameter for each free local, under its name, and one for each hole that is a parameter, under a fresh name.
abbrev pub header_of : {T : Type 0} → (T → TypeTree) → Sources → List ℕ → List (List ℕ) → Member T → Choice T → Header
header_of tree s name fresh t h = record {
  function = name;
  parameters = variable_names s t h.free ++ fresh;
  types = row (map tree (parameter_types h));
  results = row (map tree (result_types h));
}

-- The bytes of a text from one up to another, with names in place of parts of it, which lie between the two in order; a blank stands on
-- both sides of each name.
abbrev pub with_names : List ℕ → ℕ → ℕ → List Place → List (List ℕ) → List ℕ
with_names text from upto [] ns = slice_range text from upto
with_names text from upto (p ∷ ps) [] = slice_range text from upto
with_names text from upto (p ∷ ps) (n ∷ ns) = slice_range text from p.start ++ codes " " ++ n ++ codes " " ++ with_names text p.end upto ps ns

abbrev pub text_of : Option FileTree → List ℕ
text_of None = []
text_of (Some f) = f.tokens.text

-- the bytes of a member's file
abbrev pub file_text : {T : Type 0} → Sources → Member T → List ℕ
file_text s m = text_of (slice_get s.files (file_of s m))

-- the bytes of a hole of a member
abbrev pub hole_bytes : {T : Type 0} → Sources → Member T → Hole T → Place
hole_bytes s m h = bytes_of s (place s m h.from h.upto)

abbrev pub window_bytes : {T : Type 0} → Sources → Member T → Place
window_bytes s m = bytes_of s (window_place s m)

-- The template's own bytes, with fresh names in place of the holes that are parameters.
abbrev pub template_text : {T : Type 0} → Sources → List (List ℕ) → Member T → Choice T → List ℕ
template_text s fresh t h = with_names (file_text s t) (window_bytes s t).start (window_bytes s t).end (map (λ p. hole_bytes s t p.hole) h.holes) fresh

-- `return x, y` and a newline, or nothing
abbrev pub returning_text : List (List ℕ) → List ℕ
returning_text [] = []
returning_text (x ∷ xs) = codes "return " ++ listed (x ∷ xs) ++ codes "\n"

-- by these fresh names
abbrev pub function_with : {T : Type 0} → (T → TypeTree) → Sources → List ℕ → List (List ℕ) → Member T → Choice T → List ℕ
function_with tree s name fresh t h =
    codes "\n" ++ headers.header_text (declared_text s) (header_of tree s name fresh t h) ++ codes " {\n" ++ template_text s fresh t h ++ codes "\n"
    ++ returning_text (variable_names s t (h.assigned ++ h.declared)) ++ codes "}\n"

-- What stands behind the template's file.
abbrev pub function_text : {T : Type 0} → (T → TypeTree) → Sources → List ℕ → Member T → Choice T → List ℕ
function_text tree s name t h = function_with tree s name (fresh_names s name (length h.holes)) t h

-- ---- windows of a package, the first of which is the template

abbrev pub call_among : Content → List ℕ → Option (Member TypeTree) → Choice TypeTree → Option (Member TypeTree) → List ℕ
call_among c name (Some t) h (Some m) = call_text (λ x. x) (sources_of c) name t h m
call_among c name t h m = []

-- What stands at a window; nothing where its function or that of the template is missing.
abbrev pub call_at : Content → List ℕ → List Window → Window → List ℕ
call_at c name ws w = call_among c name (template_of c ws) (chosen_of c ws) (member_of c w)

abbrev pub function_among : Content → List ℕ → Option (Member TypeTree) → Choice TypeTree → List ℕ
function_among c name None h = []
function_among c name (Some t) h = function_text (λ x. x) (sources_of c) name t h

-- What stands behind the template's file; nothing where the template's function is missing.
abbrev pub function_for : Content → List ℕ → List Window → List ℕ
function_for c name ws = function_among c name (template_of c ws) (chosen_of c ws)
