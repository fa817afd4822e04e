-- The texts that stand at windows and behind the template's file, as texts of Go.
use Rattle.std.specs.Prelude.{ℕ, ◌≤◌, List, [], ◌++◌, length, map}
use Rattle.std.specs.List.{AllByRecursion}
use Rattle.go_tokens.specs.declared.token.TokenKind.{TokenKind}
use Rattle.go_grammar.specs.Rules.{Items}
use Rattle.go_grammar.specs.Trees.{Trees, depth}
use Rattle.go_types.specs.Trees.{TypeTree, row}
use Rattle.go_print_laws.specs.Lexemes.{IsName, AreNames}
use Rattle.go_print_laws.specs.Types.{RowCanBeWritten}
use Rattle.go_print_laws.specs.Standing.{StandsAsRun}
use Rattle.go_print_laws.specs.Calls.{ArgumentsCanBeWritten, AreStatements, call_lexemes, call_trees}
use Rattle.go_print_laws.specs.Headers.{HeaderCanBeWritten}
use Rattle.go_print_laws.specs.Functions.{Function, FunctionStands, Statements, function_tree, function_words}
use Rattle.param_choose.specs.Choosing.{Choice}
use Rattle.param_choose.specs.Members.{Member}
use Rattle.escape_check.specs.Lookups.{locals_at}
use Rattle.escape_check.specs.Places.{Sources, local_text}
use Rattle.escape_check.specs.Types.{declared_text, hole_numbers, variable_types}
use Rattle.extract_texts.specs.Texts.{call_of, call_text, constants_at, function_with, header_of, later_variables, template_text, variable_names}

-- ---- calls

-- these locals of a member's function have names
abbrev pub AreNamed : Sources → Member TypeTree → List ℕ → Type 0
AreNamed s m ns = AllByRecursion (λ n. IsName (local_text s m n)) ns

-- What the call at a member names has names, and its types and constants can be written.
pub record CanBeCalled (s : Sources) (name : List ℕ) (t : Member TypeTree) (h : Choice TypeTree) (m : Member TypeTree) : Type 0 where
  pub function : IsName name
  pub free : AreNamed s m (locals_at t m h.free)
  pub assigned : AreNamed s m (locals_at t m h.assigned)
  pub declared : AreNamed s m (locals_at t m h.declared)
  pub types : RowCanBeWritten (declared_text s) (row (map (λ x. x) (variable_types (later_variables t h m))))
  pub constants : ArgumentsCanBeWritten (constants_at (hole_numbers h.holes) m)

-- What stands at a window is a run of statements.
abbrev pub CallsStandAtWindows : Type 0
CallsStandAtWindows = (file : ℕ) (items : Items) (s : Sources) (name : List ℕ) (t : Member TypeTree) (h : Choice TypeTree) (m : Member TypeTree) → AreStatements items → CanBeCalled s name t h m
    → StandsAsRun file (call_text (λ x. x) s name t h m) (call_lexemes (declared_text s) (call_of (λ x. x) s name t h m) []) items (call_trees 0 (call_of (λ x. x) s name t h m))

-- ---- functions

-- the new function, under these fresh names
abbrev pub new_function : Sources → List ℕ → List (List ℕ) → Member TypeTree → Choice TypeTree → Function
new_function s name fresh t h = record { header = header_of (λ x. x) s name fresh t h; body = template_text s fresh t h; returned = variable_names s t (h.assigned ++ h.declared) }

-- What stands behind the template's file is a declaration, where the template's text is a run of statements.
abbrev pub NewFunctionsStand : Type 0
NewFunctionsStand = (file : ℕ) (s : Sources) (name : List ℕ) (fresh : List (List ℕ)) (t : Member TypeTree) (h : Choice TypeTree) (ws : List TokenKind) (new : Trees)
    → HeaderCanBeWritten (declared_text s) (header_of (λ x. x) s name fresh t h) → AreNames (variable_names s t (h.assigned ++ h.declared)) → Statements file (template_text s fresh t h) ws new
    → depth (function_tree (new_function s name fresh t h) (length ws) new) ≤ 100
    → FunctionStands file (function_with (λ x. x) s name fresh t h) (function_words (declared_text s) (new_function s name fresh t h) ws) (function_tree (new_function s name fresh t h) (length ws) new)
