-- Windows with what is read of their functions.
use Rattle.std.specs.Prelude.{ℕ, zero, suc, ◌+◌, ◌-◌, Bool, false, ◌&&◌, nat_eq, nat_le, nat_lt, List, [], ◌++◌, length, map, Option, Some, None, slice_get, if◌then◌else◌, ◌∷◌}
use Rattle.std.specs.List.{list_any}
use Rattle.std.specs.Option.{option_map, option_to_list, unwrap_or}
use Rattle.go_tree.specs.declared.object.Declared.{Declared}
use Rattle.go_tree.specs.Uses.{UsesView, functions_among}
use Rattle.go_types.specs.Trees.{TypeTree}
use Rattle.go_typed.specs.declared.walk.LocalUse.{LocalUse}
use Rattle.go_typed.specs.declared.window.Window.{Window}
use Rattle.go_typed.specs.Contents.{Content, FuncContent}
use Rattle.go_typed.specs.Forms.{values_count}
use Rattle.go_typed.specs.Funcs.{FuncView, size, tree_of}
use Rattle.go_typed.specs.Lists.{statement_lists}
use Rattle.go_typed.specs.NodeTables.{list_numbers}
use Rattle.go_typed.specs.Packages.{PackageView}
use Rattle.go_typed.specs.Trees.{Sort, Typed, typed, Typeds, none, more, skip, first_of, form_of, parts_of}
use Rattle.go_typed.specs.Windows.{uses_from}
use Rattle.clone_window.specs.Sameness.{local_pairs}
use Rattle.clone_window.specs.Spans.{last_from}
use Rattle.clone_window.specs.Windows.{window_statements}

-- A window over what stands for types. Of its function: what its locals stand for and where they are declared, the number of its
-- first token in its file, and which local each token names. Then the window's statements, the number of the first of them among
-- the nodes of the function, and its tokens, counted from the function's first one.
pub record Member (T : Type 0) : Type 0 where
  pub window : Window
  pub locals : List (Sort T)
  pub declared : List Declared
  pub first : ℕ
  pub tokens : List (Option ℕ)
  pub statements : Typeds T
  pub start : ℕ
  pub from : ℕ
  pub upto : ℕ

-- ---- statements

-- the first token of a row of parts
abbrev pub first_in : {T : Type 0} → Typeds T → ℕ
first_in none = 0
first_in (more p ps) = first_of p
first_in (skip ps) = 0

-- the number of the node behind n parts, the first of which has the number k
abbrev pub number_past : {T : Type 0} → ℕ → ℕ → Typeds T → ℕ
number_past k n none = k
number_past k zero (more p ps) = k
number_past k zero (skip ps) = k
number_past k (suc n) (more p ps) = number_past (k + size p) n ps
number_past k (suc n) (skip ps) = number_past k (suc n) ps

-- the number of a statement of a statement list, which has itself a number
abbrev pub statement_number : {T : Type 0} → Option ℕ → Option (Typed T) → ℕ → ℕ
statement_number (Some k) (Some l) n = number_past (suc k) (values_count (form_of l) + n) (parts_of l)
statement_number k l n = 0

-- the number of a window's first statement among the nodes of its function, each of which stands before those within it
abbrev pub start_in : {T : Type 0} → Typed T → Window → ℕ
start_in root w = statement_number (slice_get (list_numbers 0 root) w.list) (slice_get (statement_lists root) w.list) w.first

-- ---- windows

abbrev pub locals_there : Option (List Declared) → List Declared
locals_there ds = unwrap_or ds []

-- a function is named behind its first token
abbrev pub first_token : Option Declared → ℕ
first_token None = 0
first_token (Some d) = d.name - 1

-- a window of a function whose locals stand for these, whose tokens name these locals, and which has this tree
abbrev pub member_over : {T : Type 0} → UsesView → Window → List (Sort T) → List (Option ℕ) → Typed T → Member T
member_over u w locals tokens root = record {
  window = w;
  locals = locals;
  declared = locals_there (slice_get u.locals w.func);
  first = first_token (slice_get (functions_among u.package_level) w.func);
  tokens = tokens;
  statements = window_statements root w;
  start = start_in root w;
  from = first_in (window_statements root w);
  upto = last_from 0 (window_statements root w);
}

-- a window of a package, if it has its function
abbrev pub member_of : Content → Window → Option (Member TypeTree)
member_of c w = option_map (λ f. member_over c.uses w f.locals f.tokens f.tree) (slice_get c.functions w.func)

abbrev pub members_of : Content → List Window → List (Member TypeTree)
members_of c [] = []
members_of c (w ∷ ws) = option_to_list (member_of c w) ++ members_of c ws

-- the template is the first one
abbrev pub template_of : Content → List Window → Option (Member TypeTree)
template_of c [] = None
template_of c (w ∷ ws) = member_of c w

-- the same with the numbers of types
abbrev pub member_in : PackageView → Window → Option (Member ℕ)
member_in p w = option_map (λ f. member_over p.uses w f.locals f.tokens (tree_of f)) (slice_get p.functions w.func)

abbrev pub members_in : PackageView → List Window → List (Member ℕ)
members_in p [] = []
members_in p (w ∷ ws) = option_to_list (member_in p w) ++ members_in p ws

abbrev pub template_in : PackageView → List Window → Option (Member ℕ)
template_in p [] = None
template_in p (w ∷ ws) = member_in p w

-- ---- tokens that name locals

-- the names of locals in the window, in types and constants too
abbrev pub uses_within : {T : Type 0} → Member T → List LocalUse
uses_within m = uses_from m.tokens m.from (m.upto - m.from)

abbrev pub names_local : ℕ → LocalUse → Bool
names_local n u = nat_eq n u.local

-- whether a local is named from a token on
abbrev pub occurs_from : List (Option ℕ) → ℕ → ℕ → Bool
occurs_from tokens i n = list_any (names_local n) (uses_from tokens i (length tokens - i))

-- whether a local occurs behind the window
abbrev pub occurs_later : {T : Type 0} → Member T → ℕ → Bool
occurs_later m n = occurs_from m.tokens m.upto n

-- ---- where a local is declared

-- whether a token of a file is one of those from one up to another, which are counted from a first one
abbrev pub is_between : ℕ → ℕ → ℕ → ℕ → Bool
is_between first from upto t = nat_le (first + from) t && nat_lt t (first + upto)

abbrev pub declared_between : ℕ → ℕ → ℕ → Option Declared → Bool
declared_between first from upto None = false
declared_between first from upto (Some d) = is_between first from upto d.name

-- whether a local is declared in the window
abbrev pub is_declared_inside : {T : Type 0} → Member T → ℕ → Bool
is_declared_inside m n = declared_between m.first m.from m.upto (slice_get m.declared n)

-- ---- the locals of other members

abbrev pub second_of : List (ℕ × ℕ) → ℕ → ℕ
second_of [] n = n
second_of (p ∷ ps) n = if nat_eq p.0 n then p.1 else second_of ps n

-- the local of a member that stands where a local of some statements does
abbrev pub local_in : {T : Type 0} → Typeds T → Member T → ℕ → ℕ
local_in ps m n = second_of (local_pairs ps m.statements) n

-- or of the template
abbrev pub local_at : {T : Type 0} → Member T → Member T → ℕ → ℕ
local_at t m n = local_in t.statements m n
