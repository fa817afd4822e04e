-- The refusals 3 to 16 of windows that are the same, of which the first is the template.
use Rattle.std.specs.Prelude.{ℕ, Bool, List, [], ◌∷◌, ◌++◌, Option, Some, None}
use Rattle.std.specs.Option.{option_map}
use Rattle.go_types.specs.Tables.{type_of}
use Rattle.go_types.specs.Trees.{TypeTree}
use Rattle.go_typed.specs.declared.window.Window.{Window}
use Rattle.go_typed.specs.Contents.{Content, FuncContent, content}
use Rattle.go_typed.specs.Packages.{PackageView}
use Rattle.go_typed.specs.Trees.{Sort}
use Rattle.param_choose.specs.Choosing.{Choice, choice}
use Rattle.param_choose.specs.Locals.{is_array}
use Rattle.param_choose.specs.Members.{Member, members_of, template_of}
use Rattle.param_choose.specs.Shown.{array_in}
use Rattle.escape_check.specs.Places.{Sources, sources_of, sources_in, Refused, Refusal, reported, each_refused, template_refused, refused_if, first_refused}
use Rattle.escape_check.specs.Statements.{overlap_refused, returns, branches, falls}
use Rattle.escape_check.specs.Endings.{lost_ends}
use Rattle.escape_check.specs.Names.{escaping, local_names, is_in_use, shadowing}
use Rattle.escape_check.specs.Lookups.{lost_imports, left_unused}
use Rattle.escape_check.specs.Types.{hidden_at_site, local_types_written, hidden_types_written}

-- ---- by what they are about, the least code first

abbrev pub statement_refusals : {T : Type 0} → Sources → List (Member T) → List (Option Refused)
statement_refusals s ms = overlap_refused s ms ∷ each_refused 4 (returns s) ms ∷ each_refused 5 (branches s) ms ∷ each_refused 6 (falls s) ms ∷ []

abbrev pub escape_refusals : {T : Type 0} → Sources → List FuncContent → List (Member T) → List (Option Refused)
escape_refusals s fs ms = each_refused 7 (escaping s) ms ∷ each_refused 8 (local_names s) ms ∷ each_refused 9 (lost_ends s fs) ms ∷ []

abbrev pub name_refusals : {T : Type 0} → Sources → List ℕ → List (Member T) → List (Option Refused)
name_refusals s w ms = refused_if 10 (is_in_use s w) ∷ each_refused 11 (shadowing s) ms ∷ []

-- where `tree` makes a type of what stands for it
abbrev pub site_refusals : {T : Type 0} → (T → TypeTree) → Sources → List (Member T) → Member T → Choice T → List (Option Refused)
site_refusals tree s ms t h =
    each_refused 12 (hidden_at_site tree s t h) ms
    ∷ each_refused 13 (lost_imports s t ms) ms
    ∷ each_refused 14 (left_unused s t h) ms
    ∷ template_refused 15 (local_types_written tree s t h)
    ∷ template_refused 16 (hidden_types_written tree s t h)
    ∷ []

abbrev pub refusals : {T : Type 0} → (T → TypeTree) → Sources → List FuncContent → List ℕ → List (Member T) → Member T → Choice T → List (Option Refused)
refusals tree s fs w ms t h = statement_refusals s ms ++ escape_refusals s fs ms ++ name_refusals s w ms ++ site_refusals tree s ms t h

-- ---- all of them

-- Of members, one of which is the template; without one nothing is refused. `array` says whether a value of a sort is an array.
abbrev pub refused_among : {T : Type 0} → (T → TypeTree) → (Sort T → Bool) → Sources → List FuncContent → List ℕ → Option (Member T) → List (Member T) → Option Refused
refused_among tree array s fs w None ms = None
refused_among tree array s fs w (Some t) ms = first_refused (refusals tree s fs w ms t (choice array ms t))

-- The refusal of these windows, the first of which is the template, under this name: the least code that applies, the first member to
-- which it applies, and there the first place.
abbrev pub refused : Content → List ℕ → List Window → Option Refusal
refused c w ws = option_map (reported (sources_of c)) (refused_among (λ t. t) (is_array c.rights) (sources_of c) c.functions w (template_of c ws) (members_of c ws))

-- the same by the numbers of types, of members and the template
abbrev pub refused_by : PackageView → List ℕ → List (Member ℕ) → Member ℕ → Option Refused
refused_by p w ms t = first_refused (refusals (type_of p.types.shapes) (sources_in p) (content p).functions w ms t (choice (array_in p.types) ms t))
