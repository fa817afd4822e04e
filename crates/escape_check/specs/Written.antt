-- The names in written types, as the program holds them, and what is written at the site of a member.
use Rattle.std.specs.Prelude.{ℕ, ◌<◌, ◌++◌, List, filter, length, map}
use Rattle.std.specs.List.{AllByRecursion, list_any}
use Rattle.go_types.specs.Tables.{type_of}
use Rattle.go_typed.specs.Packages.{PackageView}
use Rattle.param_choose.specs.Handed.{Handed}
use Rattle.param_choose.specs.Members.{Member, occurs_later}
use Rattle.escape_check.specs.declared.results.Declared.{Declared}
use Rattle.escape_check.specs.declared.type_names.TypeName.{TypeName as Found}
use Rattle.escape_check.specs.Places.{Place, place_if, sources_in, window_place}
use Rattle.escape_check.specs.Shown.{results_in}
use Rattle.escape_check.specs.Types.{TypeName, is_hidden, local_types, names_of_all, needed_truths, variable_types}

abbrev pub type_name_view : Found → TypeName
type_name_view x = record { name = x.name.now; type = x.number }

-- the declared results that occur later in a member
abbrev pub later_in : Declared → Member ℕ → List ℕ
later_in d m = filter (occurs_later m) (results_in d m)

-- what is written at its site, where the holes of these numbers are arguments
abbrev pub written_at : PackageView → Declared → List ℕ → Member ℕ → List TypeName
written_at p d holes m = names_of_all (type_of p.types.shapes) (sources_in p) (local_types m (later_in d m)) ++ needed_truths holes m

-- the window of a member at whose site one of these names is hidden
abbrev pub hidden_by : PackageView → Declared → List ℕ → Member ℕ → List Place
hidden_by p d holes m = place_if (list_any (is_hidden (sources_in p) m (later_in d m)) (written_at p d holes m)) (window_place (sources_in p) m)

-- ---- the types of parameters and results, as they are handed over

abbrev pub handed_types : {T : Type 0} → Handed T → List T
handed_types h = (variable_types h.free ++ map (λ x. x.type) h.holes) ++ (variable_types h.assigned ++ variable_types h.declared)

-- Each is a type of the package's table.
abbrev pub AreKnownTypes : PackageView → Handed ℕ → Type 0
AreKnownTypes p h = AllByRecursion (λ t. t < length p.types.shapes) (handed_types h)
