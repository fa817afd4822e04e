-- What the parts of a plan come to.
use Rattle.std.proofs.Common.{◌≡◌, ◌∙◌, ℕ, Bool, false, List, [], ◌∷◌, ◌++◌, length, map, replicate, Option, slice_get, ap, refl, sym}
use Rattle.std.proofs.lemmas.List.{length-map}
use Rattle.go_tree.specs.declared.object.Declared.{Declared}
use Rattle.go_tree.specs.Uses.{UsesView, functions_among}
use Rattle.go_typed.specs.declared.window.Window.{Window}
use Rattle.go_typed.specs.Trees.{Sort, Typed, Typeds}
use Rattle.clone_window.specs.Spans.{last_from}
use Rattle.clone_window.specs.Windows.{window_statements}
use Rattle.param_choose.specs.declared.holes.Hole.{Hole as FoundHole}
use Rattle.param_choose.specs.declared.variables.Variable.{Variable as FoundVariable}
use Rattle.param_choose.specs.Members.{Member, first_in, first_token, locals_there, member_over, start_in}
use Rattle.param_choose.specs.Locals.{assigned_among, declared_names, free_locals, has, only, variables_where}
use Rattle.param_choose.specs.Holes.{holes, hole_values, names_outer}
use Rattle.param_choose.specs.Choosing.{Choice, HoleParameter, choice, declared_results, hole_parameters, parameters_from, is_needed}
use Rattle.param_choose.specs.Handed.{HandedHole, handed, handed_hole, handed_parameter, planned_by}
use Rattle.param_choose.specs.Marks.{differing, needed, parameters_by, variables_by}
use Rattle.param_choose.specs.Shown.{hole_view, holes_view, values_view, variable_view}
use Rattle.param_choose.specs.Plans.{planned, free_parameter, hole_parameter, assigned_result, declared_result}
use Rattle.param_choose.proofs.Marks.{marked, differing-all, parameters-marked, needed-all, variables-marked}

-- the holes that are marked or name what is declared outside are the parameters
pub holes-are : (ms : List (Member ℕ)) (t : Member ℕ) (hs : List FoundHole) (marks : List Bool) → holes_view hs ≡ holes t →
    marks ≡ differing (values_view hs) (replicate (length hs) false) ms → parameters_by (names_outer t) t.start marks 0 (holes_view hs) ≡ hole_parameters ms t
holes-are ms t hs marks e m =
    let all : marks ≡ marked ms 0 (holes_view hs) = m ∙ ap (λ n. differing (values_view hs) (replicate n false) ms) (sym (length-map hs hole_view)) ∙ differing-all ms (holes_view hs) in
    ap (λ bs. parameters_by (names_outer t) t.start bs 0 (holes_view hs)) all
    ∙ parameters-marked ms t (holes_view hs)
    ∙ ap (parameters_from ms t 0) e

-- the variables among the marked names are the declared results
pub names-are : (ms : List (Member ℕ)) (t : Member ℕ) (names : List ℕ) (later : List Bool) → names ≡ declared_names t →
    later ≡ needed t.statements names (replicate (length names) false) ms → variables_by t.locals later 0 names ≡ declared_results ms t
names-are ms t names later e m =
    ap (λ bs. variables_by t.locals bs 0 names) (m ∙ needed-all t ms names)
    ∙ variables-marked t.locals (is_needed ms t) names
    ∙ ap (λ ns. variables_where t.locals (is_needed ms t) ns) e

pub choice-is : (array : Sort ℕ → Bool) (ms : List (Member ℕ)) (t : Member ℕ) (free assigned variables : List FoundVariable) (hs : List FoundHole)
    (names : List ℕ) (marks later : List Bool) (shown : List (HandedHole ℕ)) →
    map variable_view free ≡ free_locals t →
    holes_view hs ≡ holes t →
    marks ≡ differing (values_view hs) (replicate (length hs) false) ms →
    shown ≡ map handed_hole (parameters_by (names_outer t) t.start marks 0 (holes_view hs)) →
    map variable_view assigned ≡ only (has (assigned_among array t.statements)) (map variable_view free) →
    names ≡ declared_names t →
    later ≡ needed t.statements names (replicate (length names) false) ms →
    map variable_view variables ≡ variables_by t.locals later 0 names →
    record { free = map variable_view free; holes = shown; assigned = map variable_view assigned; declared = map variable_view variables } ≡ handed (choice array ms t)
choice-is array ms t free assigned variables hs names marks later shown f h m s a n l v =
    let c = choice array ms t in
    let own : map variable_view assigned ≡ c.assigned = a ∙ ap (only (has (assigned_among array t.statements))) f in
    let holes : shown ≡ map handed_hole c.holes = s ∙ ap (map handed_hole) (holes-are ms t hs marks h m) in
    let given : map variable_view variables ≡ c.declared = v ∙ names-are ms t names later n l in
    ap (λ vs. record { free = vs; holes = shown; assigned = map variable_view assigned; declared = map variable_view variables }) f
    ∙ ap (λ ps. record { free = c.free; holes = ps; assigned = map variable_view assigned; declared = map variable_view variables }) holes
    ∙ ap (λ vs. record { free = c.free; holes = map handed_hole c.holes; assigned = vs; declared = map variable_view variables }) own
    ∙ ap (λ vs. record { free = c.free; holes = map handed_hole c.holes; assigned = c.assigned; declared = vs }) given

-- ---- the plan

holes-planned : (hs : List (HoleParameter ℕ)) → map handed_parameter (map handed_hole hs) ≡ map hole_parameter hs
holes-planned [] = refl
holes-planned (h ∷ hs) = ap (λ ps. hole_parameter h ∷ ps) (holes-planned hs)

-- what is handed over has one plan
pub planned-is : (c : Choice ℕ) → planned_by (handed c) ≡ planned c
planned-is c = ap (λ ps. record { parameters = map free_parameter c.free ++ ps; results = map assigned_result c.assigned ++ map declared_result c.declared }) (holes-planned c.holes)

-- ---- a member by its parts

abbrev pub built : Window → List (Sort ℕ) → List (Option ℕ) → List Declared → ℕ → Typeds ℕ → ℕ → ℕ → ℕ → Member ℕ
built w sorts tokens declared first ps start from upto =
    record { window = w; locals = sorts; declared = declared; first = first; tokens = tokens; statements = ps; start = start; from = from; upto = upto }

pub built-is : (u : UsesView) (w : Window) (sorts : List (Sort ℕ)) (tokens : List (Option ℕ)) (root : Typed ℕ) (declared : List Declared) (first : ℕ) (ps : Typeds ℕ) (start from upto : ℕ) →
    declared ≡ locals_there (slice_get u.locals w.func) →
    first ≡ first_token (slice_get (functions_among u.package_level) w.func) →
    ps ≡ window_statements root w →
    start ≡ start_in root w →
    from ≡ first_in ps →
    upto ≡ last_from 0 ps →
    built w sorts tokens declared first ps start from upto ≡ member_over u w sorts tokens root
built-is u w sorts tokens root declared first ps start from upto d f p s i j =
    let m = member_over u w sorts tokens root in
    ap (λ ds. built w sorts tokens ds first ps start from upto) d
    ∙ ap (λ k. built w sorts tokens m.declared k ps start from upto) f
    ∙ ap (λ k. built w sorts tokens m.declared m.first ps start k upto) i
    ∙ ap (λ k. built w sorts tokens m.declared m.first ps start (first_in ps) k) j
    ∙ ap (λ k. built w sorts tokens m.declared m.first ps k (first_in ps) (last_from 0 ps)) s
    ∙ ap (λ qs. built w sorts tokens m.declared m.first qs m.start (first_in qs) (last_from 0 qs)) p
