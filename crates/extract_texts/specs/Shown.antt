-- What the program's own words show.
use Rattle.std.specs.Prelude.{◌≡◌, ℕ, false, List, [], ◌∷◌, ◌++◌, map, nat_eq, Option, Some, None, codes, slice_get}
use Rattle.std.specs.Borrow.{Bor}
use Rattle.std.specs.HashMap.{get}
use Rattle.std.specs.HashSet.{HashSet}
use Rattle.std.specs.HashSet as set
use Rattle.std.specs.List.{zip}
use Rattle.go_tree.specs.Units.{Place}
use Rattle.go_types.specs.Tables.{type_of}
use Rattle.go_typed.specs.Packages.{PackageView}
use Rattle.go_typed.specs.Views.{views}
use Rattle.go_print.specs.Texts.{type_text}
use Rattle.clone_window.specs.Sameness.{all_locals}
use Rattle.param_choose.specs.declared.choice.HoleParameter.{HoleParameter as FoundParameter}
use Rattle.param_choose.specs.Choosing.{choice}
use Rattle.param_choose.specs.Ends.{place_in}
use Rattle.param_choose.specs.Handed.{HandedHole, choice_shown, handed, hole_shown}
use Rattle.param_choose.specs.Holes.{Hole, holes}
use Rattle.param_choose.specs.Locals.{Variable}
use Rattle.param_choose.specs.Members.{Member, members_in, second_of}
use Rattle.param_choose.specs.Shown.{array_in}
use Rattle.escape_check.specs.Names.{names_package}
use Rattle.escape_check.specs.Places.{Sources, local_text, sources_in}
use Rattle.escape_check.specs.Shown.{IsSound, member_by, member_view}
use Rattle.escape_check.specs.Texts.{same_bytes}
use Rattle.escape_check.specs.Types.{declared_text}
use Rattle.extract_texts.specs.declared.template.Template.{Template}
use Rattle.extract_texts.specs.Texts.{hole_bytes}

-- The set has the identifier tokens of a package.
abbrev pub AreIdentifiers : {S : Type 0} → HashSet (Bor (List ℕ)) S → Sources → Type 0
AreIdentifiers texts s = (w : Bor (List ℕ)) → set.contains same_bytes texts w ≡ names_package w.now s

-- the text of a type of a package's table
abbrev pub written : PackageView → ℕ → List ℕ
written p t = type_text (declared_text (sources_in p)) (type_of p.types.shapes t)

-- a name, and its type behind it
abbrev pub named_type : PackageView → List ℕ → ℕ → List ℕ
named_type p n t = n ++ codes " " ++ written p t

abbrev pub named_if : PackageView → Option (List ℕ) → ℕ → List (List ℕ)
named_if p None t = []
named_if p (Some n) t = named_type p n t ∷ []

-- each variable of a member's function with its type
abbrev pub named_variables : PackageView → Member ℕ → List (Variable ℕ) → List (List ℕ)
named_variables p m vs = map (λ v. named_type p (local_text (sources_in p) m v.local) v.type) vs

-- `var y T; ` for each
abbrev pub declarations : PackageView → Member ℕ → List (Variable ℕ) → List ℕ
declarations p m [] = []
declarations p m (v ∷ vs) = codes "var " ++ named_type p (local_text (sources_in p) m v.local) v.type ++ codes "; " ++ declarations p m vs

-- the numbers of holes that are parameters, among the holes, and their types
abbrev pub numbers_shown : List FoundParameter → List ℕ
numbers_shown hs = map (λ (x : HandedHole ℕ). x.number) (map hole_shown hs)

abbrev pub types_shown : List FoundParameter → List ℕ
types_shown hs = map (λ (x : HandedHole ℕ). x.type) (map hole_shown hs)

-- ---- templates

-- the locals that the nodes of a template name
abbrev pub template_locals : Template → List ℕ
template_locals t = all_locals false (views t.member.statements.now)

-- the first place of each of them
abbrev pub KnowsLocals : Template → Type 0
KnowsLocals t = (n : ℕ) → get nat_eq t.places n ≡ place_in (template_locals t) n

-- the local that stands among these where a local of the template does
abbrev pub local_by : Template → List ℕ → ℕ → ℕ
local_by t others n = second_of (zip (template_locals t) others) n

abbrev pub locals_by : Template → List ℕ → List (Variable ℕ) → List ℕ
locals_by t others vs = map (λ v. local_by t others v.local) vs

-- The first of its windows, with what is handed over of them, and the first place of each local among those that its nodes name.
pub record IsTemplate (p : PackageView) (t : Template) : Type 0 where
  pub first : slice_get t.windows.now 0 ≡ Some t.member.window
  pub sound : IsSound p t.member
  pub choice : choice_shown t.choice ≡ handed (choice (array_in p.types) (members_in p t.windows.now) (member_by p t.member))
  pub places : KnowsLocals t

-- the bytes of the holes of these numbers, as many as there are
abbrev pub place_at : {T : Type 0} → Sources → Member T → Option (Hole T) → List Place
place_at s m None = []
place_at s m (Some h) = hole_bytes s m h ∷ []

abbrev pub places_at : {T : Type 0} → Sources → Member T → List ℕ → List Place
places_at s m [] = []
places_at s m (n ∷ ns) = place_at s m (slice_get (holes m) n) ++ places_at s m ns
