-- What the program's own words show.
use Rattle.std.specs.Prelude.{◌≡◌, ℕ, ◌+◌, Bool, false, ◌&&◌, nat_eq, nat_le, nat_lt, List, map, Some, slice_get}
use Rattle.std.specs.HashMap.{get}
use Rattle.std.specs.Option.{option_map}
use Rattle.go_typed.specs.Funcs.{tree_of}
use Rattle.go_typed.specs.Packages.{PackageView}
use Rattle.go_typed.specs.Views.{views}
use Rattle.go_scopes_lookup.specs.Views.{place_of}
use Rattle.clone_window.specs.Sameness.{all_locals}
use Rattle.param_choose.specs.Ends.{ends_of, place_in}
use Rattle.param_choose.specs.Members.{Member, local_at, member_over}
use Rattle.escape_check.specs.declared.member.Member.{Member as Found}
use Rattle.escape_check.specs.declared.place.Place.{Place as FoundPlace}
use Rattle.escape_check.specs.declared.place.Refused.{Refused as FoundRefused}
use Rattle.escape_check.specs.declared.results.Declared.{Declared}
use Rattle.escape_check.specs.declared.report.Refusal.{Refusal as FoundRefusal}
use Rattle.escape_check.specs.Places.{Place, Refused, Refusal, sources_in, file_of}

abbrev pub place_view : FoundPlace → Place
place_view p = record { file = p.file; from = p.from; upto = p.upto }

abbrev pub refused_view : FoundRefused → Refused
refused_view r = record { code = r.code; member = r.member; place = option_map place_view r.place }

abbrev pub refusal_view : FoundRefusal → Refusal
refusal_view r = record { code = r.code; member = r.member; span = option_map place_of r.span }

-- a member as the program holds it, without the number of its first node
abbrev pub member_view : Found → Member ℕ
member_view m = record {
  window = m.window;
  locals = m.func.now.locals;
  declared = m.declared.now;
  first = m.first;
  tokens = m.func.now.tokens;
  statements = views m.statements.now;
  start = 0;
  from = m.from;
  upto = m.upto;
}

-- No refusal speaks of the numbers of nodes.
abbrev pub unnumbered : {T : Type 0} → Member T → Member T
unnumbered m = record m { start = 0 }

abbrev pub member_by : PackageView → Found → Member ℕ
member_by p m = member_over p.uses m.window m.func.now.locals m.func.now.tokens (tree_of m.func.now)

-- What the program holds of a member is read of its package; with it stands where each local of its function occurs last.
pub record IsSound (p : PackageView) (m : Found) : Type 0 where
  pub func : slice_get p.functions m.window.func ≡ Some m.func.now
  pub shown : member_view m ≡ unnumbered (member_by p m)
  pub file : m.file ≡ file_of (sources_in p) (member_view m)
  pub ends : m.ends.now ≡ ends_of m.func.now

-- whether a token of a file is one of a member
abbrev pub covers_token : ℕ → ℕ → Found → Bool
covers_token file token m = nat_eq file m.file && nat_le (m.first + m.from) token && nat_lt token (m.first + m.upto)

-- ---- the results that a template declares

-- The map has the first place of each local among those that the template's nodes name.
abbrev pub KnowsPlaces : Declared → Type 0
KnowsPlaces d = (n : ℕ) → get nat_eq d.places.now n ≡ place_in (all_locals false (views d.template.now.statements.now)) n

-- by the numbers of a member
abbrev pub results_in : Declared → Member ℕ → List ℕ
results_in d m = map (local_at (member_view d.template.now) m) d.locals.now
