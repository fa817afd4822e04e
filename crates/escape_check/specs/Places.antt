-- Places of a package by its tokens, the texts of names, and what is reported of members.
use Rattle.std.specs.Prelude.{ℕ, suc, ◌+◌, Bool, true, false, if◌then◌else◌, List, [], ◌∷◌, Option, Some, None, slice_get}
use Rattle.std.specs.Option.{option_map}
use Rattle.go_tree.specs.declared.object.Declared.{Declared}
use Rattle.go_tree.specs.File.{FileTree}
use Rattle.go_tree.specs.Units.{word}
use Rattle.go_tree.specs.Units as units
use Rattle.go_tree.specs.Uses.{UsesView, functions_among}
use Rattle.go_typed.specs.declared.origin.Origin.{Origin}
use Rattle.go_typed.specs.Contents.{Content}
use Rattle.go_typed.specs.Packages.{PackageView}
use Rattle.go_typed.specs.Trees.{Typed, typed}
use Rattle.param_choose.specs.Members.{Member}

-- What is read of a package besides its functions and its types: its files, what its names mean, and where declared types stand.
pub record Sources : Type 0 where
  pub files : List FileTree
  pub uses : UsesView
  pub origins : List Origin

abbrev pub sources_of : Content → Sources
sources_of c = record { files = c.files; uses = c.uses; origins = c.origins }

-- the same with the numbers of types
abbrev pub sources_in : PackageView → Sources
sources_in p = record { files = p.files; uses = p.uses; origins = p.origins }

-- ---- places

-- tokens of a file, from one up to another
pub record Place : Type 0 where
  pub file : ℕ
  pub from : ℕ
  pub upto : ℕ

abbrev pub file_in : Option Declared → ℕ
file_in None = 0
file_in (Some d) = d.file

-- the file of a member's function
abbrev pub file_of : {T : Type 0} → Sources → Member T → ℕ
file_of s m = file_in (slice_get (functions_among s.uses.package_level) m.window.func)

-- so many tokens of a member's function, which are counted from its first one
abbrev pub place : {T : Type 0} → Sources → Member T → ℕ → ℕ → Place
place s m i j = record { file = file_of s m; from = m.first + i; upto = m.first + j }

abbrev pub token_place : {T : Type 0} → Sources → Member T → ℕ → Place
token_place s m i = place s m i (suc i)

abbrev pub node_place : {T : Type 0} → Sources → Member T → Typed T → Place
node_place s m (typed f i j l ps) = place s m i j

abbrev pub window_place : {T : Type 0} → Sources → Member T → Place
window_place s m = place s m m.from m.upto

-- the place if the condition holds
abbrev pub place_if : Bool → Place → List Place
place_if true p = p ∷ []
place_if false p = []

abbrev pub declaring_place : Option Declared → List Place
declaring_place None = []
declaring_place (Some d) = record { file = d.file; from = d.name; upto = suc d.name } ∷ []

-- ---- texts

abbrev pub text_in : Option FileTree → ℕ → List ℕ
text_in None t = []
text_in (Some f) t = word f.tokens t

-- the bytes of a token of a file
abbrev pub text_at : Sources → ℕ → ℕ → List ℕ
text_at s n t = text_in (slice_get s.files n) t

abbrev pub name_text : Sources → Option Declared → List ℕ
name_text s None = []
name_text s (Some d) = text_at s d.file d.name

-- the name of a local of a member's function
abbrev pub local_text : {T : Type 0} → Sources → Member T → ℕ → List ℕ
local_text s m n = name_text s (slice_get m.declared n)

-- ---- what is reported

-- A code, the number of a member among the chosen ones, and a place, if the code has one.
pub record Refused : Type 0 where
  pub code : ℕ
  pub member : ℕ
  pub place : Option Place

-- the same with the bytes of the place
pub record Refusal : Type 0 where
  pub code : ℕ
  pub member : ℕ
  pub span : Option units.Place

abbrev pub nowhere : ℕ → units.Place
nowhere n = record { file = n; start = 0; end = 0 }

abbrev pub bytes_in : Place → Option FileTree → units.Place
bytes_in p None = nowhere p.file
bytes_in p (Some f) = units.bytes_of p.file f.tokens p.from p.upto

-- from the first byte of its first token to the last one of its last token
abbrev pub bytes_of : Sources → Place → units.Place
bytes_of s p = bytes_in p (slice_get s.files p.file)

abbrev pub reported : Sources → Refused → Refusal
reported s r = record { code = r.code; member = r.member; span = option_map (bytes_of s) r.place }

-- ---- the first member and the first place

abbrev pub first_of : List Place → Option Place
first_of [] = None
first_of (p ∷ ps) = Some p

abbrev pub refused_at : ℕ → ℕ → Option Place → Option Refused → Option Refused
refused_at code n (Some p) other = Some (record { code = code; member = n; place = Some p })
refused_at code n None other = other

-- The first member that has a place, with its first place; the first of the members has the number n.
abbrev pub refused_from : {T : Type 0} → ℕ → (Member T → List Place) → ℕ → List (Member T) → Option Refused
refused_from code rule n [] = None
refused_from code rule n (m ∷ ms) = refused_at code n (first_of (rule m)) (refused_from code rule (suc n) ms)

abbrev pub each_refused : {T : Type 0} → ℕ → (Member T → List Place) → List (Member T) → Option Refused
each_refused code rule ms = refused_from code rule 0 ms

-- the first member alone
abbrev pub template_refused : ℕ → List Place → Option Refused
template_refused code ps = refused_at code 0 (first_of ps) None

-- without a member and a place
abbrev pub refused_if : ℕ → Bool → Option Refused
refused_if code b = if b then Some (record { code = code; member = 0; place = None }) else None

abbrev pub or_refused : Option Refused → Option Refused → Option Refused
or_refused (Some r) s = Some r
or_refused None s = s

abbrev pub first_refused : List (Option Refused) → Option Refused
first_refused [] = None
first_refused (r ∷ rs) = or_refused r (first_refused rs)
