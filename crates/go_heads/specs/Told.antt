-- What a file tells of names outside the bodies of its functions (Go specification: Declarations and scope).
use Rattle.std.specs.Prelude.{ℕ, Bool, ◌&&◌, not, if◌then◌else◌, List, [], ◌∷◌, map, Option, Some, None}
use Rattle.go_grammar.specs.Trees.{last, parts}
use Rattle.go_tree.specs.declared.context.Entity.{Entity}
use Rattle.go_tree.specs.declared.context.Manner.{Manner}
use Rattle.go_tree.specs.declared.context.Site.{Site}
use Rattle.go_tree.specs.declared.context.Site.TheVariants as site
use Rattle.go_tree.specs.declared.event.Declaration.{Declaration}
use Rattle.go_tree.specs.declared.event.Use.{Use}
use Rattle.go_tree.specs.declared.event.Event.{Event}
use Rattle.go_tree.specs.declared.event.Event.TheVariants as event
use Rattle.go_tree.specs.Contexts.{is_package, file_context}
use Rattle.go_tree.specs.Events.{events}
use Rattle.go_heads.specs.Heads.{File, in_bodies, place_outside}

-- A name that is declared in the package block: its token, what it is declared as and how, the specification whose type and values
-- it has, if there is one, and its number there.
pub record NewName : Type 0 where
  pub name : ℕ
  pub entity : Entity
  pub manner : Manner
  pub source : Option ℕ
  pub column : ℕ

-- A name that is looked up: its token, the part of a declaration that it stands in, and whether it stands in a declaration of
-- constants and in the value of a package's variable.
pub record AskedName : Type 0 where
  pub name : ℕ
  pub site : Site
  pub constant : Bool
  pub initial : Bool

pub data Told : Type 0 where
  declares : NewName → Told
  asks : AskedName → Told

abbrev pub new_name : Declaration → NewName
new_name d = record { name = d.name; entity = d.entity; manner = d.manner; source = d.source; column = d.column }

abbrev pub asked_name : Use → AskedName
asked_name u = record { name = u.name; site = u.site; constant = u.constant; initial = u.initial }

-- what an event tells, in front of others; a name at a token that passes the test is left out
abbrev pub tell : (ℕ → Bool) → Event → List Told → List Told
tell p (event.Declaration d) xs = if is_package d.block && not (p d.name) then declares (new_name d) ∷ xs else xs
tell p (event.Use u) xs = if p u.name then xs else asks (asked_name u) ∷ xs
tell p e xs = xs

abbrev pub told : (ℕ → Bool) → List Event → List Told
told p [] = []
told p (e ∷ es) = tell p e (told p es)

-- ---- with other places of tokens

abbrev pub place_of : (ℕ → ℕ) → Option ℕ → Option ℕ
place_of m None = None
place_of m (Some n) = Some (m n)

abbrev pub site_of : (ℕ → ℕ) → Site → Site
site_of m site.Elsewhere = site.Elsewhere
site_of m (site.Type s) = site.Type (m s)
site_of m (site.Value s column alone) = site.Value (m s) column alone
site_of m (site.Right s reach) = site.Right (m s) reach

abbrev pub placed : (ℕ → ℕ) → Told → Told
placed m (declares x) = declares (record x { name = m x.name; source = place_of m x.source })
placed m (asks x) = asks (record x { name = m x.name; site = site_of m x.site })

-- the events of a file
abbrev pub file_events : File → List Event
file_events f = events (file_context (last f.tree)) f.tree

-- what it tells outside the bodies, at the places of its head
abbrev pub told_outside : File → List Told
told_outside f = map (placed (place_outside (in_bodies (parts f.tree)))) (told (in_bodies (parts f.tree)) (file_events f))
