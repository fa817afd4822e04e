-- Rules on the names that are looked up.
use Rattle.std.specs.Prelude.{ℕ, suc, ◌-◌, Bool, true, false, ◌&&◌, ◌||◌, not, if◌then◌else◌, nat_eq, List, [], ◌∷◌, ◌++◌, Option, Some, None, codes}
use Rattle.go_tokens.specs.Tokens.{TokenList}
use Rattle.go_tokens.specs.Spellings.{same_text, listed}
use Rattle.go_tree.specs.declared.context.Entity.{Entity}
use Rattle.go_tree.specs.declared.context.Entity.TheVariants as entity
use Rattle.go_tree.specs.declared.context.Block.{Block}
use Rattle.go_tree.specs.declared.context.Role.{Role}
use Rattle.go_tree.specs.declared.context.Role.TheVariants as role
use Rattle.go_tree.specs.declared.event.Use.{Use}
use Rattle.go_tree.specs.declared.event.Event.{Event}
use Rattle.go_tree.specs.declared.event.Event.TheVariants as event
use Rattle.go_tree.specs.declared.object.Predeclared.TheVariants as predeclared
use Rattle.go_tree.specs.declared.object.Object.{Object}
use Rattle.go_tree.specs.declared.object.Object.TheVariants as object
use Rattle.go_tree.specs.Contexts.{is_package}
use Rattle.go_tree.specs.Predeclared.{unknown_names}
use Rattle.go_tree.specs.Units.{Unit, Place, word, is_blank, bytes_of, bytes_at}
use Rattle.go_tree.specs.Declarations.{Found}
use Rattle.go_tree.specs.Meanings.{Meaning, meaning_at}
use Rattle.go_tree.specs.Objects.{object_by, is_declared_at}
use Rattle.go_tree.specs.Failures.{place_if, of_files}

-- A name that is looked up: the number of its file, the name and its bytes; and if it is the operand of a selector, the bytes
-- of the selector and its last name. `meaning` is what it is declared as there.
pub record Asked : Type 0 where
  pub file : ℕ
  pub name : List ℕ
  pub place : Place
  pub whole : Place
  pub selected : List ℕ
  pub meaning : Option Meaning
  pub it : Use

abbrev pub whole_of : ℕ → TokenList → ℕ → Role → Place
whole_of n ts i (role.Selected last called) = bytes_of n ts i last
whole_of n ts i r = bytes_at n ts i

abbrev pub selected_of : TokenList → Role → List ℕ
selected_of ts (role.Selected last called) = word ts (last - 1)
selected_of ts r = []

abbrev pub asked : List Meaning → ℕ → TokenList → Use → Asked
asked ms n ts u = record { file = n; name = word ts u.name; place = bytes_at n ts u.name; whole = whole_of n ts u.name u.role; selected = selected_of ts u.role; meaning = meaning_at ms n u.name (word ts u.name); it = u }

abbrev pub asked_event : List Meaning → ℕ → TokenList → Event → List Asked → List Asked
asked_event ms n ts (event.Use u) asks = if is_blank (word ts u.name) then asks else asked ms n ts u ∷ asks
asked_event ms n ts e asks = asks

abbrev pub asked_in : List Meaning → ℕ → TokenList → List Event → List Asked
asked_in ms n ts [] = []
asked_in ms n ts (e ∷ es) = asked_event ms n ts e (asked_in ms n ts es)

-- the names that are looked up in the files, which are numbered from n on
abbrev pub asked_from : List Meaning → ℕ → List Unit → List Asked
asked_from ms n [] = []
asked_from ms n (u ∷ us) = asked_in ms n u.tokens u.events ++ asked_from ms (suc n) us

-- what it means
abbrev pub object_asked : Asked → Option Object
object_asked a = object_by a.name a.meaning

-- Declarations and scope: each name is declared or predeclared, and iota is so in constant declarations alone.
abbrev pub lacks_meaning : Bool → List ℕ → Option Object → Bool
lacks_meaning constant w None = not (listed unknown_names w)
lacks_meaning constant w (Some (object.Predeclared predeclared.Iota)) = not constant
lacks_meaning constant w (Some o) = false

abbrev pub undeclared : List Asked → List Place
undeclared [] = []
undeclared (a ∷ asks) = place_if (lacks_meaning a.it.constant a.name (object_asked a)) a.place (undeclared asks)

-- No predeclared name stands outside the profile.
abbrev pub is_unknown : List ℕ → Option Object → Bool
is_unknown w None = listed unknown_names w
is_unknown w (Some o) = false

abbrev pub outside_names : List Asked → List Place
outside_names [] = []
outside_names (a ∷ asks) = place_if (is_unknown a.name (object_asked a)) a.place (outside_names asks)

-- Qualified identifiers: the one member of fmt is Println.
abbrev pub is_other_member : Role → List ℕ → Bool
is_other_member (role.Selected last called) w = not (same_text w (codes "Println"))
is_other_member r w = false

abbrev pub is_import : Option Object → Bool
is_import (Some object.Import) = true
is_import o = false

abbrev pub outside_members : List Asked → List Place
outside_members [] = []
outside_members (a ∷ asks) = place_if (is_import (object_asked a) && is_other_member a.it.role a.selected) a.whole (outside_members asks)

-- Calls: fmt stands as fmt.Println alone, and that is called.
abbrev pub is_no_call : Role → List ℕ → Bool
is_no_call (role.Selected last true) w = false
is_no_call (role.Selected last false) w = same_text w (codes "Println")
is_no_call r w = true

abbrev pub not_called : List Asked → List Place
not_called [] = []
not_called (a ∷ asks) = place_if (is_import (object_asked a) && is_no_call a.it.role a.selected) a.whole (not_called asks)

-- Package initialization: the value of a package's variable names no function and no variable of the package.
abbrev pub is_entity_initial : Entity → Bool
is_entity_initial entity.Function = true
is_entity_initial entity.Variable = true
is_entity_initial e = false

abbrev pub is_initial_source : Option Found → Bool
is_initial_source None = false
is_initial_source (Some d) = is_entity_initial d.it.entity

abbrev pub is_initial : Option Meaning → Bool
is_initial None = false
is_initial (Some m) = is_initial_source m.source

abbrev pub initialisers : List Asked → List Place
initialisers [] = []
initialisers (a ∷ asks) = place_if (a.it.initial && is_initial a.meaning) a.place (initialisers asks)

-- Implementation restriction of variable declarations: each local variable is used, other than by an assignment to it.
abbrev pub is_local : Block → Bool
is_local b = not (is_package b)

abbrev pub is_counted : Entity → Block → Bool
is_counted entity.Variable b = is_local b
is_counted e b = false

abbrev pub is_assigned : Role → Bool
is_assigned role.Assigned = true
is_assigned r = false

abbrev pub means : Found → Option Meaning → Bool
means d None = false
means d (Some m) = is_declared_at d.file d.it.name m.source

abbrev pub is_used : Found → List Asked → Bool
is_used d [] = false
is_used d (a ∷ asks) = (means d a.meaning && not (is_assigned a.it.role)) || is_used d asks

abbrev pub unused_variables : List Asked → List Found → List Place
unused_variables asks [] = []
unused_variables asks (d ∷ ds) = place_if (is_counted d.it.entity d.it.block && not (is_used d asks)) d.place (unused_variables asks ds)

-- Import declarations: each is used.
abbrev pub uses_import : ℕ → List Asked → Bool
uses_import n [] = false
uses_import n (a ∷ asks) = (nat_eq a.file n && is_import (object_asked a)) || uses_import n asks

-- the imports of a file; b says whether they are used
abbrev pub imports_unless : Bool → ℕ → TokenList → List Event → List Place
imports_unless b n ts [] = []
imports_unless b n ts (event.Import p ∷ es) = place_if (not b) (bytes_at n ts p) (imports_unless b n ts es)
imports_unless b n ts (e ∷ es) = imports_unless b n ts es

abbrev pub unused_imports : List Asked → List Unit → List Place
unused_imports asks us = of_files (λ n. imports_unless (uses_import n asks) n) 0 us
