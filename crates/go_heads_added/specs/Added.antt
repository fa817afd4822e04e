-- A function is appended to a file of a package.
use Rattle.std.specs.Prelude.{◌≡◌, ◌≤◌, ◌<◌, ℕ, suc, Bool, true, false, ◌&&◌, ◌||◌, not, if◌then◌else◌, nat_eq, nat_lt, List, [], ◌∷◌, ◌++◌, length, map, Some, slice_get}
use Rattle.std.specs.Option.{option_map}
use Rattle.std.specs.List.{AllByRecursion}
use Rattle.go_tree.specs.declared.context.Block.{Block}
use Rattle.go_tree.specs.declared.context.Block.TheVariants as block
use Rattle.go_tree.specs.declared.context.Entity.{Entity}
use Rattle.go_tree.specs.declared.context.Entity.TheVariants as entity
use Rattle.go_tree.specs.declared.context.Manner.TheVariants as manner
use Rattle.go_tree.specs.declared.event.Declaration.{Declaration}
use Rattle.go_tree.specs.declared.event.Event.{Event}
use Rattle.go_tree.specs.declared.event.Event.TheVariants as event
use Rattle.go_tree.specs.declared.object.Object.{Object}
use Rattle.go_tree.specs.declared.object.Object.TheVariants as object
use Rattle.go_tree.specs.declared.object.Declared.{Declared}
use Rattle.go_tree.specs.Contexts.{is_package}
use Rattle.go_tree.specs.Units.{Unit, word, is_blank, bytes_at}
use Rattle.go_tokens.specs.Spellings.{same_text}
use Rattle.go_tree.specs.Imports.{imports_fmt}
use Rattle.go_tree.specs.Meanings.{Numbers, first_numbers, numbers_behind}
use Rattle.go_tree.specs.Declarations.{Found, is_function, found, found_in, found_from, new_among}
use Rattle.go_tree.specs.Uses.{uses, object_of}

-- ---- numbers

-- How many objects of the package, and how many functions, stand in front of the new one.
pub record Gap : Type 0 where
  pub shared : ℕ
  pub functions : ℕ

-- a number, with one put in at a place
abbrev pub beyond : ℕ → ℕ → ℕ
beyond a n = if nat_lt n a then n else suc n

abbrev pub shifted : Gap → Object → Object
shifted g (object.Package n) = object.Package (beyond g.shared n)
shifted g (object.Local f n) = object.Local (beyond g.functions f) n
shifted g o = o

-- ---- what a file tells

-- A declaration of a package's constants, types and variables has the rest of the file as its scope.
abbrev pub is_reaching : Declaration → Bool
is_reaching d = is_package d.block && not (is_function d.entity)

abbrev pub to_end : ℕ → Declaration → Declaration
to_end end d = record d { scope = record { from = d.scope.from; to = if is_reaching d then end else d.scope.to } }

-- an event in a file with another end
abbrev pub reaching : ℕ → Event → Event
reaching end (event.Declaration d) = event.Declaration (to_end end d)
reaching end e = e

abbrev pub longer : ℕ → ℕ → Found → Found
longer k end d = record d { it = record d.it { scope = record { from = d.it.scope.from; to = if nat_eq d.file k && is_reaching d.it then end else d.it.scope.to } } }

-- A token of the file is not one of those from n on.
abbrev pub Stands : ℕ → ℕ → ℕ → ℕ → Type 0
Stands k n m t = nat_eq m k ≡ true → t < n

-- what is declared with the new function: it, and its parameters
pub record IsParameter (k n : ℕ) (d : Found) : Type 0 where
  pub file : d.file ≡ k
  pub entity : d.it.entity ≡ entity.Parameter
  pub manner : d.it.manner ≡ manner.Declared
  pub first : ℕ
  pub block : d.it.block ≡ block.Local first
  pub later : n ≤ first
  pub named : n ≤ d.it.name
  pub scope : n ≤ d.it.scope.from

pub record IsNewFunction (k n : ℕ) (called : List ℕ) (d : Found) : Type 0 where
  pub file : d.file ≡ k
  pub named : n ≤ d.it.name
  pub name : d.name ≡ called
  pub block : d.it.block ≡ block.Package
  pub entity : d.it.entity ≡ entity.Function
  pub manner : d.it.manner ≡ manner.Declared

-- The file of the number k tells what it told, to another end, and behind its n tokens what a function tells.
pub record IsLonger (k n : ℕ) (name : List ℕ) (a b : Unit) : Type 0 where
  pub end : ℕ
  pub added : List Event
  pub events : b.events ≡ map (reaching end) a.events ++ added
  pub count : length a.tokens.tokens ≡ n
  pub more : n ≤ length b.tokens.tokens
  pub words : (t : ℕ) → t < n → word b.tokens t ≡ word a.tokens t
  pub places : (m t : ℕ) → t < n → bytes_at m b.tokens t ≡ bytes_at m a.tokens t
  pub function : Found
  pub parameters : List Found
  pub declares : found_in k b.tokens added ≡ function ∷ parameters
  pub is_function : IsNewFunction k n name function
  pub are_parameters : AllByRecursion (IsParameter k n) parameters

-- One file of the package is longer, the others are as they were.
pub record IsAdded (k n : ℕ) (name : List ℕ) (old new : List Unit) : Type 0 where
  pub before : List Unit
  pub a : Unit
  pub b : Unit
  pub behind : List Unit
  pub was : old ≡ before ++ a ∷ behind
  pub is : new ≡ before ++ b ∷ behind
  pub place : length before ≡ k
  pub longer : IsLonger k n name a b

-- ---- numbers in front of it

-- the numbers behind declarations
abbrev pub behind : Numbers → List Found → Numbers
behind k [] = k
behind k (d ∷ ds) = behind (numbers_behind k d.it.entity d.it.block) ds

-- whether a function stands in front, b says whether one did
abbrev pub housed : Bool → Block → Entity → Bool
housed b block.Package e = is_function e || b
housed b (block.Local i) e = b

abbrev pub MayStand : Bool → Block → Type 0
MayStand b block.Package = Prim.Unit {0}
MayStand b (block.Local i) = b ≡ true

-- each local stands behind a function
abbrev pub AreHoused : Bool → List Found → Type 0
AreHoused b [] = Prim.Unit {0}
AreHoused b (d ∷ ds) = MayStand b d.it.block × AreHoused (housed b d.it.block d.it.entity) ds

-- A declaration of the file k stands in front of its token n, and so does the block that it is declared in.
abbrev pub BlockWithin : ℕ → Block → Type 0
BlockWithin n block.Package = Prim.Unit {0}
BlockWithin n (block.Local i) = i < n

pub record IsEarlier (k n : ℕ) (d : Found) : Type 0 where
  pub block : nat_eq d.file k ≡ true → BlockWithin n d.it.block

-- the events of names stand in front of the token n, or behind it
abbrev pub AreEarlier : ℕ → List Event → Type 0
AreEarlier n [] = Prim.Unit {0}
AreEarlier n (event.Use u ∷ es) = (u.name < n) × AreEarlier n es
AreEarlier n (event.Declaration d ∷ es) = (d.name < n) × AreEarlier n es
AreEarlier n (e ∷ es) = AreEarlier n es

abbrev pub AreLater : ℕ → List Event → Type 0
AreLater n [] = Prim.Unit {0}
AreLater n (event.Use u ∷ es) = (n ≤ u.name) × AreLater n es
AreLater n (event.Declaration d ∷ es) = (n ≤ d.name) × AreLater n es
AreLater n (e ∷ es) = AreLater n es

-- What trees give besides: names and blocks lie inside their files, locals stand behind functions, and the new function imports nothing.
pub record LiesIn (k n : ℕ) (name : List ℕ) (old new : List Unit) (h : IsAdded k n name old new) : Type 0 where
  pub earlier : AreEarlier n h.a.events
  pub later : AreLater n h.longer.added
  pub front_blocks : AllByRecursion (IsEarlier k n) (found_from 0 h.before ++ found_in k h.a.tokens h.a.events)
  pub rest_blocks : AllByRecursion (IsEarlier k n) (found_from (suc k) h.behind)
  pub front_housed : AreHoused false (new_among (found old) (found_from 0 h.before ++ found_in k h.a.tokens h.a.events))
  pub rest_housed : AreHoused false (new_among (found old) (found_from (suc k) h.behind))
  pub imports : imports_fmt h.b.tokens h.b.events ≡ imports_fmt h.a.tokens h.a.events
  pub named : is_blank name ≡ false

-- no token says the name
pub record NoneSays (name : List ℕ) (us : List Unit) : Type 0 where
  pub by : (m : ℕ) (u : Unit) (t : ℕ) → slice_get us m ≡ Some u → same_text name (word u.tokens t) ≡ false

abbrev pub gap_in : (k n : ℕ) (name : List ℕ) (old new : List Unit) → IsAdded k n name old new → Gap
gap_in k n name old new h =
    let l = behind first_numbers (new_among (found old) (found_from 0 h.before ++ found_in k h.a.tokens h.a.events)) in
    record { shared = l.shared; functions = l.functions }

-- ---- what is kept

-- Each old token has the object that it had, by its new number.
pub record KeepsAll (k n : ℕ) (g : Gap) (old new : List Unit) : Type 0 where
  pub objects : (m t : ℕ) → Stands k n m t → object_of (uses new) m t ≡ option_map (shifted g) (object_of (uses old) m t)

abbrev pub longer_declared : ℕ → ℕ → Declared → Declared
longer_declared k end d = record d { scope = record { from = d.scope.from; to = if nat_eq d.file k && (is_package d.block && not (is_function d.entity)) then end else d.scope.to } }

-- The objects of the package are those that there were, and the function between.
pub record KeepsDeclared (k end : ℕ) (g : Gap) (old new : List Unit) : Type 0 where
  pub first : List Declared
  pub function : Declared
  pub second : List Declared
  pub were : (uses old).package_level ≡ first ++ second
  pub are : (uses new).package_level ≡ map (longer_declared k end) first ++ function ∷ map (longer_declared k end) second
  pub place : length first ≡ g.shared
