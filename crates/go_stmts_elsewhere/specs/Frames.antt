-- What is known between two statements, and between the same two where their tokens stand elsewhere and locals have other numbers.
use Rattle.std.specs.Prelude.{◌≡◌, ℕ, suc, ◌-◌, Bool, true, List, map, Option, Some, None, is_some, slice_get}
use Rattle.std.specs.Option.{option_map}
use Rattle.go_grammar.specs.declared.kind.Kind.{Kind}
use Rattle.go_grammar.specs.declared.kind.Kind.TheVariants as kind
use Rattle.go_grammar.specs.declared.kind.Sort.TheVariants as declaring
use Rattle.go_grammar.specs.Trees.{Tree, node, Trees, none, more, skip}
use Rattle.go_rewriting.specs.Places.{carry}
use Rattle.go_tree.specs.declared.object.Object.{Object}
use Rattle.go_tree.specs.declared.object.Object.TheVariants as object
use Rattle.go_types.specs.Trees.{TypeTree}
use Rattle.go_typed.specs.declared.form.Form.{Form}
use Rattle.go_typed.specs.declared.form.Form.TheVariants as form
use Rattle.go_typed.specs.Trees.{typed, Typeds}
use Rattle.go_typed.specs.Trees as sort
use Rattle.go_exprs_rules.specs.declared.fault.TypeFault.{TypeFault}
use Rattle.go_exprs_rules.specs.Scopes.{Needed, Scope}
use Rattle.go_exprs_rules.specs.Settling.{Part}
use Rattle.go_exprs_rules.specs.Tables.{Parts}
use Rattle.go_stmts_defs.specs.Frames.{Frame, Locals, local_stands}
use Rattle.go_stmts_defs.specs.Reading.{Found, Reading, read}
use Rattle.go_exprs_elsewhere.specs.Elsewhere.{Moves, referent_moved, placed, fault_placed, KeepsSpelling}

abbrev pub parts_placed : Moves → Parts → Parts
parts_placed m xs = map (λ x. option_map (placed m) x) xs

abbrev pub faults_placed : Moves → Found → Found
faults_placed m fs = map (λ (gs : List TypeFault). map (fault_placed m) gs) fs

-- Two objects mean the same, a local that counts under its new number. Which function a local is of counts for nothing.
abbrev pub ObjectAlong : Moves → (ℕ → Bool) → Scope → Scope → Option Object → Option Object → Type 0
ObjectAlong m l s t None None = Unit {0}
ObjectAlong m l s t (Some object.Import) (Some object.Import) = Unit {0}
ObjectAlong m l s t (Some (object.Predeclared p)) (Some (object.Predeclared q)) = q ≡ p
ObjectAlong m l s t (Some (object.Package a)) (Some (object.Package b)) = ((n : Needed) → t.sorts n (object.Package b) ≡ s.sorts n (object.Package a)) × (t.referents b ≡ referent_moved m (s.referents a))
ObjectAlong m l s t (Some (object.Local c a)) (Some (object.Local d b)) = (l a ≡ true) × (b ≡ m.local a)
ObjectAlong m l s t o q = ⊥

-- whether a local of this number may be declared
abbrev pub has_room : Locals → ℕ → Bool
has_room ls n = is_some (slice_get ls n)

-- ---- trees

-- The name of a local type is one token, and a function's last token is its brace, elsewhere too.
abbrev pub PlaceKept : Moves → Kind → ℕ → ℕ → Type 0
PlaceKept m (kind.Specification declaring.Type) i j = m.token (suc i) ≡ suc (m.token i)
PlaceKept m kind.FunctionDeclaration i j = m.token (j - 1) ≡ m.token j - 1
PlaceKept m k i j = Unit {0}

abbrev mutual
  pub KeepsPlaces : Moves → Tree → Type 0
  KeepsPlaces m (node k i j ps) = PlaceKept m k i j × AllKeepPlaces m ps

  pub AllKeepPlaces : Moves → Trees → Type 0
  AllKeepPlaces m none = Unit {0}
  AllKeepPlaces m (more t ts) = KeepsPlaces m t × AllKeepPlaces m ts
  AllKeepPlaces m (skip ts) = AllKeepPlaces m ts

-- ---- frames

-- what constants may repeat
abbrev pub MaybeKeeps : Moves → Option Tree → Type 0
MaybeKeeps m None = Unit {0}
MaybeKeeps m (Some t) = KeepsSpelling m t

-- Each token says and means at its new place what it said and meant, and the locals that count, those that pass the test, stand
-- for the same under their new numbers. Other locals may be in one frame alone.
pub record AlongFrames (m : Moves) (l : ℕ → Bool) (f g : Frame) : Type 0 where
  pub rights : g.around.rights ≡ f.around.rights
  pub iota : g.around.iota ≡ f.around.iota
  pub needed : g.around.needed ≡ f.around.needed
  pub limits : g.around.limits ≡ f.around.limits
  pub texts : (i : ℕ) → m.spelled i ≡ true → g.around.texts (m.token i) ≡ f.around.texts i
  pub characters : (i : ℕ) → m.spelled i ≡ true → g.around.characters (m.token i) ≡ f.around.characters i
  pub objects : (i : ℕ) → ObjectAlong m l f.around g.around (f.around.objects i) (g.around.objects (m.token i))
  pub apart : (n k : ℕ) → l n ≡ true → l k ≡ true → m.local n ≡ m.local k → n ≡ k
  pub room : (n : ℕ) → l n ≡ true → has_room g.locals (m.local n) ≡ has_room f.locals n
  pub locals : (n : ℕ) → l n ≡ true → local_stands g.locals (m.local n) ≡ local_stands f.locals n
  pub types : (n : ℕ) → l n ≡ true → g.types (m.local n) ≡ f.types n
  pub source : g.source ≡ option_map (carry m.token) f.source
  pub repeats : MaybeKeeps m f.source
  pub tag : g.tag ≡ f.tag
  pub results : g.results ≡ f.results

-- ---- the locals that parts name

abbrev pub form_named : (ℕ → Bool) → Form → Type 0
form_named l (form.Local n) = l n ≡ true
form_named l (form.New n) = l n ≡ true
form_named l (form.Declared n) = l n ≡ true
form_named l f = Unit {0}

abbrev mutual
  -- the locals that a part names count, and those that its parts do
  pub Named : (ℕ → Bool) → Part → Type 0
  Named l (typed f i j x ps) = form_named l f × RowNamed l ps

  pub RowNamed : (ℕ → Bool) → Typeds TypeTree → Type 0
  RowNamed l sort.none = Unit {0}
  RowNamed l (sort.more x xs) = Named l x × RowNamed l xs
  RowNamed l (sort.skip xs) = RowNamed l xs

-- ---- readings

-- The same tree is read at its new place, the same rules fail there, and the frames behind it are related again. The locals that it
-- names count.
abbrev pub AlongReadings : Moves → (ℕ → Bool) → Reading → Reading → Type 0
AlongReadings m l (read x fs f) (read y gs g) = (y ≡ placed m x) × (gs ≡ faults_placed m fs) × AlongFrames m l f g × Named l x
