-- Frames that are related at some tokens alone: at those that a statement has, or those that stand behind a gap.
use Rattle.std.specs.Prelude.{◌≡◌, ℕ, Bool, true}
use Rattle.std.specs.Option.{option_map}
use Rattle.go_grammar.specs.Trees.{Tree, Trees}
use Rattle.go_rewriting.specs.Places.{carry, carries}
use Rattle.go_stmts_defs.specs.Frames.{Frame, local_stands}
use Rattle.go_stmts_defs.specs.Reading.{Reading, read}
use Rattle.go_package_alike.specs.Frames.{MaybeTokens, SameFrames}
use Rattle.go_package_alike.specs.Scopes.{AllTokens, TokensIn}
use Rattle.go_exprs_elsewhere.specs.Elsewhere.{Moves, placed, KeepsSpelling, AllKeepSpelling}
use Rattle.go_stmts_elsewhere.specs.Functions.{stays}
use Rattle.go_stmts_elsewhere.specs.Frames.{faults_placed, ObjectAlong, has_room, MaybeKeeps, AlongFrames, Named, KeepsPlaces, AllKeepPlaces}

-- The frames say at the tokens that pass p, and at those that pass q at their new places, what two frames say that are related at
-- all tokens: other tokens may say and mean anything.
pub record AlongAt (p q : ℕ → Bool) (m : Moves) (l : ℕ → Bool) (f g : Frame) : Type 0 where
  pub old : Frame
  pub new : Frame
  pub old_same : SameFrames p old f
  pub new_same : SameFrames q new g
  pub along : AlongFrames m l old new

-- the same tree, the same rules that fail, and frames that are related again; the locals that the tree names count
abbrev pub AlongReadingsAt : (ℕ → Bool) → (ℕ → Bool) → Moves → (ℕ → Bool) → Reading → Reading → Type 0
AlongReadingsAt p q m l (read x fs f) (read y gs g) = (y ≡ placed m x) × (gs ≡ faults_placed m fs) × AlongAt p q m l f g × Named l x

-- the tokens of a tree, where it stood and where it stands
abbrev pub HasTokens : (ℕ → Bool) → (ℕ → Bool) → Moves → Tree → Type 0
HasTokens p q m x = AllTokens p x × AllTokens q (carry m.token x)

abbrev pub HaveTokens : (ℕ → Bool) → (ℕ → Bool) → Moves → Trees → Type 0
HaveTokens p q m ts = TokensIn p ts × TokensIn q (carries m.token ts)

-- Frames that are related at some tokens: all that AlongFrames asks, but of what tokens say and mean only at those that pass p.
pub record RelatedAt (p q : ℕ → Bool) (m : Moves) (l : ℕ → Bool) (f g : Frame) : Type 0 where
  pub marks : (i : ℕ) → q (m.token i) ≡ p i
  pub rights : g.around.rights ≡ f.around.rights
  pub iota : g.around.iota ≡ f.around.iota
  pub needed : g.around.needed ≡ f.around.needed
  pub limits : g.around.limits ≡ f.around.limits
  pub texts : (i : ℕ) → p i ≡ true → m.spelled i ≡ true → g.around.texts (m.token i) ≡ f.around.texts i
  pub characters : (i : ℕ) → p i ≡ true → m.spelled i ≡ true → g.around.characters (m.token i) ≡ f.around.characters i
  pub objects : (i : ℕ) → p i ≡ true → ObjectAlong m l f.around g.around (f.around.objects i) (g.around.objects (m.token i))
  pub apart : (n k : ℕ) → l n ≡ true → l k ≡ true → m.local n ≡ m.local k → n ≡ k
  pub room : (n : ℕ) → l n ≡ true → has_room g.locals (m.local n) ≡ has_room f.locals n
  pub locals : (n : ℕ) → l n ≡ true → local_stands g.locals (m.local n) ≡ local_stands f.locals n
  pub types : (n : ℕ) → l n ≡ true → g.types (m.local n) ≡ f.types n
  pub source : g.source ≡ option_map (carry m.token) f.source
  pub repeats : MaybeKeeps m f.source
  pub old_repeats : MaybeTokens p f.source
  pub new_repeats : MaybeTokens q g.source
  pub tag : g.tag ≡ f.tag
  pub results : g.results ≡ f.results

-- what statements need where frames are related at some tokens alone
abbrev pub KeepAt : (ℕ → Bool) → (ℕ → Bool) → Moves → Tree → Type 0
KeepAt p q m x = HasTokens p q m x × KeepsSpelling m x × KeepsPlaces m x

abbrev pub AllKeepAt : (ℕ → Bool) → (ℕ → Bool) → Moves → Trees → Type 0
AllKeepAt p q m ts = HaveTokens p q m ts × AllKeepSpelling m ts × AllKeepPlaces m ts

-- The same tree and the same rules that fail, and frames that are related again where nothing is moved; the locals that the tree names
-- count.
abbrev pub SameReadingsAt : (ℕ → Bool) → (ℕ → Bool) → Reading → Reading → Type 0
SameReadingsAt p l (read x fs f) (read y gs g) = (y ≡ x) × (gs ≡ fs) × AlongAt p p stays l f g × Named l x
