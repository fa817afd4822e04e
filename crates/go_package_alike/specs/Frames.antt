-- What is known between two statements, in two scopes that say the same.
use Rattle.std.specs.Prelude.{◌≡◌, ℕ, Bool, Option, Some, None}
use Rattle.go_grammar.specs.Trees.{Tree}
use Rattle.go_stmts_defs.specs.Frames.{Frame}
use Rattle.go_stmts_defs.specs.Reading.{Reading, read}
use Rattle.go_package_alike.specs.Scopes.{AllTokens, SaySame}

-- of a tree that there may be
abbrev pub MaybeTokens : (ℕ → Bool) → Option Tree → Type 0
MaybeTokens p None = Unit {0}
MaybeTokens p (Some t) = AllTokens p t

-- What surrounds them says the same, and all else is the same. What constants may repeat has these tokens alone.
pub record SameFrames (p : ℕ → Bool) (f g : Frame) : Type 0 where
  pub around : SaySame p f.around g.around
  pub locals : g.locals ≡ f.locals
  pub types : g.types ≡ f.types
  pub source : g.source ≡ f.source
  pub repeats : MaybeTokens p f.source
  pub tag : g.tag ≡ f.tag
  pub results : g.results ≡ f.results

-- The same tree and the same rules that fail are read, and the frames behind it are the same again.
abbrev pub SameReadings : (ℕ → Bool) → Reading → Reading → Type 0
SameReadings p (read x fs f) (read y gs g) = (y ≡ x) × (gs ≡ fs) × SameFrames p f g
