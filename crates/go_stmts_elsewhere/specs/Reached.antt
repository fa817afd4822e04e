-- What statements read of right sides: those of the declared types that they reach, through what their tokens and their locals stand for.
use Rattle.std.specs.Prelude.{◌≡◌, ℕ, ◌<◌, ◌≤◌, Bool, true, List, [], ◌∷◌, length, Option, Some}
use Rattle.go_tree.specs.declared.object.Object.{Object}
use Rattle.go_tree.specs.declared.object.Object.TheVariants as object
use Rattle.go_types.specs.Trees.{TypeTree}
use Rattle.go_types_relations.specs.Questions.{entry}
use Rattle.go_exprs_rules.specs.Scopes.{Needed, Scope}
use Rattle.go_package_alike.specs.Frames.{MaybeTokens}
use Rattle.go_package_laws.specs.Reach.{Within, StandsWithin}
use Rattle.go_renumbering.specs.Reached.{IsClosed}
use Rattle.go_stmts_defs.specs.Frames.{Frame, local_stands}
use Rattle.go_stmts_defs.specs.Reading.{Reading, read}
use Rattle.go_stmts_elsewhere.specs.Frames.{ObjectAlong, has_room}
use Rattle.go_stmts_elsewhere.specs.Functions.{stays}

-- What a token means stands for types that pass the test r alone, however it is needed; a local counts.
abbrev pub ObjectReaches : (ℕ → Bool) → (ℕ → Bool) → Scope → Option Object → Type 0
ObjectReaches l r s (Some (object.Package n)) = (need : Needed) → StandsWithin r (s.sorts need (object.Package n))
ObjectReaches l r s (Some (object.Local f n)) = l n ≡ true
ObjectReaches l r s o = Unit {0}

abbrev pub AllWithin : (ℕ → Bool) → List TypeTree → Type 0
AllWithin r [] = Unit {0}
AllWithin r (t ∷ ts) = Within r t × AllWithin r ts

-- Statements with the tokens that pass p reach no declared types but those that pass r: what these tokens mean, the locals that count, those
-- that pass l, the tag and the results name no others, nor do the right sides of those, which are among so many.
pub record Reaches (p l r : ℕ → Bool) (bound : ℕ) (f : Frame) : Type 0 where
  pub closed : IsClosed r f.around.rights
  pub below : (n : ℕ) → r n ≡ true → n < bound
  pub within : length f.around.rights ≤ bound
  pub objects : (i : ℕ) → p i ≡ true → ObjectReaches l r f.around (f.around.objects i)
  pub locals : (n : ℕ) → l n ≡ true → StandsWithin r (local_stands f.locals n)
  pub types : (n : ℕ) → r (f.types n) ≡ true
  pub tag : StandsWithin r f.tag
  pub results : AllWithin r f.results
  pub repeats : MaybeTokens p f.source

-- The frames say and mean the same at these tokens, and agree on those locals and on the right sides of those types.
pub record AgreeFrames (p l r : ℕ → Bool) (f g : Frame) : Type 0 where
  pub rights : (n : ℕ) → r n ≡ true → entry g.around.rights n ≡ entry f.around.rights n
  pub as_many : length g.around.rights ≡ length f.around.rights
  pub iota : g.around.iota ≡ f.around.iota
  pub needed : g.around.needed ≡ f.around.needed
  pub limits : g.around.limits ≡ f.around.limits
  pub texts : (i : ℕ) → p i ≡ true → g.around.texts i ≡ f.around.texts i
  pub characters : (i : ℕ) → p i ≡ true → g.around.characters i ≡ f.around.characters i
  pub objects : (i : ℕ) → p i ≡ true → ObjectAlong stays l f.around g.around (f.around.objects i) (g.around.objects i)
  pub room : (n : ℕ) → l n ≡ true → has_room g.locals n ≡ has_room f.locals n
  pub locals : (n : ℕ) → l n ≡ true → local_stands g.locals n ≡ local_stands f.locals n
  pub types : (n : ℕ) → g.types n ≡ f.types n
  pub source : g.source ≡ f.source
  pub tag : g.tag ≡ f.tag
  pub results : g.results ≡ f.results

-- The same tree and the same rules that fail, and the locals that count stand for the same behind it.
abbrev pub ReadAlike : (ℕ → Bool) → Reading → Reading → Type 0
ReadAlike l (read x fs f) (read y gs g) = (y ≡ x) × (gs ≡ fs) × ((n : ℕ) → l n ≡ true → local_stands g.locals n ≡ local_stands f.locals n)
