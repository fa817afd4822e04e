-- Calls in the place of all runs of a function: what is asked of what they name and declare.
use Rattle.std.specs.Prelude.{◌≡◌, ℕ, ◌+◌, true, false, List, [], ◌∷◌, length, Some, slice_get}
use Rattle.go_tokens.specs.declared.token.TokenKind.{TokenKind}
use Rattle.go_grammar.specs.Trees.{Tree, Trees}
use Rattle.go_rewriting.specs.Places.{Patch}
use Rattle.go_rewriting.specs.Sites.{Site, items, site_range}
use Rattle.go_tree.specs.declared.context.Entity.TheVariants as entity
use Rattle.go_tree.specs.declared.context.Manner.TheVariants as manner
use Rattle.go_tree.specs.declared.event.Declaration.{Declaration}
use Rattle.go_tree.specs.declared.event.Event.TheVariants as event
use Rattle.go_tree.specs.Declarations.{is_reused_of, is_new}
use Rattle.go_tree.specs.Units.{is_blank}
use Rattle.go_heads.specs.Bodies.{function_events}
use Rattle.go_heads.specs.Functions.{Alone}
use Rattle.go_heads.specs.Names.{own_text, own_names}
use Rattle.go_print_laws.specs.Calls.{Call, call_trees}
use Rattle.go_scopes_bodies.specs.Meant.{Meant, Outer}
use Rattle.extract_names.specs.Gaps.{Redeclared, Gap, moved_by, Among, IsInRun, Stays}
use Rattle.extract_names.specs.Sites.{declared_at, found_as, NamedThere, Says, DeclaredStill, DeclaredAgainIn, UsedThere}
use Rattle.extract_names_derived.specs.Calls.{DeclaresEach, gap_means, gap_text}
use Rattle.extract_names_derived.specs.Fields.{CallFieldsOnce}
use Rattle.extract_names_derived.specs.News.{DeriveWithin}
use Rattle.extract_names_derived.specs.Patches.{EachRun}

-- The statements in the place of a run that begins at this token are those of its call, derived over the gap's tokens.
abbrev pub CallInPlace : List TokenKind → List Gap → (Gap → Call) → ℕ → Trees → Type 0
CallInPlace us gaps calls from ps = (g : Gap) → Among g gaps → g.from ≡ from
    → (ps ≡ call_trees (moved_by gaps g.from) (calls g)) × DeriveWithin us (moved_by gaps g.from) (moved_by gaps g.from + length g.texts) ps

-- So it is at the end of each path that leads to a run.
abbrev pub CallsAtSites : List TokenKind → List Gap → (Gap → Call) → Tree → List Site → Type 0
CallsAtSites us gaps calls t [] = Unit {0}
CallsAtSites us gaps calls t (x ∷ xs) = ((f n : ℕ) (new : Trees) → x.change ≡ items f n new → CallInPlace us gaps calls (site_range t x).from new) × CallsAtSites us gaps calls t xs

-- The new statements at the end of each path are those of the call of the gap that begins there.
abbrev pub CallTreesAtSites : List Gap → (Gap → Call) → Tree → List Site → Type 0
CallTreesAtSites gaps calls t [] = Unit {0}
CallTreesAtSites gaps calls t (x ∷ xs) = ((f n : ℕ) (new : Trees) → x.change ≡ items f n new → (g : Gap) → Among g gaps → g.from ≡ (site_range t x).from → new ≡ call_trees (moved_by gaps g.from) (calls g))
    × CallTreesAtSites gaps calls t xs

-- What is asked of what the calls in the place of runs name and declare.
pub record CallsMean (a : Alone) (outer : Outer) (gaps : List Gap) (new : Alone) (calls : Gap → Call) : Type 0 where
  -- Names of types mean what no local is, others what may be named anywhere; and each declared variable is one of the run again.
  pub each : (g : Gap) → Among g gaps
      → DeclaresEach a g (function_events a) (gap_text g (moved_by gaps g.from)) (gap_means g (moved_by gaps g.from)) (moved_by gaps g.from) (moved_by gaps g.from) (calls g).declared
      (calls g).types g.declared (calls g).results (calls g).arguments
  -- No field stands twice in a type that is written down with a call.
  pub fields : (g : Gap) → Among g gaps → CallFieldsOnce (own_text new) (moved_by gaps g.from) (calls g)
  -- Each name of a gap says what it has to.
  pub says : (g : Gap) → Among g gaps → (i : ℕ) (w : List ℕ) → slice_get g.texts i ≡ Some w → (o : Meant) → g.means i ≡ Some o → Says a outer g i w
  -- A local of a run that is named elsewhere is declared in its gap, and none twice.
  pub needed : (g : Gap) → Among g gaps → (d : ℕ) → IsInRun g d → (o : Meant) → declared_at a d ≡ Some o → NamedThere a outer gaps o → (z : Redeclared) × Among z g.declared × (z.old ≡ d)
  pub once : (g : Gap) → Among g gaps → (y z : Redeclared) → Among y g.declared → Among z g.declared → y.old ≡ z.old → y ≡ z
  -- Where a name that stays before `:=` is a variable of a run, it is one that stays or that its gap declares.
  pub reuses : (g : Gap) → Among g gaps → (d x : Declaration) → Among (event.Declaration d) (function_events a) → Among (event.Declaration x) (function_events a)
      → Stays gaps d.name → IsInRun g x.name → d.manner ≡ manner.Defined → is_blank (own_text a d.name) ≡ false → is_reused_of (found_as a d) (found_as a x) ≡ true
      → (w : Declaration) × Among (event.Declaration w) (function_events a) × (is_reused_of (found_as a d) (found_as a w) ≡ true) × DeclaredAgainIn gaps w.name
  -- Each variable that is declared still is used.
  pub used : (d : Declaration) → Among (event.Declaration d) (function_events a) → is_new (own_names a) (found_as a d) ≡ true → d.entity ≡ entity.Variable → DeclaredStill gaps d.name → UsedThere a outer gaps new d.name

-- The statements of these calls stand in the place of runs.
pub record CallsAsked (us : List TokenKind) (a : Alone) (outer : Outer) (gaps : List Gap) (new : Alone) (patch : Patch) (calls : Gap → Call) : Type 0 where
  pub trees : EachRun (CallInPlace us gaps calls) a.tree patch
  pub mean : CallsMean a outer gaps new calls
