-- Statements that stand in the place of a run: what is asked of the names that they tell.
use Rattle.std.specs.Prelude.{◌≡◌, ℕ, ◌+◌, ◌-◌, ◌≤◌, ◌⊎◌, true, false, List, [], length, Some, slice_get}
use Rattle.go_tokens.specs.declared.token.TokenKind.{TokenKind}
use Rattle.go_grammar.specs.declared.kind.Category.TheVariants as category
use Rattle.go_grammar.specs.Grammar.{Derives}
use Rattle.go_grammar.specs.Trees.{Trees, none, more, skip, first, last}
use Rattle.go_rewriting.specs.Places.{Patch}
use Rattle.go_tree.specs.declared.context.Entity.TheVariants as entity
use Rattle.go_tree.specs.declared.context.Manner.TheVariants as manner
use Rattle.go_tree.specs.declared.context.Site.TheVariants as site
use Rattle.go_tree.specs.declared.event.Declaration.{Declaration}
use Rattle.go_tree.specs.declared.event.Event.{Event}
use Rattle.go_tree.specs.declared.event.Event.TheVariants as event
use Rattle.go_tree.specs.declared.event.Use.{Use}
use Rattle.go_tree.specs.declared.object.Object.{Object}
use Rattle.go_tree.specs.Declarations.{is_reused_of, is_new}
use Rattle.go_tree.specs.Units.{is_blank}
use Rattle.go_tree.specs.Events.{is_more}
use Rattle.go_heads.specs.Bodies.{function_events}
use Rattle.go_heads.specs.Functions.{Alone}
use Rattle.go_heads.specs.Names.{text_there, own_text, own_names}
use Rattle.go_scopes_bodies.specs.Faults.{second_members_by}
use Rattle.go_scopes_bodies.specs.Listed.{AreStatements}
use Rattle.go_scopes_bodies.specs.Meant.{Meant, Outer, outside}
use Rattle.extract_names.specs.Gaps.{Redeclared, Gap, moved_by, Among, IsInRun, Stays}
use Rattle.extract_names.specs.Sites.{declared_at, found_as, EachEvent, IsPlain, DeclaresAgain, IsDeclared, NamedThere, Says, DeclaredStill, DeclaredAgainIn, UsedThere}
use Rattle.extract_names_derived.specs.Patches.{EachRun}
use Rattle.extract_names_derived.specs.Sites.{RunStands}

-- Statements are derived, between two tokens.
abbrev pub DeriveWithin : List TokenKind → ℕ → ℕ → Trees → Type 0
DeriveWithin ts i j none = Unit {0}
DeriveWithin ts i j (more p ps) = Derives ts category.Statement p × (i ≤ first p) × (last p ≤ j) × DeriveWithin ts i j ps
DeriveWithin ts i j (skip ps) = DeriveWithin ts i j ps

-- A name that is looked up is blank, or has to mean something, and not what is imported. It stands in no declaration of constants; and in one
-- of variables it means what no local is.
pub record UseAsked (v : ℕ → ℕ) (g : Gap) (u : Use) : Type 0 where
  pub calm : (is_blank (text_there (slice_get g.texts (u.name - v g.from))) ≡ true) ⊎ ((o : Meant) × (g.means (u.name - v g.from) ≡ Some o) × IsPlain o)
  pub constant : u.constant ≡ false
  pub declaring : (u.site ≡ site.Elsewhere) ⊎ ((o : Object) × (g.means (u.name - v g.from) ≡ Some (outside o)))

-- What is declared is a variable of the run again. There are no branches, and no functions or imports.
abbrev pub EventAsked : Alone → (ℕ → ℕ) → Gap → List Event → Event → Type 0
EventAsked a v g old (event.Declaration d) = DeclaresAgain a v g old d
EventAsked a v g old (event.Use u) = UseAsked v g u
EventAsked a v g old (event.Member m h x) = Unit {0}
EventAsked a v g old (event.Statement i j) = Unit {0}
EventAsked a v g old e = ⊥

-- Derived statements have the tokens of a gap, and what they tell is asked for.
pub record StatementsAsked (us : List TokenKind) (a new : Alone) (v : ℕ → ℕ) (g : Gap) (old news : List Event) (x : RunStands v g old news) : Type 0 where
  pub derive : DeriveWithin us (v g.from) (v g.from + length g.texts) x.new
  pub each : EachEvent (EventAsked a v g old) news
  pub all : (z : Redeclared) → Among z g.declared → IsDeclared (v g.from + z.token) news
  pub members_once : second_members_by (own_text new) [] news ≡ []

-- Wherever a run stands that begins at this token, this is asked of the statements in its place.
abbrev pub AskedInPlace : List TokenKind → Alone → Alone → List Gap → ℕ → Trees → Type 0
AskedInPlace us a new gaps from ps = (g : Gap) → Among g gaps → g.from ≡ from → (old news : List Event) → (x : RunStands (moved_by gaps) g old news) → x.new ≡ ps → StatementsAsked us a new (moved_by gaps) g old news x

-- What is asked of the statements in the place of runs, and of what they name and declare.
pub record IsAskedFor (us : List TokenKind) (a : Alone) (outer : Outer) (gaps : List Gap) (new : Alone) (patch : Patch) : Type 0 where
  pub statements : EachRun (AskedInPlace us a new gaps) a.tree patch
  -- Each name of a gap says what it has to.
  pub says : (g : Gap) → Among g gaps → (i : ℕ) (w : List ℕ) → slice_get g.texts i ≡ Some w → (o : Meant) → g.means i ≡ Some o → Says a outer g i w
  -- A local of a run that is named elsewhere is declared in its gap. No local is declared there twice, and no token twice.
  pub needed : (g : Gap) → Among g gaps → (d : ℕ) → IsInRun g d → (o : Meant) → declared_at a d ≡ Some o → NamedThere a outer gaps o → (z : Redeclared) × Among z g.declared × (z.old ≡ d)
  pub once : (g : Gap) → Among g gaps → (y z : Redeclared) → Among y g.declared → Among z g.declared → (y.old ≡ z.old) ⊎ (y.token ≡ z.token) → y ≡ z
  -- Where a name that stays before `:=` is a variable of a run, it is one that stays or that its gap declares.
  pub reuses : (g : Gap) → Among g gaps → (d x : Declaration) → Among (event.Declaration d) (function_events a) → Among (event.Declaration x) (function_events a)
      → Stays gaps d.name → IsInRun g x.name → d.manner ≡ manner.Defined → is_blank (own_text a d.name) ≡ false → is_reused_of (found_as a d) (found_as a x) ≡ true
      → (w : Declaration) × Among (event.Declaration w) (function_events a) × (is_reused_of (found_as a d) (found_as a w) ≡ true) × DeclaredAgainIn gaps w.name
  -- Each variable that is declared still is used.
  pub used : (d : Declaration) → Among (event.Declaration d) (function_events a) → is_new (own_names a) (found_as a d) ≡ true → d.entity ≡ entity.Variable → DeclaredStill gaps d.name → UsedThere a outer gaps new d.name

-- A run of statements from one token up to another.
pub record AreNewStatements (us : List TokenKind) (i j : ℕ) (new : Trees) : Type 0 where
  pub within : DeriveWithin us i j new
  pub some : is_more new ≡ true
  pub statements : AreStatements new
