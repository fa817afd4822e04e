-- A derived function in which other statements stand in the place of runs, by its tokens and its tree.
use Rattle.std.specs.Prelude.{◌≡◌, ℕ, ◌<◌, ◌≤◌, ◌⊎◌, Bool, true, false, List, [], ◌∷◌, length, Some, None, slice_get}
use Rattle.go_tokens.specs.declared.token.TokenKind.{TokenKind}
use Rattle.go_grammar.specs.declared.kind.Category.TheVariants as category
use Rattle.go_grammar.specs.Grammar.{Derives}
use Rattle.go_grammar.specs.Trees.{Trees}
use Rattle.go_rewriting.specs.Places.{Change, Patch, become, places}
use Rattle.go_rewriting.specs.Sites.{AreSites, Site, patch_of, with_sites}
use Rattle.go_tree.specs.declared.context.Entity.TheVariants as entity
use Rattle.go_tree.specs.declared.context.Manner.TheVariants as manner
use Rattle.go_tree.specs.declared.context.Context.{Context}
use Rattle.go_tree.specs.declared.context.Role.TheVariants as role
use Rattle.go_tree.specs.declared.event.Event.{Event}
use Rattle.go_tree.specs.declared.event.Declaration.{Declaration}
use Rattle.go_tree.specs.declared.event.Event.TheVariants as event
use Rattle.go_tree.specs.Contexts.{is_package, file_context}
use Rattle.go_tree.specs.Declarations.{is_reused_of, is_new}
use Rattle.go_tree.specs.Units.{is_blank}
use Rattle.go_heads.specs.Bodies.{function_events}
use Rattle.go_heads.specs.Functions.{Alone}
use Rattle.go_heads.specs.Names.{own_text, own_names}
use Rattle.go_scopes_bodies.specs.Carried.{carried_context}
use Rattle.go_scopes_bodies.specs.Listed.{told_list}
use Rattle.go_scopes_bodies.specs.Meant.{Meant, Outer}
use Rattle.extract_names.specs.Gaps.{Redeclared, Gap, moved_by, ranges, Among, IsInRun, Stays}
use Rattle.extract_names.specs.Pieces.{Piece, stays, gap, pieces}
use Rattle.extract_names.specs.Sites.{declared_at, found_as, EachEvent, specification_at, EventGoes, GapTells, NamedThere, Says, DeclaredStill, DeclaredAgainIn, UsedThere}
use Rattle.extract_names_derived.specs.Functions.{IsDerivedFunction}
use Rattle.extract_names_derived.specs.Patches.{InLists, ReplaceRuns}
use Rattle.extract_names_derived.specs.Texts.{with_gaps}

-- The statements in the place of each run tell what those of the gap have to.
abbrev pub AllTell : Alone → Alone → List Gap → List Gap → List Piece → Type 0
AllTell a new all gs [] = Unit {0}
AllTell a new all gs (stays es ∷ ps) = AllTell a new all gs ps
AllTell a new all [] (gap old news ∷ ps) = ⊥
AllTell a new all (g ∷ gs) (gap old news ∷ ps) = GapTells a new (moved_by all) g old news × AllTell a new all gs ps

-- Statements stand in the place of runs of a derived function: the patch replaces these runs in its tree, and the texts of the gaps those
-- of the runs. The new function is derived too.
pub record IsRewritten (ts us : List TokenKind) (a : Alone) (gaps : List Gap) (new : Alone) : Type 0 where
  pub function : IsDerivedFunction ts a
  pub patch : Patch
  pub lists : InLists a.tree patch
  pub places : places a.tree patch ≡ ranges gaps
  pub some : (g : Gap) → Among g gaps → 0 < length g.texts
  pub tree : new.tree ≡ become (moved_by gaps) a.tree patch
  pub texts : new.texts ≡ with_gaps gaps a.texts
  pub derives : Derives us category.Declaration new.tree

-- The choice of what is declared and named in the gaps: what is asked of it besides.
pub record IsChosen (a : Alone) (outer : Outer) (gaps : List Gap) (new : Alone) (patch : Patch) : Type 0 where
  pub tell : AllTell a new gaps gaps (pieces (moved_by gaps) (file_context 0) a.tree patch)
  -- Each name of a gap says what it has to.
  pub says : (g : Gap) → Among g gaps → (i : ℕ) (w : List ℕ) → slice_get g.texts i ≡ Some w → (o : Meant) → g.means i ≡ Some o → Says a outer g i w
  -- A local of a run that is named elsewhere is declared in its gap. No local is declared there twice, and no token twice.
  pub needed : (g : Gap) → Among g gaps → (d : ℕ) → IsInRun g d → (o : Meant) → declared_at a d ≡ Some o → NamedThere a outer gaps o → (z : Redeclared) × Among z g.declared × (z.old ≡ d)
  pub once : (g : Gap) → Among g gaps → (y z : Redeclared) → Among y g.declared → Among z g.declared → (y.old ≡ z.old) ⊎ (y.token ≡ z.token) → y ≡ z
  -- Where a name that stays before `:=` is a variable of a run, it is one that stays or that its gap declares.
  pub reuses : (g : Gap) → Among g gaps → (d x : Declaration) → Among (event.Declaration d) (function_events a) → Among (event.Declaration x) (function_events a)
      → Stays gaps d.name → IsInRun g x.name → d.manner ≡ manner.Defined → is_blank (own_text a d.name) ≡ false → is_reused_of (found_as a d) (found_as a x) ≡ true
      → (w : Declaration) × Among (event.Declaration w) (function_events a) × (is_reused_of (found_as a d) (found_as a w) ≡ true) × DeclaredAgainIn gaps w.name
  -- Each variable that is declared still is used.
  pub used : (d : Declaration) → Among (event.Declaration d) (function_events a) → is_new (own_names a) (found_as a d) ≡ true → d.entity ≡ entity.Variable → DeclaredStill gaps d.name → UsedThere a outer gaps new d.name

-- The gaps stand where these changes of tokens do, and have as many tokens.
abbrev pub AreOf : List Gap → List Change → Type 0
AreOf [] [] = Unit {0}
AreOf [] (x ∷ xs) = ⊥
AreOf (g ∷ gs) [] = ⊥
AreOf (g ∷ gs) (x ∷ xs) = (x.from ≡ g.from) × (x.upto ≡ g.upto) × (length x.words ≡ length g.texts) × AreOf gs xs

-- The tokens of a derived function are changed at runs of its statements, and the new function has the tree that the changes make of it, and
-- the texts with those of the gaps.
pub record IsChangedFunction (ts : List TokenKind) (a : Alone) (gaps : List Gap) (xs : List Change) (ss : List Site) (new : Alone) : Type 0 where
  pub function : IsDerivedFunction ts a
  pub sites : AreSites ts xs category.Declaration a.tree ss
  pub runs : ReplaceRuns a.tree ss
  pub places : AreOf gaps xs
  pub some : (g : Gap) → Among g gaps → 0 < length g.texts
  pub tree : new.tree ≡ with_sites xs ss a.tree
  pub texts : new.texts ≡ with_gaps gaps a.texts

-- Such a function is rewritten by the patch of these sites.
pub record RewritesBySites (ts us : List TokenKind) (a : Alone) (gaps : List Gap) (ss : List Site) (new : Alone) : Type 0 where
  pub rewritten : IsRewritten ts us a gaps new
  pub patch : rewritten.patch ≡ patch_of ss

-- ---- what gaps tell, one by one

-- A run stands in the list of a block of a function, and so do the statements in its place.
pub record RunStands (v : ℕ → ℕ) (g : Gap) (old news : List Event) : Type 0 where
  pub context : Context
  pub followed : Bool
  pub new : Trees
  pub told : news ≡ told_list (carried_context v context) followed new
  pub local : is_package context.block ≡ false
  pub within : g.upto ≤ context.end
  pub role : context.role ≡ role.Operand
  pub site : specification_at context.site ≡ None
  pub specification : context.specification ≡ None
  pub source : context.source ≡ None
  pub group : context.group ≡ None
  pub parameters : context.parameters ≡ None
  pub constant : context.constant ≡ false
  pub initial : context.initial ≡ false
  pub each : EachEvent (EventGoes g context.block context.end) old

-- Wherever a run stands that begins at this token, these statements tell in its place what those of its gap have to.
abbrev pub TellsInPlace : Alone → Alone → List Gap → ℕ → Trees → Type 0
TellsInPlace a new gaps from ps = (g : Gap) → Among g gaps → g.from ≡ from → (old news : List Event) → (x : RunStands (moved_by gaps) g old news) → x.new ≡ ps → GapTells a new (moved_by gaps) g old news
