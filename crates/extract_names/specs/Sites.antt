-- A function in which other statements stand in the place of some.
use Rattle.std.specs.Prelude.{◌≡◌, ℕ, suc, ◌+◌, ◌<◌, ◌≤◌, ◌⊎◌, false, true, ◌&&◌, nat_eq, nat_le, nat_lt, if◌then◌else◌, List, [], ◌∷◌, length, Option, Some, None, slice_get}
use Rattle.std.specs.List.{AllByRecursion}
use Rattle.std.specs.Option.{option_map}
use Rattle.go_rewriting.specs.Places.{Patch, become, places}
use Rattle.go_tree.specs.declared.context.Block.{Block}
use Rattle.go_tree.specs.declared.context.Entity.TheVariants as entity
use Rattle.go_tree.specs.declared.context.Manner.TheVariants as manner
use Rattle.go_tree.specs.declared.context.Role.{Role}
use Rattle.go_tree.specs.declared.context.Role.TheVariants as role
use Rattle.go_tree.specs.declared.context.Site.{Site}
use Rattle.go_tree.specs.declared.context.Site.TheVariants as site
use Rattle.go_tree.specs.declared.event.Declaration.{Declaration}
use Rattle.go_tree.specs.declared.event.Event.{Event}
use Rattle.go_tree.specs.declared.event.Event.TheVariants as event
use Rattle.go_tree.specs.declared.event.Use.{Use}
use Rattle.go_tree.specs.declared.object.Declared.{Declared}
use Rattle.go_tree.specs.declared.object.Object.{Object}
use Rattle.go_tree.specs.declared.object.Object.TheVariants as object
use Rattle.go_tree.specs.declared.object.Predeclared.TheVariants as predeclared
use Rattle.go_tree.specs.Contexts.{is_package, file_context}
use Rattle.go_tree.specs.Declarations.{Found, is_reused_of, is_new}
use Rattle.go_tree.specs.Lookups.{is_assigned}
use Rattle.go_tree.specs.Redeclared.{are_parameters}
use Rattle.go_tree.specs.Units.{is_blank}
use Rattle.go_scopes_events.specs.Orders.{AreInOrder, IsFollowed}
use Rattle.go_heads.specs.Bodies.{function_events}
use Rattle.go_heads.specs.Functions.{Alone}
use Rattle.go_heads.specs.Locals.{own_locals}
use Rattle.go_heads.specs.Names.{text_there, own_text, no_place, own_names, own_declarations}
use Rattle.go_scopes_bodies.specs.Carried.{carried_block}
use Rattle.go_scopes_bodies.specs.Faults.{second_members_by, own_faults}
use Rattle.go_scopes_bodies.specs.Meant.{Meant, own, outside, Outer, own_meanings, own_meant, own_declared, own_object}
use Rattle.extract_names.specs.Gaps.{Redeclared, Gap, moved_by, ranges, Among, IsInRun, AreApart, Stays, AtEdge, BlockAtEdge, EachGap}
use Rattle.extract_names.specs.Pieces.{ReplacesRuns, Piece, stays, gap, pieces}

-- the object that is declared at a token of a function
abbrev pub declared_at : Alone → ℕ → Option Meant
declared_at a d = own_declared None d (own_meanings a)

-- the name that a declaration declares or reuses
abbrev pub found_as : Alone → Declaration → Found
found_as a d = record { file = 0; name = own_text a d.name; place = no_place; it = d }

-- A function declares itself, and then its locals.
pub record DeclaresItself (a : Alone) : Type 0 where
  pub function : Found
  pub others : List Found
  pub whole : own_declarations a ≡ function ∷ others
  pub in_package : is_package function.it.block ≡ true
  pub locals : AllByRecursion (λ d. is_package d.it.block ≡ false) others

-- the token of the name of a local
abbrev pub name_there : Option Declared → ℕ
name_there None = 0
name_there (Some d) = d.name

abbrev pub token_of : Alone → ℕ → ℕ
token_of a n = name_there (slice_get (own_locals a) n)

abbrev pub EachEvent : (Event → Type 0) → List Event → Type 0
EachEvent Q [] = Unit {0}
EachEvent Q (e ∷ es) = Q e × EachEvent Q es

-- ---- what stays

-- A local is in scope from the run's first token on, or it is declared behind the run, and not directly behind it.
abbrev pub IsApart : Declaration → Gap → Type 0
IsApart d g = (d.scope.from ≤ g.from) ⊎ (g.upto < d.name)

-- the specification in whose type, values or right side a name is looked up, if it is in one
abbrev pub specification_at : Site → Option ℕ
specification_at site.Elsewhere = None
specification_at (site.Type s) = Some s
specification_at (site.Value s column alone) = Some s
specification_at (site.Right s reach) = Some s

-- a token that there may be stays
abbrev pub TokenStays : List Gap → Option ℕ → Type 0
TokenStays gs None = Unit {0}
TokenStays gs (Some t) = Stays gs t

-- A declaration stays: its name, its statement and the specification whose values it has begin in no run, and its block and its scope begin and end inside none.
pub record DeclarationStays (gs : List Gap) (d : Declaration) : Type 0 where
  pub name : Stays gs d.name
  pub block : BlockAtEdge gs d.block
  pub from : AtEdge gs d.scope.from
  pub to : AtEdge gs d.scope.to
  pub statement : Stays gs d.statement
  pub source : TokenStays gs d.source
  pub follows : IsFollowed d
  pub apart : is_package d.block ≡ false → EachGap (IsApart d) gs

-- The name that a selector ends with stays too, and the specification that a name stands in. No name of a function stands in the value of a package's variable.
abbrev pub RoleStays : List Gap → Role → Type 0
RoleStays gs (role.Selected last called) = (x : ℕ) × (last ≡ suc x) × Stays gs x
RoleStays gs r = Unit {0}

abbrev pub EventStays : List Gap → Event → Type 0
EventStays gs (event.Declaration d) = DeclarationStays gs d
EventStays gs (event.Use u) = Stays gs u.name × RoleStays gs u.role × (u.initial ≡ false) × TokenStays gs (specification_at u.site)
EventStays gs (event.Member m g x) = Stays gs g × Stays gs x
EventStays gs e = Unit {0}

-- ---- what is replaced

-- A name that a run declares is that of a local and of no parameter. Its scope ends in the run; or it is declared in the list of the run, which is in the block b that
-- ends in front of the token e.
pub record DeclarationGoes (g : Gap) (b : Block) (e : ℕ) (d : Declaration) : Type 0 where
  pub name : IsInRun g d.name
  pub statement : IsInRun g d.statement
  pub local : is_package d.block ≡ false
  pub variety : are_parameters d.entity d.entity ≡ false
  pub behind : g.from < d.scope.from
  pub ends : (d.scope.to ≤ g.upto) ⊎ ((d.block ≡ b) × (d.scope.to ≡ e) × (d.scope.from ≤ g.upto))

abbrev pub EventGoes : Gap → Block → ℕ → Event → Type 0
EventGoes g b e (event.Declaration d) = DeclarationGoes g b e d
EventGoes g b e (event.Use u) = IsInRun g u.name
EventGoes g b e (event.Member m h x) = IsInRun g h × IsInRun g x
EventGoes g b e f = Unit {0}

-- what a run tells
pub record RunGoes (gs : List Gap) (g : Gap) (old : List Event) : Type 0 where
  pub block : Block
  pub end : ℕ
  pub begins : BlockAtEdge gs block
  pub ends : AtEdge gs end
  pub behind : g.upto ≤ end
  pub each : EachEvent (EventGoes g block end) old

-- ---- what is new

-- an object that a name may mean anywhere
abbrev pub IsPlain : Meant → Type 0
IsPlain (outside object.Import) = ⊥
IsPlain (outside (object.Predeclared predeclared.Iota)) = ⊥
IsPlain (own object.Import) = ⊥
IsPlain (own (object.Predeclared p)) = ⊥
IsPlain o = Unit {0}

-- the token is one of the gap's
abbrev pub IsNew : (ℕ → ℕ) → Gap → ℕ → Type 0
IsNew v g t = (v g.from ≤ t) × (t < v g.from + length g.texts)

-- a token that there may be is one of the gap's
abbrev pub TokenIsNew : (ℕ → ℕ) → Gap → Option ℕ → Type 0
TokenIsNew v g None = Unit {0}
TokenIsNew v g (Some t) = IsNew v g t

-- A gap whose tokens stand from the token m on, where old tokens have the places v, declares a variable of the run again, whose scope
-- goes beyond the run, in the same block and up to the same end.
pub record DeclaresAgain (a : Alone) (v : ℕ → ℕ) (g : Gap) (old : List Event) (d : Declaration) : Type 0 where
  pub again : Redeclared
  pub listed : Among again g.declared
  pub was : Declaration
  pub told : Among (event.Declaration was) old
  pub named : was.name ≡ again.old
  pub new : is_new (own_names a) (found_as a was) ≡ true
  pub variable : was.entity ≡ entity.Variable
  pub beyond : g.upto < was.scope.to
  pub behind : again.token < again.begins
  pub before : again.begins ≤ length g.texts
  pub text : slice_get g.texts again.token ≡ Some (own_text a was.name)
  pub name : d.name ≡ v g.from + again.token
  pub entity : d.entity ≡ entity.Variable
  pub manner : d.manner ≡ manner.Declared
  pub block : d.block ≡ carried_block v was.block
  pub from : d.scope.from ≡ v g.from + again.begins
  pub to : d.scope.to ≡ v was.scope.to
  pub source : TokenIsNew v g d.source

-- A name is blank, or has to mean something, and not what is imported. It stands in no declaration of constants; and in one of variables it
-- means what no local is.
pub record UseIsNew (v : ℕ → ℕ) (g : Gap) (u : Use) : Type 0 where
  pub token : ℕ
  pub within : token < length g.texts
  pub name : u.name ≡ v g.from + token
  pub calm : (is_blank (text_there (slice_get g.texts token)) ≡ true) ⊎ ((o : Meant) × (g.means token ≡ Some o) × IsPlain o)
  pub initial : u.initial ≡ false
  pub constant : u.constant ≡ false
  pub declaring : (u.site ≡ site.Elsewhere) ⊎ ((o : Object) × (g.means token ≡ Some (outside o)))

abbrev pub EventIsNew : Alone → (ℕ → ℕ) → Gap → List Event → Event → Type 0
EventIsNew a v g old (event.Declaration d) = DeclaresAgain a v g old d
EventIsNew a v g old (event.Use u) = UseIsNew v g u
EventIsNew a v g old (event.Member m h x) = IsNew v g h × IsNew v g x
EventIsNew a v g old (event.Statement i j) = Unit {0}
EventIsNew a v g old e = ⊥

-- each of the gap's locals is declared
abbrev pub IsDeclared : ℕ → List Event → Type 0
IsDeclared t [] = ⊥
IsDeclared t (event.Declaration d ∷ es) = (d.name ≡ t) ⊎ IsDeclared t es
IsDeclared t (e ∷ es) = IsDeclared t es

-- what the statements tell that stand in the place of a run
pub record GapTells (a new : Alone) (v : ℕ → ℕ) (g : Gap) (old news : List Event) : Type 0 where
  pub each : EachEvent (EventIsNew a v g old) news
  pub all : (z : Redeclared) → Among z g.declared → IsDeclared (v g.from + z.token) news
  pub members_once : second_members_by (own_text new) [] news ≡ []

-- The pieces of the old function stand so, each gap with its run.
abbrev pub AllStand : Alone → Alone → List Gap → List Gap → List Piece → Type 0
AllStand a new all gs [] = gs ≡ []
AllStand a new all gs (stays es ∷ ps) = EachEvent (EventStays all) es × AllStand a new all gs ps
AllStand a new all [] (gap old news ∷ ps) = ⊥
AllStand a new all (g ∷ gs) (gap old news ∷ ps) = RunGoes all g old × GapTells a new (moved_by all) g old news × AllStand a new all gs ps

-- ---- names

-- The object is named at a token that stays, or it is what a new token has to mean.
abbrev pub NamedThere : Alone → Outer → List Gap → Meant → Type 0
NamedThere a outer gaps o = ((t : ℕ) × Stays gaps t × (own_object a outer t ≡ Some o)) ⊎ ((g : Gap) × (i : ℕ) × Among g gaps × (i < length g.texts) × (g.means i ≡ Some o))

-- The token i of a gap, whose text is w, says what it has to: what its name means where the run begins, if no local of this name that
-- the gap declares is in scope at the token; or one of these, which is declared there or in scope.
pub record SaysOuter (a : Alone) (outer : Outer) (g : Gap) (i : ℕ) (w : List ℕ) : Type 0 where
  pub meant : own_meant a outer g.from w ≡ g.means i
  pub hidden : (z : Redeclared) → Among z g.declared → z.begins ≤ i → text_there (slice_get g.texts z.token) ≡ w → ⊥
  pub apart : (z : Redeclared) → Among z g.declared → z.token ≡ i → ⊥

pub record SaysDeclared (a : Alone) (g : Gap) (i : ℕ) (w : List ℕ) : Type 0 where
  pub again : Redeclared
  pub listed : Among again g.declared
  pub within : ((again.begins ≤ i) × ((z : Redeclared) → Among z g.declared → z.token ≡ i → ⊥)) ⊎ (again.token ≡ i)
  pub text : text_there (slice_get g.texts again.token) ≡ w
  pub meant : declared_at a again.old ≡ g.means i

abbrev pub Says : Alone → Outer → Gap → ℕ → List ℕ → Type 0
Says a outer g i w = SaysOuter a outer g i w ⊎ SaysDeclared a g i w

-- The variable that the token d declares is used, other than by an assignment to it: at a token that stays or in a gap.
abbrev pub UsedThere : Alone → Outer → List Gap → Alone → ℕ → Type 0
UsedThere a outer gaps new d =
    ((u : Use) × Among (event.Use u) (function_events a) × Stays gaps u.name × (is_assigned u.role ≡ false) × (own_object a outer u.name ≡ declared_at a d))
    ⊎ ((g : Gap) × (u : Use) × (i : ℕ) × Among g gaps × Among (event.Use u) (function_events new) × (u.name ≡ moved_by gaps g.from + i) × (i < length g.texts) × (is_assigned u.role ≡ false) × (g.means i ≡ declared_at a d))

-- The local that the token d declares is declared in the new function too: where it was, or in a gap.
abbrev pub DeclaredStill : List Gap → ℕ → Type 0
DeclaredStill gaps d = Stays gaps d ⊎ ((g : Gap) × (z : Redeclared) × Among g gaps × Among z g.declared × (z.old ≡ d))

-- The local that the token d declares is declared in the gap of each run that d stands in.
abbrev pub DeclaredAgainIn : List Gap → ℕ → Type 0
DeclaredAgainIn gaps d = (g : Gap) → Among g gaps → IsInRun g d → (z : Redeclared) × Among z g.declared × (z.old ≡ d)

-- The function `new` is the function a with these gaps in it.
pub record IsSite (a : Alone) (outer : Outer) (gaps : List Gap) (new : Alone) : Type 0 where
  pub patch : Patch
  pub replaces : ReplacesRuns (moved_by gaps) a.tree patch
  pub places : places a.tree patch ≡ ranges gaps
  pub tree : new.tree ≡ become (moved_by gaps) a.tree patch
  pub apart : AreApart 1 gaps
  pub itself : DeclaresItself a
  pub new_itself : DeclaresItself new
  pub stand : AllStand a new gaps gaps (pieces (moved_by gaps) (file_context 0) a.tree patch)
  pub order : AreInOrder 0 (length a.texts) (function_events a)
  pub new_order : AreInOrder 0 (length new.texts) (function_events new)
  pub texts : (t : ℕ) → Stays gaps t → own_text new (moved_by gaps t) ≡ own_text a t
  pub new_texts : (g : Gap) → Among g gaps → (i : ℕ) → i < length g.texts → own_text new (moved_by gaps g.from + i) ≡ text_there (slice_get g.texts i)
  -- Each name of a gap says what it has to.
  pub says : (g : Gap) → Among g gaps → (i : ℕ) (w : List ℕ) → slice_get g.texts i ≡ Some w → (o : Meant) → g.means i ≡ Some o → Says a outer g i w
  -- A local of a run that is named elsewhere is declared in its gap. No local is declared there twice, and no token twice.
  pub needed : (g : Gap) → Among g gaps → (d : ℕ) → IsInRun g d → (o : Meant) → declared_at a d ≡ Some o → NamedThere a outer gaps o → (z : Redeclared) × Among z g.declared × (z.old ≡ d)
  pub once : (g : Gap) → Among g gaps → (y z : Redeclared) → Among y g.declared → Among z g.declared → (y.old ≡ z.old) ⊎ (y.token ≡ z.token) → y ≡ z
  -- Where a name that stays before `:=` is a variable of a run, it is one that stays or that its gap declares.
  pub reuses : (g : Gap) → Among g gaps → (d x : Declaration) → Among (event.Declaration d) (function_events a) → Among (event.Declaration x) (function_events a)
      → Stays gaps d.name → IsInRun g x.name → d.manner ≡ manner.Defined → is_blank (own_text a d.name) ≡ false → is_reused_of (found_as a d) (found_as a x) ≡ true
      → (w : Declaration) × Among (event.Declaration w) (function_events a) × (is_reused_of (found_as a d) (found_as a w) ≡ true) × DeclaredAgainIn gaps w.name
  -- Each variable that is declared still is used.
  pub used : (d : Declaration) → Among (event.Declaration d) (function_events a) → is_new (own_names a) (found_as a d) ≡ true → d.entity ≡ entity.Variable → DeclaredStill gaps d.name → UsedThere a outer gaps new d.name

-- ---- what holds of it

-- the same object, where locals have these numbers
abbrev pub renumbered : (ℕ → ℕ) → Meant → Meant
renumbered σ (own (object.Local f n)) = own (object.Local f (σ n))
renumbered σ (own o) = own o
renumbered σ (outside o) = outside o

-- the token names something, by a use or a declaration
abbrev pub IsNamed : ℕ → List Event → Type 0
IsNamed t [] = ⊥
IsNamed t (event.Declaration d ∷ es) = (d.name ≡ t) ⊎ IsNamed t es
IsNamed t (event.Use u ∷ es) = (u.name ≡ t) ⊎ IsNamed t es
IsNamed t (e ∷ es) = IsNamed t es

-- the token of the gap's local that this old token declares
abbrev pub token_in : List Redeclared → ℕ → ℕ
token_in [] x = 0
token_in (z ∷ zs) x = if nat_eq z.old x then z.token else token_in zs x

-- where the local that an old token declares is declared in the new function
abbrev pub declared_behind : (ℕ → ℕ) → List Gap → ℕ → ℕ
declared_behind v [] x = v x
declared_behind v (g ∷ gs) x = if nat_le g.from x && nat_lt x g.upto then v g.from + token_in g.declared x else declared_behind v gs x

abbrev pub local_number : Option Meant → ℕ
local_number None = 0
local_number (Some (own (object.Local f n))) = n
local_number (Some o) = 0

-- the new number of a local
abbrev pub new_number : Alone → List Gap → Alone → ℕ → ℕ
new_number a gaps new n = local_number (declared_at new (declared_behind (moved_by gaps) gaps (token_of a n)))

-- the same object of the new function
abbrev pub renamed : Alone → List Gap → Alone → Option Meant → Option Meant
renamed a gaps new o = option_map (renumbered (new_number a gaps new)) o

-- each token that stays means what it meant, the locals by their new numbers
abbrev pub KeepsTokens : Alone → Outer → List Gap → Alone → Type 0
KeepsTokens a outer gaps new = (t : ℕ) → Stays gaps t → own_object new outer (moved_by gaps t) ≡ renamed a gaps new (own_object a outer t)

-- each name of a gap that has to mean something means it
abbrev pub SaysNames : Alone → Outer → List Gap → Alone → Type 0
SaysNames a outer gaps new =
    (g : Gap) → Among g gaps → (i : ℕ) → i < length g.texts → (o : Meant) → g.means i ≡ Some o → IsNamed (moved_by gaps g.from + i) (function_events new) → own_object new outer (moved_by gaps g.from + i) ≡ renamed a gaps new (Some o)

-- What holds of such a function: tokens that stay and names of gaps mean what they have to, and no rule on names fails.
pub record KeepsNames (a : Alone) (outer : Outer) (gaps : List Gap) (new : Alone) : Type 0 where
  pub kept : KeepsTokens a outer gaps new
  pub said : SaysNames a outer gaps new
  pub faultless : own_faults new outer ≡ []
