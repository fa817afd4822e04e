-- A function whose body begins with a copy of a run of statements of another one, with parameters for the locals that are free in it, and
-- names in place of some holes.
use Rattle.std.specs.Prelude.{◌≡◌, ℕ, suc, ◌<◌, ◌≤◌, ◌⊎◌, Bool, false, true, ◌&&◌, nat_eq, nat_le, nat_lt, if◌then◌else◌, List, [], ◌∷◌, ◌++◌, length, map, Option, Some, None}
use Rattle.std.specs.Option.{option_map}
use Rattle.go_tree.specs.declared.context.Block.{Block}
use Rattle.go_tree.specs.declared.context.Block.TheVariants as block
use Rattle.go_tree.specs.declared.context.Entity.TheVariants as entity
use Rattle.go_tree.specs.declared.context.Manner.TheVariants as manner
use Rattle.go_tree.specs.declared.context.Role.{Role}
use Rattle.go_tree.specs.declared.context.Role.TheVariants as role
use Rattle.go_tree.specs.declared.context.Scope.{Scope}
use Rattle.go_tree.specs.declared.context.Site.TheVariants as site
use Rattle.go_tree.specs.declared.event.Declaration.{Declaration}
use Rattle.go_tree.specs.declared.event.Event.{Event}
use Rattle.go_tree.specs.declared.event.Event.TheVariants as event
use Rattle.go_tree.specs.declared.event.Use.{Use}
use Rattle.go_tree.specs.declared.object.Object.{Object}
use Rattle.go_tree.specs.Contexts.{is_package}
use Rattle.go_tree.specs.Declarations.{is_reused_of, is_new}
use Rattle.go_tree.specs.Lookups.{is_assigned}
use Rattle.go_tree.specs.Redeclared.{are_parameters}
use Rattle.go_tree.specs.Units.{is_blank}
use Rattle.go_scopes_events.specs.Orders.{AreInOrder}
use Rattle.go_heads.specs.Bodies.{function_events}
use Rattle.go_heads.specs.Functions.{Alone}
use Rattle.go_heads.specs.Names.{own_text, own_names}
use Rattle.go_scopes_bodies.specs.Carried.{carried_token, carried_event}
use Rattle.go_scopes_bodies.specs.Faults.{second_members_by, own_faults}
use Rattle.go_scopes_bodies.specs.Meant.{Meant, outside, Outer, own_object}
use Rattle.extract_names.specs.Gaps.{Among}
use Rattle.extract_names.specs.Pieces.{Piece, stays, gap, told_before}
use Rattle.extract_names.specs.Sites.{found_as, declared_at, DeclaresItself, token_of, EachEvent, specification_at, IsPlain, IsNamed, local_number, renumbered}

-- A hole of the run, by its tokens, and the token of the parameter whose name stands in its place.
pub record Replaced : Type 0 where
  pub from : ℕ
  pub upto : ℕ
  pub parameter : ℕ

-- A free local, by the token that declares it, and the token of its parameter.
pub record Free : Type 0 where
  pub old : ℕ
  pub parameter : ℕ

-- The run from one token up to another, in the list of the block that begins at the token `around` and ends in front of `end`; where its
-- tokens stand in the new function, whose body begins at the token `body` and ends in front of `close`; its holes that are replaced, the
-- free locals, and the tokens of all parameters.
pub record Copy : Type 0 where
  pub from : ℕ
  pub upto : ℕ
  pub around : ℕ
  pub end : ℕ
  pub place : ℕ → ℕ
  pub body : ℕ
  pub close : ℕ
  pub holes : List Replaced
  pub free : List Free
  pub parameters : List ℕ

abbrev pub IsIn : Copy → ℕ → Type 0
IsIn c t = (c.from ≤ t) × (t < c.upto)

-- the token is in none of the holes
abbrev pub StaysOutside : List Replaced → ℕ → Type 0
StaysOutside [] t = Unit {0}
StaysOutside (h ∷ hs) t = ((t < h.from) ⊎ (h.upto ≤ t)) × StaysOutside hs t

-- the token is inside none of them
abbrev pub AtHole : List Replaced → ℕ → Type 0
AtHole [] t = Unit {0}
AtHole (h ∷ hs) t = ((t ≤ h.from) ⊎ (h.upto ≤ t)) × AtHole hs t

-- a token of the run that stays; and one where something begins or ends in the run
abbrev pub IsKept : Copy → ℕ → Type 0
IsKept c t = (c.from ≤ t) × (t < c.upto) × StaysOutside c.holes t

abbrev pub IsEdge : Copy → ℕ → Type 0
IsEdge c t = (c.from ≤ t) × (t ≤ c.upto) × AtHole c.holes t

-- ---- where what is declared stands

-- What the list of the run declares is declared in the body of the new function.
abbrev pub is_around : Copy → Block → Bool
is_around c block.Package = false
is_around c (block.Local i) = nat_eq i c.around

abbrev pub copied_block : Copy → Block → Block
copied_block c block.Package = block.Package
copied_block c (block.Local i) = if nat_eq i c.around then block.Local c.body else block.Local (c.place i)

abbrev pub copied_scope : Copy → Block → Scope → Scope
copied_scope c b s = record { from = c.place s.from; to = if is_around c b then c.close else c.place s.to }

abbrev pub copied_declaration : Copy → Declaration → Declaration
copied_declaration c d = record {
  name = c.place d.name;
  entity = d.entity;
  manner = d.manner;
  block = copied_block c d.block;
  scope = copied_scope c d.block d.scope;
  statement = c.place d.statement;
  source = carried_token c.place d.source;
  column = d.column;
}

abbrev pub copied_event : Copy → Event → Event
copied_event c (event.Declaration d) = event.Declaration (copied_declaration c d)
copied_event c e = carried_event c.place e

-- what the copied run tells, with its holes replaced
abbrev pub told_copied : Copy → List Piece → List Event
told_copied c [] = []
told_copied c (stays es ∷ ps) = map (copied_event c) es ++ told_copied c ps
told_copied c (gap old new ∷ ps) = new ++ told_copied c ps

-- ---- how it stands

-- a token that there may be is one of the run that stays; one that stands in the copy; or one in front of it
abbrev pub TokenKept : Copy → Option ℕ → Type 0
TokenKept c None = Unit {0}
TokenKept c (Some t) = IsKept c t

abbrev pub TokenBehind : Copy → Option ℕ → Type 0
TokenBehind c None = Unit {0}
TokenBehind c (Some t) = c.place c.from ≤ t

abbrev pub TokenInFront : Copy → Option ℕ → Type 0
TokenInFront c None = Unit {0}
TokenInFront c (Some t) = t < c.place c.from

-- The name that a selector ends with stays too.
abbrev pub RoleCopied : Copy → Role → Type 0
RoleCopied c (role.Selected last called) = (x : ℕ) × (last ≡ suc x) × IsKept c x
RoleCopied c r = Unit {0}

-- A declaration of the run is local. It stands in the list of the run, or in an inner block, which ends in the run.
pub record DeclarationCopied (c : Copy) (d : Declaration) : Type 0 where
  pub name : IsKept c d.name
  pub statement : IsKept c d.statement
  pub from : IsEdge c d.scope.from
  pub source : TokenKept c d.source
  pub variety : are_parameters d.entity d.entity ≡ false
  pub behind : c.from < d.scope.from
  pub ends : ((d.block ≡ block.Local c.around) × (d.scope.to ≡ c.end)) ⊎ ((i : ℕ) × (d.block ≡ block.Local i) × IsKept c i × IsEdge c d.scope.to)

-- No name of a function stands in the value of a package's variable.
pub record UseCopied (c : Copy) (u : Use) : Type 0 where
  pub name : IsKept c u.name
  pub role : RoleCopied c u.role
  pub specification : TokenKept c (specification_at u.site)
  pub initial : u.initial ≡ false

abbrev pub EventCopied : Copy → Event → Type 0
EventCopied c (event.Declaration d) = DeclarationCopied c d
EventCopied c (event.Use u) = UseCopied c u
EventCopied c (event.Member m g x) = IsKept c g × IsKept c x
EventCopied c e = Unit {0}

-- A hole only looks names up. In its place one name is looked up.
abbrev pub HoleGoes : Replaced → Event → Type 0
HoleGoes h (event.Use u) = (h.from ≤ u.name) × (u.name < h.upto)
HoleGoes h (event.Declaration d) = ⊥
HoleGoes h e = Unit {0}

-- The name stands in no declaration of constants.
pub record HoleUse (c : Copy) (h : Replaced) (u : Use) : Type 0 where
  pub name : u.name ≡ c.place h.from
  pub specification : TokenBehind c (specification_at u.site)
  pub constant : u.constant ≡ false
  pub initial : u.initial ≡ false

abbrev pub HoleIsNew : Copy → Replaced → Event → Type 0
HoleIsNew c h (event.Use u) = HoleUse c h u
HoleIsNew c h (event.Declaration d) = ⊥
HoleIsNew c h (event.Member m g x) = ⊥
HoleIsNew c h (event.Misplaced i j) = ⊥
HoleIsNew c h (event.SecondDefault i) = ⊥
HoleIsNew c h e = Unit {0}

abbrev pub AllCopied : Copy → List Replaced → List Piece → Type 0
AllCopied c hs [] = hs ≡ []
AllCopied c hs (stays es ∷ ps) = EachEvent (EventCopied c) es × AllCopied c hs ps
AllCopied c [] (gap old new ∷ ps) = ⊥
AllCopied c (h ∷ hs) (gap old new ∷ ps) = EachEvent (HoleGoes h) old × EachEvent (HoleIsNew c h) new × AllCopied c hs ps

abbrev pub BlockInFront : Copy → Block → Type 0
BlockInFront c block.Package = Unit {0}
BlockInFront c (block.Local i) = i < c.from

-- In front of the run a local is in scope from a token in front on, or up to one. Statements begin in front of it, or behind it.
pub record DeclaredInFront (c : Copy) (d : Declaration) : Type 0 where
  pub name : d.name < c.from
  pub statement : d.statement < c.from
  pub block : BlockInFront c d.block
  pub scope : is_package d.block ≡ false → (d.scope.from ≤ c.from) ⊎ (d.scope.to ≤ c.from)

abbrev pub StandsInFront : Copy → Event → Type 0
StandsInFront c (event.Declaration d) = DeclaredInFront c d
StandsInFront c (event.Use u) = u.name < c.from
StandsInFront c e = Unit {0}

abbrev pub StandsBehind : Copy → Event → Type 0
StandsBehind c (event.Declaration d) = (c.upto ≤ d.name) × (d.name ≤ d.scope.from) × (c.upto ≤ d.statement)
StandsBehind c (event.Use u) = c.upto ≤ u.name
StandsBehind c e = Unit {0}

-- The new function declares itself and its parameters in front of the run, and nothing behind it.
pub record IsParameter (c : Copy) (d : Declaration) : Type 0 where
  pub listed : Among d.name c.parameters
  pub entity : d.entity ≡ entity.Parameter
  pub block : d.block ≡ block.Local c.body
  pub from : d.scope.from ≤ c.place c.from
  pub to : d.scope.to ≡ c.close

abbrev pub HeadTells : Copy → Event → Type 0
HeadTells c (event.Declaration d) = (d.name < c.place c.from) × (is_package d.block ≡ false → IsParameter c d)
HeadTells c (event.Use u) = u.name < c.place c.from
HeadTells c (event.Misplaced i j) = ⊥
HeadTells c (event.SecondDefault i) = ⊥
HeadTells c e = Unit {0}

abbrev pub TailTells : Copy → Event → Type 0
TailTells c (event.Declaration d) = ⊥
TailTells c (event.Use u) = c.place c.upto ≤ u.name
TailTells c (event.Misplaced i j) = ⊥
TailTells c (event.SecondDefault i) = ⊥
TailTells c e = Unit {0}

-- a parameter is declared in front of the run, and its name isn't blank
pub record ParameterStands (new : Alone) (front : List Event) (u : ℕ) : Type 0 where
  pub it : Declaration
  pub there : Among (event.Declaration it) front
  pub name : it.name ≡ u
  pub local : is_package it.block ≡ false
  pub manner : it.manner ≡ manner.Declared
  pub some : is_blank (own_text new u) ≡ false

-- The signature of the new function stands in front of its body. What it names means what no local is, and is not imported; it declares
-- the function, and parameters, which have no specification of their own and are in scope in the body.
pub record SignatureDeclares (c : Copy) (d : Declaration) : Type 0 where
  pub entity : (d.entity ≡ entity.Function) ⊎ (d.entity ≡ entity.Parameter)
  pub manner : d.manner ≡ manner.Declared
  pub source : TokenInFront c d.source
  pub parameter : is_package d.block ≡ false → (d.source ≡ None) × (c.body ≤ d.scope.from)

pub record SignatureNames (new : Alone) (outer : Outer) (c : Copy) (u : Use) : Type 0 where
  pub name : u.name < c.body
  pub object : Object
  pub meant : outer (own_text new u.name) ≡ Some object
  pub plain : IsPlain (outside object)
  pub constant : u.constant ≡ false
  pub initial : u.initial ≡ false

abbrev pub InSignature : Alone → Outer → Copy → Event → Type 0
InSignature new outer c (event.Declaration d) = SignatureDeclares c d
InSignature new outer c (event.Use u) = SignatureNames new outer c u
InSignature new outer c (event.Member m g x) = g < c.place c.from
InSignature new outer c e = Unit {0}

-- a local of the run that is declared in its own list
pub record DeclaredInList (a : Alone) (c : Copy) (run : List Event) (d : Declaration) : Type 0 where
  pub told : Among (event.Declaration d) run
  pub around : is_around c d.block ≡ true
  pub new : is_new (own_names a) (found_as a d) ≡ true

-- The new function returns parameters, and what the run's own list declares.
pub record ReturnNames (a new : Alone) (c : Copy) (run : List Event) (u : Use) : Type 0 where
  pub name : u.name < c.close
  pub elsewhere : u.site ≡ site.Elsewhere
  pub constant : u.constant ≡ false
  pub initial : u.initial ≡ false
  pub meant : ((p : ℕ) × Among p c.parameters × (own_text new u.name ≡ own_text new p)) ⊎ ((d : Declaration) × DeclaredInList a c run d × (own_text new u.name ≡ own_text a d.name))

abbrev pub InReturn : Alone → Alone → Copy → List Event → Event → Type 0
InReturn a new c run (event.Use u) = ReturnNames a new c run u
InReturn a new c run (event.Member m g x) = ⊥
InReturn a new c run e = Unit {0}

-- A variable of the run is used in it, other than by an assignment, or the new function returns it.
abbrev pub UsedInCopy : Alone → Outer → Copy → Alone → List Event → List Event → Declaration → Type 0
UsedInCopy a outer c new run tail d =
    ((u : Use) × Among (event.Use u) run × IsKept c u.name × (is_assigned u.role ≡ false) × (own_object a outer u.name ≡ declared_at a d.name))
    ⊎ ((u : Use) × Among (event.Use u) tail × (is_assigned u.role ≡ false) × (is_around c d.block ≡ true) × (own_text new u.name ≡ own_text a d.name))

-- What a name of the run means: a local of the run; a free local, whose parameter is spelled so; or what no local is, and no parameter is
-- spelled so.
abbrev pub NamesLocal : Alone → Outer → Copy → ℕ → Type 0
NamesLocal a outer c t = (d : ℕ) × (o : Meant) × IsIn c d × (declared_at a d ≡ Some o) × (own_object a outer t ≡ Some o)

abbrev pub NamesFree : Alone → Outer → Copy → Alone → ℕ → Type 0
NamesFree a outer c new t = (f : Free) × (o : Meant) × Among f c.free × Among f.parameter c.parameters × (declared_at a f.old ≡ Some o) × (own_object a outer t ≡ Some o) × (own_text new f.parameter ≡ own_text a t)

abbrev pub NamesOuter : Alone → Outer → Copy → Alone → ℕ → Type 0
NamesOuter a outer c new t = ((o : Meant) → own_object a outer t ≡ Some o → (d : ℕ) → declared_at a d ≡ Some o → ⊥) × ((u : ℕ) → Among u c.parameters → own_text new u ≡ own_text a t → ⊥)

-- The function `new` begins with a copy of a run of the function a.
pub record IsCopy (a : Alone) (outer : Outer) (c : Copy) (new : Alone) : Type 0 where
  pub pieces : List Piece
  pub before : List Event
  pub behind : List Event
  pub head : List Event
  pub tail : List Event
  pub told : function_events a ≡ before ++ (told_before pieces ++ behind)
  pub new_told : function_events new ≡ head ++ (told_copied c pieces ++ tail)
  pub itself : DeclaresItself a
  pub new_itself : DeclaresItself new
  pub order : AreInOrder 0 (length a.texts) (function_events a)
  pub new_order : AreInOrder 0 (length new.texts) (function_events new)
  -- the tokens of the run keep their order, in the body of the new function
  pub rises : (x y : ℕ) → IsEdge c x → IsEdge c y → x < y → c.place x < c.place y
  pub some : c.from < c.upto
  pub edge : IsEdge c c.from × IsEdge c c.upto
  pub inner : c.around < c.from
  pub outer_end : c.upto ≤ c.end
  pub body : c.body < c.place c.from
  pub close : c.place c.upto ≤ c.close
  pub next : (t : ℕ) → IsKept c t → c.place (suc t) ≡ suc (c.place t)
  pub holes : (h : Replaced) → Among h c.holes → (h.from < h.upto) × (h.from < c.upto) × IsEdge c h.from
  -- In place of a hole stands the name of its parameter, which nothing that the run declares is spelled like.
  pub named : (h : Replaced) → Among h c.holes → Among h.parameter c.parameters × (own_text new (c.place h.from) ≡ own_text new h.parameter)
  pub fresh : (h : Replaced) → Among h c.holes → (d : Declaration) → Among (event.Declaration d) (told_before pieces) → own_text new h.parameter ≡ own_text a d.name → ⊥
  pub copied : AllCopied c c.holes pieces
  pub in_front : EachEvent (StandsInFront c) before
  pub from_behind : EachEvent (StandsBehind c) behind
  pub head_tells : EachEvent (HeadTells c) head
  pub tail_tells : EachEvent (TailTells c) tail
  pub signature : EachEvent (InSignature new outer c) head
  pub members_once : second_members_by (own_text new) [] head ≡ []
  pub returns : EachEvent (InReturn a new c (told_before pieces)) tail
  pub texts : (t : ℕ) → IsKept c t → own_text new (c.place t) ≡ own_text a t
  -- In an inner block behind a name of the run's list that name is in scope.
  pub steps : (d e : Declaration) → DeclarationCopied c d → DeclarationCopied c e → Among (event.Declaration d) (function_events a) → Among (event.Declaration e) (function_events a) → d.name < e.name
      → is_around c d.block ≡ true → is_around c e.block ≡ false → d.scope.from < e.scope.from
  pub parameters : (u : ℕ) → Among u c.parameters → ParameterStands new head u
  pub distinct : (u w : ℕ) → Among u c.parameters → Among w c.parameters → own_text new u ≡ own_text new w → u ≡ w
  pub free : (f : Free) → Among f c.free → f.old < c.from
  pub once : (f g : Free) → Among f c.free → Among g c.free → f.old ≡ g.old → f ≡ g
  pub names : (t : ℕ) → IsKept c t → IsNamed t (told_before pieces) → NamesLocal a outer c t ⊎ (NamesFree a outer c new t ⊎ NamesOuter a outer c new t)
  -- What the list of the run declares isn't spelled like a parameter; and what it reuses of the list in front of it is one.
  pub apart : (d : Declaration) → Among (event.Declaration d) (function_events a) → IsIn c d.name → is_around c d.block ≡ true → is_new (own_names a) (found_as a d) ≡ true
      → (u : ℕ) → Among u c.parameters → own_text new u ≡ own_text a d.name → ⊥
  pub reuses : (d x : Declaration) → Among (event.Declaration d) (function_events a) → Among (event.Declaration x) before → IsIn c d.name → d.manner ≡ manner.Defined → is_blank (own_text a d.name) ≡ false
      → is_reused_of (found_as a d) (found_as a x) ≡ true
      → (is_around c d.block ≡ true) × (u : ℕ) × Among u c.parameters × (own_text new u ≡ own_text a d.name)
  -- Each variable of the run is used.
  pub used : (d : Declaration) → Among (event.Declaration d) (told_before pieces) → is_new (own_names a) (found_as a d) ≡ true → d.entity ≡ entity.Variable → UsedInCopy a outer c new (told_before pieces) tail d

-- ---- what holds of it

-- the parameter of the free local that this old token declares
abbrev pub parameter_of : List Free → ℕ → ℕ
parameter_of [] x = 0
parameter_of (f ∷ fs) x = if nat_eq f.old x then f.parameter else parameter_of fs x

-- where the local that an old token declares is declared in the new function: of a free one, its parameter
abbrev pub copied_behind : Copy → ℕ → ℕ
copied_behind c x = if nat_le c.from x && nat_lt x c.upto then c.place x else parameter_of c.free x

-- the new number of a local
abbrev pub copied_number : Alone → Copy → Alone → ℕ → ℕ
copied_number a c new n = local_number (declared_at new (copied_behind c (token_of a n)))

-- Each token of the run that is in no hole means what it meant, the locals by their new numbers, the free ones as parameters.
abbrev pub KeepsCopied : Alone → Outer → Copy → Alone → Type 0
KeepsCopied a outer c new = (t : ℕ) → IsKept c t → own_object new outer (c.place t) ≡ option_map (renumbered (copied_number a c new)) (own_object a outer t)

-- Each name in place of a hole means the hole's parameter.
abbrev pub HolesMeanParameters : Alone → Outer → Copy → Alone → Type 0
HolesMeanParameters a outer c new = (h : Replaced) → Among h c.holes → IsNamed (c.place h.from) (function_events new) → own_object new outer (c.place h.from) ≡ declared_at new h.parameter

-- What holds of such a function: each token of the run that is in no hole means what it meant, each name in place of a hole the hole's
-- parameter, and no rule on names fails.
pub record CopiesNames (a : Alone) (outer : Outer) (c : Copy) (new : Alone) : Type 0 where
  pub kept : KeepsCopied a outer c new
  pub holes : HolesMeanParameters a outer c new
  pub faultless : own_faults new outer ≡ []
