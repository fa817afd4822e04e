-- A run of statements in a derived function, by its tokens.
use Rattle.std.specs.Prelude.{◌≡◌, ℕ, suc, ◌<◌, ◌≤◌, ◌⊎◌, Bool, true, false, List, [], ◌∷◌, ◌++◌, length, take, drop, None}
use Rattle.go_grammar.specs.Trees.{Trees}
use Rattle.go_rewriting.specs.Places.{Patches, Ascending}
use Rattle.go_rewriting.specs.Replacing.{moved}
use Rattle.go_tree.specs.declared.context.Block.TheVariants as block
use Rattle.go_tree.specs.declared.context.Context.{Context}
use Rattle.go_tree.specs.declared.context.Role.TheVariants as role
use Rattle.go_tree.specs.declared.event.Event.{Event}
use Rattle.go_tree.specs.declared.context.Entity.TheVariants as entity
use Rattle.go_tree.specs.declared.context.Manner.TheVariants as manner
use Rattle.go_tree.specs.declared.event.Declaration.{Declaration}
use Rattle.go_tree.specs.declared.event.Event.TheVariants as event
use Rattle.go_tree.specs.Declarations.{is_reused_of, is_new}
use Rattle.go_tree.specs.Units.{is_blank}
use Rattle.go_heads.specs.Bodies.{function_events}
use Rattle.go_heads.specs.Functions.{Alone}
use Rattle.go_heads.specs.Names.{own_text, own_names}
use Rattle.go_scopes_bodies.specs.Faults.{second_members_by}
use Rattle.go_scopes_bodies.specs.Meant.{Outer}
use Rattle.go_scopes_bodies.specs.Listed.{told_list}
use Rattle.extract_names.specs.Copies.{Replaced, Free, Copy, IsIn, IsKept, IsEdge, told_copied, EventCopied, AllCopied, StandsInFront, StandsBehind, HeadTells, TailTells, ParameterStands, InSignature}
use Rattle.extract_names.specs.Copies.{InReturn, UsedInCopy, NamesLocal}
use Rattle.extract_names.specs.Copies.{NamesFree, NamesOuter, is_around}
use Rattle.extract_names.specs.Gaps.{Gap, Among, moved_by, ranges}
use Rattle.extract_names.specs.Pieces.{Piece, told_before}
use Rattle.extract_names.specs.Sites.{EachEvent, specification_at, found_as, IsNamed}
use Rattle.extract_names_derived.specs.Apart.{bare, AreHoles, HolesLook}
use Rattle.extract_names_derived.specs.Holes.{HolesInList, HolesTell, hole_list}
use Rattle.extract_names_derived.specs.Texts.{with_gaps}

-- Behind a name of the block that begins at the token o a name of another block is in scope later.
abbrev pub InSteps : ℕ → List Event → Type 0
InSteps o es = (d e : Declaration) → Among (event.Declaration d) es → Among (event.Declaration e) es → d.block ≡ block.Local o → (e.block ≡ block.Local o → ⊥) → d.name < e.name → d.scope.from < e.scope.from

-- A run tells what its statements tell, in the list of a block of a function.
pub record RunTold (c : Copy) (run : List Event) : Type 0 where
  pub context : Context
  pub followed : Bool
  pub statements : Trees
  pub told : run ≡ told_list context followed statements
  pub around : ℕ
  pub block : context.block ≡ block.Local around
  pub inner : around < c.from
  pub outer_end : c.upto ≤ context.end
  pub role : context.role ≡ role.Operand
  pub site : specification_at context.site ≡ None
  pub specification : context.specification ≡ None
  pub source : context.source ≡ None
  pub group : context.group ≡ None
  pub parameters : context.parameters ≡ None
  pub constant : context.constant ≡ false
  pub initial : context.initial ≡ false
  -- Behind a name that the list declares one of an inner block is in scope later.
  pub steps : InSteps around run
  -- In a block that stands for the one around it, a copy of the run tells the same, with names in place of expressions.
  pub replaced : c.around ≡ around → (x : Context) → x.role ≡ context.role → x.parameters ≡ None → (f : Bool) (qs : Patches) → HolesInList c.place statements qs → HolesTell c x f statements qs
  pub column : context.column ≡ 0
  pub listed : context.listed ≡ true
  pub last : context.followed ≡ false
  pub falls : context.falls ≡ false
  -- Where no hole is replaced, each name of the run is copied.
  pub copied : c.around ≡ around → c.end ≡ context.end → c.holes ≡ [] → EachEvent (EventCopied c) run
  pub bare_copied : c.around ≡ around → c.end ≡ context.end → EachEvent (EventCopied (bare c)) run
  -- With names in place of expressions each name of the run outside its holes is copied, and one name is looked up in place of each hole.
  pub holes_copied : c.around ≡ around → c.end ≡ context.end → ((t : ℕ) → IsKept c t → c.place c.from ≤ c.place t) → (qs : Patches) → HolesInList c.place statements qs → AreHoles c statements qs
      → EachEvent (EventCopied (bare c)) (told_before (hole_list c (record context { breaks = false; continues = false }) false statements qs))
      → HolesLook (hole_list c (record context { breaks = false; continues = false }) false statements qs)
      → AllCopied c c.holes (hole_list c (record context { breaks = false; continues = false }) false statements qs)

-- What a function tells falls in what it tells in front of a run, what the run tells, and what it tells behind it.
pub record SplitsAt (a : Alone) (c : Copy) : Type 0 where
  pub some : c.from < c.upto
  pub before : List Event
  pub run : List Event
  pub behind : List Event
  pub told : function_events a ≡ before ++ (run ++ behind)
  pub run_told : RunTold c run
  pub in_front : EachEvent (StandsInFront c) before
  pub from_behind : EachEvent (StandsBehind c) behind

-- ---- how a run is placed

-- the holes as gaps of one token each, which have the texts of their parameters
abbrev pub hole_gaps : (ℕ → List ℕ) → List Replaced → List Gap
hole_gaps w [] = []
hole_gaps w (h ∷ hs) = record { from = h.from; upto = h.upto; texts = w h.parameter ∷ []; means = λ i. None; declared = [] } ∷ hole_gaps w hs

-- The new function has the texts of the run, with one token in the place of each hole, behind other texts and in front of others; and where
-- something begins or ends in the run is placed where its text stands.
pub record PlacesRun (a new : Alone) (c : Copy) : Type 0 where
  pub apart : Ascending c.from (ranges (hole_gaps (own_text new) c.holes)) c.upto
  pub long : c.upto ≤ length a.texts
  pub front : List (List ℕ)
  pub back : List (List ℕ)
  pub place : (t : ℕ) → IsEdge c t → c.place t ≡ moved c.from (length front) (moved_by (hole_gaps (own_text new) c.holes) t)
  pub texts : new.texts ≡ front ++ (drop c.from (take (moved_by (hole_gaps (own_text new) c.holes) c.upto) (with_gaps (hole_gaps (own_text new) c.holes) a.texts)) ++ back)

-- So its tokens keep their order and their texts, and in the place of a hole stands the text of its parameter.
pub record RunPlaced (a new : Alone) (c : Copy) : Type 0 where
  pub rises : (x y : ℕ) → IsEdge c x → IsEdge c y → x < y → c.place x < c.place y
  pub edge : c.from < c.upto → IsEdge c c.from × IsEdge c c.upto
  pub next : (t : ℕ) → IsKept c t → c.place (suc t) ≡ suc (c.place t)
  pub holes : (h : Replaced) → Among h c.holes → (h.from < h.upto) × (h.from < c.upto) × IsEdge c h.from
  pub texts : (t : ℕ) → IsKept c t → own_text new (c.place t) ≡ own_text a t
  pub named : (h : Replaced) → Among h c.holes → own_text new (c.place h.from) ≡ own_text new h.parameter

-- ---- the new function

-- The function `new` begins with a copy of a run of a derived one, which splits that function: that its texts are those of the run, what the
-- new function tells in front of it and behind it, and what is asked of the choice.
pub record IsTaken (a : Alone) (outer : Outer) (c : Copy) (new : Alone) (s : SplitsAt a c) : Type 0 where
  pub around : c.around ≡ s.run_told.around
  pub end : c.end ≡ s.run_told.context.end
  pub pieces : List Piece
  pub told : told_before pieces ≡ s.run
  pub head : List Event
  pub tail : List Event
  pub new_told : function_events new ≡ head ++ (told_copied c pieces ++ tail)
  pub placed : PlacesRun a new c
  pub body : c.body < c.place c.from
  pub close : c.place c.upto ≤ c.close
  pub named : (h : Replaced) → Among h c.holes → Among h.parameter c.parameters
  pub fresh : (h : Replaced) → Among h c.holes → (d : Declaration) → Among (event.Declaration d) (told_before pieces) → own_text new h.parameter ≡ own_text a d.name → ⊥
  pub copied : AllCopied c c.holes pieces
  pub head_tells : EachEvent (HeadTells c) head
  pub tail_tells : EachEvent (TailTells c) tail
  pub signature : EachEvent (InSignature new outer c) head
  pub members_once : second_members_by (own_text new) [] head ≡ []
  pub returns : EachEvent (InReturn a new c (told_before pieces)) tail
  pub parameters : (u : ℕ) → Among u c.parameters → ParameterStands new head u
  pub distinct : (u w : ℕ) → Among u c.parameters → Among w c.parameters → own_text new u ≡ own_text new w → u ≡ w
  pub free : (f : Free) → Among f c.free → f.old < c.from
  pub once : (f g : Free) → Among f c.free → Among g c.free → f.old ≡ g.old → f ≡ g
  pub names : (t : ℕ) → IsKept c t → IsNamed t (told_before pieces) → NamesLocal a outer c t ⊎ (NamesFree a outer c new t ⊎ NamesOuter a outer c new t)
  pub apart : (d : Declaration) → Among (event.Declaration d) (function_events a) → IsIn c d.name → is_around c d.block ≡ true → is_new (own_names a) (found_as a d) ≡ true
      → (u : ℕ) → Among u c.parameters → own_text new u ≡ own_text a d.name → ⊥
  pub reuses : (d x : Declaration) → Among (event.Declaration d) (function_events a) → Among (event.Declaration x) s.before → IsIn c d.name → d.manner ≡ manner.Defined → is_blank (own_text a d.name) ≡ false
      → is_reused_of (found_as a d) (found_as a x) ≡ true
      → (is_around c d.block ≡ true) × (u : ℕ) × Among u c.parameters × (own_text new u ≡ own_text a d.name)
  pub used : (d : Declaration) → Among (event.Declaration d) (told_before pieces) → is_new (own_names a) (found_as a d) ≡ true → d.entity ≡ entity.Variable → UsedInCopy a outer c new (told_before pieces) tail d
