-- A printed function that begins with a copy of a run: what is left to ask of the choice.
use Rattle.std.specs.Prelude.{◌≡◌, ℕ, ◌<◌, ◌≤◌, ◌⊎◌, true, false, List}
use Rattle.go_rewriting.specs.Places.{become_all}
use Rattle.go_tree.specs.declared.context.Entity.TheVariants as entity
use Rattle.go_tree.specs.declared.context.Manner.TheVariants as manner
use Rattle.go_tree.specs.declared.event.Declaration.{Declaration}
use Rattle.go_tree.specs.declared.event.Event.{Event}
use Rattle.go_tree.specs.declared.event.Event.TheVariants as event
use Rattle.go_tree.specs.Declarations.{is_reused_of, is_new}
use Rattle.go_tree.specs.Units.{is_blank}
use Rattle.go_heads.specs.Bodies.{function_events}
use Rattle.go_heads.specs.Functions.{Alone}
use Rattle.go_heads.specs.Names.{own_text, own_names}
use Rattle.go_print_laws.specs.Headers.{Header}
use Rattle.go_scopes_bodies.specs.Listed.{told_list}
use Rattle.go_scopes_bodies.specs.Meant.{Outer}
use Rattle.extract_names.specs.Copies.{Replaced, Free, Copy, IsIn, IsKept, UsedInCopy, NamesLocal, NamesFree, NamesOuter, is_around}
use Rattle.extract_names.specs.Gaps.{Among}
use Rattle.extract_names.specs.Pieces.{told_before}
use Rattle.extract_names.specs.Sites.{found_as, IsNamed}
use Rattle.extract_names_derived.specs.Apart.{AreHoles, HolesLook}
use Rattle.extract_names_derived.specs.Copied.{CopyStands, copy_pieces}
use Rattle.extract_names_derived.specs.Copies.{SplitsAt, PlacesRun}
use Rattle.extract_names_derived.specs.Fields.{SignatureOnce}
use Rattle.extract_names_derived.specs.Signatures.{parameter_tokens, SignatureStands, ReturnStands}

-- what the copied run tells of the old function
abbrev pub copied_run : (a new : Alone) (c : Copy) (s : SplitsAt a c) → CopyStands a new c s → List Event
copied_run a new c s x = told_before (copy_pieces a new c s x)

-- The new function has the printed signature and return around the copied run. Its texts are those of the run, but for the holes; and this
-- is asked of the choice: holes declare no names and have no token that tells where names are declared, parameters and holes have names of
-- their own, each name of the run means what it has to, and its variables are used.
pub record IsPrintedCopy (a : Alone) (outer : Outer) (c : Copy) (new : Alone) (s : SplitsAt a c) (x : CopyStands a new c s) : Type 0 where
  pub header : Header
  pub first : ℕ
  pub returned : List (List ℕ)
  pub signature : SignatureStands new outer c c.close (become_all c.place s.run_told.statements x.holes) x.others x.split header
  pub returns : ReturnStands a new c (copied_run a new c s x) c.close (become_all c.place s.run_told.statements x.holes) x.others x.split first returned
  pub end : c.end ≡ s.run_told.context.end
  pub placed : PlacesRun a new c
  pub close : c.place c.upto ≤ c.close
  pub holes : AreHoles c s.run_told.statements x.holes
  pub look : HolesLook (copy_pieces a new c s x)
  pub members : SignatureOnce (own_text new) 2 header
  pub named : (h : Replaced) → Among h c.holes → Among h.parameter c.parameters
  pub fresh : (h : Replaced) → Among h c.holes → (d : Declaration) → Among (event.Declaration d) (copied_run a new c s x) → own_text new h.parameter ≡ own_text a d.name → ⊥
  -- Its parameters are those of the signature, and none is blank.
  pub listed : (u : ℕ) → Among u c.parameters → Among u (parameter_tokens 3 header.parameters header.types)
  pub some : (u : ℕ) → Among u c.parameters → is_blank (own_text new u) ≡ false
  pub distinct : (u w : ℕ) → Among u c.parameters → Among w c.parameters → own_text new u ≡ own_text new w → u ≡ w
  pub free : (f : Free) → Among f c.free → f.old < c.from
  pub once : (f g : Free) → Among f c.free → Among g c.free → f.old ≡ g.old → f ≡ g
  pub names : (t : ℕ) → IsKept c t → IsNamed t (copied_run a new c s x) → NamesLocal a outer c t ⊎ (NamesFree a outer c new t ⊎ NamesOuter a outer c new t)
  pub apart : (d : Declaration) → Among (event.Declaration d) (function_events a) → IsIn c d.name → is_around c d.block ≡ true → is_new (own_names a) (found_as a d) ≡ true
      → (u : ℕ) → Among u c.parameters → own_text new u ≡ own_text a d.name → ⊥
  pub reuses : (d y : Declaration) → Among (event.Declaration d) (function_events a) → Among (event.Declaration y) s.before → IsIn c d.name → d.manner ≡ manner.Defined → is_blank (own_text a d.name) ≡ false
      → is_reused_of (found_as a d) (found_as a y) ≡ true
      → (is_around c d.block ≡ true) × (u : ℕ) × Among u c.parameters × (own_text new u ≡ own_text a d.name)
  pub used : (d : Declaration) → Among (event.Declaration d) (copied_run a new c s x) → is_new (own_names a) (found_as a d) ≡ true → d.entity ≡ entity.Variable
      → UsedInCopy a outer c new (copied_run a new c s x) (told_list x.split.context false x.others) d
