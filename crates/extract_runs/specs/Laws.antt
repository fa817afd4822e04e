-- What is asked of functions of which windows are taken out, and of windows that are copied. All premises but those on the numbering
-- speak of one typed tree.
use Rattle.std.specs.Prelude.{◌≡◌, ℕ, ◌≤◌, Bool, false, List, []}
use Rattle.go_types.specs.Trees.{TypeTree}
use Rattle.go_types.specs.Relations.{Rights}
use Rattle.go_types_relations.specs.Renaming.{AreRenamed}
use Rattle.go_typed.specs.declared.form.Referent.{Referent}
use Rattle.go_typed.specs.Trees.{Typed, Typeds}
use Rattle.go_meaning.specs.Meaning.{Program}
use Rattle.extract_trees.specs.Numberings.{Numbering}
use Rattle.extract_trees.specs.Copied.{window_copied}
use Rattle.extract_trees.specs.Filled.{Gap, filled}
use Rattle.extract_trees.specs.OneCopy.{AreOneCopy}
use Rattle.go_meaning_simulation.specs.Links.{nowhere}
use Rattle.go_meaning_simulation.specs.Kin.{Statement, Chain}
use Rattle.go_meaning_simulation.specs.Locals.{Linked, Inside, Hole, window_links}
use Rattle.go_meaning_numbers.specs.Laws.{Moves}
use Rattle.extract_call.specs.Extraction.{Extraction, IsWindow, function_links}
use Rattle.extract_runs.specs.Quiet.{AreQuiet}
use Rattle.extract_runs.specs.Sound.{SoundStatement, SoundChain}
use Rattle.extract_runs.specs.Renumbering.{referent_moved, Renumbers}
use Rattle.extract_runs.specs.Holes.{HaveHoles, no_hole, never}
use Rattle.extract_runs.specs.Gaps.{Gapped}
use Rattle.extract_runs.specs.Same.{AreSame}
use Rattle.extract_runs.specs.Lexical.{lexical_links, linked_locals, window_locals, own_of, known}

-- the body t, with so many windows, whose locals stand for those of the new one
pub record IsBodySound (s : ℕ → ℕ) (old new : Rights) (I : Linked) (windows : Typeds TypeTree → Typeds TypeTree → Type 0) (c : Numbering) (gs : List Gap) (n : ℕ) (t : Typed TypeTree) : Type 0 where
  pub renumbers : Renumbers c s old new
  -- whether the statement that begins at a token stands in a window
  pub gone : ℕ → Bool
  pub gapped : Gapped c gs no_hole windows gone n t
  -- the locals in scope before and behind the body
  pub before : List ℕ
  pub behind : List ℕ
  pub lexical : SoundStatement (lexical_links (linked_locals I c.local)) old c.local gone nowhere before behind t

-- the window ps, and the copy of a window that is the same
pub record IsWindowSound (s : ℕ → ℕ) (old new : Rights) (I : Inside) (c : Numbering) (free behind : List ℕ) (ps us : Typeds TypeTree) : Type 0 where
  pub renumbers : Renumbers c s old new
  pub quiet : AreQuiet false ps
  pub holes : HaveHoles c (Hole I) false ps
  pub same : AreSame new (window_copied c ps) us
  -- the window's own locals, and those in scope before and behind it
  pub own : ℕ → Bool
  pub here : List ℕ
  pub there : List ℕ
  pub none_here : own_of own here ≡ []
  pub is_behind : behind ≡ known own free there
  pub lexical : SoundChain (lexical_links (window_locals I c.local own free)) old c.local never nowhere here there ps

abbrev pub FilledFunctionsAreKin : Type 0
FilledFunctionsAreKin =
    (s : ℕ → ℕ) (k : ℕ) (P Q : Program) (x : Extraction (Moves s) P Q k) (g : ℕ) (c : Numbering) (gs : List Gap) (n : ℕ) (t : Typed TypeTree) → n ≤ k →
    IsBodySound s P.rights Q.rights (x.bodies g) (IsWindow (Moves s) P Q k x g) c gs n t → Statement (function_links (Moves s) P Q k x g) P.rights Q.rights nowhere tt tt n t (filled c gs t)

abbrev pub CopiedWindowsAreKin : Type 0
CopiedWindowsAreKin =
    (s : ℕ → ℕ) (old new : Rights) (I : Inside) (c : Numbering) (free behind : List ℕ) (ps us : Typeds TypeTree) → IsWindowSound s old new I c free behind ps us →
    Chain (window_links (Moves s) I) old new nowhere free behind 0 ps us

-- copies of windows that are the same
abbrev pub OneCopiesAreSame : Type 0
OneCopiesAreSame = (rights : Rights) (ps us : Typeds TypeTree) → AreOneCopy ps us → AreSame rights ps us

-- functions under other numbers, and declared types with their right sides
abbrev pub OtherTypesRenumber : Type 0
OtherTypesRenumber = (c : Numbering) (s : ℕ → ℕ) (old new : Rights) → ((r : Referent) → c.referent r ≡ referent_moved s r) → AreRenamed c.type old new → Renumbers c s old new
