-- Functions of which windows are taken out, and the copies of windows, are kin to the old ones.
use Rattle.std.proofs.Common.{ℕ, ◌+◌, ◌≤◌, refl, sym, subst, arith, List}
use Rattle.std.specs.Prelude.{false}
use Rattle.go_types.specs.Trees.{TypeTree}
use Rattle.go_types.specs.Relations.{Rights}
use Rattle.go_typed.specs.Trees.{Typed, Typeds}
use Rattle.go_meaning.specs.Values.{Value}
use Rattle.extract_trees.specs.Numberings.{Numbering}
use Rattle.extract_trees.specs.Copied.{window_copied}
use Rattle.extract_trees.specs.Filled.{Gap, filled}
use Rattle.go_meaning_simulation.specs.Links.{nowhere}
use Rattle.go_meaning_simulation.specs.Kin.{Statement, Chain}
use Rattle.go_meaning_simulation.specs.Locals.{Linked, Inside, Hole, window_links, body_links}
use Rattle.go_meaning_numbers.specs.Laws.{Moves}
use Rattle.extract_call.specs.Extraction.{IsWindow}
use Rattle.extract_runs.specs.Quiet.{AreQuiet}
use Rattle.extract_runs.specs.Images.{Listed}
use Rattle.extract_runs.specs.Sound.{SoundChain}
use Rattle.extract_runs.specs.Renumbering.{Renumbers}
use Rattle.extract_runs.specs.Holes.{renewal, copies, never, HaveHoles, no_hole}
use Rattle.extract_runs.specs.Same.{AreSame}
use Rattle.extract_runs.specs.Laws.{FilledFunctionsAreKin, IsBodySound, IsWindowSound}
use Rattle.extract_runs.proofs.Lexical.{bodies_are_sound, windows_are_sound}
use Rattle.extract_runs.proofs.Follows.{Agrees}
use Rattle.extract_runs.proofs.Kinship.{images_are_kin, lists_are_kin}
use Rattle.extract_runs.proofs.Copies.{windows_are_images}
use Rattle.extract_runs.proofs.Fillings.{fillings_are_images}
use Rattle.extract_runs.proofs.Same.{listed_same}

module _ (s : ℕ → ℕ) where
  abbrev V : List Value → List Value → Type 0
  V vs vs' = Moves s vs vs'

  module _ (old new : Rights) (I : Inside) (c : Numbering) where
    pub listed_kin : (ps ps' : Typeds TypeTree) (before behind : List ℕ) → Listed (copies c s old new (Hole I)) 0 0 ps ps' → SoundChain (window_links V I) old c.local never nowhere before behind ps → Chain (window_links V I) old new nowhere before behind 0 ps ps'
    listed_kin ps ps' before behind image sound = lists_are_kin (window_links V I) (copies c s old new (Hole I)) 0 agrees nowhere before behind (omega arith) image sound
      where
        agrees : Agrees (window_links V I) (copies c s old new (Hole I)) 0
        agrees = record { values = λ v. refl; holds = λ s v p h. h; windows = λ s s1 ws ws' w. w; cost = omega arith; few = omega arith }

    pub kin_copied : (ps : Typeds TypeTree) (before behind : List ℕ) → Renumbers c s old new → AreQuiet false ps → HaveHoles c (Hole I) false ps → SoundChain (window_links V I) old c.local never nowhere before behind ps → Chain (window_links V I) old new nowhere before behind 0 ps (window_copied c ps)
    kin_copied ps before behind renumbers quiet holes sound = listed_kin ps (window_copied c ps) before behind (windows_are_images c s old new renumbers (Hole I) ps quiet holes) sound

    -- against the copy of another window
    pub kin_of_copy : (ps us : Typeds TypeTree) (before behind : List ℕ) → Renumbers c s old new → AreQuiet false ps → HaveHoles c (Hole I) false ps → AreSame new (window_copied c ps) us → SoundChain (window_links V I) old c.local never nowhere before behind ps → Chain (window_links V I) old new nowhere before behind 0 ps us
    kin_of_copy ps us before behind renumbers quiet holes same sound = listed_kin ps us before behind (listed_same c s old new (Hole I) (windows_are_images c s old new renumbers (Hole I) ps quiet holes) same) sound

pub filled_kin : (s : ℕ → ℕ) (k : ℕ) (old new : Rights) (I : Linked) (windows : Typeds TypeTree → Typeds TypeTree → Type 0) (c : Numbering) (gs : List Gap) (n : ℕ) (t : Typed TypeTree) → n ≤ k →
    IsBodySound s old new I windows c gs n t → Statement (body_links (Moves s) I windows 1 (k + 1)) old new nowhere tt tt n t (filled c gs t)
filled_kin s k old new I windows c gs n t nk h =
    images_are_kin (body_links (Moves s) I windows 1 (k + 1)) (renewal c s old new no_hole windows h.gone) k agrees nowhere tt tt nk (fillings_are_images c s old new h.renumbers gs no_hole windows h.gone t h.gapped)
    (bodies_are_sound (Moves s) old c.local I windows 1 (k + 1) h.gone h.before h.behind t h.lexical)
  where
    agrees : Agrees (body_links (Moves s) I windows 1 (k + 1)) (renewal c s old new no_hole windows h.gone) k
    agrees = record { values = λ v. refl; holds = λ s v p h. h; windows = λ s s1 ws ws' w. w; cost = omega arith; few = omega arith }

pub filled_functions : FilledFunctionsAreKin
filled_functions s k P Q x g c gs n t nk h = filled_kin s k P.rights Q.rights (x.bodies g) (IsWindow (Moves s) P Q k x g) c gs n t nk h

pub copied_kin : (s : ℕ → ℕ) (old new : Rights) (I : Inside) (c : Numbering) (free behind : List ℕ) (ps us : Typeds TypeTree) → IsWindowSound s old new I c free behind ps us → Chain (window_links (Moves s) I) old new nowhere free behind 0 ps us
copied_kin s old new I c free behind ps us h =
    kin_of_copy s old new I c ps us free behind h.renumbers h.quiet h.holes h.same (subst (λ b. SoundChain (window_links (Moves s) I) old c.local never nowhere free b ps) (sym h.is_behind) (windows_are_sound (Moves s) old c.local I h.own free h.here h.there ps h.none_here h.lexical))
