-- Words of the laws on trees that are kin.
use Rattle.std.specs.Prelude.{◌≡◌, ℕ, List}
use Rattle.go_types.specs.Trees.{TypeTree}
use Rattle.go_typed.specs.Trees.{Typed}
use Rattle.go_meaning.specs.Values.{Value}
use Rattle.go_meaning.specs.Computations.{World}
use Rattle.go_meaning.specs.Meaning.{Program, bounded, run}
use Rattle.go_meaning.specs.Laws.{IsAlike}
use Rattle.go_meaning_simulation.specs.Links.{Ways, nowhere}
use Rattle.go_meaning_simulation.specs.Kin.{Statement}
use Rattle.go_meaning_simulation.specs.Locals.{Linked, Inside, none_here, window_links, body_links, Agree, Within}
use Rattle.go_meaning_simulation.specs.Mates.{AreMatched}

abbrev pub Equal : List Value → List Value → Type 0
Equal vs vs' = vs ≡ vs'

-- functions of equal numbers are mates
abbrev pub Matched : Program → Program → Type 0
Matched P Q = AreMatched Equal P Q (λ g g'. g ≡ g')

-- A statement in the body of a function, whatever it leaves to; no windows stand in it.
abbrev pub BodiesDoTheSame : Program → Program → Type 0
BodiesDoTheSame P Q =
    (I : Linked) (W : Ways (Unit {0})) (bound : ℕ) (t t' : Typed TypeTree) → Statement (body_links Equal I none_here 1 1) P.rights Q.rights W tt tt 0 t t' →
    (depth : ℕ) (f f' : List Value) (w : World) (turns : ℕ) → Agree Equal I f f' →
    IsAlike (Agree Equal I) (bounded P bound t depth f w turns) (bounded Q bound t' depth f' w turns)

-- A statement of a window that is entered with the frame f0. It leaves to nowhere; s and s' are the locals known before and behind.
abbrev pub WindowsDoTheSame : Program → Program → Type 0
WindowsDoTheSame P Q =
    (I : Inside) (f0 : List Value) (s s' : List ℕ) (bound : ℕ) (t t' : Typed TypeTree) → Statement (window_links Equal I) P.rights Q.rights nowhere s s' 0 t t' →
    (depth : ℕ) (f f' : List Value) (w : World) (turns : ℕ) → Within Equal I f0 s f f' →
    IsAlike (Within Equal I f0 s') (bounded P bound t depth f w turns) (bounded Q bound t' depth f' w turns)

abbrev pub HaveSameRuns : Program → Program → Type 0
HaveSameRuns P Q = (input : List ℕ) (turns depth : ℕ) → run Q input turns depth ≡ run P input turns depth
