-- Rooms: the frames in which links hold.
use Rattle.std.proofs.Common.{ℕ, List, [], ◌∷◌, Option, Some, None}
use Rattle.std.specs.Prelude.{slice_set}
use Rattle.go_meaning.specs.Values.{Value, nth}
use Rattle.go_meaning_simulation.specs.Likeness.{Likeness}
use Rattle.go_meaning_simulation.specs.Links.{Links, Ways}
use Rattle.go_meaning_simulation.proofs.Following.{Frames, Exits}

pub record Room (L : Likeness) (l : Links) : Type 1 where
  -- the frames in a scope, and behind a return
  pub frames : l.Scope → Frames
  pub back : Frames
  pub toll : ℕ
  pub valuing : (v v' : Value) → l.values (v ∷ []) (v' ∷ []) → L.values (v ∷ []) (v' ∷ [])
  pub reading : (s : l.Scope) (i j : ℕ) → l.reads s i j → (f f' : List Value) → frames s f f' → L.values (nth f i ∷ []) (nth f' j ∷ [])
  pub writing : (s : l.Scope) (i j : ℕ) → l.writes s i j → (v v' : Value) → L.values (v ∷ []) (v' ∷ []) → (f f' : List Value) → frames s f f' → frames s (slice_set f i v) (slice_set f' j v')
  pub declaring : (s s1 : l.Scope) (i j : ℕ) → l.declares s i j s1 → (v v' : Value) → L.values (v ∷ []) (v' ∷ []) → (f f' : List Value) → frames s f f' → frames s1 (slice_set f i v) (slice_set f' j v')
  pub forgetting : (s s1 : l.Scope) → l.forgets s s1 → (f f' : List Value) → frames s f f' → frames s1 f f'
  pub holding : (s : l.Scope) (v : Value) (n : ℕ) → l.holds s v n → (f f' : List Value) → frames s f f' → L.values (v ∷ []) (nth f' n ∷ [])
  pub held : (s : l.Scope) (n : ℕ) (v : Value) → l.held s n v → (f f' : List Value) → frames s f f' → L.values (nth f n ∷ []) (v ∷ [])
  pub returning : (s : l.Scope) → l.returns → (f f' : List Value) → frames s f f' → back f f'

abbrev pub no_frames : Frames
no_frames f f' = ⊥

module _ (L : Likeness) (l : Links) (room : Room L l) where
  abbrev pub way : Option l.Scope → Frames
  way None = no_frames
  way (Some s) = room.frames s

  abbrev pub exits : Ways l.Scope → Exits
  exits W = record { back = room.back; breaks = way W.breaks; continues = way W.continues; falls = way W.falls; toll = room.toll }
