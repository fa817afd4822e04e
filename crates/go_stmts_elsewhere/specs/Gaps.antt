-- Statement lists in which other statements take the place of some.
use Rattle.std.specs.Prelude.{◌≡◌, [], ◌++◌}
use Rattle.go_grammar.specs.declared.kind.Kind.{Kind}
use Rattle.go_grammar.specs.declared.kind.Kind.TheVariants as kind
use Rattle.go_grammar.specs.Trees.{Trees, none, onto}
use Rattle.go_rewriting.specs.Places.{carries}
use Rattle.go_exprs_rules.specs.Scopes.{Hint, value}
use Rattle.go_exprs_rules.specs.Tables.{Parts}
use Rattle.go_stmts_defs.specs.Frames.{Frame}
use Rattle.go_stmts_defs.specs.Reading.{Found, Readings, all_read, readings}
use Rattle.go_exprs_elsewhere.specs.Elsewhere.{Moves}
use Rattle.go_stmts_elsewhere.specs.Frames.{parts_placed, faults_placed}

-- a kind of nodes that have a list of statements, a clause behind its values
abbrev pub IsList : Kind → Type 0
IsList kind.Block = Unit {0}
IsList kind.Case = Unit {0}
IsList kind.Default = Unit {0}
IsList k = ⊥

-- statements of a block, read by themselves
abbrev pub run : Frame → Trees → Readings
run s ts = readings s kind.Block value none [] [] ts

abbrev pub parts_in : Readings → Parts
parts_in (all_read xs fs s) = xs

abbrev pub found_in : Readings → Found
found_in (all_read xs fs s) = fs

abbrev pub frame_in : Readings → Frame
frame_in (all_read xs fs s) = s

-- with these parts, and the rules that fail in them, in front
abbrev pub fronted : Parts → Found → Readings → Readings
fronted xs fs (all_read ys gs s) = all_read (xs ++ ys) (fs ++ gs) s

-- The statements of such a node are read by themselves, whatever stands in front of them and whatever node it is.
abbrev pub ListsAreReadAlone : Type 0
ListsAreReadAlone = (k : Kind) → IsList k → (s : Frame) (h : Hint) (all : Trees) (xs : Parts) (fs : Found) (ts : Trees) → readings s k h all xs fs ts ≡ fronted xs fs (run s ts)

-- what is known behind statements
abbrev pub behind : Frame → Trees → Frame
behind s ts = frame_in (run s ts)

-- The same statements are read at their new places, the same rules fail there, and R relates what is known behind them.
pub record RunAlong (m : Moves) (R : Frame → Frame → Type 0) (f g : Frame) (ts : Trees) : Type 0 where
  pub read : parts_in (run g (carries m.token ts)) ≡ parts_placed m (parts_in (run f ts))
  pub found : found_in (run g (carries m.token ts)) ≡ faults_placed m (found_in (run f ts))
  pub frames : R (behind f ts) (behind g (carries m.token ts))

-- The list whose statements `old` stand between others, and the one with `new` in their place: what is in front and behind is read
-- at its new place, those in between by themselves, and R relates what is known at the end.
pub record GapRead (m : Moves) (R : Frame → Frame → Type 0) (f g : Frame) (front old new rest : Trees) : Type 0 where
  pub before : parts_in (run f (onto front (onto old rest)))
      ≡ parts_in (run f front) ++ (parts_in (run (behind f front) old) ++ parts_in (run (behind (behind f front) old) rest))
  pub read : parts_in (run g (onto (carries m.token front) (onto new (carries m.token rest))))
      ≡ parts_placed m (parts_in (run f front)) ++ (parts_in (run (behind g (carries m.token front)) new) ++ parts_placed m (parts_in (run (behind (behind f front) old) rest)))
  pub found : found_in (run g (onto (carries m.token front) (onto new (carries m.token rest))))
      ≡ faults_placed m (found_in (run f front)) ++ (found_in (run (behind g (carries m.token front)) new) ++ faults_placed m (found_in (run (behind (behind f front) old) rest)))
  pub frames : R (behind f (onto front (onto old rest))) (behind g (onto (carries m.token front) (onto new (carries m.token rest))))
