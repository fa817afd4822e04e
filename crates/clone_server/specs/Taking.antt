-- What is taken of a script, a piece at a time.
use Rattle.std.specs.Prelude.{◌≡◌, ℕ, ◌+◌, ◌-◌, ◌≤◌, nat_lt, List, [], ◌++◌, length, take, Option, Some, None, Result, Ok, Err}
use Rattle.std.specs.declared.vec.Vec.{Vec}
use Rattle.std.specs.declared.alloc.Global.{Global}
use Rattle.port_io.specs.Faults.{Rose}
use Rattle.clone_script.specs.declared.command.Command.TheVariants as command
use Rattle.clone_script.specs.Grammar.{BeginsWith, IsBeginning, IsBad}
use Rattle.clone_script.specs.Script.{most_script, Outcome, done, bad_at, long, Ends, at_end}
use Rattle.clone_server.specs.declared.step.End.{End}
use Rattle.clone_server.specs.declared.step.End.TheVariants as ends
use Rattle.clone_server.specs.declared.step.Step.{Step}
use Rattle.clone_server.specs.declared.step.Step.TheVariants as steps
use Rattle.clone_server.specs.declared.step.IntakeError.{IntakeError}
use Rattle.clone_server.specs.declared.step.IntakeError.TheVariants as errors

-- how many bytes came, and those of them that are in no command that was taken
pub record Taken : Type 0 where
  pub pending : List ℕ
  pub count : ℕ

-- no more came than is taken at most
abbrev pub IsWithin : Taken → Type 0
IsWithin t = (length t.pending ≤ t.count) × (t.count ≤ most_script)

-- how many bytes of the script are in commands that were taken
abbrev pub consumed : Taken → ℕ
consumed t = t.count - length t.pending

-- the outcome that an end tells
abbrev pub outcome_of : End → Outcome
outcome_of ends.Done = done
outcome_of (ends.Bad offset) = bad_at offset
outcome_of ends.Long = long

-- Reads raised the count exactly where one of them failed.
abbrev pub CountsIntake : {X : Type 0} → Result X IntakeError → ℕ → ℕ → Type 0
CountsIntake (Ok x) old new = new ≡ old
CountsIntake (Err errors.Failed) old new = Rose old new
CountsIntake (Err errors.Memory) old new = new ≡ old

-- A piece was taken from the front of what was left, an empty one only where nothing was left. Where a read failed, all of it is left.
abbrev pub TakesPiece : List ℕ → Result (Vec ℕ Global) IntakeError → Option (List ℕ) → Type 0
TakesPiece left (Ok piece) after = (rest : List ℕ) × (after ≡ Some rest) × (left ≡ piece.items ++ rest) × (length piece.items ≡ 0 → rest ≡ [])
TakesPiece left (Err errors.Failed) after = after ≡ Some left
TakesPiece left (Err errors.Memory) after = Unit {0}

-- What is found in the pending bytes alone: a command, an end of the script, or nothing as long as no more bytes come.
abbrev pub Finds : Taken → Result (Option Step) IntakeError → Taken → Type 0
Finds old (Ok (Some (steps.Command c))) new = (c ≡ command.Quit → ⊥) × BeginsWith old.pending c new.pending × (new.count ≡ old.count)
Finds old (Ok (Some (steps.End ends.Done))) new = (others : List ℕ) × BeginsWith old.pending command.Quit others
Finds old (Ok (Some (steps.End (ends.Bad offset)))) new = IsBad old.pending × (offset ≡ old.count - length old.pending)
Finds old (Ok (Some (steps.End ends.Long))) new = ⊥
Finds old (Ok None) new = IsBeginning old.pending × (new ≡ old)
Finds old (Err errors.Failed) new = ⊥
Finds old (Err errors.Memory) new = Unit {0}

-- The end where as many bytes came as are taken at most, and this is left of the script.
abbrev pub EndsBehind : Taken → List ℕ → Result End IntakeError → Option (List ℕ) → Type 0
EndsBehind old left (Ok end) after = outcome_of end ≡ at_end (nat_lt 0 (length left)) old.count old.pending
EndsBehind old left (Err errors.Failed) after = after ≡ Some left
EndsBehind old left (Err errors.Memory) after = Unit {0}

-- a step that is a command
abbrev pub IsCommand : Step → Type 0
IsCommand (steps.Command c) = Unit {0}
IsCommand (steps.End end) = ⊥

-- What comes where more bytes are asked for: some of them, or the end of a script of whose first bytes no more are left.
abbrev pub Gets : Taken → List ℕ → Result (Option End) IntakeError → Taken → Option (List ℕ) → Type 0
Gets old left (Ok None) new after =
    (piece : List ℕ) × (rest : List ℕ) × (left ≡ piece ++ rest) × (after ≡ Some rest) × (new.pending ≡ old.pending ++ piece) × (new.count ≡ old.count + length piece)
Gets old left (Ok (Some end)) new after = (take (most_script - old.count) left ≡ []) × (outcome_of end ≡ at_end (nat_lt most_script (old.count + length left)) old.count old.pending)
Gets old left (Err errors.Failed) new after = (after ≡ Some left) × (new ≡ old)
Gets old left (Err errors.Memory) new after = Unit {0}

-- What comes next where this is left of the script: a command, whose last byte stands in the bytes that were taken for it,
-- or the end. Where a read failed, the beginning of a command was taken.
abbrev pub Comes : Taken → List ℕ → Result Step IntakeError → Taken → Option (List ℕ) → Type 0
Comes old left (Ok (steps.Command c)) new after =
    (c ≡ command.Quit → ⊥) × (more : List ℕ) × (rest : List ℕ) × (left ≡ more ++ rest) × (after ≡ Some rest) × BeginsWith (old.pending ++ more) c new.pending × (new.count ≡ old.count + length more)
Comes old left (Ok (steps.End end)) new after =
    let front = take (most_script - old.count) left in
    Ends (nat_lt most_script (old.count + length left)) (old.count + length front) (old.pending ++ front) (outcome_of end)
Comes old left (Err errors.Failed) new after =
    (more : List ℕ) × (rest : List ℕ) × (left ≡ more ++ rest) × (after ≡ Some rest) × IsBeginning (old.pending ++ more) × (new.count ≡ old.count + length more) × (new.pending ≡ old.pending ++ more)
Comes old left (Err errors.Memory) new after = Unit {0}
